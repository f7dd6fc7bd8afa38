pub mod CallsAt
pub mod Kept
pub mod ReplyTests
pub mod Standing
pub mod Telling
pub mod Tests
