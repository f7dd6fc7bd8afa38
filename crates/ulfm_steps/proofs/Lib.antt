mod Turning
mod Going
pub mod Looking
pub mod Settling
pub mod Groups
pub mod Reading
pub mod OneMore
pub mod InBlocks
pub mod KnownBlocks
pub mod Arriving
pub mod ReadingOn
pub mod Marking
pub mod Appending
pub mod Coming
pub mod Spawning
pub mod Passing
mod Peeking
