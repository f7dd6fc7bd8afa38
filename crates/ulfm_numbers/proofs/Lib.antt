pub mod Counting
pub mod Deciding
pub mod Failing
pub mod Lasting
pub mod Placing
pub mod Seeing
pub mod Tabling
