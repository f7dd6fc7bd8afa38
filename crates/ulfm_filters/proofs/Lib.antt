pub mod Ends
pub mod RaceLines
pub mod Echoing
pub mod Taken
pub mod Acknowledging
pub mod Migrating
pub mod Reading
mod Counts
mod Following
mod Lasting
mod Short
mod Sizes
mod Tellable
mod Whole
