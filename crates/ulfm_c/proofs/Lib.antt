pub mod Counts
pub mod Handles
pub mod Values
