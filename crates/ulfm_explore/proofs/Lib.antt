pub mod Confirmed
pub mod Outcomes
pub mod Same
pub mod Steps
pub mod Walks
