pub mod Readings
pub mod Intrusions
