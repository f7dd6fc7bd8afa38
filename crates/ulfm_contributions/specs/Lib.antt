pub mod Greatests
pub mod Leasts
pub mod Ors
