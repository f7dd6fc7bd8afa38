pub mod Beginnings
pub mod Checking
pub mod TextLines
pub mod Verdicts
