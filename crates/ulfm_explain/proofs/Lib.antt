pub mod FirstLines
pub mod Telling
