pub mod Beginnings
pub mod Rounding
pub mod Stories
