pub mod Explained
pub mod Sheets
