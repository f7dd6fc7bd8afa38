pub mod Searches
pub mod Programs
pub mod Words
