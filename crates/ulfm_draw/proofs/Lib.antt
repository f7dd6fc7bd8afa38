pub mod Appending
pub mod Filled
pub mod Judged
pub mod Rows
pub mod Reading
