pub mod Columns
pub mod Drawings
pub mod Forms
pub mod Words
pub mod Leaves
pub mod Markup
pub mod Places
