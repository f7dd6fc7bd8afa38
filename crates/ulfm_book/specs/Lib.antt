pub mod Layout
pub mod Logs
pub mod Rules
