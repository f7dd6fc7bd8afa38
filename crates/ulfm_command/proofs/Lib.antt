pub mod Asking
pub mod Entered
pub mod Flags
pub mod Numbers
pub mod Tasks
