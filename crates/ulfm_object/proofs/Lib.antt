pub mod Added
pub mod Answering
pub mod Bounds
pub mod Groups
pub mod Holding
pub mod ObjectSteps
