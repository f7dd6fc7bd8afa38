pub mod Replicas
pub mod Replays
pub mod Wire
