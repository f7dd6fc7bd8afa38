pub mod Calls
pub mod Codes
pub mod Lends
pub mod Opens
pub mod Owned
pub mod Reads
pub mod Replicas
pub mod Written
