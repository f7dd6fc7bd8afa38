pub mod Beginnings
pub mod Bits
pub mod Members
pub mod Several
