pub mod Readings
pub mod Shows
pub mod Tellings
pub mod Views
