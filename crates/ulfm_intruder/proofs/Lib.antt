pub mod Halves
pub mod Welcome
pub mod Spawning
pub mod Noted
pub mod Passing
