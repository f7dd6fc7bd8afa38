pub mod Explains
pub mod LogTexts
pub mod Stages
pub mod Walked
pub mod Refuted
pub mod Tells
