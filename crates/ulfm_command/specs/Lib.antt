pub mod CommandLines
pub mod Verbs
