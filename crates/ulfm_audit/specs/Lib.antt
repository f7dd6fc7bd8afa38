pub mod Audits
pub mod Digests
pub mod Logs
pub mod Texts
