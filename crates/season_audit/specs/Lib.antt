pub mod Audit
pub mod Deeds
