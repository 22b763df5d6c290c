pub mod Audit
pub mod Best
pub mod Texts
