pub mod Resume
pub mod Stray
