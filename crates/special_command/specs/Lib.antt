pub mod Texts
pub mod Special
