pub mod FirstFault
pub mod Lines
pub mod Names
pub mod Number
pub mod Traits
