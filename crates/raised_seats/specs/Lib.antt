pub mod Keys
pub mod Raised
