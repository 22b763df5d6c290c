pub mod Laws
pub mod Remaining
pub mod Rows
pub mod Season
pub mod Set
pub mod Special
