pub mod Bundle
pub mod Head
pub mod Kept
pub mod Laws
pub mod Replaced
pub mod Script
pub mod Season
pub mod Titles
