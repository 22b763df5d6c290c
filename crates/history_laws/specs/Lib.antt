pub mod Course
pub mod Laws
pub mod Orderly
