pub mod Bounds
pub mod First
pub mod Laws
pub mod Search
