pub mod Draws
pub mod Bundle
pub mod Summary
pub mod Laws
