pub mod Builder
pub mod Fields
pub mod Kinds
pub mod Laws
pub mod Register
