pub mod Builder
pub mod Choices
pub mod Flat
pub mod Kinds
pub mod Laws
pub mod OneProof
