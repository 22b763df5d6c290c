pub mod Augmented
pub mod Full
pub mod Kept
pub mod Laws
pub mod Members
pub mod Replaceable
