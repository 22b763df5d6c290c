pub mod Cutoffs
pub mod Laws
pub mod Reading
