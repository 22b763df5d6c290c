pub mod Cutoffs
pub mod Laws
