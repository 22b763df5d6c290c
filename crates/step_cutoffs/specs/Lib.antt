pub mod Cutoff
pub mod Laws
pub mod StepLaws
