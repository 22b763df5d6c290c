pub mod Laws
pub mod State
pub mod StepLaws
pub mod Stepwise
pub mod Tried
