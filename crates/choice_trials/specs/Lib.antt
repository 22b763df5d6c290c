pub mod First
pub mod ListOf
pub mod StepChoice
pub mod Sublists
pub mod Candidates
