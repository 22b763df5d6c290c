pub mod Chains
pub mod Cuts
pub mod Decisions
pub mod Found
pub mod Grows
pub mod Narrows
pub mod OneState
mod OwnView
pub mod Repeats
pub mod Rising
pub mod Sums
