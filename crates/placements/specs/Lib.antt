pub mod Demand
pub mod Greatest
pub mod Ranks
pub mod Slots
