pub mod Coming
pub mod Counts
pub mod Failing
pub mod Tables
pub mod Heads
pub mod Held
pub mod Hidden
pub mod Stores
