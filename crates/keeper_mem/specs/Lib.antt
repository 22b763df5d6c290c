pub mod Batch
pub mod Keeper
pub mod Memory
