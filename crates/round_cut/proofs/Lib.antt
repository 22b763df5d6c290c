pub mod Blaming
mod Asked
mod Counts
mod Publishing
pub mod Standing
