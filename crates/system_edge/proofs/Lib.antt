mod Known
mod Opened
mod Found
pub mod HiddenLemmas
