pub mod Digits
pub mod TurnLemmas
