mod Choosing
pub mod Everybody
mod InTurn
pub mod OneRound
pub mod Told
pub mod People
pub mod Season
