pub mod Kept
pub mod Proceeding
pub mod Changes
pub mod Told
pub mod LastRound
