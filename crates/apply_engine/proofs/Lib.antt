pub mod Answered
pub mod Applying
pub mod Counting
pub mod Ending
pub mod Finishing
pub mod Keeping
pub mod MadeLemmas
pub mod Making
mod Nobody
pub mod Offers
pub mod Pushing
pub mod SeatLemmas
pub mod Setting
pub mod Tallies
mod Whole
