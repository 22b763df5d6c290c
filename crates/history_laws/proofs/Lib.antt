pub mod Accepted
mod Acts
mod Alone
mod Answered
pub mod Changes
mod Coursed
pub mod Entering
pub mod Falls
pub mod Fits
mod InOrder
mod Listed
mod Made
pub mod Raises
pub mod Rows
mod Stays
pub mod Turns
mod Windows
mod Word
