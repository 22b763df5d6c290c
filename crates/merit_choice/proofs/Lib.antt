pub mod ByHand
mod Exchanged
mod Filled
mod Filling
mod Halves
pub mod InMerit
mod Joining
pub mod Marking
mod Marks
pub mod Members
pub mod Needed
mod Offering
mod PassedOver
pub mod OneByOne
mod Places
mod Raises
mod Replacing
mod Sorting
pub mod StepLaws
