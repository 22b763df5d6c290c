pub mod Held
pub mod InMerit
pub mod Laws
pub mod Marks
pub mod Needed
pub mod Order
pub mod State
pub mod Within
