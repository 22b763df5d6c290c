pub mod DrawLemmas
pub mod PlaceLemmas
pub mod RowLemmas
pub mod SpellingLemmas
mod Chosen
mod Cut
mod Lengths
mod Numbers
mod ListedPlaces
mod Plain
mod Ranges
mod Registered
mod Requested
mod Seated
mod Whole
