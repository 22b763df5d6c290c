pub mod Chosen
pub mod Listing
pub mod Programme
