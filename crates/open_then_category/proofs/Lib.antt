mod Assemble
mod Axioms
mod Counting
mod Decide
mod Fewer
mod Filling
mod Grows
pub mod Handed
mod Keeping
mod Last
mod Leaving
mod Members
mod Offering
pub mod Once
mod Passing
mod RankedWords
pub mod Rows
mod SetLaws
pub mod Lists
pub mod ProgrammeLaws
