mod Codes
mod LawsLemmas
mod Numbers
pub mod SeatsLemmas
pub mod Unprotected
