pub mod Round
pub mod Rule
