pub mod Clauses
pub mod Laws
pub mod Names
pub mod Outside
pub mod Reckoning
pub mod Stand
pub mod Steps
