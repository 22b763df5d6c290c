pub mod Best
pub mod Compared
pub mod Laws
