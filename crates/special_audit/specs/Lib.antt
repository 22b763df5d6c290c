pub mod Special
pub mod Found
pub mod Laws
