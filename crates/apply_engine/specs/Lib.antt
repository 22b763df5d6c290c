pub mod Applications
pub mod Engine
pub mod Made
