pub mod Named
pub mod Running
