pub mod Just
pub mod Reason
