mod Bits
pub mod Counting
mod Later
pub mod Linked
pub mod Rows
