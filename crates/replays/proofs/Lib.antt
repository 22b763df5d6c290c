pub mod Cuts
pub mod Follows
pub mod Least
pub mod Numbers
pub mod OneEnd
pub mod Passed
mod Resumed
pub mod RowLemmas
pub mod Seats
pub mod Tables
pub mod Windows
