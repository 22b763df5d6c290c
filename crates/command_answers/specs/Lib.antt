pub mod Answers
pub mod Ends
pub mod Status
pub mod Writes
