mod Requests
pub mod ResumeEnds
pub mod Unresumed
