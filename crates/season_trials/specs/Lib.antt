pub mod Causes
pub mod FiveCandidates
pub mod Run
