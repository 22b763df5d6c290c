mod Counted
mod GeneratedEnds
mod OneRun
mod OneTally
mod RunLemmas
pub mod Running
mod Tallying
pub mod CheckFaults
mod OfficeEnds
mod OneAnswer
pub mod RunEnds
pub mod Still
