mod Remaining
mod Over
mod Reading
pub mod OneFinding
