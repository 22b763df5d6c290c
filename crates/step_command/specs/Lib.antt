pub mod Output
pub mod Reading
pub mod Sheet
pub mod Step
