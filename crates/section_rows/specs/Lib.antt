pub mod FirstFault
pub mod Reading
pub mod Rows
pub mod Steps
pub mod Table
