pub mod Compared
pub mod Course
pub mod Fair
pub mod Market
pub mod Rule
