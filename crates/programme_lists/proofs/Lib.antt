pub mod Categories
pub mod Parts
pub mod Seats
pub mod Table
pub mod Taken
pub mod Walk
