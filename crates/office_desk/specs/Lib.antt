pub mod Own
pub mod Told
pub mod Totals
pub mod Turning
pub mod Joined
pub mod Turned
pub mod Words
