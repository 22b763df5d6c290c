pub mod Doors
pub mod Exchange
pub mod Held
pub mod Limits
pub mod Replies
pub mod Sessions
pub mod Steps
