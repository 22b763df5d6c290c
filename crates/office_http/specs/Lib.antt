pub mod Keeping
pub mod Asking
pub mod Bodies
pub mod Statuses
pub mod Knowing
pub mod DeskStatuses
pub mod Hands
pub mod Serving
