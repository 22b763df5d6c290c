pub mod Bodies
pub mod Laws
pub mod Pages
pub mod Roads
pub mod Router
pub mod Told
pub mod Verdicts
