pub mod Bodies
pub mod Built
pub mod Plain
pub mod Status
