pub mod Laws
pub mod Pieces
pub mod Reader
pub mod Rows
