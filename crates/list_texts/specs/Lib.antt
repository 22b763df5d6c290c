pub mod Laws
pub mod ListLines
pub mod ListPieces
pub mod ListReader
pub mod Listing
