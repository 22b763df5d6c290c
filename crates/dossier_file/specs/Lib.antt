pub mod Split
pub mod Special
pub mod Dossier
pub mod Due
pub mod Kept
pub mod Laws
pub mod Papers
pub mod Texts
