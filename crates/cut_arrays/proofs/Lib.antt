pub mod PlaceLemmas
pub mod LeaveLemmas
pub mod RowLemmas
pub mod OfficeLinks
