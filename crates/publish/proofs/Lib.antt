pub mod HeadLemmas
pub mod HeadPieces
pub mod RoundTrips
pub mod RowLemmas
pub mod RowsLemmas
pub mod StageLemmas
pub mod TailLemmas
pub mod WholeLemmas
