mod LineLemmas
mod FollowLemmas
mod EndLemmas
mod HeadLemmas
mod TakeLemmas
mod RowsLemmas
mod ListLemmas
mod TextLemmas
mod DueLemmas
pub mod SplitLemmas
pub mod SpecialLemmas
mod KeptLemmas
pub mod LawLemmas
mod PartLemmas
mod OneLemmas
