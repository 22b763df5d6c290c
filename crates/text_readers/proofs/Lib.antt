pub mod KnownLemmas
pub mod LineLemmas
pub mod NumberLemmas
pub mod PartsLemmas
pub mod PieceLemmas
pub mod ReadLemmas
