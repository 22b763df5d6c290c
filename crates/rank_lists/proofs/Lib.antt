mod BuilderLemmas
mod EntriesLemmas
pub mod Known
mod LawsLemmas
pub mod MadeLemmas
