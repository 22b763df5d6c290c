mod BuilderLemmas
pub mod ChoicesLemmas
mod FlatLemmas
pub mod FoundLemmas
mod LawsLemmas
