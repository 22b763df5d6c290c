pub mod FirstFaultLemmas
pub mod LinesLemmas
pub mod NamesLemmas
pub mod NumberLemmas
pub mod TraitsLemmas
