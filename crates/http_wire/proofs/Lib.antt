pub mod FieldsLemmas
pub mod HeadEndsLemmas
pub mod LawsLemmas
pub mod MessagesLemmas
mod Phrases
