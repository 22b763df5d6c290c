pub mod BundleLines
mod HeadLemmas
mod KeptLemmas
pub mod LawsLemmas
mod ReplaceLemmas
mod SeasonLemmas
mod SplitLemmas
mod TitleLemmas
