mod FirstRow
pub mod RecordLemmas
mod RowsLemmas
pub mod StageLemmas
pub mod StepsLemmas
pub mod TableLemmas
