mod CandidateLemmas
mod LineLemmas
mod RowLemmas
mod SheetLemmas
mod SoundLemmas
mod OneAnswer
mod StepFaults
