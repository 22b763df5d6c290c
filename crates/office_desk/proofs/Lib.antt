pub mod TotalsLemmas
pub mod TicketLemmas
pub mod EntryLemmas
pub mod Calm
pub mod Drawing
pub mod Looking
pub mod Advancing
pub mod Parting
pub mod Joining
pub mod Ending
mod Closing
mod Slots
