pub mod RunEnds
pub mod Written
mod ResumeEnds
pub mod Keep
pub mod Replayed
pub mod Resumed
pub mod UnitEnds
mod SpecialEnds
mod SpecialRounds
mod Answered
mod BareStates
mod Calls
mod Dossiers
mod DuePapers
mod AuditEnds
mod Joined
mod OwnAudit
mod OwnDossier
mod OwnPapers
mod OwnRounds
mod SameRounds
mod SeasonDossiers
mod ShownLists
mod Stops
mod ToldRows
