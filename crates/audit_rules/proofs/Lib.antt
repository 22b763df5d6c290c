pub mod Agreeing
pub mod FairCuts
mod FairSeasons
mod OneVerdict
pub mod Ordering
mod Taken
pub mod RegisterLists
mod Ending
mod Grouping
pub mod TakenRaises
mod Listing
mod Missing
pub mod NotedAnswers
mod Seeking
pub mod NextStandings
pub mod SeatsOfRows
