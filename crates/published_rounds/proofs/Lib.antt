mod OneMore
mod Simple
mod Judgments
pub mod ListFronts
mod Compared
mod Fronts
pub mod Places
mod WholeListLaws
pub mod Within
mod LaterCutoffs
mod RaisedCutoffs
mod OutsideCutoffs
mod FirstWithin
pub mod Market
pub mod NewHolders
pub mod NewlySeated
pub mod People
pub mod MoreSeats
pub mod FairThen
pub mod Vacancies
pub mod Counted
pub mod OwnSteps
pub mod GroupRounds
pub mod RuleRounds
pub mod Safe
pub mod Together
pub mod Versions
pub mod Choices
mod Improved
pub mod MovingUp
pub mod Numbered
pub mod Numbers
mod Paired
pub mod Reach
pub mod RegisterRounds
pub mod SameOrder
mod Narrows
pub mod Papers
pub mod Special
mod PaperVacancies
mod ReplyLaws
mod Newcomers
mod Guaranteed
