mod Answered
mod ByWindow
mod Certificates
mod Exchanged
mod Finished
mod Looks
mod NextRounds
mod OneText
mod Otherwise
mod ReadAlone
mod ReadBack
mod Reasons
mod Shown
mod Stays
mod InWindows
mod Replayed
pub mod TextsStay
mod ToTheEnd
