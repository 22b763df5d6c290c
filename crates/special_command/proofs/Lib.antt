mod Shown
mod OneSpecial
mod SpecialEnds
mod Listed
