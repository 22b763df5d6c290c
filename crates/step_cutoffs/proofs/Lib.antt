mod Alike
mod Deciding
mod Easing
mod Existing
mod Newcomers
mod Spread
