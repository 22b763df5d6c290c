mod Deciding
mod Last
mod Reading
mod Standing
mod Widening
