mod Putting
mod Waiting
