mod Keyed
mod Sums
