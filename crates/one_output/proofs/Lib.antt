mod Outputs
mod Seasons
mod Verdicts
