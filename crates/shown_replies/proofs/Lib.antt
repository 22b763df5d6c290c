mod Seats
mod Shown
