mod Numbers
mod Kept
mod Settling
mod Turns
mod Handing
mod Sending
