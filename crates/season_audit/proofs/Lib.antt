mod Reading
mod Requests
mod Scripts
mod Taking
