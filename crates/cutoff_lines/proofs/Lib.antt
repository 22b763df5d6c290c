mod Building
mod Finding
mod Needing
mod Places
mod Reading
mod Single
