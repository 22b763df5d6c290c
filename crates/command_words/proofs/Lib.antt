mod Divided
mod Lines
mod Spelling
