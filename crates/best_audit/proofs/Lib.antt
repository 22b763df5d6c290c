mod Gaining
mod OneBest
mod Replaying
mod Seeking
