-- What is visible of the streams of a program.
pub mod Streams
