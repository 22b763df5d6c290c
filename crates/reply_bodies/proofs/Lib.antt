mod Ascii
mod Floats
mod Pieces
