pub mod WindowEnd
pub mod NextSeeks
pub mod Rows
pub mod StateLists
