pub mod Entries
pub mod Pieces
pub mod Naming
pub mod Rows
