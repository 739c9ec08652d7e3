pub mod Pieces
pub mod Members
