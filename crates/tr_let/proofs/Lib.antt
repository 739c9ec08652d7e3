pub mod Nodes
pub mod LetPlaces
pub mod Rows
