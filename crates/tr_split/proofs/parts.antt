pub mod Sentences
pub mod Gained
pub mod Tasks
pub mod Pieces
pub mod Glued
