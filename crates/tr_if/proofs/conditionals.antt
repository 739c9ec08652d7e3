pub mod First
pub mod Placing
pub mod PlacedNodes
pub mod Growing
pub mod ByFirst
pub mod EliminatedParts
pub mod Implied
pub mod Rows
