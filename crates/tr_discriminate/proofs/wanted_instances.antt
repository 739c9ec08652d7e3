pub mod Growing
pub mod Nodes
pub mod Searching
pub mod Rows
