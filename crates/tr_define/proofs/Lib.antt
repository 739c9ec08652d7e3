pub mod Placed
pub mod Rows
