pub mod Introduced
pub mod Opening
pub mod Tasks
