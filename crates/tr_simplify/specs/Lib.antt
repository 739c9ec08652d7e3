pub mod Laws
pub mod Scripts
pub mod SimplifyKept
pub mod SimplifyAtTypes
pub mod Kept
