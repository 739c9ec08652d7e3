pub mod Changes
pub mod Indices
pub mod Sorts
