pub mod Sorted
pub mod TypeInstances
pub mod Changes
