pub mod branch_instances
pub mod branch_steps
pub mod constructor_matches
pub mod recursion_forms
pub mod Kept
pub mod Followed
