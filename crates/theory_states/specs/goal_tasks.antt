pub mod Tuples
pub mod Theories
pub mod Tasks
pub mod Meaning
pub mod Named
pub mod Gathered
