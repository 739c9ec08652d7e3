pub mod Inductives
pub mod Sources
