pub mod Instances
pub mod Scripts
pub mod Inner
pub mod Overs
pub mod Values
pub mod Opened
pub mod Glued
