pub mod Introduce
pub mod Kept
pub mod Steps
pub mod Held
