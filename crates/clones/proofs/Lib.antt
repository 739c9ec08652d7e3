mod Stays
mod Loops
pub mod Alike
pub mod Steps
