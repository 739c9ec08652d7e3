pub mod Algebraics
pub mod Held
