pub mod Rewritten
pub mod Said
