pub mod One
pub mod Facts
pub mod Own
pub mod Opened
