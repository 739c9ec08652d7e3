pub mod Gaining
pub mod Range
