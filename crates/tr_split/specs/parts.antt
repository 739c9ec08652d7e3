pub mod Split
pub mod Parts
pub mod Glue
pub mod Kept
