pub mod Sums
pub mod Steps
pub mod Closed
pub mod Differing
pub mod Numbered
