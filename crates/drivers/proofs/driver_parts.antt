pub mod Saying
pub mod Placing
pub mod Rows
