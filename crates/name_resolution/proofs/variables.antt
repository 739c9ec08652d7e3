pub mod Widened
pub mod Closing
