pub mod Seen
pub mod Entered
