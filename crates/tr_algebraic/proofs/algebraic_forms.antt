pub mod Making
pub mod Placing
pub mod Search
pub mod Rows
