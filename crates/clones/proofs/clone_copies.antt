pub mod Pushed
pub mod Longer
