pub mod Variables
pub mod Putting
pub mod Ground
