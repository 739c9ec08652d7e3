pub mod Driving
pub mod Typed
pub mod Kept
