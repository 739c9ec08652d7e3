pub mod Cases
pub mod Typed
pub mod AtTypes
