pub mod Ending
pub mod Refusing
pub mod Taking
