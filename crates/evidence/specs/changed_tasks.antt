pub mod Changed
pub mod Limits
pub mod Laws
