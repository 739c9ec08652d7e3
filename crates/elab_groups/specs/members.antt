pub mod Members
pub mod Sources
