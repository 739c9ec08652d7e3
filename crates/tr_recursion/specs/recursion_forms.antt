pub mod Read
pub mod Made
pub mod Members
