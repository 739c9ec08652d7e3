pub mod Within
pub mod Names
pub mod Stored
pub mod Places
pub mod Stage
