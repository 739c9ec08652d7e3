pub mod parts
pub mod Goals
pub mod Gluing
pub mod Over
pub mod Kept
