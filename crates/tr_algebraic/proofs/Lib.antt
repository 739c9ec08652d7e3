pub mod Composed
pub mod Facts
pub mod Parameters
pub mod Gluing
