pub mod Transformations
pub mod Words
