pub mod integers
pub mod Words
