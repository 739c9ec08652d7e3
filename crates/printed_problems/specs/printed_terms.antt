pub mod Words
pub mod Texts
pub mod Ranks
pub mod Problems
pub mod Meaning
