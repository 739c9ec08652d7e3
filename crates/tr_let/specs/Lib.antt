pub mod LetRule
pub mod LetKept
pub mod Kept
