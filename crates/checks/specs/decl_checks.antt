pub mod Clauses
pub mod Structure
pub mod Values
pub mod Checks
pub mod Meaning
pub mod Kept
