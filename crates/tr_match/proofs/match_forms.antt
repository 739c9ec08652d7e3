pub mod AtTerms
pub mod Opening
pub mod Rows
