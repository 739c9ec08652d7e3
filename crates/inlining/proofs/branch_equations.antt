pub mod Terms
pub mod Matches
pub mod Fields
pub mod Sides
pub mod Formulas
pub mod AtTerms
pub mod Rows
