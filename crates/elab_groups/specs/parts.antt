pub mod Elaborated
pub mod Values
pub mod Alike
pub mod Entries
pub mod Declarations
pub mod Written
pub mod Outcomes
