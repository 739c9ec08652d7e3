pub mod Formulas
pub mod Faults
pub mod Rewritten
pub mod Kept
pub mod Facts
pub mod Starts
