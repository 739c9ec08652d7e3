pub mod spelled_groups
pub mod Rewritten
pub mod Within
pub mod Said
pub mod Names
pub mod Stored
pub mod Equation
pub mod lemmas
