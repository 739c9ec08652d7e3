pub mod Branches
pub mod Asked
pub mod Rule
pub mod AtTypes
