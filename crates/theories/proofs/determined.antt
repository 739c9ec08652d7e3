pub mod FirstWithout
pub mod Sides
pub mod Solved
pub mod Library
pub mod Told
pub mod OneOutcome
pub mod One
