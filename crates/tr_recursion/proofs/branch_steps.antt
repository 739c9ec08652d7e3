pub mod Arms
pub mod Quantifiers
pub mod Opened
pub mod Sides
pub mod NewBodies
