pub mod Followed
pub mod Equations
