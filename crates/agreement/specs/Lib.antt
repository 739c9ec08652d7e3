pub mod Ranks
pub mod Agreement
pub mod Laws
pub mod Questions
pub mod Branches
