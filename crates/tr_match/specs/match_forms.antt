pub mod Forms
pub mod Branches
pub mod Held
pub mod Laws
pub mod lemmas
