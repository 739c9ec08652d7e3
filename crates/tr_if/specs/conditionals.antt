pub mod Conditionals
pub mod Held
pub mod Places
pub mod Laws
pub mod lemmas
