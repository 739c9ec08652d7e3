pub mod Sexps
pub mod Laws
