pub mod Items
pub mod Names
pub mod Symbols
pub mod Syntaxes
pub mod Templates
