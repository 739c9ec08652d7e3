pub mod File
pub mod Grammar
pub mod Lines
pub mod Machine
pub mod Strings
pub mod Tokens
pub mod Words
