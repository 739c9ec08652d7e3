pub mod Parameters
pub mod Places
pub mod Rows
pub mod Variables
