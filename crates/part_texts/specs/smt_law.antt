pub mod s_expressions
pub mod Plain
pub mod Reading
pub mod Law
pub mod Shipped
