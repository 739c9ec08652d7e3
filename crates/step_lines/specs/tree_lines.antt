pub mod Words
pub mod Named
pub mod Lines
pub mod Made
