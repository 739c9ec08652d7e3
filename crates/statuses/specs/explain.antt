pub mod Message
pub mod Places
pub mod Table
pub mod Words
