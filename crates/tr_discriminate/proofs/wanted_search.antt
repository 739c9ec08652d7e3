pub mod Tests
pub mod Finding
