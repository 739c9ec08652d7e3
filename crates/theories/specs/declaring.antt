pub mod Faults
pub mod Declared
pub mod Steps
pub mod Made
