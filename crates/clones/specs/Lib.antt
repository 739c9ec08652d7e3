pub mod clone_copies
pub mod clone_elements
pub mod Copies
pub mod Mapped
pub mod Meaning
