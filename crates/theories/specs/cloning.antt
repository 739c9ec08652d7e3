pub mod Cloned
pub mod Owned
pub mod ReadElements
pub mod Copied
