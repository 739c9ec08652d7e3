pub mod Looked
pub mod Compared
pub mod Growing
pub mod Told
