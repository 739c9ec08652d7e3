pub mod Growing
pub mod Lists
pub mod Moving
pub mod Pushing
