pub mod Asking
pub mod Search
