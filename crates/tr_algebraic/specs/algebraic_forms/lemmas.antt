pub mod NoMatch
pub mod Typed
pub mod Kept
