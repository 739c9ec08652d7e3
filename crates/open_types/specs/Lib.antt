pub mod unify_types
pub mod Pieces
pub mod Patterns
pub mod Reordered
pub mod Scoped
pub mod Sizes
pub mod Drafts
