pub use Rattle.scopes.proofs as scopes
pub use Rattle.surface.proofs as surface
pub mod Placed
pub mod Fielded
pub mod Nodes
pub mod Told
pub mod Operated
pub mod Putting
pub mod Rows
pub mod SameNames
pub mod Tuples
pub mod ScopeAt
