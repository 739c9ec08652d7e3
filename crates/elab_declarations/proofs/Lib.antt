pub use Rattle.elab_groups.proofs as elab_groups
pub mod Over
pub mod Proposed
pub mod TypesMade
pub mod Rows
pub mod Heads
pub mod NewNames
