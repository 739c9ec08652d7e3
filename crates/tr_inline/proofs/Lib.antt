pub use Rattle.inlining.proofs as inlining
pub use Rattle.evidence.proofs as evidence
pub mod Members
pub mod Equations
pub mod Scripts
pub mod Unfolded
pub mod Claims
pub mod Named
pub mod ByBodies
pub mod Limits
pub mod PartlyInlined
pub mod ClosedUses
