pub use Rattle.inlining.specs as inlining
pub use Rattle.checks.specs as checks
pub use Rattle.evidence.specs as evidence
pub mod full_bodies
pub mod Lemmas
pub mod Uses
pub mod Definitions
pub mod Unfolded
pub mod Inlined
pub mod Passed
pub mod Kept
