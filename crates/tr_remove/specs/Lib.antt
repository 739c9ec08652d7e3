pub use Rattle.evidence.specs as evidence
pub mod Remove
pub mod Kept
