pub use Rattle.images.specs as images
pub use Rattle.evidence.specs as evidence
pub mod rewriting
pub mod rule_rewriting
pub mod Places
pub mod Arguments
pub mod Opened
pub mod Remembered
