pub use Rattle.tr_remove.specs as tr_remove
pub use Rattle.evidence.specs as evidence
pub mod transformations
pub mod Carried
pub mod Steps
pub mod Faults
pub mod Listing
pub mod Lifted
pub mod Levels
