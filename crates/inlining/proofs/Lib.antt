pub use Rattle.evidence.proofs.images as images
pub mod Rows
pub mod Bodies
pub mod Uses
pub mod Inlined
pub mod AtTypes
pub mod Equations
pub mod InlinedAtTypes
pub mod OpenInstances
pub mod ImageChanges
pub mod UsesChanged
pub mod FullBodies
pub mod SinglePass
