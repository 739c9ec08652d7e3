pub use Rattle.images.proofs as images
pub mod ChangedTasks
pub mod Kept
pub mod Typed
pub mod Rules
pub mod Formulas
pub mod FactNames
pub mod FactsListed
pub mod Moved
pub mod Lifted
pub mod Ends
pub mod Owned
