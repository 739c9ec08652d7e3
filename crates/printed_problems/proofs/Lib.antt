pub use Rattle.tasks.proofs.plain_laws as plain_laws
pub mod Finding
pub mod First
pub mod Forming
pub mod Placing
pub mod FactList
pub mod Faultless
