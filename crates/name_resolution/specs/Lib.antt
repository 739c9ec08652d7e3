pub use Rattle.scopes.specs as scopes
pub use Rattle.surface.specs as surface
pub mod variables
pub mod Abstract
pub mod Records
pub mod Where
pub mod Faults
pub mod Naming
