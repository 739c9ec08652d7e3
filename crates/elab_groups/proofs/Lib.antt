pub use Rattle.name_resolution.proofs as name_resolution
pub use Rattle.open_types.proofs as open_types
pub use Rattle.scopes.proofs as scopes
pub use Rattle.scopes.proofs.outside as outside
pub use Rattle.tasks.proofs.plain_laws as plain_laws
pub use Rattle.surface.proofs as surface
pub use Rattle.tasks.proofs as tasks
pub use Rattle.tasks.proofs.trees as trees
pub mod BodyLocals
pub mod BodiesWalked
pub mod BodiesBelow
pub mod BodiesSolved
pub mod Defining
pub mod GroupMade
pub mod Rows
