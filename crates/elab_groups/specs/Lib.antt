pub use Rattle.trees.specs as trees
pub use Rattle.name_resolution.specs as name_resolution
pub use Rattle.open_types.specs as open_types
pub use Rattle.scopes.specs as scopes
pub use Rattle.surface.specs as surface
pub use Rattle.tasks.specs as tasks
pub use Rattle.surface.specs.tokens_why as tokens_why
pub use Rattle.tasks.specs.trees as trees
pub mod members
pub mod parts
pub mod Groups
pub mod Bodies
