pub use Rattle.rules.specs as rules
pub use Rattle.tasks.specs as tasks
pub use Rattle.trees.specs as trees
pub mod Right
pub mod Open
