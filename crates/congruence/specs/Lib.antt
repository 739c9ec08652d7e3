pub use Rattle.tasks.specs as tasks
pub use Rattle.kernel.specs as kernel
pub mod Alike
pub mod Applications
pub mod EqualTerms
pub mod Connectives
pub mod Quantifiers
pub mod Lines
pub mod Conditionals
