pub use Rattle.checks.specs as checks
pub use Rattle.elab_declarations.specs as elab_declarations
pub use Rattle.elaboration_laws.specs.theory_states as theory_states
pub use Rattle.theory_states.specs as theory_states
pub use Rattle.elaboration_laws.specs.checks as checks
pub mod cloning
pub mod declaring
pub mod side_conditions
pub mod Ints
pub mod Typing
pub mod Files
pub mod Sound
pub mod Right
pub mod Plain
pub mod Sources
pub mod Lexemes
pub mod Names
