pub use Rattle.elab_groups.specs as elab_groups
pub use Rattle.elab_groups.specs.name_resolution as name_resolution
pub use Rattle.elab_groups.specs.open_types as open_types
pub use Rattle.elab_groups.specs.scopes as scopes
pub use Rattle.elab_groups.specs.surface as surface
pub use Rattle.elab_groups.specs.trees as trees
pub use Rattle.elab_groups.specs.tasks as tasks
pub use Rattle.elab_groups.specs.tokens_why as tokens_why
pub use Rattle.checks.specs as checks
pub use Rattle.clones.specs as clones
pub use Rattle.elab_declarations.specs.elab_groups as elab_groups
pub use Rattle.elab_declarations.specs as elab_declarations
pub use Rattle.theory_states.specs as theory_states
pub mod Signature
pub mod Typed
pub mod Scopes
pub mod Valid
pub mod Named
pub mod Lists
pub mod Built
pub mod Tasks
pub mod Joined
pub mod Quoted
pub mod TaskTyped
pub mod Moves
pub mod Morphisms
pub mod TypedStates
pub mod Whole
pub mod Sound
pub mod Sides
pub mod Placed
pub mod Cloning
pub mod Rights
pub mod Trials
pub mod Steps
pub mod Entries
pub mod Cloned
pub mod PlaceSteps
pub mod Typings
pub mod Checked
pub mod UsedNames
pub mod GroupTypings
pub mod NodeTypes
