pub use Rattle.elab_groups.specs as elab_groups
pub mod inductive_declarations
pub mod type_declarations
pub mod Outcomes
pub mod Heads
pub mod NewNames
