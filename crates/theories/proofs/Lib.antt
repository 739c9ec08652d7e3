pub use Rattle.checks.proofs as checks
pub use Rattle.elab_declarations.proofs as elab_declarations
pub use Rattle.elaboration_laws.proofs.theory_states as theory_states
pub mod Forgetting
pub mod Walking
pub mod Lists
pub mod Passing
pub mod Ending
pub mod Paths
pub mod Placing
mod Passed
mod Numbers
mod Lefts
mod Elements
mod Owned
mod Maps
mod InOrder
mod Rights
mod Fits
mod Steps
pub mod KnownLists
pub mod Plain
mod Goals
pub mod Cloned
pub mod SourceLists
pub mod SourceSteps
pub mod Sources
pub mod SourceGoals
pub mod IntSteps
pub mod IntEntries
pub mod IntGrowth
pub mod IntLibrary
mod Words
mod Tokens
mod Tuples
mod Written
mod Outcomes
mod Declared
mod WordCloned
mod Typed
pub mod WordSources
