pub use Rattle.elab_groups.proofs.open_types as open_types
pub use Rattle.elab_groups.proofs.scopes as scopes
pub use Rattle.elab_groups.proofs.tasks as tasks
pub use Rattle.elab_groups.proofs.trees as trees
pub use Rattle.elab_groups.proofs.name_resolution as name_resolution
pub use Rattle.elab_groups.proofs.surface as surface
pub use Rattle.elab_groups.proofs.plain_laws as plain_laws
pub use Rattle.elab_groups.proofs.outside as outside
pub use Rattle.elab_groups.proofs as elab_groups
pub use Rattle.checks.proofs as checks
pub use Rattle.theory_states.proofs as theory_states
pub mod Words
pub mod Over
pub mod Instances
pub mod Forms
pub mod Placing
pub mod Fixed
pub mod Signed
pub mod Sound
pub mod Patterns
pub mod Reordering
pub mod Arms
pub mod Alternatives
pub mod Expressions
pub mod Solutions
pub mod Widths
pub mod Scopes
pub mod Extended
pub mod Tuples
pub mod Rows
pub mod Settings
pub mod Types
pub mod Propositions
pub mod Begin
pub mod Algebraics
pub mod Groups
pub mod Signatures
pub mod Definitions
pub mod Owned
pub mod Bodies
pub mod Standing
pub mod Members
pub mod Inductives
pub mod Stays
pub mod Moved
pub mod Elaborated
pub mod Lists
pub mod Made
pub mod MadeTypes
pub mod Outcomes
pub mod Steps
pub mod Goals
pub mod Kept
pub mod TaskOutcomes
pub mod Names
pub mod Distinct
pub mod TupleDecls
pub mod TupleLists
pub mod TaskSound
pub mod MadeRecords
pub mod Once
pub mod Grown
pub mod Next
pub mod NextGoal
pub mod Joined
pub mod Variables
pub mod Quoted
pub mod QuotedTokens
pub mod Typed
pub mod MovedScopes
pub mod CopiedTypes
pub mod Trees
pub mod CopiedForms
pub mod Declarations
pub mod Keeping
pub mod Places
pub mod Used
pub mod Begun
pub mod Further
pub mod Scoped
pub mod Numbers
pub mod Lefts
pub mod Rights
pub mod Mapped
pub mod Copies
pub mod PlacedOutcomes
pub mod Vocabularies
pub mod Extending
pub mod Copied
pub mod Taken
pub mod Others
pub mod Joining
pub mod CopiedSignatures
pub mod ClonedGoals
pub mod CopiedRights
pub mod Trials
pub mod CloneSteps
pub mod Entries
pub mod ClonedNames
pub mod StateOthers
pub mod Cloned
pub mod StateNames
pub mod PlaceSteps
pub mod Moves
pub mod Ordered
pub mod TypingSolutions
pub mod SolutionTypings
pub mod Decided
pub mod Least
pub mod LeastUsed
pub mod LeastMade
pub mod GroupSolutions
pub mod OpenNodes
