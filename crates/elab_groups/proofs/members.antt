pub mod ParamsClosed
pub mod NamesMade
pub mod MembersNamed
pub mod MembersScoped
pub mod SignaturesHeld
