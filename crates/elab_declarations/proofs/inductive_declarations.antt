pub mod InductivesNamed
pub mod InductivesTold
pub mod ClausesResolved
pub mod ClausesSplit
pub mod InductivesMade
pub mod Rows
