pub mod Nodes
pub mod OpenVariables
pub mod Follows
pub mod Evidence
pub mod Rows
pub mod AtTerms
pub mod LawPlaces
pub mod Bodies
