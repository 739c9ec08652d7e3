pub mod Formulas
pub mod Groups
pub mod Making
pub mod Search
pub mod NoMatch
pub mod Laws
pub mod lemmas
