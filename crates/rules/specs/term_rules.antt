pub mod Asked
pub mod Conjuncts
pub mod Cases
pub mod Matches
