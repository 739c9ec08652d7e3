pub mod Instances
pub mod Wanted
pub mod Discriminated
pub mod Search
pub mod Growing
pub mod Laws
pub mod lemmas
