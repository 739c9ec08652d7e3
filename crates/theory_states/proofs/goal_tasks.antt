pub mod Placed
pub mod TuplesMade
mod TupleNames
mod Steps
mod Lists
