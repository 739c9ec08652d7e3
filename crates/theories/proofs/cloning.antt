pub mod Faults
mod Told
mod Kept
mod Fitting
mod Counted
mod Stages
mod Contents
mod Begun
pub mod TypedClone
