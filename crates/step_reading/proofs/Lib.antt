pub mod Exact
pub mod Fed
pub mod Growth
pub mod Marking
pub mod Progress
pub mod Splitting
