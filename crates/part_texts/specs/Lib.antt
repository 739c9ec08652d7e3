pub use Rattle.printed_problems.specs as printed_problems
pub use Rattle.drivers.specs as drivers
pub mod smt_law
pub mod smt_texts
pub mod tff_texts
pub mod Problems
pub mod Texts
pub mod Names
