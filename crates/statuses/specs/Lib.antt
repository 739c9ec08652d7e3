pub use Rattle.outside.specs as outside
pub mod explain
pub mod fault_order
pub mod Words
pub mod Faults
pub mod Lines
pub mod Code
pub mod Putting
