pub use Rattle.name_tables.specs as name_tables
pub mod shared_sums
pub mod quick_steps
pub mod Words
pub mod Lines
pub mod Marks
pub mod Reading
pub mod Fed
