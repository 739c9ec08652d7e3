pub use Rattle.step_reading.specs.name_tables as name_tables
pub use Rattle.kernel.specs as kernel
pub use Rattle.step_reading.specs as step_reading
pub use Rattle.name_tables.specs as name_tables
pub mod tree_writing
pub mod Named
pub mod Words
pub mod Written
