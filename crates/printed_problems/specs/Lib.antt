pub use Rattle.drivers.specs as drivers
pub use Rattle.name_tables.specs as name_tables
pub mod printed_terms
pub mod Templates
pub mod Problems
pub mod Faults
pub mod Tests
pub mod Checks
pub mod Checked
pub mod Shared
pub mod Made
