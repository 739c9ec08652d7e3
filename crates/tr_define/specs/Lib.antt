pub mod Kept
pub use Rattle.declarations.specs as declarations
