pub use Rattle.outside.specs as outside
pub mod Texts
pub mod Files
