pub use Rattle.outside.proofs as outside
pub mod Listed
pub mod Inside
pub mod Mapped
