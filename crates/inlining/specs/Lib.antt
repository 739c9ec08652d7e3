pub use Rattle.evidence.specs.images as images
pub mod branch_equations
pub mod Inlining
pub mod FullBodies
pub mod Laws
