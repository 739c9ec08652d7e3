pub use Rattle.images.specs as images
pub mod match_forms
pub mod if_forms
pub mod Kept
