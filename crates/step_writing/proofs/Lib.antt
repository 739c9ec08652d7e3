pub use Rattle.kernel.proofs as kernel
mod RuleParts
mod StepBack
mod Plain
mod Texts
pub mod Rightness
mod Naming
mod Pushing
mod Rooting
mod Finishing
pub mod TaskNames
mod Derivations
