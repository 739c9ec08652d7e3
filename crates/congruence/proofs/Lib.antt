pub use Rattle.tasks.proofs as tasks
pub mod Later
pub mod Scripts
pub mod PlainScripts
pub mod NewParameters
pub mod FormulasLater
pub mod HoleTemplates
pub mod EquationHoles
pub mod ValueHoles
pub mod BesideTemplates
pub mod CaseParts
pub mod Lists
pub mod ApplicationLaws
pub mod ApplicationHoles
