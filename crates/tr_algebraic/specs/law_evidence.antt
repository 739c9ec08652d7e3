pub mod Shapes
pub mod CaseSteps
pub mod Laws
