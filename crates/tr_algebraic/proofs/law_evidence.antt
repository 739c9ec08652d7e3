pub mod Shapes
pub mod Sides
pub mod Scripts
pub mod Roles
pub mod LawShapes
pub mod CaseLists
pub mod CaseShapes
pub mod GroupLaws
