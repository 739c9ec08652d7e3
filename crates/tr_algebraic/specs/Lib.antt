pub mod algebraic_forms
pub mod algebraic_tasks
pub mod draft_images
pub mod law_evidence
pub mod Equation
pub mod Images
pub mod Kept
