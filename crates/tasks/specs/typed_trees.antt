pub mod instances
pub mod Types
pub mod Binders
pub mod Named
pub mod Variables
