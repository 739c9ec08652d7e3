pub mod fact_rules
pub mod term_rules
pub mod Trees
pub mod Forms
pub mod Rows
pub mod Terms
pub mod Meaning
pub mod Codes
