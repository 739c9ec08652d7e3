pub mod decl_checks
pub mod match_cover
pub mod node_tests
pub mod recursive_groups
