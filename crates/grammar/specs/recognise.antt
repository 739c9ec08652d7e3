pub mod Common
pub mod Depth
pub mod Spans
pub mod Expressions
pub mod Sources
pub mod Completions
