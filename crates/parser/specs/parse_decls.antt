pub mod Common
pub mod Bodies
pub mod Clauses
pub mod Params
pub mod Types
pub mod Clones
pub mod Files
