pub mod Made
pub mod Sets
