pub mod index_bounds
pub mod Depth
pub mod Known
pub mod Visits
