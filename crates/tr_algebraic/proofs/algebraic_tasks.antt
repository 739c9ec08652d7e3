pub mod Placed
pub mod Looking
pub mod Named
