pub mod Known
pub mod Order
pub mod Sources
pub mod Values
