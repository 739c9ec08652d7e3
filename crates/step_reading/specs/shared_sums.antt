pub mod Tops
pub mod Known
pub mod Pending
pub mod Uses
