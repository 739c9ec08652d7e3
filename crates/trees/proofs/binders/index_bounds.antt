pub mod Fits
pub mod Remembered
