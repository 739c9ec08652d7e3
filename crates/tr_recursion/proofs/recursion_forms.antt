pub mod Room
pub mod Numbers
pub mod Reading
pub mod Making
pub mod Definitions
pub mod Fit
pub mod Sought
