pub mod Sought
pub mod SoughtClauses
pub mod Making
pub mod Saying
pub mod Fit
