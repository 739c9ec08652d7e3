pub mod Making
pub mod ReadBack
pub mod Words
