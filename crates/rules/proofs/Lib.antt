pub mod Closed
pub mod Sequents
pub mod After
pub mod Templates
