pub mod reading
pub mod recognise
pub mod Common
pub mod Table
pub mod Machine
pub mod Rows
pub mod Ends
