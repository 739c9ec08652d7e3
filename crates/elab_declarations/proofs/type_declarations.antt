pub mod Counted
pub mod Declared
pub mod Sorted
pub mod Typed
pub mod Placed
pub mod Records
pub mod Made
