pub mod Early
pub mod Found
pub mod Origins
pub mod Making
pub mod Searching
