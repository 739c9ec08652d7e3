pub mod Plain
pub mod Refused
pub mod Origins
pub mod Kept
