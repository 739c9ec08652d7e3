pub mod Origins
pub mod Entries
pub mod Places
pub mod Moves
pub mod Meaning
