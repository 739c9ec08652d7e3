pub mod Left
pub mod Rights
pub mod Replacements
pub mod Elements
pub mod Origins
pub mod Meaning
