pub mod Common
pub mod Parts
pub mod DeclParts
pub mod Row
pub mod Rows
pub mod Values
pub mod Reads
pub mod Sentences
