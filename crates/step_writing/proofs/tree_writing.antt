pub mod Noting
pub mod Numerals
pub mod Partly
pub mod Cells
pub mod Reading
pub mod PlainBack
pub mod UsedBack
pub mod BranchesBack
pub mod Dispatch
mod MarkedParts
pub mod Sorting
pub mod Whole
