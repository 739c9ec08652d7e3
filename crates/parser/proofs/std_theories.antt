pub mod Files
pub mod Readings
pub mod Cut
pub mod CutTokens
pub mod Sources
pub mod IntFile
