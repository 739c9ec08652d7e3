pub mod Arms
pub mod AtTypes
pub mod Opened
pub mod Origins
pub mod Instances
pub mod Projections
