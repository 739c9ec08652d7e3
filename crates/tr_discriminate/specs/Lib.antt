pub mod wanted_instances
pub mod instance_search
pub mod instance_sets
pub mod wanted_search
pub mod Equation
pub mod Kept
pub mod Found
pub mod Origins
