pub mod Chosen
pub mod Instances
pub mod Origins
pub mod Laws
