pub mod Parted
pub mod Printed
