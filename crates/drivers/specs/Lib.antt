pub mod driver_files
pub mod driver_items
pub mod driver_parts
pub mod driver_tokens
