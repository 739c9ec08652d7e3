pub mod WithImages
