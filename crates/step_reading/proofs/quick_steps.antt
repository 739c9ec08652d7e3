pub mod NodeForms
pub mod Places
pub mod Seen
pub mod Told
