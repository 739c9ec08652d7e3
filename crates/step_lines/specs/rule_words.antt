pub mod Arguments
pub mod Forms
pub mod Rules
pub mod Written
