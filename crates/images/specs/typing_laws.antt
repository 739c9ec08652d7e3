pub mod HasTyping
pub mod Laws
