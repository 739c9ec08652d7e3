pub mod ImagedParts
