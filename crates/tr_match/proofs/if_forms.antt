pub mod IfForms
