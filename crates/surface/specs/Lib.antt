pub use Rattle.tokens_why.specs as tokens_why
pub mod unparse
pub mod Common
pub mod Lexeme
pub mod Forms
pub mod Trees
pub mod Declarations
pub mod DeclarationRules
pub mod Surface
pub mod SurfaceDeclarations
