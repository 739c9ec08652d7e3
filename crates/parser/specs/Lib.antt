pub use Rattle.grammar.specs as grammar
pub mod parse_decls
pub mod parse_terms
pub mod std_theories
