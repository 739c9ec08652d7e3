pub use Rattle.grammar.proofs as grammar
