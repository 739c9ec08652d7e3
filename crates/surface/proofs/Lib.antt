pub use Rattle.tokens_why.proofs as tokens_why
pub mod Options
pub mod TreeLemmas
pub mod DeclLemmas
