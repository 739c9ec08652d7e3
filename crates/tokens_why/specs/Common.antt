-- The names that most definitions and contracts cite, passed on from one place. Declares nothing.
pub use Rattle.std.proofs.Common.{get_or}
pub use Rattle.std.specs.List.{list_all, list_any, prefix_len}
pub use Rattle.std.specs.Prelude.{false, true, ℕ, Bool, codes, List}
pub use Rattle.tokens_why.specs.declared.fault.LexFault.TheVariants.{BigLiteral, Lexical}
pub use Rattle.tokens_why.specs.declared.terminal.Terminal.{Terminal}
pub use Rattle.tokens_why.specs.declared.token.Token.{Token}
pub use Rattle.tokens_why.specs.declared.token.TokenKind.{TokenKind}
pub use Rattle.tokens_why.specs.declared.token.TokenKind.TheVariants.{Bar, Wild, Dot, Arrow, Lident, Colon, LParen, RBrack, RParen, Comma, Conj, RBrace, Uident, TyVar, LBrack, Operator, Semi, StarName, LBrace, Equiv, Minus, Equal, Reserved, AndAnd, OrOr, Disj, Int}
pub use Rattle.word_tables.specs.Words.{is_same_word, place_in_words}
