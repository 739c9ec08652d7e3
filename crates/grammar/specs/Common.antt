-- The names that most definitions and contracts cite, passed on from one place. Declares nothing.
pub use Rattle.grammar.specs.declared.symbols.Symbol.{Symbol}
pub use Rattle.tokens_why.specs.Operators.{need, right, is_infix, prec}
pub use Rattle.tokens_why.specs.declared.terminal.Terminal.{Terminal}
