-- The names that most definitions and contracts cite, passed on from one place. Declares nothing.
pub use Rattle.std.specs.Bool.{⊤}
pub use Rattle.surface.specs.declared.declarations.Link.{Link}
pub use Rattle.surface.specs.declared.names.At.{At}
pub use Rattle.surface.specs.declared.names.Name.{Name}
pub use Rattle.surface.specs.declared.names.OpName.{OpName}
pub use Rattle.tokens_why.specs.Operators.{is_prefix, is_star, need, right, is_operator, is_infix, prec}
pub use Rattle.tokens_why.specs.Terminals.{kind_by, string_terminal, terminal_of}
pub use Rattle.tokens_why.specs.declared.terminal.Terminal.{Terminal}
