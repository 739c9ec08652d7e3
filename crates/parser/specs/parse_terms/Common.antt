-- The names that most definitions and contracts cite, passed on from one place. Declares nothing.
pub use Rattle.std.specs.Prelude.{IfErr, IfOk}
pub use Rattle.tokens_why.specs.Alphabet.{same}
pub use Rattle.grammar.specs.declared.symbols.Symbol.TheVariants.{Opname, TypeOf, Qlid, Atype, Ttuple, Qhead, Targs, Quids}
pub use Rattle.grammar.specs.reading.Parts.{Chain, OperatorName, Dotted, named_at, scope_on, first_token, Scoped, own_op, attach, upper_called}
pub use Rattle.grammar.specs.reading.Reads.{from}
pub use Rattle.grammar.specs.reading.Values.{read, blank}
pub use Rattle.surface.specs.Forms.{SyntaxForms, SyntaxForm, called, lower, more_forms, Own, Called}
pub use Rattle.surface.specs.Lexeme.{Word, said, name, Lexeme, lexeme}
pub use Rattle.surface.specs.Surface.{FormPart, TreePart, form_part_of, tree_part_of, arm_of, own_of, terms_of, binder_of, form_of, types, pattern_of, tree_of, patterns, called_of, forms, integer_word, op_of, trees, Arm}
pub use Rattle.surface.specs.Trees.{binds, TypedBinder, SyntaxTrigger, literal, ends_open, op, SyntaxTree}
pub use Rattle.surface.specs.declared.names.Name.{Name}
pub use Rattle.tokens_why.specs.Operators.{is_operator, is_prefix, is_infix}
pub use Rattle.tokens_why.specs.Tokens.{LiteralFits, AreTokens, text_of}
pub use Rattle.tokens_why.specs.declared.terminal.Terminal.TheVariants.{Dot, Int, Lident, Uident}
