-- The names that most definitions and contracts cite, passed on from one place. Declares nothing.
pub use Rattle.std.specs.Prelude.{true, false, IfErr, Bool, IfOk}
pub use Rattle.tokens_why.specs.Alphabet.{same}
pub use Rattle.parser.specs.parse_terms.Reading.{CanRead, Begun, IsRead, begins_atype, goes_on_with_field, CanRun, token_at, from, terminal_at}
pub use Rattle.parser.specs.parse_terms.Sources.{lexemes}
pub use Rattle.grammar.specs.reading.DeclParts.{ClausePart, ConPart, FieldsPart, BodyPart, ClausesPart, param_names, AlgPart, RecordPart}
pub use Rattle.grammar.specs.reading.Values.{read}
pub use Rattle.surface.specs.Declarations.{Inductive, Member, Constructor, more_decls, SyntaxTheory, SyntaxDeclaration, Algebraic, prop_word, Clause, ParamGroup}
pub use Rattle.surface.specs.Forms.{SyntaxForms, SyntaxForm}
pub use Rattle.surface.specs.Lexeme.{rest, terminals, name, Lexeme}
pub use Rattle.surface.specs.SurfaceDeclarations.{member_of, algebraic_of, inductive_of, theory_of, constructor_of, decl_of, file_of, plain_name, clause_of, element_of, param_of}
pub use Rattle.surface.specs.declared.names.Name.{Name}
pub use Rattle.tokens_why.specs.declared.terminal.Terminal.{Terminal}
