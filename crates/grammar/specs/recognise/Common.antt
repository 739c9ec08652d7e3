-- The names that most definitions and contracts cite, passed on from one place. Declares nothing.
pub use Rattle.std.specs.Bool.{⊤}
pub use Rattle.grammar.specs.Ends.{IsFault}
pub use Rattle.grammar.specs.Machine.{is_safe, accepts}
pub use Rattle.grammar.specs.reading.Sentences.{Begins, IsLeastFault, IsOf, IsOnly, IsLongestTree, IsNone}
pub use Rattle.grammar.specs.reading.Values.{read}
pub use Rattle.grammar.specs.declared.recognise.depth.Nesting.TheVariants.{Opens, Restarts, Keeps, Closes, Counts}
pub use Rattle.grammar.specs.declared.recognise.fault.SyntaxFault.{SyntaxFault}
pub use Rattle.surface.specs.DeclarationRules.{IsLevelFile, PlacedFile}
pub use Rattle.surface.specs.Declarations.{SyntaxTheory, write_file}
pub use Rattle.surface.specs.Lexeme.{lexeme_by, mark, rest, Word, terminals, Lexeme}
pub use Rattle.surface.specs.Trees.{write, IsPlacedTree, SyntaxTree, IsLevel}
pub use Rattle.tokens_why.specs.Terminals.{kind_by, terminal_of}
pub use Rattle.tokens_why.specs.Tokens.{AreTokens, IsString}
pub use Rattle.tokens_why.specs.declared.terminal.Terminal.{Terminal}
pub use Rattle.tokens_why.specs.declared.terminal.Terminal.TheVariants.{OtherWord, ScopeWord}
pub use Rattle.tokens_why.specs.declared.token.Token.{Token}
