-- The names that most proofs cite, passed on from one place. Declares nothing.
pub use Rattle.std.proofs.Common.{nat_lt, ◌-◌, drop, MatchOption, get_or, slice_get}
pub use Rattle.grammar.proofs.reading.Common.{accepts, Begins, IsLeastFault, List, subst, ℕ, suc, length, inl, take, ◌+◌, ◌∷◌, None, arith, append_assoc, inr, ap, ◌⊎◌, ◌≤◌, true, sym, [], Bool, ◌<◌, false, ◌≡◌, zero, refl, map, Some, ◌∙◌, ◌++◌, IsLevelFile, PlacedFile, write_file, rest, terminals, Lexeme, mark, IsLevel, write, IsPlacedTree, terminal_of, kind_by}
pub use Rattle.tokens_why.specs.declared.terminal.Terminal.{Terminal}
pub use Rattle.grammar.specs.Ends.{IsFault, IsLongest, IsFirstFault}
pub use Rattle.grammar.specs.declared.symbols.Symbol.TheVariants.{File, Expr}
pub use Rattle.grammar.proofs.reading.Parsing.{read_accepted, none_read, least_fault, may_not_stand, terminals_append, proper_take, may_stand, proper_rest, whole_file, proper_by, only_read, Whole, whole_expr, tree_accepted, value_or, taken_begins, longest_read}
pub use Rattle.grammar.specs.reading.Sentences.{IsOf}
pub use Rattle.grammar.specs.recognise.Depth.{nesting, depth_at, IsTooDeep, most_nested, IsShallow, nested, counters, depth}
pub use Rattle.grammar.specs.recognise.Spans.{terminals_of}
pub use Rattle.surface.specs.Lexeme.{lexeme}
pub use Rattle.tokens_why.specs.declared.terminal.Terminal.TheVariants.{OtherWord, ScopeWord}
pub use Rattle.tokens_why.specs.declared.token.Token.{Token}
