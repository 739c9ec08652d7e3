-- The names that most proofs cite, passed on from one place. Declares nothing.
pub use Rattle.std.proofs.Common.{List, subst, ℕ, suc, inl, length, take, cond, ◌+◌, Option, add-one, not, None, ◌∷◌, arith, append_assoc, drop-cons, inr, nat_eq, ap, IfOk, option_map, ◌⊎◌, ◌≤◌, nat_le, true, sym, ◌&&◌, [], ◌||◌, drop, Bool, ◌<◌, reverse, false, ◌≡◌, zero, refl, map, get_or, Some, ◌∙◌, ◌++◌}
pub use Rattle.std.proofs.Math.ListN.{drop_of_length-le}
pub use Rattle.std.proofs.lemmas.List.{reverse-append, take_more, length-append, take_all, length-reverse}
pub use Rattle.tokens_why.specs.Alphabet.{terminal_number, operators, all_terminals, same}
pub use Rattle.grammar.specs.Ends.{IsLongest, Completes, TakesAll}
pub use Rattle.grammar.specs.Machine.{sealed, step, may_follow, ends, accepts, untaken, next_stack, find_production, complete, on_top, run, first_or, none_takes, lead, takes, is_seal, may_end, is_taken, is_safe}
pub use Rattle.grammar.specs.Rows.{production_of, IsPut, IsStep, tail_takes}
pub use Rattle.grammar.specs.Table.{productions, tail_of, open_productions, shortest, Production, production, prim_productions, leftovers, optional, with_symbols_after}
pub use Rattle.grammar.specs.declared.symbols.Symbol.{Symbol}
pub use Rattle.tokens_why.specs.Operators.{prec, is_infix, right, need}
pub use Rattle.tokens_why.specs.declared.terminal.Terminal.{Terminal}
