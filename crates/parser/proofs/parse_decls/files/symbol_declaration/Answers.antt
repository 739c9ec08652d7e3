use Rattle.parser.proofs.parse_decls.Cited.{◌≡◌, true, sym, ap, ◌∙◌, subst, same, prop_word, prop_kind, terminal_at, lexemes, prop_left}
use Rattle.parser.proofs.parse_decls.files.symbol_declaration.Goals as goal

pub function_declaration-requires : goal.function_declaration-requires
function_declaration-requires c = record { can = c.requires.can; word = sym c.is_at-is_function.ensures ∙ c.if-is_function.true }

pub predicate_declaration-requires : goal.predicate_declaration-requires
predicate_declaration-requires c = record { can = c.requires.can; word = sym c.is_at-is_predicate.ensures ∙ c.if-is_predicate.true }

pub constant_declaration-requires : goal.constant_declaration-requires
constant_declaration-requires c = record { can = c.requires.can; word = sym c.is_at-is_constant.ensures ∙ c.if-is_constant.true }

pub inductive_declaration-requires : goal.inductive_declaration-requires
inductive_declaration-requires c = record { can = c.requires.can; word = sym c.is_at-is_inductive.ensures ∙ c.if-is_inductive.true }

pub prop_declaration-requires : goal.prop_declaration-requires
prop_declaration-requires c = record { can = c.requires.can; word = subst (λ k. same (prop_word k) (terminal_at (lexemes c.args.source) c.args.i) ≡ true) (sym (c.prop_kind-kind.ensures ∙ ap prop_kind c.terminal.ensures)) (prop_left c.requires.can c.requires.no_end c.requires.no_scope c.requires.no_type c.requires.no_use c.requires.no_clone (sym c.is_at-is_function.ensures ∙ c.if-is_function.false) (sym c.is_at-is_predicate.ensures ∙ c.if-is_predicate.false) (sym c.is_at-is_constant.ensures ∙ c.if-is_constant.false) (sym c.is_at-is_inductive.ensures ∙ c.if-is_inductive.false)) }
