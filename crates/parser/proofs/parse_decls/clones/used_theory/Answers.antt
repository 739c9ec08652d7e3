use Rattle.parser.proofs.parse_decls.Cited.{sym, ◌∙◌, refl, can_next, done, next, bare, exported, imported, rules, upto}
use Rattle.parser.proofs.parse_decls.clones.used_theory.Goals as goal

pub path-requires : goal.path-requires
path-requires c = can_next (exported c.requires (sym c.is_at-is_exported.ensures ∙ c.if-is_exported.true))

pub path-requires-then-is_imported : goal.path-requires-then-is_imported
path-requires-then-is_imported c = can_next (imported c.requires (sym c.is_at-is_imported.ensures ∙ c.if-is_imported.true))

pub path-requires-2 : goal.path-requires-2
path-requires-2 c = can_next (bare c.requires (sym c.is_at-is_exported.ensures ∙ c.if-is_exported.false) (sym c.is_at-is_imported.ensures ∙ c.if-is_imported.false))

pub name_after_as-requires : goal.name_after_as-requires
name_after_as-requires c = can_next (next (imported c.requires (sym c.is_at-is_imported.ensures ∙ c.if-is_imported.true)) c.in_ok-imported.ensures)

pub name_after_as-requires-2 : goal.name_after_as-requires-2
name_after_as-requires-2 c = can_next (next (bare c.requires (sym c.is_at-is_exported.ensures ∙ c.if-is_exported.false) (sym c.is_at-is_imported.ensures ∙ c.if-is_imported.false)) c.in_ok-bare.ensures)

pub returns-then-is_exported : goal.returns-then-is_exported
returns-then-is_exported c = done (next (exported c.requires (sym c.is_at-is_exported.ensures ∙ c.if-is_exported.true)) c.in_ok-exported.ensures) _ refl (λ k us. refl)

pub returns-then-is_imported : goal.returns-then-is_imported
returns-then-is_imported c = done (next (next (imported c.requires (sym c.is_at-is_imported.ensures ∙ c.if-is_imported.true)) c.in_ok-imported.ensures) c.in_ok-rename.ensures) _ refl (λ k us. refl)

pub returns : goal.returns
returns c = done (next (next (bare c.requires (sym c.is_at-is_exported.ensures ∙ c.if-is_exported.false) (sym c.is_at-is_imported.ensures ∙ c.if-is_imported.false)) c.in_ok-bare.ensures) c.in_ok-name.ensures) _ refl (λ k us. refl)

-- the numbers of tokens, which are at most that of all tokens

pub overflow_add-i : goal.overflow_add-i
overflow_add-i c = let h = upto c.args.source c.args.i c.requires.within in search rules

pub overflow_add-i-then-is_imported : goal.overflow_add-i-then-is_imported
overflow_add-i-then-is_imported c = let h = upto c.args.source c.args.i c.requires.within in search rules
