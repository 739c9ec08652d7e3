use Rattle.std.proofs.Common.{◌≡◌, ◌++◌, [], ℕ, List, All, sym, ap, subst, ◌∙◌}
use Rattle.tasks.proofs.trees.Nodes.{Grows_refl}
use Rattle.tasks.specs.Meaning.{symbols_at}
use Rattle.clones.specs.declared.clone_elements.replacements.TypeFor.{TypeFor}
use Rattle.clones.specs.clone_elements.Replacements.{tried_map, symbols_replaced}
use Rattle.clones.specs.clone_elements.Origins.{origin_at}
use Rattle.clones.specs.clone_elements.Meaning.{sides_at, type_pairs_at, symbol_pairs, TypeForHeld, IsElementRefused}
use Rattle.clones.proofs.clone_elements.Looked.{empty_effects}
use Rattle.clones.proofs.clone_elements.Growing.{types_for_stay, types_for_grow}
use Rattle.clones.proofs.clone_elements.Compared.{err_passed}
use Rattle.clones.proofs.clone_elements.elements.make_replacement.Goals as goal
use Rattle.tasks.proofs.outside.Passed.{no_ok, no_value}

pub find_effects-requires-clause-signature : goal.find_effects-requires-clause-signature
find_effects-requires-clause-signature c = c.requires.signature

pub find_effects-requires-clause-decls : goal.find_effects-requires-clause-decls
find_effects-requires-clause-decls c = c.requires.decls

pub find_effects-requires-clause-held : goal.find_effects-requires-clause-held
find_effects-requires-clause-held c = subst (λ (z : List TypeFor). All (TypeForHeld c.args.store.now) z) (sym c.as_slice.ensures.value) (c.in_ok-types.ensures.held c.args.store.now c.requires.sides)

pub find_effects-requires-clause-types : goal.find_effects-requires-clause-types
find_effects-requires-clause-types c = ap (type_pairs_at c.args.store.now) c.as_slice.ensures.value ∙ c.in_ok-types.ensures.types c.args.store.now

pub find_effects-requires-clause-sides : goal.find_effects-requires-clause-sides
find_effects-requires-clause-sides c = c.requires.sides

pub returns-in_err-find_effects-clause-err : goal.returns-in_err-find_effects-clause-err
returns-in_err-find_effects-clause-err c =
    let s = c.args.store.now in
    let symbols = symbols_at s c.args.sig.now.symbols in
    let o = origin_at s c.args.source.now in
    let xs = sides_at s c.args.sides.now in
    err_passed (IsElementRefused symbols o (tried_map symbols o xs) xs) c.from_residual-in_err-find_effects.result c.in_err-find_effects.field-0.0 c.from_residual-in_err-find_effects.ensures.1 c.in_err-find_effects.ensures.err

pub returns-in_err-find_effects-clause-grows : goal.returns-in_err-find_effects-clause-grows
returns-in_err-find_effects-clause-grows c = c.find_effects.ensures.grows

pub returns-clause-right : goal.returns-clause-right
returns-clause-right c = c.in_ok-find_effects.ensures.right

pub returns-clause-replacement : goal.returns-clause-replacement
returns-clause-replacement c =
    let s = c.args.store.now in
    let s2 = c.find_effects.new.store in
    let w = c.find_effects.ensures.grows in
    let held = c.in_ok-types.ensures.held s c.requires.sides in
    let ids = c.in_ok-types.types.items in
    let o = origin_at s c.args.source.now in
    let none : symbol_pairs c.new-symbols.result.items ≡ [] = ap symbol_pairs c.new-symbols.ensures.items in
    record {
      types = types_for_stay s s2 w ids held ∙ c.in_ok-types.ensures.types s;
      held = types_for_grow s s2 w ids held;
      symbols = c.in_ok-push_symbols.ensures s ∙ ap (λ (z : List (ℕ × ℕ)). z ++ symbols_replaced o (sides_at s c.args.sides.now)) none;
      effects = c.in_ok-find_effects.ensures.effects;
      all = c.has_all.ensures s;
    }

pub returns-clause-grows : goal.returns-clause-grows
returns-clause-grows c = c.find_effects.ensures.grows

pub returns-in_err-types-clause-right : goal.returns-in_err-types-clause-right
returns-in_err-types-clause-right c = no_ok _ _ c.from_residual.result c.from_residual.ensures.1

pub returns-in_err-types-clause-replacement : goal.returns-in_err-types-clause-replacement
returns-in_err-types-clause-replacement c = no_value _ _ c.from_residual.result c.from_residual.ensures.1

pub returns-in_err-push_symbols-clause-right : goal.returns-in_err-push_symbols-clause-right
returns-in_err-push_symbols-clause-right c = no_ok _ _ c.from_residual-in_err-push_symbols.result c.from_residual-in_err-push_symbols.ensures.1

pub returns-in_err-push_symbols-clause-replacement : goal.returns-in_err-push_symbols-clause-replacement
returns-in_err-push_symbols-clause-replacement c = no_value _ _ c.from_residual-in_err-push_symbols.result c.from_residual-in_err-push_symbols.ensures.1

pub returns-in_err-find_effects-clause-right : goal.returns-in_err-find_effects-clause-right
returns-in_err-find_effects-clause-right c = no_ok _ _ c.from_residual-in_err-find_effects.result c.from_residual-in_err-find_effects.ensures.1

pub returns-in_err-find_effects-clause-replacement : goal.returns-in_err-find_effects-clause-replacement
returns-in_err-find_effects-clause-replacement c = no_value _ _ c.from_residual-in_err-find_effects.result c.from_residual-in_err-find_effects.ensures.1

pub returns-in_err-types-clause-grows : goal.returns-in_err-types-clause-grows
returns-in_err-types-clause-grows c = Grows_refl c.args.store.now

pub returns-in_err-push_symbols-clause-grows : goal.returns-in_err-push_symbols-clause-grows
returns-in_err-push_symbols-clause-grows c = Grows_refl c.args.store.now

pub returns-clause-err : goal.returns-clause-err
returns-clause-err c = tt

pub find_effects-requires-clause-none : goal.find_effects-requires-clause-none
find_effects-requires-clause-none c = empty_effects c.new-effects.result c.new-effects.ensures.empty
