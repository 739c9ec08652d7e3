use Rattle.std.proofs.Common.{◌≡◌, nat_eq, Option, Some, sym, ap, subst, ◌∙◌}
use Rattle.std.specs.Option.{option_map}
use Rattle.indexmap.specs.IndexMap.{get}
use Rattle.tasks.specs.trees.declared.TermId.{TermId}
use Rattle.tasks.specs.trees.Node.{tree_at}
use Rattle.name_resolution.specs.Naming.{meaning_at}
use Rattle.open_types.specs.Drafts.{MeaningHeld}
use Rattle.clones.specs.Meaning.{map_at}
use Rattle.clones.specs.clone_copies.Moves.{type_symbol_mapped}
use Rattle.clones.proofs.clone_copies.moves.map_type_symbol.Goals as goal

pub returns-in-Some-clause-is : goal.returns-in-Some-clause-is
returns-in-Some-clause-is c =
    let s = c.args.store.now in
    let mo = c.args.morphism.now in
    let there : Some c.in-Some.ty.now ≡ get nat_eq mo.types c.args.symbol = c.in-Some.ensures.value in
    ap (meaning_at s) c.alias_of.ensures ∙ ap (λ (o : Option TermId). type_symbol_mapped c.args.vars (option_map (tree_at s) o) ((map_at s mo).symbols c.args.symbol)) there

pub returns-in-Some-clause-result_held : goal.returns-in-Some-clause-result_held
returns-in-Some-clause-result_held c =
    let held = c.requires.types c.args.symbol c.in-Some.ty.now (sym c.in-Some.ensures.value) in
    subst (MeaningHeld c.args.store.now) (sym c.alias_of.ensures) (record { held = held.0; kind = held.1 })
