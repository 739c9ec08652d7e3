use Rattle.std.proofs.Common.{sym, ap, subst, ◌∙◌}
use Rattle.elab_groups.specs.scopes.declared.Referent.TheVariants.{Alias}
use Rattle.name_resolution.specs.Naming.{meaning_at}
use Rattle.open_types.specs.Drafts.{MeaningHeld}
use Rattle.clones.proofs.clone_copies.moves.map_alias.Goals as goal
use Rattle.tasks.proofs.outside.Passed.{no_ok, no_value}

pub returns-clause-is : goal.returns-clause-is
returns-clause-is c = ap (meaning_at c.map_tree.new.store) c.alias_of.ensures ∙ ap (Alias c.args.vars) c.in_ok-made.ensures.mapped.is

pub returns-clause-result_held : goal.returns-clause-result_held
returns-clause-result_held c =
    let it = c.in_ok-made.ensures.mapped in
    subst (MeaningHeld c.map_tree.new.store) (sym c.alias_of.ensures) (record { held = it.held; kind = it.alike.sort ∙ c.requires.held.kind })

pub returns-in_err-made-clause-is : goal.returns-in_err-made-clause-is
returns-in_err-made-clause-is c = no_value _ _ c.from_residual.result c.from_residual.ensures.1

pub returns-in_err-made-clause-result_held : goal.returns-in_err-made-clause-result_held
returns-in_err-made-clause-result_held c = no_value _ _ c.from_residual.result c.from_residual.ensures.1

pub returns-in_err-made-clause-known : goal.returns-in_err-made-clause-known
returns-in_err-made-clause-known c = no_ok _ _ c.from_residual.result c.from_residual.ensures.1

pub map_tree-requires-clause-map_held : goal.map_tree-requires-clause-map_held
map_tree-requires-clause-map_held c = c.requires.map_held

pub map_tree-requires-clause-known : goal.map_tree-requires-clause-known
map_tree-requires-clause-known c = c.requires.known

pub map_tree-requires-clause-held : goal.map_tree-requires-clause-held
map_tree-requires-clause-held c = c.requires.held.held

pub returns-in_err-made-clause-grows : goal.returns-in_err-made-clause-grows
returns-in_err-made-clause-grows c = c.map_tree.ensures.grows

pub returns-clause-known : goal.returns-clause-known
returns-clause-known c = c.in_ok-made.ensures.known

pub returns-clause-grows : goal.returns-clause-grows
returns-clause-grows c = c.map_tree.ensures.grows
