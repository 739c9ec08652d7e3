use Rattle.std.proofs.Common.{sym, subst, ap, ◌∙◌}
use Rattle.tasks.specs.Meaning.{trees_at}
use Rattle.tasks.specs.trees.Node.{tree_at}
use Rattle.trees.specs.binders.Visits.{HoldTypes}
use Rattle.tr_discriminate.proofs.Searching.{hold_set, noted_set, noted_other}
use Rattle.tr_discriminate.proofs.types.note_type.Goals as goal

pub returns-in-Kind-clause-types : goal.returns-in-Kind-clause-types
returns-in-Kind-clause-types c = subst (HoldTypes c.args.store.now) (sym c.put_type.ensures) (hold_set c.args.store.now c.args.types.now.items c.args.number c.args.e c.requires.e_held (sym c.in-Kind.ensures) c.requires.types)

pub returns-in-Kind-clause-found : goal.returns-in-Kind-clause-found
returns-in-Kind-clause-found c = ap (trees_at c.args.store.now) c.put_type.ensures ∙ noted_set c.args.store.now c.args.types.now.items c.args.number c.args.e (sym c.in-Kind.ensures)

pub returns-in_default-clause-found : goal.returns-in_default-clause-found
returns-in_default-clause-found c =
    let s = c.args.store.now in
    sym (noted_other c.args.number (tree_at s c.args.e) (trees_at s c.args.types.now.items) (λ q. c.in_default.not-Kind (c.sort.ensures ∙ q)))
