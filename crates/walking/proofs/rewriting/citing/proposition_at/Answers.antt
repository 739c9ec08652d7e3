use Rattle.std.proofs.Common.{List, sym, subst}
use Rattle.tasks.specs.trees.Tree.{Tree}
use Rattle.tasks.specs.Meaning.{TaskHeld}
use Rattle.walking.proofs.rewriting.Facts.{hold_types, made_at}
use Rattle.walking.proofs.rewriting.citing.proposition_at.Goals as goal

pub nth_proposition-requires : goal.nth_proposition-requires
nth_proposition-requires c = subst (λ (s : List Tree). TaskHeld s c.args.from.now) (sym c.store.ensures) c.requires.own.held

pub instance_at-requires-clause-types : goal.instance_at-requires-clause-types
instance_at-requires-clause-types c = hold_types c.args.draft.now.task c.args.draft.now.trees c.args.types.now c.requires.types_held c.requires.proposition.ground

pub returns-clause-made : goal.returns-clause-made
returns-clause-made c =
    let m = c.in_ok-made-in-Some in
    made_at c.args.draft.now c.instance_at.new.g m.ensures.grows c.args.from.now c.requires.own c.args.number c.args.types.now c.requires.proposition c.in-Some.said (rw c.store.ensures at c.in-Some.ensures.tree) m.made m.ensures.held m.ensures.tree m.ensures.keeps
