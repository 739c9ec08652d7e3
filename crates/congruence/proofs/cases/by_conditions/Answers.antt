use Rattle.std.proofs.Common.{[], ◌∷◌}
use Rattle.trees.specs.Node.{tree_at}
use Rattle.evidence.proofs.Formulas.{none_formulas, one_formula}
use Rattle.evidence.specs.declared.proof_scripts.line.Places.TheVariants as places
use Rattle.evidence.specs.declared.proof_scripts.line.Line.TheVariants as line
use Rattle.congruence.proofs.PlainScripts.{held_lines, conditions_follow}
use Rattle.congruence.proofs.cases.by_conditions.Goals as goal

pub derive-requires : goal.derive-requires
derive-requires c =
    let d = c.args.draft.now in
    let r = c.requires in
    let k = c.args.conditions in
    record {
      front = none_formulas d;
      tail = one_formula d c.args.goal r.goal;
      lines = held_lines d (line.Cut c.args.left ∷ line.Cut c.args.right ∷ line.Kept c.args.yes (places.Three 0 1 2) ∷ line.Kept k.there (places.Two 1 2) ∷ line.Cut c.args.right ∷ line.Kept k.back (places.Two 2 1) ∷ line.Kept c.args.no (places.Three 0 1 2) ∷ []) (r.left, (r.right, (tt, (tt, (r.right, (tt, (tt, tt)))))));
      follow = conditions_follow d (tree_at d.trees c.args.goal) (tree_at d.trees c.args.left) (tree_at d.trees c.args.right) k.there k.back c.args.yes c.args.no r.conditions r.yes r.no;
    }

pub returns : goal.returns
returns c = record { refutes = c.derive.ensures.refutes; grows = c.derive.ensures.grows }
