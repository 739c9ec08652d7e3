use Rattle.std.proofs.Common.{◌∙◌, [], ◌∷◌}
use Rattle.trees.specs.Node.{tree_at}
use Rattle.evidence.proofs.Formulas.{none_formulas}
use Rattle.trees.specs.declared.Op.TheVariants.{Iff}
use Rattle.evidence.specs.declared.proof_scripts.line.Places.TheVariants as places
use Rattle.evidence.specs.declared.proof_scripts.line.Line.TheVariants as line
use Rattle.congruence.proofs.CaseParts.{part_formula}
use Rattle.congruence.proofs.PlainScripts.{held_lines, three_formulas, cases_follow}
use Rattle.congruence.proofs.cases.under_cases.Goals as goal

pub derive-requires : goal.derive-requires
derive-requires c =
    let d = c.args.draft.now in
    let r = c.requires in
    let a = c.args.left in
    let b = c.args.right in
    let t = d.trees in
    record {
      front = none_formulas d;
      tail = three_formulas d c.args.goal a.hypothesis b.hypothesis r.goal r.left.hypothesis r.right.hypothesis;
      lines = held_lines d (line.Failing Iff 0 ∷ line.Cut b.part ∷ line.Kept c.args.second.back (places.Three 2 5 4) ∷ line.Kept c.args.first.there (places.Three 1 3 5) ∷ line.Cut a.part ∷ line.Kept c.args.first.back (places.Three 1 5 3) ∷ line.Kept c.args.second.there (places.Three 2 4 5) ∷ []) (tt, ((part_formula d b.whole b.part r.right.pair (r.sides.sort ∙ r.formula)), (tt, (tt, ((part_formula d a.whole a.part r.left.pair r.formula), (tt, (tt, tt)))))));
      follow = cases_follow d (tree_at t c.args.goal) (tree_at t a.hypothesis) (tree_at t b.hypothesis) (tree_at t a.whole) (tree_at t b.whole) (tree_at t a.part) (tree_at t b.part) c.args.first.there c.args.first.back c.args.second.there c.args.second.back r.goal_is r.first.there r.first.back r.second.there r.second.back;
    }

pub returns : goal.returns
returns c = record { refutes = c.derive.ensures.refutes; grows = c.derive.ensures.grows }
