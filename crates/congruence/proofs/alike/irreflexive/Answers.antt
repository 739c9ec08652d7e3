use Rattle.std.proofs.Common.{[], ◌∷◌}
use Rattle.trees.specs.Node.{tree_at}
use Rattle.evidence.proofs.Formulas.{none_formulas, one_formula}
use Rattle.evidence.specs.declared.proof_scripts.line.Word.TheVariants as word
use Rattle.evidence.specs.declared.proof_scripts.line.Line.TheVariants as line
use Rattle.congruence.proofs.PlainScripts.{held_lines, irreflexive_follows}
use Rattle.congruence.proofs.alike.irreflexive.Goals as goal

pub derive-requires : goal.derive-requires
derive-requires c =
    let d = c.args.draft.now in
    let r = c.requires in
    record {
      front = none_formulas d;
      tail = one_formula d c.args.formula r.formula;
      lines = held_lines d (line.Rule (word.Irrefl 0) ∷ []) ((tt, tt), tt);
      follow = irreflexive_follows d (tree_at d.trees c.args.formula) r.same.0 r.same.1;
    }

pub returns : goal.returns
returns c = record { refutes = c.derive.ensures.refutes; grows = c.derive.ensures.grows }
