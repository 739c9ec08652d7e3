use Rattle.std.proofs.Common.{List, [], ◌∷◌, sym, subst, ◌∙◌}
use Rattle.trees.specs.Node.{tree_at}
use Rattle.tasks.specs.Task.{neg}
use Rattle.rules.specs.Forms.{alike}
use Rattle.evidence.specs.declared.proof_scripts.line.Line.{Line}
use Rattle.evidence.specs.proof_scripts.Scripts.{LinesHeld, Follows, lines_at}
use Rattle.tr_simplify.proofs.Evidence.{joined_law, law_held}
use Rattle.tr_simplify.proofs.evidence_of_laws.alike_join.Goals as goal

pub alike_by_lines-requires : goal.alike_by_lines-requires
alike_by_lines-requires c =
    let d0 = c.args.draft.now in
    let k = c.constant_of-first.result in
    let l = c.constant_of-second.result in
    let left = tree_at d0.trees c.args.left in
    let right = tree_at d0.trees c.args.right in
    let items = c.deref.ensures.value ∙ c.in_ok-lines.ensures in
    record {
      pair = c.requires.pair;
      held = λ d x. subst (λ (ls : List Line). LinesHeld d ls) (sym items) (law_held d c.args.op k l);
      follow = λ d x. subst (λ (ls : List Line). Follows d [] (lines_at d.trees ls) ((neg (alike left right) ∷ []) ∷ [])) (sym items)
          (joined_law d c.args.op k l (tree_at d0.trees c.args.a) (tree_at d0.trees c.args.b) left right c.requires.node c.requires.is c.constant_of-first.ensures c.constant_of-second.ensures (λ n. c.in_default.not-Stays (c.law_for.ensures ∙ n)));
    }
