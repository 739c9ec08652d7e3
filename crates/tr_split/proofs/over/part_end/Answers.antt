use Rattle.std.proofs.Common.{subst, List, [], ◌∷◌, ◌++◌, sym, ap, ◌∙◌, append_assoc}
use Rattle.tasks.specs.Meaning.{trees_at}
use Rattle.tr_split.specs.declared.over.Over.{Over}
use Rattle.tr_split.specs.Over.{PartOf, whole_of, OverHeld}
use Rattle.std.proofs.lemmas.List.{append-nil}
use Rattle.std.proofs.lemmas.Result.{IfOk-weaker}
use Rattle.tasks.specs.trees.Tree.{Tree}
use Rattle.tasks.specs.trees.Node.{tree_at}
use Rattle.tasks.specs.trees.Binding.{inst}
use Rattle.tasks.specs.Task.{neg}
use Rattle.tr_split.proofs.over.part_end.Goals as goal

pub part_under-requires-clause-front : goal.part_under-requires-clause-front
part_under-requires-clause-front c = c.requires.front

pub returns-in-Hypothesis-clause-grows : goal.returns-in-Hypothesis-clause-grows
returns-in-Hypothesis-clause-grows c = c.part_under.ensures.grows

pub part_opened-requires-clause-front : goal.part_opened-requires-clause-front
part_opened-requires-clause-front c = c.requires.front

pub returns-in-Universal-clause-grows : goal.returns-in-Universal-clause-grows
returns-in-Universal-clause-grows c = c.part_opened.ensures.grows

pub part_valued-requires-clause-front : goal.part_valued-requires-clause-front
part_valued-requires-clause-front c = c.requires.front

pub returns-in-Value-clause-grows : goal.returns-in-Value-clause-grows
returns-in-Value-clause-grows c = c.part_valued.ensures.grows

pub part_under-requires-clause-hypothesis : goal.part_under-requires-clause-hypothesis
part_under-requires-clause-hypothesis c = subst (OverHeld c.args.draft.now) c.in-Hypothesis.is c.requires.over

pub part_under-requires-clause-end : goal.part_under-requires-clause-end
part_under-requires-clause-end c =
    let d = c.args.draft.now in
    subst (λ (o : Over). PartOf d c.args.end (trees_at d.trees c.args.front.now) (whole_of d.trees o)) c.in-Hypothesis.is c.requires.end

pub part_opened-requires-clause-end : goal.part_opened-requires-clause-end
part_opened-requires-clause-end c =
    let d = c.args.draft.now in
    record {
      ty = tree_at d.trees c.in-Universal.field-0;
      term = (subst (OverHeld d) c.in-Universal.is c.requires.over).1;
      end = subst (λ (o : Over). PartOf d c.args.end (trees_at d.trees c.args.front.now) (whole_of d.trees o)) c.in-Universal.is c.requires.end;
    }

pub part_valued-requires-clause-value : goal.part_valued-requires-clause-value
part_valued-requires-clause-value c = subst (OverHeld c.args.draft.now) c.in-Value.is c.requires.over

pub part_valued-requires-clause-end : goal.part_valued-requires-clause-end
part_valued-requires-clause-end c =
    let d = c.args.draft.now in
    subst (λ (o : Over). PartOf d c.args.end (trees_at d.trees c.args.front.now) (whole_of d.trees o)) c.in-Value.is c.requires.end

pub returns-in-Hypothesis-clause-refutes : goal.returns-in-Hypothesis-clause-refutes
returns-in-Hypothesis-clause-refutes c =
    let d = c.args.draft.now in
    let F = trees_at d.trees c.args.front.now in
    let h = tree_at d.trees c.in-Hypothesis.hypothesis in
    rw c.in-Hypothesis.is (IfOk-weaker c.part_under.result _ _ (λ k f part r.
    let q = f part r in
    record { within = q.within; is = q.is ∙ sym (append_assoc F (h ∷ []) (neg part ∷ [])) }) c.part_under.ensures.refutes)

pub returns-in-Universal-clause-refutes : goal.returns-in-Universal-clause-refutes
returns-in-Universal-clause-refutes c =
    let d = c.args.draft.now in
    let F = trees_at d.trees c.args.front.now in
    let t = tree_at d.trees c.in-Universal.term in
    rw c.in-Universal.is (IfOk-weaker c.part_opened.result _ _ (λ k f part r.
    let q = f (tree_at d.trees c.in-Universal.field-0) part r in
    record { within = q.within; is = q.is ∙ ap (λ (z : List Tree). z ++ neg (inst part t) ∷ []) (sym (append-nil F)) }) c.part_opened.ensures.refutes)

pub returns-in-Value-clause-refutes : goal.returns-in-Value-clause-refutes
returns-in-Value-clause-refutes c =
    let d = c.args.draft.now in
    let F = trees_at d.trees c.args.front.now in
    let t = tree_at d.trees c.in-Value.value in
    rw c.in-Value.is (IfOk-weaker c.part_valued.result _ _ (λ k f part r.
    let q = f part r in
    record { within = q.within; is = q.is ∙ ap (λ (z : List Tree). z ++ neg (inst part t) ∷ []) (sym (append-nil F)) }) c.part_valued.ensures.refutes)
