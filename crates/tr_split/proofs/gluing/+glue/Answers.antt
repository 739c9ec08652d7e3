use Rattle.std.proofs.Common.{◌≡◌, ◌∙◌, ◌++◌, ◌∷◌, [], ℕ, suc, ◌+◌, List, length, min, map, refl, sym, ap, subst, arith}
use Rattle.std.proofs.lemmas.List.{length-append}
use Rattle.tasks.specs.trees.declared.Op.TheVariants.{And, AndThen, Imp, Iff}
use Rattle.tasks.specs.trees.Tree.{Tree, Leaf, Two, Three, HTrue, HJoin, HIf, HForall, HLet}
use Rattle.tasks.specs.trees.Binding.{Param}
use Rattle.tasks.specs.trees.Node.{tree_at}
use Rattle.tasks.specs.Task.{TaskTree, neg}
use Rattle.tasks.specs.Valid.{IsGroundFormula}
use Rattle.tasks.specs.Meaning.{trees_at}
use Rattle.kernel.specs.rules.Forms.{join}
use Rattle.kernel.specs.rules.Rows.{IsNew}
use Rattle.evidence.specs.Drafts.{Extends}
use Rattle.evidence.proofs.Typed.{as_expression}
use Rattle.evidence.specs.Laws.{Extends_trans, AddsTrees_extends, AddsTrees_refl, AddsTrees_trans}
use Rattle.evidence.proofs.Formulas.{same, formulas_later, formula_later}
use Rattle.evidence.specs.declared.proof_scripts.line.Line.TheVariants as line
use Rattle.evidence.specs.declared.proof_scripts.line.Word.TheVariants as word
use Rattle.tr_split.specs.parts.Split.{imp, split}
use Rattle.tr_split.specs.parts.Glue.{EndsOfParts}
use Rattle.tr_split.proofs.parts.Gained.{split_later}
use Rattle.tr_split.proofs.parts.Pieces.{sides_of, ends_later, ends_right, count_is}
use Rattle.tr_split.specs.Goals.{AreParamsBelow, splits}
use Rattle.tr_split.proofs.Values.{left_below, joined_below, same_parts, opened_splits, valued_splits, then_below, else_below}
use Rattle.tr_split.proofs.Glued.{lines_held, glued_none, glued_before, end_trees, regroup_back, opened_can}
use Rattle.tr_split.proofs.Scripts.{true_follows, and_follows, and_then_follows, imp_follows, forall_at, let_at, if_at}
use Rattle.evidence.proofs.task_parts.Opened.{premise_below, below_later, new_below}
use Rattle.evidence.proofs.Ends.{neg_back, wider_formulas, wider_is}
use Rattle.tr_split.proofs.gluing.+glue.Goals as goal
use Rattle.tasks.proofs.outside.Passed.{no_value}

-- ---- `true`
pub glue_goal-refute_goal-requires-clause-front : goal.glue_goal-refute_goal-requires-clause-front
glue_goal-refute_goal-requires-clause-front t c = c.requires.can.front

pub glue_goal-refute_goal-requires-clause-goal : goal.glue_goal-refute_goal-requires-clause-goal
glue_goal-refute_goal-requires-clause-goal t c = c.requires.can.goal

pub glue_goal-refute_goal-requires-clause-lines : goal.glue_goal-refute_goal-requires-clause-lines
glue_goal-refute_goal-requires-clause-lines t c = lines_held c.args.draft.now (line.Rule (word.NotTrue 0) ∷ []) ((tt, tt), tt)

pub glue_goal-refute_goal-requires-clause-follow : goal.glue_goal-refute_goal-requires-clause-follow
glue_goal-refute_goal-requires-clause-follow t c =
    let d = c.args.draft.now in
    let e : tree_at d.trees c.args.goal ≡ Leaf HTrue = rw c.store.ensures at c.in-True.ensures.tree in
    rw e (true_follows d (trees_at d.trees c.args.front.now))

pub glue_goal-returns-in-True-clause-refutes : goal.glue_goal-returns-in-True-clause-refutes
glue_goal-returns-in-True-clause-refutes t c = c.refute_goal.ensures.refutes

pub glue_goal-returns-in-True-clause-grows : goal.glue_goal-returns-in-True-clause-grows
glue_goal-returns-in-True-clause-grows t c = c.refute_goal.ensures.grows

pub glue_goal-node-requires : goal.glue_goal-node-requires
glue_goal-node-requires t c = rw c.store.ensures c.requires.can.goal.held

pub glue_goal-returns-in-Join-clause-refutes : goal.glue_goal-returns-in-Join-clause-refutes
glue_goal-returns-in-Join-clause-refutes t c = c.glue_joined.ensures.refutes

pub glue_goal-returns-in-Join-clause-grows : goal.glue_goal-returns-in-Join-clause-grows
glue_goal-returns-in-Join-clause-grows t c = c.glue_joined.ensures.grows

pub glue_goal-returns-in-Forall-clause-refutes : goal.glue_goal-returns-in-Forall-clause-refutes
glue_goal-returns-in-Forall-clause-refutes t c = c.glue_forall.ensures.refutes

pub glue_goal-returns-in-Forall-clause-grows : goal.glue_goal-returns-in-Forall-clause-grows
glue_goal-returns-in-Forall-clause-grows t c = c.glue_forall.ensures.grows

pub glue_goal-returns-in-Let-clause-refutes : goal.glue_goal-returns-in-Let-clause-refutes
glue_goal-returns-in-Let-clause-refutes t c = c.glue_let.ensures.refutes

pub glue_goal-returns-in-Let-clause-grows : goal.glue_goal-returns-in-Let-clause-grows
glue_goal-returns-in-Let-clause-grows t c = c.glue_let.ensures.grows

pub glue_goal-returns-in-If-clause-refutes : goal.glue_goal-returns-in-If-clause-refutes
glue_goal-returns-in-If-clause-refutes t c = c.glue_if.ensures.refutes

pub glue_goal-returns-in-If-clause-grows : goal.glue_goal-returns-in-If-clause-grows
glue_goal-returns-in-If-clause-grows t c = c.glue_if.ensures.grows

pub glue_joined-returns-in-And-clause-refutes : goal.glue_joined-returns-in-And-clause-refutes
glue_joined-returns-in-And-clause-refutes t c = c.glue_and.ensures.refutes

pub glue_joined-returns-in-And-clause-grows : goal.glue_joined-returns-in-And-clause-grows
glue_joined-returns-in-And-clause-grows t c = c.glue_and.ensures.grows

pub glue_joined-returns-in-AndThen-clause-refutes : goal.glue_joined-returns-in-AndThen-clause-refutes
glue_joined-returns-in-AndThen-clause-refutes t c = c.glue_and_then.ensures.refutes

pub glue_joined-returns-in-AndThen-clause-grows : goal.glue_joined-returns-in-AndThen-clause-grows
glue_joined-returns-in-AndThen-clause-grows t c = c.glue_and_then.ensures.grows

pub glue_joined-returns-in-Imp-clause-refutes : goal.glue_joined-returns-in-Imp-clause-refutes
glue_joined-returns-in-Imp-clause-refutes t c = c.glue_imp.ensures.refutes

pub glue_joined-returns-in-Imp-clause-grows : goal.glue_joined-returns-in-Imp-clause-grows
glue_joined-returns-in-Imp-clause-grows t c = c.glue_imp.ensures.grows

pub glue_joined-returns-in-Iff-clause-refutes : goal.glue_joined-returns-in-Iff-clause-refutes
glue_joined-returns-in-Iff-clause-refutes t c = c.glue_iff.ensures.refutes

pub glue_joined-returns-in-Iff-clause-grows : goal.glue_joined-returns-in-Iff-clause-grows
glue_joined-returns-in-Iff-clause-grows t c = c.glue_iff.ensures.grows

pub glue_goal-returns-in_default-clause-grows : goal.glue_goal-returns-in_default-clause-grows
glue_goal-returns-in_default-clause-grows t c = AddsTrees_extends _ _ (AddsTrees_refl _)

pub glue_joined-returns-in-Or-clause-grows : goal.glue_joined-returns-in-Or-clause-grows
glue_joined-returns-in-Or-clause-grows t c = AddsTrees_extends _ _ (AddsTrees_refl _)

pub glue_joined-glue_iff-requires-clause-front : goal.glue_joined-glue_iff-requires-clause-front
glue_joined-glue_iff-requires-clause-front t c = c.requires.can.front

pub glue_joined-glue_iff-requires-clause-goal : goal.glue_joined-glue_iff-requires-clause-goal
glue_joined-glue_iff-requires-clause-goal t c = c.requires.can.goal

pub glue_joined-glue_iff-requires-clause-ends : goal.glue_joined-glue_iff-requires-clause-ends
glue_joined-glue_iff-requires-clause-ends t c = c.requires.can.ends

-- ---- a conjunction
pub glue_and-refute_goal-requires-clause-front : goal.glue_and-refute_goal-requires-clause-front
glue_and-refute_goal-requires-clause-front t c =
    let d = c.args.draft.now in
    let d1 = c.glue_two.new.draft in
    let x = c.in_ok-left.ensures.grows in
    formulas_later d d1 x c.args.front.now c.requires.can.front

pub glue_and-refute_goal-requires-clause-goal : goal.glue_and-refute_goal-requires-clause-goal
glue_and-refute_goal-requires-clause-goal t c =
    let d = c.args.draft.now in
    let d1 = c.glue_two.new.draft in
    let x = c.in_ok-left.ensures.grows in
    formula_later d d1 x c.args.goal c.requires.can.goal

pub glue_and-refute_goal-requires-clause-lines : goal.glue_and-refute_goal-requires-clause-lines
glue_and-refute_goal-requires-clause-lines t c =
    let d1 = c.glue_two.new.draft in
    lines_held d1 (line.Failing And 0 ∷ line.Given c.in_ok-left.left 1 ∷ line.Given c.in_ok-left.right 1 ∷ []) (tt, (tt, (tt, tt)))

pub glue_and-refute_goal-requires-clause-follow : goal.glue_and-refute_goal-requires-clause-follow
glue_and-refute_goal-requires-clause-follow t c =
    let d = c.args.draft.now in
    let d1 = c.glue_two.new.draft in
    let x = c.in_ok-left.ensures.grows in
    let j = c.requires.joins in
    let e : tree_at d1.trees c.args.goal ≡ join And (tree_at d.trees c.args.pair.left) (tree_at d.trees c.args.pair.right) = x.trees.same c.args.goal.0 c.requires.can.goal.held ∙ j.tree in
    let f = sym (same d d1 x c.args.front.now c.requires.can.front) in
    let l = end_trees d1 c.in_ok-left.left f refl c.in_ok-left.ensures.left in
    let r = end_trees d1 c.in_ok-left.right f refl c.in_ok-left.ensures.right in
    rw e (and_follows d1 (trees_at d1.trees c.args.front.now) (tree_at d.trees c.args.pair.left) (tree_at d.trees c.args.pair.right) c.in_ok-left.left c.in_ok-left.right l r)

pub glue_and-returns : goal.glue_and-returns
glue_and-returns t c =
    let d = c.args.draft.now in
    let d1 = c.glue_two.new.draft in
    let x = c.in_ok-left.ensures.grows in
    glued_before d d1 x c.args.front.now c.requires.can.front c.args.goal c.requires.can.goal c.refute_goal.new.draft c.refute_goal.result c.refute_goal.ensures

pub glue_and-returns-in_err-left : goal.glue_and-returns-in_err-left
glue_and-returns-in_err-left t c = glued_none _ _ _ _ c.from_residual.result _ (c.glue_two.ensures.grows) c.from_residual.ensures.1

-- ---- two formulas
pub glue_two-glue_goal-requires-2 : goal.glue_two-glue_goal-requires-2
glue_two-glue_goal-requires-2 t c =
    let d = c.args.draft.now in
    let F = c.args.front.now in
    let a = c.args.a in
    let b = c.args.b in
    let xs = split (tree_at d.trees a) in
    let ys = split (tree_at d.trees b) in
    let counted : c.part_count-count.result ≡ min (length xs) 18446744073709551615 = c.part_count-count.ensures ∙ ap (λ (z : List Tree). min (length (split (tree_at z a))) 18446744073709551615) c.store.ensures in
    let n : c.part_count-count.result ≡ length xs = count_is c.part_count-count.result (length xs) (length c.args.ends.now) counted (omega (arith, c.requires.ends.as_many, length-append xs ys)) (omega arith) in
    let d1 = c.glue_goal.new.draft in
    let x = c.in_ok-left.ensures.grows in
    let e : tree_at d1.trees b ≡ tree_at d.trees b = x.trees.same b.0 c.requires.b.held in
    let m : splits (tree_at d1.trees b) ≡ splits (tree_at d.trees b) = ap splits e in
    let second = ends_right d c.args.ends.now c.split_at.result.1.now (trees_at d.trees F) xs ys c.part_count-count.result c.requires.ends c.split_at.ensures.back n in
    let later = ends_later d d1 x F c.requires.front c.split_at.result.1.now ys second in
    let f : trees_at d1.trees F ≡ trees_at d.trees F = same d d1 x F c.requires.front in
    let below : AreParamsBelow (length c.args.params.now) (trees_at d1.trees F) (tree_at d1.trees b) =
    subst (λ (z : List Tree). AreParamsBelow (length c.args.params.now) z (tree_at d1.trees b)) (sym f) (subst (AreParamsBelow (length c.args.params.now) (trees_at d.trees F)) (sym e) c.requires.below_b) in (
      omega (arith, m),
      record {
        front = formulas_later d d1 x F c.requires.front;
        goal = formula_later d d1 x b c.requires.b;
        below = below;
        ends = subst (EndsOfParts d1 c.split_at.result.1.now (trees_at d1.trees F)) (sym (split_later d.trees d1.trees b x.trees c.requires.b.held)) later;
      },
    )

pub glue_two-returns-in_err-right-clause-grows : goal.glue_two-returns-in_err-right-clause-grows
glue_two-returns-in_err-right-clause-grows t c = Extends_trans _ _ _ c.in_ok-left.ensures.grows c.glue_goal-2.ensures.grows

pub glue_two-returns-clause-right : goal.glue_two-returns-clause-right
glue_two-returns-clause-right t c =
    neg_back c.args.draft.now c.glue_goal.new.draft c.in_ok-left.ensures.grows c.args.front.now c.requires.front c.args.b c.requires.b c.glue_goal-2.new.draft c.in_ok-right.right c.in_ok-right.ensures.refutes

pub glue_two-returns-clause-grows : goal.glue_two-returns-clause-grows
glue_two-returns-clause-grows t c = Extends_trans _ _ _ c.in_ok-left.ensures.grows c.in_ok-right.ensures.grows

pub glue_two-returns-in_err-left-clause-grows : goal.glue_two-returns-in_err-left-clause-grows
glue_two-returns-in_err-left-clause-grows t c = c.glue_goal.ensures.grows

pub glue_two-returns-in_err-left-clause-left : goal.glue_two-returns-in_err-left-clause-left
glue_two-returns-in_err-left-clause-left t c = no_value _ _ c.from_residual.result c.from_residual.ensures.1

pub glue_two-returns-in_err-left-clause-right : goal.glue_two-returns-in_err-left-clause-right
glue_two-returns-in_err-left-clause-right t c = no_value _ _ c.from_residual.result c.from_residual.ensures.1

pub glue_two-returns-in_err-right-clause-left : goal.glue_two-returns-in_err-right-clause-left
glue_two-returns-in_err-right-clause-left t c = no_value _ _ c.from_residual-in_err-right.result c.from_residual-in_err-right.ensures.1

pub glue_two-returns-in_err-right-clause-right : goal.glue_two-returns-in_err-right-clause-right
glue_two-returns-in_err-right-clause-right t c = no_value _ _ c.from_residual-in_err-right.result c.from_residual-in_err-right.ensures.1

-- ---- a conjunction by `&&`
pub glue_and_then-refute_goal-requires-clause-front : goal.glue_and_then-refute_goal-requires-clause-front
glue_and_then-refute_goal-requires-clause-front t c =
    let d = c.args.draft.now in
    let d1 = c.connect.new.draft in
    let d2 = c.glue_two.new.draft in
    let x = Extends_trans d d1 d2 (AddsTrees_extends d d1 c.in_ok-implied.ensures.grows) c.in_ok-left.ensures.grows in
    formulas_later d d2 x c.args.front.now c.requires.can.front

pub glue_and_then-refute_goal-requires-clause-goal : goal.glue_and_then-refute_goal-requires-clause-goal
glue_and_then-refute_goal-requires-clause-goal t c =
    let d = c.args.draft.now in
    let d1 = c.connect.new.draft in
    let d2 = c.glue_two.new.draft in
    let x = Extends_trans d d1 d2 (AddsTrees_extends d d1 c.in_ok-implied.ensures.grows) c.in_ok-left.ensures.grows in
    formula_later d d2 x c.args.goal c.requires.can.goal

pub glue_and_then-refute_goal-requires-clause-lines : goal.glue_and_then-refute_goal-requires-clause-lines
glue_and_then-refute_goal-requires-clause-lines t c =
    let d1 = c.connect.new.draft in
    let d2 = c.glue_two.new.draft in
    lines_held d2 (line.Cut c.in_ok-implied.implied ∷ line.Failing AndThen 0 ∷ line.Given c.in_ok-left.left 1 ∷ line.Holding Imp 1 ∷ line.Given c.in_ok-left.left 1 ∷ line.Rule (word.Clash 3 2) ∷ line.Given c.in_ok-left.right 1 ∷ []) (formula_later d1 d2 c.in_ok-left.ensures.grows c.in_ok-implied.implied c.in_ok-implied.ensures.formula, (tt, (tt, (tt, (tt, ((tt, tt), (tt, tt)))))))

pub glue_and_then-refute_goal-requires-clause-follow : goal.glue_and_then-refute_goal-requires-clause-follow
glue_and_then-refute_goal-requires-clause-follow t c =
    let d = c.args.draft.now in
    let d1 = c.connect.new.draft in
    let d2 = c.glue_two.new.draft in
    let x = Extends_trans d d1 d2 (AddsTrees_extends d d1 c.in_ok-implied.ensures.grows) c.in_ok-left.ensures.grows in
    let F = c.args.front.now in
    let j = c.requires.joins in
    let s = sides_of d c.args.goal AndThen c.args.pair.left c.args.pair.right j c.requires.can.goal in
    let A = tree_at d.trees c.args.pair.left in
    let B = tree_at d.trees c.args.pair.right in
    let y = AddsTrees_extends d d1 c.in_ok-implied.ensures.grows in
    let f = same d d1 y F c.requires.can.front ∙ sym (same d d2 x F c.requires.can.front) in
    let e : tree_at d2.trees c.args.goal ≡ join AndThen A B = x.trees.same c.args.goal.0 c.requires.can.goal.held ∙ j.tree in
    let i : tree_at d2.trees c.in_ok-implied.implied ≡ join Imp A B = c.in_ok-left.ensures.grows.trees.same c.in_ok-implied.implied.0 c.in_ok-implied.ensures.formula.held ∙ c.in_ok-implied.ensures.tree in
    let l = end_trees d2 c.in_ok-left.left f (y.trees.same c.args.pair.left.0 s.left.held) c.in_ok-left.ensures.left in
    let r = end_trees d2 c.in_ok-left.right f c.in_ok-implied.ensures.tree c.in_ok-left.ensures.right in
    rw (e, i) (and_then_follows d2 (trees_at d2.trees F) A B c.in_ok-left.left c.in_ok-left.right l r)

pub glue_and_then-returns : goal.glue_and_then-returns
glue_and_then-returns t c =
    let d = c.args.draft.now in
    let d1 = c.connect.new.draft in
    let d2 = c.glue_two.new.draft in
    let x = Extends_trans d d1 d2 (AddsTrees_extends d d1 c.in_ok-implied.ensures.grows) c.in_ok-left.ensures.grows in
    glued_before d d2 x c.args.front.now c.requires.can.front c.args.goal c.requires.can.goal c.refute_goal.new.draft c.refute_goal.result c.refute_goal.ensures

pub glue_and_then-returns-in_err-implied : goal.glue_and_then-returns-in_err-implied
glue_and_then-returns-in_err-implied t c = glued_none _ _ _ _ c.from_residual.result _ (AddsTrees_extends _ _ c.connect.ensures.grows) c.from_residual.ensures.1

pub glue_and_then-returns-in_err-left : goal.glue_and_then-returns-in_err-left
glue_and_then-returns-in_err-left t c = glued_none _ _ _ _ c.from_residual-in_err-left.result _ (Extends_trans _ _ _ (AddsTrees_extends _ _ c.in_ok-implied.ensures.grows) c.glue_two.ensures.grows) c.from_residual-in_err-left.ensures.1

pub glue_and_then-glue_two-requires : goal.glue_and_then-glue_two-requires
glue_and_then-glue_two-requires t c =
    let d = c.args.draft.now in
    let F = c.args.front.now in
    let d1 = c.connect.new.draft in
    let x = AddsTrees_extends d d1 c.in_ok-implied.ensures.grows in
    let j = c.requires.joins in
    let s = sides_of d c.args.goal AndThen c.args.pair.left c.args.pair.right j c.requires.can.goal in
    let A = tree_at d.trees c.args.pair.left in
    let B = tree_at d.trees c.args.pair.right in
    let ea : tree_at d1.trees c.args.pair.left ≡ A = x.trees.same c.args.pair.left.0 s.left.held in
    let ei : tree_at d1.trees c.in_ok-implied.implied ≡ Two (HJoin Imp) A B = c.in_ok-implied.ensures.tree in
    let ma : splits (tree_at d1.trees c.args.pair.left) ≡ splits A = ap splits ea in
    let mi : splits (tree_at d1.trees c.in_ok-implied.implied) ≡ suc (splits B) = ap splits ei in
    let mg : splits (tree_at d.trees c.args.goal) ≡ suc (suc (splits A + splits B)) = ap splits j.tree in
    let l : AreParamsBelow (length c.args.params.now) (trees_at d.trees F) (Two (HJoin AndThen) A B) = subst (AreParamsBelow (length c.args.params.now) (trees_at d.trees F)) j.tree c.requires.can.below in
    let e : EndsOfParts d c.args.ends.now (trees_at d.trees F) (split A ++ map (imp A) (split B)) = subst (EndsOfParts d c.args.ends.now (trees_at d.trees F)) (ap split j.tree) c.requires.can.ends in
    let sa : split (tree_at d1.trees c.args.pair.left) ≡ split A = ap split ea in
    let si : split (tree_at d1.trees c.in_ok-implied.implied) ≡ map (imp A) (split B) = ap split ei in
    let q : split A ++ map (imp A) (split B) ≡ split (tree_at d1.trees c.args.pair.left) ++ split (tree_at d1.trees c.in_ok-implied.implied) = cc (sa, si) in (
      omega (arith, ma, mi, mg),
      (
        formulas_later d d1 x F c.requires.can.front,
        (
          formula_later d d1 x c.args.pair.left s.left,
          (
            c.in_ok-implied.ensures.formula,
            (
              below_later d d1 x F c.requires.can.front (length c.args.params.now) A (tree_at d1.trees c.args.pair.left) ea (left_below (length c.args.params.now) (trees_at d.trees F) AndThen A B l),
              (
                below_later d d1 x F c.requires.can.front (length c.args.params.now) (Two (HJoin Imp) A B) (tree_at d1.trees c.in_ok-implied.implied) ei (joined_below (length c.args.params.now) (trees_at d.trees F) AndThen Imp A B l),
                subst (EndsOfParts d1 c.args.ends.now (trees_at d1.trees F)) q (ends_later d d1 x F c.requires.can.front c.args.ends.now (split A ++ map (imp A) (split B)) e),
              ),
            ),
          ),
        ),
      ),
    )

-- ---- an implication
pub glue_imp-refute_goal-requires-clause-front : goal.glue_imp-refute_goal-requires-clause-front
glue_imp-refute_goal-requires-clause-front t c =
    let d = c.args.draft.now in
    let d1 = c.ends_over.new.draft in
    let d2 = c.glue_goal.new.draft in
    let x = Extends_trans d d1 d2 c.in_ok-made.ensures.grows c.in_ok-step.ensures.grows in
    formulas_later d d2 x c.args.front.now c.requires.can.front

pub glue_imp-refute_goal-requires-clause-goal : goal.glue_imp-refute_goal-requires-clause-goal
glue_imp-refute_goal-requires-clause-goal t c =
    let d = c.args.draft.now in
    let d1 = c.ends_over.new.draft in
    let d2 = c.glue_goal.new.draft in
    let x = Extends_trans d d1 d2 c.in_ok-made.ensures.grows c.in_ok-step.ensures.grows in
    formula_later d d2 x c.args.goal c.requires.can.goal

pub glue_imp-refute_goal-requires-clause-lines : goal.glue_imp-refute_goal-requires-clause-lines
glue_imp-refute_goal-requires-clause-lines t c =
    let d2 = c.glue_goal.new.draft in
    lines_held d2 (line.Failing Imp 0 ∷ line.Given c.in_ok-step.step 2 ∷ []) (tt, (tt, tt))

pub glue_imp-refute_goal-requires-clause-follow : goal.glue_imp-refute_goal-requires-clause-follow
glue_imp-refute_goal-requires-clause-follow t c =
    let d = c.args.draft.now in
    let d1 = c.ends_over.new.draft in
    let d2 = c.glue_goal.new.draft in
    let x = Extends_trans d d1 d2 c.in_ok-made.ensures.grows c.in_ok-step.ensures.grows in
    let F = c.args.front.now in
    let y = c.in_ok-made.ensures.grows in
    let j = c.requires.joins in
    let A = tree_at d.trees c.args.pair.left in
    let B = tree_at d.trees c.args.pair.right in
    let s = sides_of d c.args.goal Imp c.args.pair.left c.args.pair.right j c.requires.can.goal in
    let e : tree_at d2.trees c.args.goal ≡ join Imp A B = x.trees.same c.args.goal.0 c.requires.can.goal.held ∙ j.tree in
    let w = wider_is d d1 y F c.deref.result.now c.args.pair.left (c.deref.ensures.value ∙ c.in_ok-wider.ensures) c.requires.can.front s.left in
    let f = sym (same d d2 x F c.requires.can.front) in
    let r = regroup_back d2 c.in_ok-step.step (trees_at d2.trees F) A B (end_trees d2 c.in_ok-step.step (w ∙ ap (λ (z : List Tree). z ++ A ∷ []) f) (y.trees.same c.args.pair.right.0 s.right.held) c.in_ok-step.ensures.refutes) in
    rw e (imp_follows d2 (trees_at d2.trees F) A B c.in_ok-step.step r)

pub glue_imp-returns : goal.glue_imp-returns
glue_imp-returns t c =
    let d = c.args.draft.now in
    let d1 = c.ends_over.new.draft in
    let d2 = c.glue_goal.new.draft in
    let x = Extends_trans d d1 d2 c.in_ok-made.ensures.grows c.in_ok-step.ensures.grows in
    glued_before d d2 x c.args.front.now c.requires.can.front c.args.goal c.requires.can.goal c.refute_goal.new.draft c.refute_goal.result c.refute_goal.ensures

pub glue_imp-returns-in_err-made : goal.glue_imp-returns-in_err-made
glue_imp-returns-in_err-made t c = glued_none _ _ _ _ c.from_residual.result _ (c.ends_over.ensures.grows) c.from_residual.ensures.1

pub glue_imp-returns-in_err-wider : goal.glue_imp-returns-in_err-wider
glue_imp-returns-in_err-wider t c = glued_none _ _ _ _ c.from_residual-in_err-wider.result _ (c.in_ok-made.ensures.grows) c.from_residual-in_err-wider.ensures.1

pub glue_imp-returns-in_err-step : goal.glue_imp-returns-in_err-step
glue_imp-returns-in_err-step t c = glued_none _ _ _ _ c.from_residual-in_err-step.result _ (Extends_trans _ _ _ c.in_ok-made.ensures.grows c.glue_goal.ensures.grows) c.from_residual-in_err-step.ensures.1

pub glue_imp-glue_goal-requires : goal.glue_imp-glue_goal-requires
glue_imp-glue_goal-requires t c =
    let d = c.args.draft.now in
    let F = c.args.front.now in
    let d1 = c.ends_over.new.draft in
    let x = c.in_ok-made.ensures.grows in
    let j = c.requires.joins in
    let a = c.args.pair.left in
    let b = c.args.pair.right in
    let A = tree_at d.trees a in
    let B = tree_at d.trees b in
    let s = sides_of d c.args.goal Imp a b j c.requires.can.goal in
    let w : c.deref.result.now ≡ F ++ a ∷ [] = c.deref.ensures.value ∙ c.in_ok-wider.ensures in
    let b1 : tree_at d1.trees b ≡ B = x.trees.same b.0 s.right.held in
    let e1 : trees_at d1.trees c.deref.result.now ≡ trees_at d.trees F ++ A ∷ [] = wider_is d d1 x F c.deref.result.now a w c.requires.can.front s.left in
    let m : splits (tree_at d1.trees b) ≡ splits B = ap splits b1 in
    let mg : splits (tree_at d.trees c.args.goal) ≡ suc (splits B) = ap splits j.tree in
    let l : AreParamsBelow (length c.args.params.now) (trees_at d.trees F) (Two (HJoin Imp) A B) = subst (AreParamsBelow (length c.args.params.now) (trees_at d.trees F)) j.tree c.requires.can.below in
    let k : AreParamsBelow (length c.args.params.now) (trees_at d.trees F ++ A ∷ []) B = premise_below (length c.args.params.now) (trees_at d.trees F) Imp A B l in
    let below : AreParamsBelow (length c.args.params.now) (trees_at d1.trees c.deref.result.now) (tree_at d1.trees b) = subst (λ (z : List Tree). AreParamsBelow (length c.args.params.now) z (tree_at d1.trees b)) (sym e1) (subst (AreParamsBelow (length c.args.params.now) (trees_at d.trees F ++ A ∷ [])) (sym b1) k) in
    let made = subst (λ (z : List ℕ). EndsOfParts d1 z (trees_at d.trees F ++ A ∷ []) (map (λ (y : Tree). y) (split B))) (sym c.deref-2.ensures.value) c.in_ok-made.ensures.ends in
    let p : map (λ (y : Tree). y) (split B) ≡ split (tree_at d1.trees b) = same_parts d.trees a (split B) ∙ sym (ap split b1) in (
      omega (arith, m, mg),
      record {
        front = wider_formulas d1 F c.deref.result.now a w (formulas_later d d1 x F c.requires.can.front) (formula_later d d1 x a s.left);
        goal = formula_later d d1 x b s.right;
        below = below;
        ends = subst (λ (z : List Tree). EndsOfParts d1 c.deref-2.result.now z (split (tree_at d1.trees b))) (sym e1) (subst (EndsOfParts d1 c.deref-2.result.now (trees_at d.trees F ++ A ∷ [])) p made);
      },
    )

pub glue_imp-ends_over-requires-clause-front : goal.glue_imp-ends_over-requires-clause-front
glue_imp-ends_over-requires-clause-front t c = c.requires.can.front

-- ---- a quantifier
pub glue_forall-refute_goal-requires-clause-front : goal.glue_forall-refute_goal-requires-clause-front
glue_forall-refute_goal-requires-clause-front t c =
    let d = c.args.draft.now in
    let d1 = c.open_universal.new.draft in
    let d2 = c.glue_goal.new.draft in
    let x = Extends_trans d d1 d2 c.in_ok-inner.ensures.grows c.in_ok-step.ensures.grows in
    formulas_later d d2 x c.args.front.now c.requires.can.front

pub glue_forall-refute_goal-requires-clause-goal : goal.glue_forall-refute_goal-requires-clause-goal
glue_forall-refute_goal-requires-clause-goal t c =
    let d = c.args.draft.now in
    let d1 = c.open_universal.new.draft in
    let d2 = c.glue_goal.new.draft in
    let x = Extends_trans d d1 d2 c.in_ok-inner.ensures.grows c.in_ok-step.ensures.grows in
    formula_later d d2 x c.args.goal c.requires.can.goal

pub glue_forall-refute_goal-requires-clause-lines : goal.glue_forall-refute_goal-requires-clause-lines
glue_forall-refute_goal-requires-clause-lines t c =
    let d2 = c.glue_goal.new.draft in
    lines_held d2 (line.Rule (word.NotForall 0 (length c.args.params.now)) ∷ line.Given c.in_ok-step.step 1 ∷ []) ((tt, tt), (tt, tt))

pub glue_forall-refute_goal-requires-clause-follow : goal.glue_forall-refute_goal-requires-clause-follow
glue_forall-refute_goal-requires-clause-follow t c =
    let d = c.args.draft.now in
    let d1 = c.open_universal.new.draft in
    let d2 = c.glue_goal.new.draft in
    let x = Extends_trans d d1 d2 c.in_ok-inner.ensures.grows c.in_ok-step.ensures.grows in
    let F = c.args.front.now in
    let f2 = sym (same d d2 x F c.requires.can.front) in
    let f = same d d1 c.in_ok-inner.ensures.grows F c.requires.can.front ∙ f2 in
    let r = end_trees d2 c.in_ok-step.step f c.in_ok-inner.ensures.opened.is c.in_ok-step.ensures.refutes in
    let X = tree_at d.trees c.args.ty in
    let B = tree_at d.trees c.args.body in
    let e : tree_at d2.trees c.args.goal ≡ Two HForall X B = x.trees.same c.args.goal.0 c.requires.can.goal.held ∙ c.requires.tree in
    let m = new_below (length c.args.params.now) (trees_at d.trees F) (Two HForall X B) (subst (AreParamsBelow (length c.args.params.now) (trees_at d.trees F)) c.requires.tree c.requires.can.below) in
    let n = subst (λ (z : List Tree). IsNew (length c.args.params.now) (z ++ neg (Two HForall X B) ∷ [])) f2 m in
    forall_at d2 (trees_at d2.trees F) (tree_at d2.trees c.args.goal) X B (length c.args.params.now) c.in_ok-step.step e n r

pub glue_forall-returns : goal.glue_forall-returns
glue_forall-returns t c =
    let d = c.args.draft.now in
    let d1 = c.open_universal.new.draft in
    let d2 = c.glue_goal.new.draft in
    let x = Extends_trans d d1 d2 c.in_ok-inner.ensures.grows c.in_ok-step.ensures.grows in
    glued_before d d2 x c.args.front.now c.requires.can.front c.args.goal c.requires.can.goal c.refute_goal.new.draft c.refute_goal.result c.refute_goal.ensures

pub glue_forall-returns-in_err-inner : goal.glue_forall-returns-in_err-inner
glue_forall-returns-in_err-inner t c = glued_none _ _ _ _ c.from_residual.result _ (c.open_universal.ensures.grows) c.from_residual.ensures.1

pub glue_forall-returns-in_err-wider : goal.glue_forall-returns-in_err-wider
glue_forall-returns-in_err-wider t c = glued_none _ _ _ _ c.from_residual-in_err-wider.result _ (c.in_ok-inner.ensures.grows) c.from_residual-in_err-wider.ensures.1

pub glue_forall-returns-in_err-step : goal.glue_forall-returns-in_err-step
glue_forall-returns-in_err-step t c = glued_none _ _ _ _ c.from_residual-in_err-step.result _ (Extends_trans _ _ _ c.in_ok-inner.ensures.grows c.glue_goal.ensures.grows) c.from_residual-in_err-step.ensures.1

pub glue_forall-glue_goal-requires : goal.glue_forall-glue_goal-requires
glue_forall-glue_goal-requires t c =
    let d = c.args.draft.now in
    let F = c.args.front.now in
    let d1 = c.open_universal.new.draft in
    let x = c.in_ok-inner.ensures.grows in
    let o = c.in_ok-inner.ensures.opened in
    let X = tree_at d.trees c.args.ty in
    let B = tree_at d.trees c.args.body in
    let m : splits (tree_at d1.trees c.in_ok-inner.inner) ≡ splits B = ap splits o.is ∙ opened_splits d c.args.goal c.args.ty c.args.body c.requires.can.goal c.requires.tree (Param (length c.args.params.now) X) in
    let mg : splits (tree_at d.trees c.args.goal) ≡ suc (splits B) = ap splits c.requires.tree in
    let one : length c.deref.result.now ≡ length c.args.params.now + 1 = ap length (c.deref.ensures.value ∙ c.in_ok-wider.ensures) ∙ length-append c.args.params.now (c.args.ty ∷ []) in
    (omega (arith, m, mg), opened_can d d1 x F c.requires.can.front _ _ _ c.in_ok-inner.inner _ _ one c.deref-2.ensures.value o)

pub glue_forall-open_universal-requires-clause-can : goal.glue_forall-open_universal-requires-clause-can
glue_forall-open_universal-requires-clause-can t c = c.requires.can

-- ---- a `let`
pub glue_let-refute_goal-requires-clause-front : goal.glue_let-refute_goal-requires-clause-front
glue_let-refute_goal-requires-clause-front t c =
    let d = c.args.draft.now in
    let d1 = c.open_valued.new.draft in
    let d2 = c.glue_goal.new.draft in
    let x = Extends_trans d d1 d2 c.in_ok-inner.ensures.grows c.in_ok-step.ensures.grows in
    formulas_later d d2 x c.args.front.now c.requires.can.front

pub glue_let-refute_goal-requires-clause-goal : goal.glue_let-refute_goal-requires-clause-goal
glue_let-refute_goal-requires-clause-goal t c =
    let d = c.args.draft.now in
    let d1 = c.open_valued.new.draft in
    let d2 = c.glue_goal.new.draft in
    let x = Extends_trans d d1 d2 c.in_ok-inner.ensures.grows c.in_ok-step.ensures.grows in
    formula_later d d2 x c.args.goal c.requires.can.goal

pub glue_let-refute_goal-requires-clause-lines : goal.glue_let-refute_goal-requires-clause-lines
glue_let-refute_goal-requires-clause-lines t c =
    let d = c.args.draft.now in
    let d1 = c.open_valued.new.draft in
    let d2 = c.glue_goal.new.draft in
    let x = Extends_trans d d1 d2 c.in_ok-inner.ensures.grows c.in_ok-step.ensures.grows in
    let g = formula_later d d2 x c.args.goal c.requires.can.goal in
    lines_held d2 (line.Rule (word.LetDef c.args.goal) ∷ line.Holding Iff 1 ∷ line.Rule (word.Clash 2 0) ∷ line.Given c.in_ok-step.step 1 ∷ []) ((g.held, tt), (tt, ((tt, tt), (tt, tt))))

pub glue_let-refute_goal-requires-clause-follow : goal.glue_let-refute_goal-requires-clause-follow
glue_let-refute_goal-requires-clause-follow t c =
    let d = c.args.draft.now in
    let d1 = c.open_valued.new.draft in
    let d2 = c.glue_goal.new.draft in
    let x = Extends_trans d d1 d2 c.in_ok-inner.ensures.grows c.in_ok-step.ensures.grows in
    let F = c.args.front.now in
    let f2 = sym (same d d2 x F c.requires.can.front) in
    let f = same d d1 c.in_ok-inner.ensures.grows F c.requires.can.front ∙ f2 in
    let r = end_trees d2 c.in_ok-step.step f c.in_ok-inner.ensures.opened.is c.in_ok-step.ensures.refutes in
    let X = tree_at d.trees c.args.value in
    let B = tree_at d.trees c.args.body in
    let e : tree_at d2.trees c.args.goal ≡ Two HLet X B = x.trees.same c.args.goal.0 c.requires.can.goal.held ∙ c.requires.tree in
    let w = subst (λ (z : TaskTree). IsGroundFormula z (Two HLet X B)) (sym x.task) (subst (IsGroundFormula d.task) c.requires.tree c.requires.can.goal.ground) in
    let_at d2 (trees_at d2.trees F) (tree_at d2.trees c.args.goal) X B c.in_ok-step.step e (as_expression d2.task (Two HLet X B) w) w.sort r

pub glue_let-returns : goal.glue_let-returns
glue_let-returns t c =
    let d = c.args.draft.now in
    let d1 = c.open_valued.new.draft in
    let d2 = c.glue_goal.new.draft in
    let x = Extends_trans d d1 d2 c.in_ok-inner.ensures.grows c.in_ok-step.ensures.grows in
    glued_before d d2 x c.args.front.now c.requires.can.front c.args.goal c.requires.can.goal c.refute_goal.new.draft c.refute_goal.result c.refute_goal.ensures

pub glue_let-returns-in_err-inner : goal.glue_let-returns-in_err-inner
glue_let-returns-in_err-inner t c = glued_none _ _ _ _ c.from_residual.result _ (c.open_valued.ensures.grows) c.from_residual.ensures.1

pub glue_let-returns-in_err-step : goal.glue_let-returns-in_err-step
glue_let-returns-in_err-step t c = glued_none _ _ _ _ c.from_residual-in_err-step.result _ (Extends_trans _ _ _ c.in_ok-inner.ensures.grows c.glue_goal.ensures.grows) c.from_residual-in_err-step.ensures.1

pub glue_let-glue_goal-requires : goal.glue_let-glue_goal-requires
glue_let-glue_goal-requires t c =
    let d = c.args.draft.now in
    let F = c.args.front.now in
    let d1 = c.open_valued.new.draft in
    let x = c.in_ok-inner.ensures.grows in
    let o = c.in_ok-inner.ensures.opened in
    let X = tree_at d.trees c.args.value in
    let B = tree_at d.trees c.args.body in
    let m : splits (tree_at d1.trees c.in_ok-inner.inner) ≡ splits B = ap splits o.is ∙ valued_splits d c.args.goal c.args.value c.args.body c.requires.can.goal c.requires.tree X in
    let mg : splits (tree_at d.trees c.args.goal) ≡ suc (splits B) = ap splits c.requires.tree in
    (omega (arith, m, mg), opened_can d d1 x F c.requires.can.front _ _ _ c.in_ok-inner.inner _ _ refl c.deref.ensures.value o)

pub glue_let-open_valued-requires-clause-can : goal.glue_let-open_valued-requires-clause-can
glue_let-open_valued-requires-clause-can t c = c.requires.can

-- ---- an `if`
pub glue_if-refute_goal-requires-clause-front : goal.glue_if-refute_goal-requires-clause-front
glue_if-refute_goal-requires-clause-front t c =
    let d = c.args.draft.now in
    let n1 = c.negation.new.draft in
    let n2 = c.connect.new.draft in
    let n3 = c.connect-2.new.draft in
    let x1 = AddsTrees_extends d n1 c.in_ok-no_cond.ensures.grows in
    let x2 = AddsTrees_extends n1 n2 c.in_ok-there.ensures.grows in
    let x3 = AddsTrees_extends n2 n3 c.in_ok-away.ensures.grows in
    let y12 : Extends d n2 = Extends_trans d n1 n2 x1 x2 in
    let y : Extends d n3 = Extends_trans d n2 n3 y12 x3 in
    let n4 = c.glue_two.new.draft in
    let x4 = c.in_ok-left.ensures.grows in
    let x = Extends_trans d n3 n4 y x4 in
    formulas_later d n4 x c.args.front.now c.requires.can.front

pub glue_if-refute_goal-requires-clause-goal : goal.glue_if-refute_goal-requires-clause-goal
glue_if-refute_goal-requires-clause-goal t c =
    let d = c.args.draft.now in
    let n1 = c.negation.new.draft in
    let n2 = c.connect.new.draft in
    let n3 = c.connect-2.new.draft in
    let x1 = AddsTrees_extends d n1 c.in_ok-no_cond.ensures.grows in
    let x2 = AddsTrees_extends n1 n2 c.in_ok-there.ensures.grows in
    let x3 = AddsTrees_extends n2 n3 c.in_ok-away.ensures.grows in
    let y12 : Extends d n2 = Extends_trans d n1 n2 x1 x2 in
    let y : Extends d n3 = Extends_trans d n2 n3 y12 x3 in
    let n4 = c.glue_two.new.draft in
    let x4 = c.in_ok-left.ensures.grows in
    let x = Extends_trans d n3 n4 y x4 in
    formula_later d n4 x c.args.goal c.requires.can.goal

pub glue_if-refute_goal-requires-clause-lines : goal.glue_if-refute_goal-requires-clause-lines
glue_if-refute_goal-requires-clause-lines t c =
    let d = c.args.draft.now in
    let n1 = c.negation.new.draft in
    let n2 = c.connect.new.draft in
    let n3 = c.connect-2.new.draft in
    let x1 = AddsTrees_extends d n1 c.in_ok-no_cond.ensures.grows in
    let x2 = AddsTrees_extends n1 n2 c.in_ok-there.ensures.grows in
    let x3 = AddsTrees_extends n2 n3 c.in_ok-away.ensures.grows in
    let y12 : Extends d n2 = Extends_trans d n1 n2 x1 x2 in
    let y : Extends d n3 = Extends_trans d n2 n3 y12 x3 in
    let n4 = c.glue_two.new.draft in
    let x4 = c.in_ok-left.ensures.grows in
    let x = Extends_trans d n3 n4 y x4 in
    let tf = formula_later n2 n4 (Extends_trans n2 n3 n4 x3 x4) c.in_ok-there.there c.in_ok-there.ensures.formula in
    let wf = formula_later n3 n4 x4 c.in_ok-away.away c.in_ok-away.ensures.formula in
    let gf = formula_later d n4 x c.args.goal c.requires.can.goal in
    let cf = formula_later d n4 x c.args.cond c.requires.cond in
    lines_held n4 (line.Cut c.in_ok-there.there ∷ line.Cut c.in_ok-away.away ∷ line.Rule (word.IfDef c.args.goal) ∷ line.Holding And 3 ∷ line.Cut c.args.cond ∷ line.Holding Imp 4 ∷ line.Rule (word.Clash 6 7) ∷ line.Holding Imp 1 ∷ line.Rule (word.Clash 6 8) ∷ line.Holding Iff 7 ∷ line.Rule (word.Clash 9 0) ∷ line.Rule (word.Clash 8 10) ∷ line.Holding Imp 5 ∷ line.Rule (word.Clash 6 7) ∷ line.Holding Imp 2 ∷ line.Rule (word.Clash 6 8) ∷ line.Holding Iff 7 ∷ line.Rule (word.Clash 9 0) ∷ line.Rule (word.Clash 8 10) ∷ line.Given c.in_ok-left.right 1 ∷ line.Given c.in_ok-left.left 1 ∷ []) (tf, (wf, ((gf.held, tt), (tt, (cf, (tt, ((tt, tt), (tt, ((tt, tt), (tt, ((tt, tt), ((tt, tt), (tt, ((tt, tt), (tt, ((tt, tt), (tt, ((tt, tt), ((tt, tt), (tt, (tt, tt)))))))))))))))))))))

pub glue_if-refute_goal-requires-clause-follow : goal.glue_if-refute_goal-requires-clause-follow
glue_if-refute_goal-requires-clause-follow t c =
    let d = c.args.draft.now in
    let n1 = c.negation.new.draft in
    let n2 = c.connect.new.draft in
    let n3 = c.connect-2.new.draft in
    let x1 = AddsTrees_extends d n1 c.in_ok-no_cond.ensures.grows in
    let x2 = AddsTrees_extends n1 n2 c.in_ok-there.ensures.grows in
    let x3 = AddsTrees_extends n2 n3 c.in_ok-away.ensures.grows in
    let y12 : Extends d n2 = Extends_trans d n1 n2 x1 x2 in
    let y : Extends d n3 = Extends_trans d n2 n3 y12 x3 in
    let n4 = c.glue_two.new.draft in
    let x4 = c.in_ok-left.ensures.grows in
    let x = Extends_trans d n3 n4 y x4 in
    let there = c.in_ok-there.there in
    let away = c.in_ok-away.away in
    let C = tree_at d.trees c.args.cond in
    let A = tree_at d.trees c.args.pair.left in
    let B = tree_at d.trees c.args.pair.right in
    let c1 : tree_at n1.trees c.args.cond ≡ C = x1.trees.same c.args.cond.0 c.requires.cond.held in
    let a1 : tree_at n1.trees c.args.pair.left ≡ A = x1.trees.same c.args.pair.left.0 c.requires.pair.left.held in
    let b2 : tree_at n2.trees c.args.pair.right ≡ B = y12.trees.same c.args.pair.right.0 c.requires.pair.right.held in
    let k2 : tree_at n2.trees c.in_ok-no_cond.no_cond ≡ neg C = x2.trees.same c.in_ok-no_cond.no_cond.0 c.in_ok-no_cond.ensures.formula.held ∙ c.in_ok-no_cond.ensures.tree in
    let jt : Two (HJoin Imp) (tree_at n1.trees c.args.cond) (tree_at n1.trees c.args.pair.left) ≡ Two (HJoin Imp) C A = cc (c1, a1) in
    let jw : Two (HJoin Imp) (tree_at n2.trees c.in_ok-no_cond.no_cond) (tree_at n2.trees c.args.pair.right) ≡ Two (HJoin Imp) (neg C) B = cc (k2, b2) in
    let et : tree_at n3.trees there ≡ Two (HJoin Imp) C A = x3.trees.same there.0 c.in_ok-there.ensures.formula.held ∙ c.in_ok-there.ensures.tree ∙ jt in
    let ew : tree_at n3.trees away ≡ Two (HJoin Imp) (neg C) B = c.in_ok-away.ensures.tree ∙ jw in
    let F = c.args.front.now in
    let f = same d n3 y F c.requires.can.front ∙ sym (same d n4 x F c.requires.can.front) in
    let e : tree_at n4.trees c.args.goal ≡ Three HIf C A B = x.trees.same c.args.goal.0 c.requires.can.goal.held ∙ c.requires.tree in
    let ee : tree_at n4.trees there ≡ join Imp C A = x4.trees.same there.0 (formula_later n2 n3 x3 there c.in_ok-there.ensures.formula).held ∙ et in
    let ef : tree_at n4.trees away ≡ join Imp (neg C) B = x4.trees.same away.0 c.in_ok-away.ensures.formula.held ∙ ew in
    let ec : tree_at n4.trees c.args.cond ≡ C = x.trees.same c.args.cond.0 c.requires.cond.held in
    let w = subst (λ (z : TaskTree). IsGroundFormula z (Three HIf C A B)) (sym x.task) (subst (IsGroundFormula d.task) c.requires.tree c.requires.can.goal.ground) in
    let l = end_trees n4 c.in_ok-left.left f et c.in_ok-left.ensures.left in
    let r = end_trees n4 c.in_ok-left.right f ew c.in_ok-left.ensures.right in
    if_at n4 (trees_at n4.trees F) (tree_at n4.trees c.args.goal) (tree_at n4.trees there) (tree_at n4.trees away) (tree_at n4.trees c.args.cond) C A B c.in_ok-left.left c.in_ok-left.right e ee ef ec (as_expression n4.task (Three HIf C A B) w) w.sort l r

pub glue_if-returns : goal.glue_if-returns
glue_if-returns t c =
    let d = c.args.draft.now in
    let n1 = c.negation.new.draft in
    let n2 = c.connect.new.draft in
    let n3 = c.connect-2.new.draft in
    let x1 = AddsTrees_extends d n1 c.in_ok-no_cond.ensures.grows in
    let x2 = AddsTrees_extends n1 n2 c.in_ok-there.ensures.grows in
    let x3 = AddsTrees_extends n2 n3 c.in_ok-away.ensures.grows in
    let y12 : Extends d n2 = Extends_trans d n1 n2 x1 x2 in
    let y : Extends d n3 = Extends_trans d n2 n3 y12 x3 in
    let n4 = c.glue_two.new.draft in
    let x4 = c.in_ok-left.ensures.grows in
    let x = Extends_trans d n3 n4 y x4 in
    glued_before d n4 x c.args.front.now c.requires.can.front c.args.goal c.requires.can.goal c.refute_goal.new.draft c.refute_goal.result c.refute_goal.ensures

pub glue_if-returns-in_err-no_cond : goal.glue_if-returns-in_err-no_cond
glue_if-returns-in_err-no_cond t c = glued_none _ _ _ _ c.from_residual.result _ (AddsTrees_extends _ _ c.negation.ensures.grows) c.from_residual.ensures.1

pub glue_if-returns-in_err-there : goal.glue_if-returns-in_err-there
glue_if-returns-in_err-there t c = glued_none _ _ _ _ c.from_residual-in_err-there.result _ (AddsTrees_extends _ _ (AddsTrees_trans _ _ _ c.in_ok-no_cond.ensures.grows c.connect.ensures.grows)) c.from_residual-in_err-there.ensures.1

pub glue_if-returns-in_err-away : goal.glue_if-returns-in_err-away
glue_if-returns-in_err-away t c = glued_none _ _ _ _ c.from_residual-in_err-away.result _ (AddsTrees_extends _ _ (AddsTrees_trans _ _ _ (AddsTrees_trans _ _ _ c.in_ok-no_cond.ensures.grows c.in_ok-there.ensures.grows) c.connect-2.ensures.grows)) c.from_residual-in_err-away.ensures.1

pub glue_if-returns-in_err-left : goal.glue_if-returns-in_err-left
glue_if-returns-in_err-left t c = glued_none _ _ _ _ c.from_residual-in_err-left.result _ (Extends_trans _ _ _ (AddsTrees_extends _ _ (AddsTrees_trans _ _ _ (AddsTrees_trans _ _ _ c.in_ok-no_cond.ensures.grows c.in_ok-there.ensures.grows) c.in_ok-away.ensures.grows)) c.glue_two.ensures.grows) c.from_residual-in_err-left.ensures.1

pub glue_if-glue_two-requires : goal.glue_if-glue_two-requires
glue_if-glue_two-requires t c =
    let d = c.args.draft.now in
    let n1 = c.negation.new.draft in
    let n2 = c.connect.new.draft in
    let n3 = c.connect-2.new.draft in
    let x1 = AddsTrees_extends d n1 c.in_ok-no_cond.ensures.grows in
    let x2 = AddsTrees_extends n1 n2 c.in_ok-there.ensures.grows in
    let x3 = AddsTrees_extends n2 n3 c.in_ok-away.ensures.grows in
    let y12 : Extends d n2 = Extends_trans d n1 n2 x1 x2 in
    let y : Extends d n3 = Extends_trans d n2 n3 y12 x3 in
    let F = c.args.front.now in
    let there = c.in_ok-there.there in
    let away = c.in_ok-away.away in
    let C = tree_at d.trees c.args.cond in
    let A = tree_at d.trees c.args.pair.left in
    let B = tree_at d.trees c.args.pair.right in
    let c1 : tree_at n1.trees c.args.cond ≡ C = x1.trees.same c.args.cond.0 c.requires.cond.held in
    let a1 : tree_at n1.trees c.args.pair.left ≡ A = x1.trees.same c.args.pair.left.0 c.requires.pair.left.held in
    let b2 : tree_at n2.trees c.args.pair.right ≡ B = y12.trees.same c.args.pair.right.0 c.requires.pair.right.held in
    let k2 : tree_at n2.trees c.in_ok-no_cond.no_cond ≡ neg C = x2.trees.same c.in_ok-no_cond.no_cond.0 c.in_ok-no_cond.ensures.formula.held ∙ c.in_ok-no_cond.ensures.tree in
    let jt : Two (HJoin Imp) (tree_at n1.trees c.args.cond) (tree_at n1.trees c.args.pair.left) ≡ Two (HJoin Imp) C A = cc (c1, a1) in
    let jw : Two (HJoin Imp) (tree_at n2.trees c.in_ok-no_cond.no_cond) (tree_at n2.trees c.args.pair.right) ≡ Two (HJoin Imp) (neg C) B = cc (k2, b2) in
    let et : tree_at n3.trees there ≡ Two (HJoin Imp) C A = x3.trees.same there.0 c.in_ok-there.ensures.formula.held ∙ c.in_ok-there.ensures.tree ∙ jt in
    let ew : tree_at n3.trees away ≡ Two (HJoin Imp) (neg C) B = c.in_ok-away.ensures.tree ∙ jw in
    let mt : splits (tree_at n3.trees there) ≡ suc (splits A) = ap splits et in
    let mw : splits (tree_at n3.trees away) ≡ suc (splits B) = ap splits ew in
    let mg : splits (tree_at d.trees c.args.goal) ≡ suc (suc (suc (splits A + splits B))) = ap splits c.requires.tree in
    let l : AreParamsBelow (length c.args.params.now) (trees_at d.trees F) (Three HIf C A B) = subst (AreParamsBelow (length c.args.params.now) (trees_at d.trees F)) c.requires.tree c.requires.can.below in
    let e : EndsOfParts d c.args.ends.now (trees_at d.trees F) (map (imp C) (split A) ++ map (imp (neg C)) (split B)) = subst (EndsOfParts d c.args.ends.now (trees_at d.trees F)) (ap split c.requires.tree) c.requires.can.ends in
    let st : split (tree_at n3.trees there) ≡ map (imp C) (split A) = ap split et in
    let sw : split (tree_at n3.trees away) ≡ map (imp (neg C)) (split B) = ap split ew in
    let q : map (imp C) (split A) ++ map (imp (neg C)) (split B) ≡ split (tree_at n3.trees there) ++ split (tree_at n3.trees away) = cc (st, sw) in (
      omega (arith, mt, mw, mg),
      (
        formulas_later d n3 y F c.requires.can.front,
        (
          formula_later n2 n3 x3 there c.in_ok-there.ensures.formula,
          (
            c.in_ok-away.ensures.formula,
            (
              below_later d n3 y F c.requires.can.front (length c.args.params.now) (Two (HJoin Imp) C A) (tree_at n3.trees there) et (then_below (length c.args.params.now) (trees_at d.trees F) C A B l),
              (
                below_later d n3 y F c.requires.can.front (length c.args.params.now) (Two (HJoin Imp) (neg C) B) (tree_at n3.trees away) ew (else_below (length c.args.params.now) (trees_at d.trees F) C A B l),
                subst (EndsOfParts n3 c.args.ends.now (trees_at n3.trees F)) q (ends_later d n3 y F c.requires.can.front c.args.ends.now (map (imp C) (split A) ++ map (imp (neg C)) (split B)) e),
              ),
            ),
          ),
        ),
      ),
    )

pub glue_if-negation-requires : goal.glue_if-negation-requires
glue_if-negation-requires t c = c.requires.cond
