-- What the laws make of closed expressions, and the scripts for them.
use Rattle.std.proofs.Common.{◌≡◌, ℕ, ◌≤◌, Bool, true, false, List, [], ◌∷◌, Some, refl, sym, ap, subst, ◌∙◌, arith}
use Rattle.std.proofs.lemmas.List.Elements.{All-nil, All-cons}
use Rattle.trees.specs.declared.Op.{Op}
use Rattle.trees.specs.declared.Op.TheVariants.{And, AndThen, Or, OrElse, Imp, Iff}
use Rattle.trees.specs.declared.Sort.TheVariants.{Kind}
use Rattle.trees.specs.Tree.{Tree, Leaf, One, Two, Three, Head, HTrue, HFalse, HNot, HJoin, HForall, HExists, HIf, HParam, above_params}
use Rattle.trees.specs.Binding.{inst, Param}
use Rattle.trees.specs.Facts.{is_open, has_param}
use Rattle.trees.specs.Sorts.{sort_of, type_of}
use Rattle.trees.proofs.Above.{no_param_above}
use Rattle.trees.proofs.Many.{inst_not_open}
use Rattle.tasks.specs.Task.{TaskTree, neg}
use Rattle.walking.proofs.images.Changes.{open_inst_above}
use Rattle.rules.specs.Trees.{RNotTrue, RFalse, RClash, RNotNot, RIfDef, RForall, RNotForall, RExists, RNotExists}
use Rattle.rules.specs.Forms.{alike, by_cases}
use Rattle.rules.specs.Rows.{IsNew}
use Rattle.congruence.specs.kernel.Right.{IsGroundExpression}
use Rattle.evidence.specs.Drafts.{DraftTree}
use Rattle.evidence.specs.declared.proof_scripts.line.Line.{Line}
use Rattle.evidence.specs.proof_scripts.Scripts.{LineTree, TailLine, HoldingLine, FailingLine, LineHeld, LinesHeld, Follows, lines_at}
use Rattle.evidence.proofs.proof_scripts.Lines.{clash_line, true_line, not_not_line, if_line, forall_line, not_forall_line, exists_line, not_exists_line}
use Rattle.congruence.specs.Quantifiers.{quantifier_head}
use Rattle.tr_simplify.specs.declared.laws.TruthValue.{TruthValue}
use Rattle.tr_simplify.specs.declared.laws.TruthValue.TheVariants as side
use Rattle.tr_simplify.specs.declared.laws.LawResult.{LawResult}
use Rattle.tr_simplify.specs.declared.laws.LawResult.TheVariants as outcome
use Rattle.tr_simplify.specs.Laws.{constant, negated_by, law_for, joined_by, if_by, zero_term, quantified_by, simplify_rule}
use Rattle.tr_simplify.specs.Scripts.{denied, side_of, conjunction_lines, disjunction_lines, implication_lines, equivalence_lines, law_lines, not_lines}
use Rattle.tr_simplify.proofs.Follows.{false_line, joined_denied, joined_follows, not_follows}

-- ---- a side by which constant it is
constant_side : (a : Tree) → a ≡ side_of (constant a) a
constant_side (Leaf HTrue) = refl
constant_side (Leaf HFalse) = refl
constant_side (Leaf _) = refl
constant_side (One h a) = refl
constant_side (Two h a b) = refl
constant_side (Three h a b c) = refl

pub known_side : (k : TruthValue) (a : Tree) → k ≡ constant a → a ≡ side_of k a
known_side k a q = constant_side a ∙ ap (λ (z : TruthValue). side_of z a) (sym q)

-- ---- the laws of connectives and negations
module _ (d : DraftTree) where
  pub joined_law : (op : Op) (k l : TruthValue) (a b left right : Tree) → left ≡ Two (HJoin op) a b → right ≡ simplify_rule left → k ≡ constant a → l ≡ constant b → (law_for op k l ≡ outcome.Stays → ⊥) → Follows d [] (lines_at d.trees (law_lines op k l)) ((neg (alike left right) ∷ []) ∷ [])
  joined_law op k l a b left right p r q s n =
      let made : simplify_rule left ≡ joined_by (law_for op k l) op k l a b =
      ap simplify_rule p ∙ ap (λ (z : TruthValue). joined_by (law_for op z (constant b)) op z (constant b) a b) (sym q) ∙ ap (λ (z : TruthValue). joined_by (law_for op k z) op k z a b) (sym s) in
      let h : Follows d [] (lines_at d.trees (law_lines op k l)) ((joined_denied op k l a b ∷ []) ∷ []) =
      subst (λ (z : Tree). Follows d [] (lines_at d.trees (law_lines op k l)) ((joined_denied op k l z b ∷ []) ∷ [])) (sym (known_side k a q))
      (subst (λ (z : Tree). Follows d [] (lines_at d.trees (law_lines op k l)) ((joined_denied op k l (side_of k a) z ∷ []) ∷ [])) (sym (known_side l b s)) (joined_follows d op k l a b n)) in
      subst (λ (z : Tree). Follows d [] (lines_at d.trees (law_lines op k l)) ((neg (alike z right) ∷ []) ∷ [])) (sym p)
      (subst (λ (z : Tree). Follows d [] (lines_at d.trees (law_lines op k l)) ((neg (alike (Two (HJoin op) a b) z) ∷ []) ∷ [])) (sym (r ∙ made)) h)

  pub not_law : (k : TruthValue) (a left right : Tree) → left ≡ One HNot a → right ≡ simplify_rule left → k ≡ constant a → (k ≡ side.Other → ⊥) → Follows d [] (lines_at d.trees (not_lines k)) ((neg (alike left right) ∷ []) ∷ [])
  not_law k a left right p r q n =
      let made : simplify_rule left ≡ negated_by k a = ap simplify_rule p ∙ ap (λ (z : TruthValue). negated_by z a) (sym q) in
      let h : Follows d [] (lines_at d.trees (not_lines k)) ((denied (One HNot a) (negated_by k a) ∷ []) ∷ []) =
      subst (λ (z : Tree). Follows d [] (lines_at d.trees (not_lines k)) ((denied (One HNot z) (negated_by k z) ∷ []) ∷ [])) (sym (known_side k a q)) (not_follows d k a n) in
      subst (λ (z : Tree). Follows d [] (lines_at d.trees (not_lines k)) ((neg (alike z right) ∷ []) ∷ [])) (sym p)
      (subst (λ (z : Tree). Follows d [] (lines_at d.trees (not_lines k)) ((neg (alike (One HNot a) z) ∷ []) ∷ [])) (sym (r ∙ made)) h)

-- ---- the formulas that stay
pub joined_stays : (op : Op) (k l : TruthValue) (a b left right : Tree) → left ≡ Two (HJoin op) a b → right ≡ simplify_rule left → k ≡ constant a → l ≡ constant b → outcome.Stays ≡ law_for op k l → left ≡ right
joined_stays op k l a b left right p r q s n =
    p ∙ ap (λ (z : LawResult). joined_by z op k l a b) n ∙ ap (λ (z : TruthValue). joined_by (law_for op z l) op z l a b) q ∙ ap (λ (z : TruthValue). joined_by (law_for op (constant a) z) op (constant a) z a b) s ∙ ap simplify_rule (sym p) ∙ sym r

pub not_stays : (a left right : Tree) → left ≡ One HNot a → right ≡ simplify_rule left → side.Other ≡ constant a → left ≡ right
not_stays a left right p r q = p ∙ ap (λ (z : TruthValue). negated_by z a) q ∙ ap simplify_rule (sym p) ∙ sym r

pub if_stays : (c a b left right : Tree) → left ≡ Three HIf c a b → right ≡ simplify_rule left → side.Other ≡ constant c → left ≡ right
if_stays c a b left right p r q = p ∙ ap (λ (z : TruthValue). if_by z c a b) q ∙ ap simplify_rule (sym p) ∙ sym r

pub quantified_stays : (u : Bool) (ty b left right : Tree) → left ≡ Two (quantifier_head u) ty b → right ≡ simplify_rule left → true ≡ is_open 0 b → left ≡ right
quantified_stays true ty b left right p r q = p ∙ ap (λ (z : Bool). quantified_by z HForall ty b) q ∙ ap simplify_rule (sym p) ∙ sym r
quantified_stays false ty b left right p r q = p ∙ ap (λ (z : Bool). quantified_by z HExists ty b) q ∙ ap simplify_rule (sym p) ∙ sym r

-- ---- lines without numbers of trees
module _ (d : DraftTree) where
  abbrev Lines : List Line → Type 0
  Lines [] = Unit {0}
  Lines (l ∷ ls) = LineHeld d l × Lines ls

  pub lines_held : (ls : List Line) → Lines ls → LinesHeld d ls
  lines_held [] h = All-nil (LineHeld d)
  lines_held (l ∷ ls) h = All-cons (LineHeld d) l ls h.0 (lines_held ls h.1)

  conjunction_held : (op : Op) (k l : TruthValue) → Lines (conjunction_lines op k l)
  conjunction_held op side.True l = (tt, (tt, ((tt, tt), (tt, ((tt, tt), ((tt, tt), tt))))))
  conjunction_held op k side.True = (tt, (tt, ((tt, tt), (tt, ((tt, tt), ((tt, tt), tt))))))
  conjunction_held op side.False l = (tt, (tt, ((tt, tt), ((tt, tt), tt))))
  conjunction_held op k side.False = (tt, (tt, ((tt, tt), ((tt, tt), tt))))
  conjunction_held op side.Other side.Other = tt

  disjunction_held : (op : Op) (k l : TruthValue) → Lines (disjunction_lines op k l)
  disjunction_held op side.False l = (tt, (tt, ((tt, tt), ((tt, tt), (tt, ((tt, tt), tt))))))
  disjunction_held op k side.False = (tt, (tt, ((tt, tt), ((tt, tt), (tt, ((tt, tt), tt))))))
  disjunction_held op side.True l = (tt, ((tt, tt), (tt, ((tt, tt), tt))))
  disjunction_held op k side.True = (tt, ((tt, tt), (tt, ((tt, tt), tt))))
  disjunction_held op side.Other side.Other = tt

  implication_held : (k l : TruthValue) → Lines (implication_lines k l)
  implication_held side.True l = (tt, (tt, ((tt, tt), ((tt, tt), (tt, ((tt, tt), tt))))))
  implication_held side.False l = (tt, ((tt, tt), (tt, ((tt, tt), tt))))
  implication_held k side.True = (tt, ((tt, tt), (tt, ((tt, tt), tt))))
  implication_held side.Other side.False = (tt, (tt, ((tt, tt), ((tt, tt), (tt, ((tt, tt), tt))))))
  implication_held side.Other side.Other = tt

  equivalence_held : (k l : TruthValue) → Lines (equivalence_lines k l)
  equivalence_held k side.True = (tt, (tt, ((tt, tt), ((tt, tt), (tt, ((tt, tt), ((tt, tt), tt)))))))
  equivalence_held side.True l = (tt, (tt, ((tt, tt), ((tt, tt), (tt, ((tt, tt), ((tt, tt), tt)))))))
  equivalence_held side.False side.False = (tt, ((tt, tt), (tt, ((tt, tt), ((tt, tt), tt)))))
  equivalence_held side.Other side.False = (tt, (tt, ((tt, tt), ((tt, tt), (tt, ((tt, tt), ((tt, tt), tt)))))))
  equivalence_held side.False side.Other = (tt, (tt, ((tt, tt), ((tt, tt), (tt, ((tt, tt), ((tt, tt), tt)))))))
  equivalence_held side.Other side.Other = tt

  law_lines_held : (op : Op) (k l : TruthValue) → Lines (law_lines op k l)
  law_lines_held And k l = conjunction_held And k l
  law_lines_held AndThen k l = conjunction_held AndThen k l
  law_lines_held Or k l = disjunction_held Or k l
  law_lines_held OrElse k l = disjunction_held OrElse k l
  law_lines_held Imp k l = implication_held k l
  law_lines_held Iff k l = equivalence_held k l

  pub law_held : (op : Op) (k l : TruthValue) → LinesHeld d (law_lines op k l)
  law_held op k l = lines_held (law_lines op k l) (law_lines_held op k l)

  not_lines_held : (k : TruthValue) → Lines (not_lines k)
  not_lines_held side.True = (tt, ((tt, tt), ((tt, tt), tt)))
  not_lines_held side.False = (tt, ((tt, tt), ((tt, tt), ((tt, tt), tt))))
  not_lines_held side.Other = tt

  pub not_held : (k : TruthValue) → LinesHeld d (not_lines k)
  not_held k = lines_held (not_lines k) (not_lines_held k)

-- ---- conditionals
module _ (d : DraftTree) (a b : Tree) where
  then_follows : IsGroundExpression d.task (Three HIf (Leaf HTrue) a b)
      → Follows d [] (TailLine (RIfDef (Three HIf (Leaf HTrue) a b)) ∷ HoldingLine And 1 ∷ HoldingLine Imp 2 ∷ TailLine (RNotTrue 4) ∷ TailLine (RClash 4 0) ∷ []) ((neg (alike (Three HIf (Leaf HTrue) a b) a) ∷ []) ∷ [])
  then_follows g =
      let e : Tree = Three HIf (Leaf HTrue) a b in
      let n : Tree = neg (alike e a) in
      let x : Tree = by_cases (Leaf HTrue) e a b in
      let y : Tree = Two (HJoin Imp) (Leaf HTrue) (alike e a) in
      let z : Tree = Two (HJoin Imp) (neg (Leaf HTrue)) (alike e b) in
      (if_line d.task (n ∷ []) (Leaf HTrue) a b g, tt, (refl, (refl, (true_line d.task (n ∷ x ∷ y ∷ z ∷ neg (Leaf HTrue) ∷ []) 4 refl, tt, (clash_line d.task (n ∷ x ∷ y ∷ z ∷ alike e a ∷ []) 4 0 (alike e a) refl refl, tt, tt)))))

  else_follows : IsGroundExpression d.task (Three HIf (Leaf HFalse) a b)
      → Follows d [] (TailLine (RIfDef (Three HIf (Leaf HFalse) a b)) ∷ HoldingLine And 1 ∷ HoldingLine Imp 3 ∷ TailLine (RNotNot 4) ∷ TailLine (RFalse 5) ∷ TailLine (RClash 4 0) ∷ []) ((neg (alike (Three HIf (Leaf HFalse) a b) b) ∷ []) ∷ [])
  else_follows g =
      let e : Tree = Three HIf (Leaf HFalse) a b in
      let n : Tree = neg (alike e b) in
      let x : Tree = by_cases (Leaf HFalse) e a b in
      let y : Tree = Two (HJoin Imp) (Leaf HFalse) (alike e a) in
      let z : Tree = Two (HJoin Imp) (neg (Leaf HFalse)) (alike e b) in (
        if_line d.task (n ∷ []) (Leaf HFalse) a b g,
        tt,
        (
          refl,
          (
            refl,
            (
              not_not_line d.task (n ∷ x ∷ y ∷ z ∷ neg (neg (Leaf HFalse)) ∷ []) 4 (Leaf HFalse) refl,
              tt,
              (
                false_line d.task (n ∷ x ∷ y ∷ z ∷ neg (neg (Leaf HFalse)) ∷ Leaf HFalse ∷ []) 5 refl,
                tt,
                (clash_line d.task (n ∷ x ∷ y ∷ z ∷ alike e b ∷ []) 4 0 (alike e b) refl refl, tt, tt),
              ),
            ),
          ),
        ),
      )

  pub then_law : (c left right : Tree) → left ≡ Three HIf c a b → right ≡ simplify_rule left → side.True ≡ constant c → IsGroundExpression d.task left
      → Follows d [] (TailLine (RIfDef left) ∷ HoldingLine And 1 ∷ HoldingLine Imp 2 ∷ TailLine (RNotTrue 4) ∷ TailLine (RClash 4 0) ∷ []) ((neg (alike left right) ∷ []) ∷ [])
  then_law c left right p r q g =
      let e : left ≡ Three HIf (Leaf HTrue) a b = p ∙ ap (λ (z : Tree). Three HIf z a b) (known_side side.True c q) in
      subst (λ (z : Tree). Follows d [] (TailLine (RIfDef left) ∷ HoldingLine And 1 ∷ HoldingLine Imp 2 ∷ TailLine (RNotTrue 4) ∷ TailLine (RClash 4 0) ∷ []) ((neg (alike left z) ∷ []) ∷ [])) (sym (r ∙ ap simplify_rule e))
      (subst (λ (z : Tree). Follows d [] (TailLine (RIfDef z) ∷ HoldingLine And 1 ∷ HoldingLine Imp 2 ∷ TailLine (RNotTrue 4) ∷ TailLine (RClash 4 0) ∷ []) ((neg (alike z a) ∷ []) ∷ [])) (sym e) (then_follows (subst (IsGroundExpression d.task) e g)))

  pub else_law : (c left right : Tree) → left ≡ Three HIf c a b → right ≡ simplify_rule left → side.False ≡ constant c → IsGroundExpression d.task left
      → Follows d [] (TailLine (RIfDef left) ∷ HoldingLine And 1 ∷ HoldingLine Imp 3 ∷ TailLine (RNotNot 4) ∷ TailLine (RFalse 5) ∷ TailLine (RClash 4 0) ∷ []) ((neg (alike left right) ∷ []) ∷ [])
  else_law c left right p r q g =
      let e : left ≡ Three HIf (Leaf HFalse) a b = p ∙ ap (λ (z : Tree). Three HIf z a b) (known_side side.False c q) in
      subst (λ (z : Tree). Follows d [] (TailLine (RIfDef left) ∷ HoldingLine And 1 ∷ HoldingLine Imp 3 ∷ TailLine (RNotNot 4) ∷ TailLine (RFalse 5) ∷ TailLine (RClash 4 0) ∷ []) ((neg (alike left z) ∷ []) ∷ [])) (sym (r ∙ ap simplify_rule e))
      (subst (λ (z : Tree). Follows d [] (TailLine (RIfDef z) ∷ HoldingLine And 1 ∷ HoldingLine Imp 3 ∷ TailLine (RNotNot 4) ∷ TailLine (RFalse 5) ∷ TailLine (RClash 4 0) ∷ []) ((neg (alike z b) ∷ []) ∷ [])) (sym e) (else_follows (subst (IsGroundExpression d.task) e g)))

-- ---- quantifiers
-- a parameter from a number on is in neither side, nor in what is said of both
module _ (left right : Tree) (n : ℕ) (l : above_params left ≤ n) (r : above_params right ≤ n) where
  none_left : has_param left n ≡ false
  none_left = no_param_above left n l

  none_right : has_param right n ≡ false
  none_right = no_param_above right n r

  none_denied : has_param (denied left right) n ≡ false
  none_denied = cc (none_left, none_right)

  new_there : IsNew n (denied left right ∷ left ∷ neg right ∷ [])
  new_there = All-cons (λ (z : Tree). has_param z n ≡ false) (denied left right) (left ∷ neg right ∷ []) none_denied (All-cons (λ (z : Tree). has_param z n ≡ false) left (neg right ∷ []) none_left (All-cons (λ (z : Tree). has_param z n ≡ false) (neg right) [] none_right (All-nil (λ (z : Tree). has_param z n ≡ false))))

  new_back : IsNew n (denied left right ∷ neg left ∷ right ∷ [])
  new_back = All-cons (λ (z : Tree). has_param z n ≡ false) (denied left right) (neg left ∷ right ∷ []) none_denied (All-cons (λ (z : Tree). has_param z n ≡ false) (neg left) (right ∷ []) none_left (All-cons (λ (z : Tree). has_param z n ≡ false) right [] none_right (All-nil (λ (z : Tree). has_param z n ≡ false))))

module _ (d : DraftTree) (ty b p : Tree) (n : ℕ) (free : is_open 0 b ≡ false) (e : p ≡ Param n ty) (g : IsGroundExpression d.task p) (above : above_params b ≤ n) where
  abbrev right : Tree
  right = inst b zero_term

  at_term : inst b p ≡ right
  at_term = inst_not_open p zero_term b free

  at_new : inst b (Param n ty) ≡ right
  at_new = inst_not_open (Param n ty) zero_term b free

  p_type : type_of p ≡ Some ty
  p_type = ap type_of e

  right_above : above_params right ≤ n
  right_above = open_inst_above zero_term n (omega arith) b above

  none_new : IsNew n []
  none_new = All-nil (λ (z : Tree). has_param z n ≡ false)

  forall_follows : above_params (Two HForall ty b) ≤ n → Follows d [] (FailingLine Iff 0 ∷ TailLine (RForall 1 p) ∷ TailLine (RClash 3 2) ∷ TailLine (RNotForall 1 n) ∷ TailLine (RClash 2 3) ∷ []) ((denied (Two HForall ty b) right ∷ []) ∷ [])
  forall_follows l =
      let left : Tree = Two HForall ty b in (
        refl,
        (
          forall_line d.task (denied left right ∷ left ∷ neg right ∷ []) 1 ty b p refl p_type g,
          tt,
          (
            clash_line d.task (denied left right ∷ left ∷ neg right ∷ inst b p ∷ []) 3 2 right (ap (λ (z : Tree). Some z) at_term) refl,
            tt,
            (not_forall_line d.task (denied left right ∷ neg left ∷ right ∷ []) 1 n ty b refl (new_back left right n l right_above), none_new, (clash_line d.task (denied left right ∷ neg left ∷ right ∷ neg (inst b (Param n ty)) ∷ []) 2 3 right refl (ap (λ (z : Tree). Some (neg z)) at_new), tt, tt)),
          ),
        ),
      )

  exists_follows : above_params (Two HExists ty b) ≤ n → Follows d [] (FailingLine Iff 0 ∷ TailLine (RExists 1 n) ∷ TailLine (RClash 3 2) ∷ TailLine (RNotExists 1 p) ∷ TailLine (RClash 2 3) ∷ []) ((denied (Two HExists ty b) right ∷ []) ∷ [])
  exists_follows l =
      let left : Tree = Two HExists ty b in (
        refl,
        (
          exists_line d.task (denied left right ∷ left ∷ neg right ∷ []) 1 n ty b refl (new_there left right n l right_above),
          none_new,
          (
            clash_line d.task (denied left right ∷ left ∷ neg right ∷ inst b (Param n ty) ∷ []) 3 2 right (ap (λ (z : Tree). Some z) at_new) refl,
            tt,
            (not_exists_line d.task (denied left right ∷ neg left ∷ right ∷ []) 1 ty b p refl p_type g, tt, (clash_line d.task (denied left right ∷ neg left ∷ right ∷ neg (inst b p) ∷ []) 2 3 right refl (ap (λ (z : Tree). Some (neg z)) at_term), tt, tt)),
          ),
        ),
      )

  pub forall_law : (left made : Tree) → left ≡ Two HForall ty b → made ≡ simplify_rule left → above_params left ≤ n → Follows d [] (FailingLine Iff 0 ∷ TailLine (RForall 1 p) ∷ TailLine (RClash 3 2) ∷ TailLine (RNotForall 1 n) ∷ TailLine (RClash 2 3) ∷ []) ((neg (alike left made) ∷ []) ∷ [])
  forall_law left made q m l =
      let x : made ≡ right = m ∙ ap simplify_rule q ∙ ap (λ (z : Bool). quantified_by z HForall ty b) free in
      subst (λ (z : Tree). Follows d [] (FailingLine Iff 0 ∷ TailLine (RForall 1 p) ∷ TailLine (RClash 3 2) ∷ TailLine (RNotForall 1 n) ∷ TailLine (RClash 2 3) ∷ []) ((neg (alike left z) ∷ []) ∷ [])) (sym x)
      (subst (λ (z : Tree). Follows d [] (FailingLine Iff 0 ∷ TailLine (RForall 1 p) ∷ TailLine (RClash 3 2) ∷ TailLine (RNotForall 1 n) ∷ TailLine (RClash 2 3) ∷ []) ((neg (alike z right) ∷ []) ∷ [])) (sym q) (forall_follows (subst (λ (z : Tree). above_params z ≤ n) q l)))

  pub exists_law : (left made : Tree) → left ≡ Two HExists ty b → made ≡ simplify_rule left → above_params left ≤ n → Follows d [] (FailingLine Iff 0 ∷ TailLine (RExists 1 n) ∷ TailLine (RClash 3 2) ∷ TailLine (RNotExists 1 p) ∷ TailLine (RClash 2 3) ∷ []) ((neg (alike left made) ∷ []) ∷ [])
  exists_law left made q m l =
      let x : made ≡ right = m ∙ ap simplify_rule q ∙ ap (λ (z : Bool). quantified_by z HExists ty b) free in
      subst (λ (z : Tree). Follows d [] (FailingLine Iff 0 ∷ TailLine (RExists 1 n) ∷ TailLine (RClash 3 2) ∷ TailLine (RNotExists 1 p) ∷ TailLine (RClash 2 3) ∷ []) ((neg (alike left z) ∷ []) ∷ [])) (sym x)
      (subst (λ (z : Tree). Follows d [] (FailingLine Iff 0 ∷ TailLine (RExists 1 n) ∷ TailLine (RClash 3 2) ∷ TailLine (RNotExists 1 p) ∷ TailLine (RClash 2 3) ∷ []) ((neg (alike z right) ∷ []) ∷ [])) (sym q) (exists_follows (subst (λ (z : Tree). above_params z ≤ n) q l)))
