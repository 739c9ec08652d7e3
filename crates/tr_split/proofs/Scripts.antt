-- The scripts by which the start of a goal follows from those of what it is split into.
use Rattle.std.proofs.Common.{◌≡◌, ℕ, false, List, [], ◌∷◌, ◌++◌, length, slice_get, Some, refl, sym, subst}
use Rattle.tasks.proofs.plain_laws.Lists.{All-left, All-right}
use Rattle.tasks.specs.trees.declared.Op.TheVariants.{And, AndThen, Imp, Iff}
use Rattle.tasks.specs.trees.declared.Sort.{Sort}
use Rattle.tasks.specs.trees.declared.Sort.TheVariants.{Formula}
use Rattle.tasks.specs.trees.Tree.{Tree, Leaf, Two, Three, HTrue, HForall, HLet, HIf}
use Rattle.tasks.specs.trees.Binding.{inst, Param}
use Rattle.tasks.specs.trees.Facts.{has_param}
use Rattle.tasks.specs.trees.Sorts.{sort_of, type_of}
use Rattle.tasks.specs.Task.{neg}
use Rattle.kernel.specs.rules.Trees.{RNotTrue, RClash, RForall, RNotForall, RLetDef, RIfDef}
use Rattle.kernel.specs.rules.Forms.{join, alike, alike_by}
use Rattle.kernel.specs.rules.Rows.{IsNew}
use Rattle.kernel.specs.Right.{IsGroundExpression}
use Rattle.evidence.specs.Drafts.{DraftTree, Refutes}
use Rattle.evidence.specs.proof_scripts.Scripts.{LineTree, GivenLine, HoldingLine, FailingLine, CutLine, TailLine, IsGiven, IsOfTail, Follows}
use Rattle.evidence.proofs.proof_scripts.Lines.{clash_line, true_line, forall_line, not_forall_line, let_line, if_line}

module _ (d : DraftTree) (F : List Tree) where
  given : (before last : List Tree) (k : ℕ) → Refutes d k (F ++ last) → IsGiven d F (before ++ last) k (length last)
  given before last k r = record { before = before; last = last; is = refl; as_many = refl; refutes = r }

  abbrev clash : ℕ → ℕ → LineTree
  clash i j = TailLine (RClash i j)

  clash_at : (t : List Tree) (i j : ℕ) (a : Tree) → slice_get t i ≡ Some a → slice_get t j ≡ Some (neg a) → IsOfTail d.task t (RClash i j)
  clash_at t i j a e f = clash_line d.task t i j a e f

  -- the equivalence of two formulas
  alike_left : (t : List Tree) (l e : Tree) (ls : List LineTree) (ts : List (List Tree)) → sort_of l ≡ Formula → Follows d F ls ((t ++ join Iff l e ∷ []) ∷ ts) → Follows d F ls ((t ++ alike l e ∷ []) ∷ ts)
  alike_left t l e ls ts q h = subst (λ (k : Sort). Follows d F ls ((t ++ alike_by k l e ∷ []) ∷ ts)) (sym q) h

  -- ---- goals
  pub true_follows : Follows d F (TailLine (RNotTrue 0) ∷ []) ((neg (Leaf HTrue) ∷ []) ∷ [])
  true_follows = (true_line d.task (neg (Leaf HTrue) ∷ []) 0 refl, tt, tt)

  pub and_follows : (a b : Tree) (left right : ℕ) → Refutes d left (F ++ neg a ∷ []) → Refutes d right (F ++ neg b ∷ [])
      → Follows d F (FailingLine And 0 ∷ GivenLine left 1 ∷ GivenLine right 1 ∷ []) ((neg (join And a b) ∷ []) ∷ [])
  and_follows a b left right l r =
      let g = neg (join And a b) in
      (refl, (given (g ∷ []) (neg a ∷ []) left l, (given (g ∷ []) (neg b ∷ []) right r, tt)))

  pub and_then_follows : (a b : Tree) (left right : ℕ) → Refutes d left (F ++ neg a ∷ []) → Refutes d right (F ++ neg (join Imp a b) ∷ [])
      → Follows d F (CutLine (join Imp a b) ∷ FailingLine AndThen 0 ∷ GivenLine left 1 ∷ HoldingLine Imp 1 ∷ GivenLine left 1 ∷ clash 3 2 ∷ GivenLine right 1 ∷ []) ((neg (join AndThen a b) ∷ []) ∷ [])
  and_then_follows a b left right l r =
      let g = neg (join AndThen a b) in
      let i = join Imp a b in (
        refl,
        (
          given (g ∷ i ∷ []) (neg a ∷ []) left l,
          (
            refl,
            (
              given (g ∷ i ∷ neg b ∷ []) (neg a ∷ []) left l,
              (clash_at (g ∷ i ∷ neg b ∷ b ∷ []) 3 2 b refl refl, tt, (given (g ∷ []) (neg i ∷ []) right r, tt)),
            ),
          ),
        ),
      )

  pub iff_follows : (a b : Tree) (left right : ℕ) → Refutes d left (F ++ neg (join Imp a b) ∷ []) → Refutes d right (F ++ neg (join Imp b a) ∷ [])
      → Follows d F (CutLine (join Imp a b) ∷ CutLine (join Imp b a) ∷ FailingLine Iff 0 ∷ HoldingLine Imp 1 ∷ clash 3 5 ∷ clash 5 4 ∷ HoldingLine Imp 2 ∷ clash 4 5 ∷ clash 5 3 ∷ GivenLine right 1 ∷ GivenLine left 1 ∷ []) ((neg (join Iff a b) ∷ []) ∷ [])
  iff_follows a b left right l r =
      let g = neg (join Iff a b) in
      let i = join Imp a b in
      let j = join Imp b a in (
        refl,
        (
          refl,
          (
            clash_at (g ∷ i ∷ j ∷ a ∷ neg b ∷ neg a ∷ []) 3 5 a refl refl,
            tt,
            (
              clash_at (g ∷ i ∷ j ∷ a ∷ neg b ∷ b ∷ []) 5 4 b refl refl,
              tt,
              (
                refl,
                (
                  clash_at (g ∷ i ∷ j ∷ neg a ∷ b ∷ neg b ∷ []) 4 5 b refl refl,
                  tt,
                  (clash_at (g ∷ i ∷ j ∷ neg a ∷ b ∷ a ∷ []) 5 3 a refl refl, tt, (given (g ∷ i ∷ []) (neg j ∷ []) right r, (given (g ∷ []) (neg i ∷ []) left l, tt))),
                ),
              ),
            ),
          ),
        ),
      )

  pub imp_follows : (a b : Tree) (step : ℕ) → Refutes d step (F ++ a ∷ neg b ∷ []) → Follows d F (FailingLine Imp 0 ∷ GivenLine step 2 ∷ []) ((neg (join Imp a b) ∷ []) ∷ [])
  imp_follows a b step r = (refl, (given (neg (join Imp a b) ∷ []) (a ∷ neg b ∷ []) step r, tt))

  forall_follows : (ty b : Tree) (m step : ℕ) → IsNew m (F ++ neg (Two HForall ty b) ∷ []) → Refutes d step (F ++ neg (inst b (Param m ty)) ∷ [])
      → Follows d F (TailLine (RNotForall 0 m) ∷ GivenLine step 1 ∷ []) ((neg (Two HForall ty b) ∷ []) ∷ [])
  forall_follows ty b m step q r =
      (not_forall_line d.task (neg (Two HForall ty b) ∷ []) 0 m ty b refl (All-right (λ a. has_param a m ≡ false) F (neg (Two HForall ty b) ∷ []) q), All-left (λ a. has_param a m ≡ false) F (neg (Two HForall ty b) ∷ []) q, (given (neg (Two HForall ty b) ∷ []) (neg (inst b (Param m ty)) ∷ []) step r, tt))

  let_follows : (v b : Tree) (step : ℕ) → IsGroundExpression d.task (Two HLet v b) → sort_of (Two HLet v b) ≡ Formula → Refutes d step (F ++ neg (inst b v) ∷ [])
      → Follows d F (TailLine (RLetDef (Two HLet v b)) ∷ HoldingLine Iff 1 ∷ clash 2 0 ∷ GivenLine step 1 ∷ []) ((neg (Two HLet v b) ∷ []) ∷ [])
  let_follows v b step x q r =
      let l = Two HLet v b in
      let e = inst b v in
      let i = join Iff l e in
      (let_line d.task (neg l ∷ []) v b x, tt, alike_left (neg l ∷ []) l e (HoldingLine Iff 1 ∷ clash 2 0 ∷ GivenLine step 1 ∷ []) [] q (refl, (clash_at (neg l ∷ i ∷ l ∷ e ∷ []) 2 0 l refl refl, tt, (given (neg l ∷ i ∷ neg l ∷ []) (neg e ∷ []) step r, tt))))

  abbrev if_lines : Tree → ℕ → ℕ → List LineTree
  if_lines c left right =
      HoldingLine And 3 ∷ CutLine c
      ∷ HoldingLine Imp 4 ∷ clash 6 7 ∷ HoldingLine Imp 1 ∷ clash 6 8 ∷ HoldingLine Iff 7 ∷ clash 9 0 ∷ clash 8 10
      ∷ HoldingLine Imp 5 ∷ clash 6 7 ∷ HoldingLine Imp 2 ∷ clash 6 8 ∷ HoldingLine Iff 7 ∷ clash 9 0 ∷ clash 8 10
      ∷ GivenLine right 1 ∷ GivenLine left 1 ∷ []

  abbrev defined_if : Sort → Tree → Tree → Tree → Tree
  defined_if k c a b = join And (join Imp c (alike_by k (Three HIf c a b) a)) (join Imp (neg c) (alike_by k (Three HIf c a b) b))

  abbrev if_opened : Sort → Tree → Tree → Tree → List (List Tree)
  if_opened k c a b =
      let i = Three HIf c a b in
      let u = join Imp c a in
      let v = join Imp (neg c) b in
      (neg i ∷ u ∷ v ∷ defined_if k c a b ∷ []) ∷ (neg i ∷ u ∷ neg v ∷ []) ∷ (neg i ∷ neg u ∷ []) ∷ []

  if_rest : (c a b : Tree) (left right : ℕ) → Refutes d left (F ++ neg (join Imp c a) ∷ []) → Refutes d right (F ++ neg (join Imp (neg c) b) ∷ []) → Follows d F (if_lines c left right) (if_opened Formula c a b)
  if_rest c a b left right l r =
      let i = Three HIf c a b in
      let u = join Imp c a in
      let v = join Imp (neg c) b in
      let ia = join Iff i a in
      let ib = join Iff i b in
      let p = join Imp c ia in
      let s = join Imp (neg c) ib in
      let t : List Tree = neg i ∷ u ∷ v ∷ join And p s ∷ p ∷ s ∷ [] in (
        refl,
        (
          refl,
          (
            clash_at (t ++ c ∷ neg c ∷ []) 6 7 c refl refl,
            tt,
            (
              refl,
              (
                clash_at (t ++ c ∷ ia ∷ neg c ∷ []) 6 8 c refl refl,
                tt,
                (
                  refl,
                  (
                    clash_at (t ++ c ∷ ia ∷ a ∷ i ∷ a ∷ []) 9 0 i refl refl,
                    tt,
                    (
                      clash_at (t ++ c ∷ ia ∷ a ∷ neg i ∷ neg a ∷ []) 8 10 a refl refl,
                      tt,
                      (
                        refl,
                        (
                          clash_at (t ++ neg c ∷ neg (neg c) ∷ []) 6 7 (neg c) refl refl,
                          tt,
                          (
                            refl,
                            (
                              clash_at (t ++ neg c ∷ ib ∷ neg (neg c) ∷ []) 6 8 (neg c) refl refl,
                              tt,
                              (
                                refl,
                                (
                                  clash_at (t ++ neg c ∷ ib ∷ b ∷ i ∷ b ∷ []) 9 0 i refl refl,
                                  tt,
                                  (
                                    clash_at (t ++ neg c ∷ ib ∷ b ∷ neg i ∷ neg b ∷ []) 8 10 b refl refl,
                                    tt,
                                    (given (neg i ∷ u ∷ []) (neg v ∷ []) right r, (given (neg i ∷ []) (neg u ∷ []) left l, tt)),
                                  ),
                                ),
                              ),
                            ),
                          ),
                        ),
                      ),
                    ),
                  ),
                ),
              ),
            ),
          ),
        ),
      )

  if_follows : (c a b : Tree) (left right : ℕ) → IsGroundExpression d.task (Three HIf c a b) → sort_of (Three HIf c a b) ≡ Formula → Refutes d left (F ++ neg (join Imp c a) ∷ []) → Refutes d right (F ++ neg (join Imp (neg c) b) ∷ [])
      → Follows d F (CutLine (join Imp c a) ∷ CutLine (join Imp (neg c) b) ∷ TailLine (RIfDef (Three HIf c a b)) ∷ if_lines c left right) ((neg (Three HIf c a b) ∷ []) ∷ [])
  if_follows c a b left right x q l r =
      let i = Three HIf c a b in
      let u = join Imp c a in
      let v = join Imp (neg c) b in
      (if_line d.task (neg i ∷ u ∷ v ∷ []) c a b x, tt, subst (λ (k : Sort). Follows d F (if_lines c left right) (if_opened k c a b)) (sym q) (if_rest c a b left right l r))

  -- ---- ends of parts
  pub under_follows : (h b : Tree) (end : ℕ) → Refutes d end (F ++ neg (join Imp h b) ∷ []) → Follows d F (CutLine (join Imp h b) ∷ HoldingLine Imp 2 ∷ clash 0 3 ∷ clash 3 1 ∷ GivenLine end 1 ∷ []) ((h ∷ neg b ∷ []) ∷ [])
  under_follows h b end r =
      let i = join Imp h b in
      (refl, (clash_at (h ∷ neg b ∷ i ∷ neg h ∷ []) 0 3 h refl refl, tt, (clash_at (h ∷ neg b ∷ i ∷ b ∷ []) 3 1 b refl refl, tt, (given (h ∷ neg b ∷ []) (neg i ∷ []) end r, tt))))

  opened_follows : (ty b u : Tree) (end : ℕ) → type_of u ≡ Some ty → IsGroundExpression d.task u → Refutes d end (F ++ neg (Two HForall ty b) ∷ [])
      → Follows d F (CutLine (Two HForall ty b) ∷ TailLine (RForall 1 u) ∷ clash 2 0 ∷ GivenLine end 1 ∷ []) ((neg (inst b u) ∷ []) ∷ [])
  opened_follows ty b u end q g r =
      let f = Two HForall ty b in
      let e = inst b u in
      (forall_line d.task (neg e ∷ f ∷ []) 1 ty b u refl q g, tt, (clash_at (neg e ∷ f ∷ e ∷ []) 2 0 e refl refl, tt, (given (neg e ∷ []) (neg f ∷ []) end r, tt)))

  valued_follows : (v b : Tree) (end : ℕ) → IsGroundExpression d.task (Two HLet v b) → sort_of (Two HLet v b) ≡ Formula → Refutes d end (F ++ neg (Two HLet v b) ∷ [])
      → Follows d F (CutLine (Two HLet v b) ∷ TailLine (RLetDef (Two HLet v b)) ∷ HoldingLine Iff 2 ∷ clash 4 0 ∷ clash 1 3 ∷ GivenLine end 1 ∷ []) ((neg (inst b v) ∷ []) ∷ [])
  valued_follows v b end x q r =
      let l = Two HLet v b in
      let e = inst b v in
      let i = join Iff l e in
      (let_line d.task (neg e ∷ l ∷ []) v b x, tt, alike_left (neg e ∷ l ∷ []) l e (HoldingLine Iff 2 ∷ clash 4 0 ∷ clash 1 3 ∷ GivenLine end 1 ∷ []) ((neg e ∷ neg l ∷ []) ∷ []) q (refl, (clash_at (neg e ∷ l ∷ i ∷ l ∷ e ∷ []) 4 0 e refl refl, tt, (clash_at (neg e ∷ l ∷ i ∷ neg l ∷ neg e ∷ []) 1 3 l refl refl, tt, (given (neg e ∷ []) (neg l ∷ []) end r, tt)))))

  -- ---- the same, of trees that are these
  pub forall_at : (g ty b : Tree) (m step : ℕ) → g ≡ Two HForall ty b → IsNew m (F ++ neg (Two HForall ty b) ∷ []) → Refutes d step (F ++ neg (inst b (Param m ty)) ∷ [])
      → Follows d F (TailLine (RNotForall 0 m) ∷ GivenLine step 1 ∷ []) ((neg g ∷ []) ∷ [])
  forall_at g ty b m step e q r = subst (λ (z : Tree). Follows d F (TailLine (RNotForall 0 m) ∷ GivenLine step 1 ∷ []) ((neg z ∷ []) ∷ [])) (sym e) (forall_follows ty b m step q r)

  pub let_at : (g v b : Tree) (step : ℕ) → g ≡ Two HLet v b → IsGroundExpression d.task (Two HLet v b) → sort_of (Two HLet v b) ≡ Formula → Refutes d step (F ++ neg (inst b v) ∷ [])
      → Follows d F (TailLine (RLetDef g) ∷ HoldingLine Iff 1 ∷ clash 2 0 ∷ GivenLine step 1 ∷ []) ((neg g ∷ []) ∷ [])
  let_at g v b step e x q r =
      subst (λ (z : Tree). Follows d F (TailLine (RLetDef z) ∷ HoldingLine Iff 1 ∷ clash 2 0 ∷ GivenLine step 1 ∷ []) ((neg z ∷ []) ∷ [])) (sym e) (let_follows v b step x q r)

  pub if_at : (g u v k c a b : Tree) (left right : ℕ) → g ≡ Three HIf c a b → u ≡ join Imp c a → v ≡ join Imp (neg c) b → k ≡ c → IsGroundExpression d.task (Three HIf c a b) → sort_of (Three HIf c a b) ≡ Formula
      → Refutes d left (F ++ neg (join Imp c a) ∷ []) → Refutes d right (F ++ neg (join Imp (neg c) b) ∷ [])
      → Follows d F (CutLine u ∷ CutLine v ∷ TailLine (RIfDef g) ∷ if_lines k left right) ((neg g ∷ []) ∷ [])
  if_at g u v k c a b left right e p q s x t l r =
      let i = Three HIf c a b in
      let by_k = subst (λ (z : Tree). Follows d F (CutLine (join Imp c a) ∷ CutLine (join Imp (neg c) b) ∷ TailLine (RIfDef i) ∷ if_lines z left right) ((neg i ∷ []) ∷ [])) (sym s) (if_follows c a b left right x t l r) in
      let by_v = subst (λ (z : Tree). Follows d F (CutLine (join Imp c a) ∷ CutLine z ∷ TailLine (RIfDef i) ∷ if_lines k left right) ((neg i ∷ []) ∷ [])) (sym q) by_k in
      let by_u = subst (λ (z : Tree). Follows d F (CutLine z ∷ CutLine v ∷ TailLine (RIfDef i) ∷ if_lines k left right) ((neg i ∷ []) ∷ [])) (sym p) by_v in
      subst (λ (z : Tree). Follows d F (CutLine u ∷ CutLine v ∷ TailLine (RIfDef z) ∷ if_lines k left right) ((neg z ∷ []) ∷ [])) (sym e) by_u

  pub opened_at : (w t n ty b u : Tree) (end : ℕ) → w ≡ Two HForall ty b → t ≡ u → n ≡ neg (inst b u) → type_of u ≡ Some ty → IsGroundExpression d.task u → Refutes d end (F ++ neg (Two HForall ty b) ∷ [])
      → Follows d F (CutLine w ∷ TailLine (RForall 1 t) ∷ clash 2 0 ∷ GivenLine end 1 ∷ []) ((n ∷ []) ∷ [])
  opened_at w t n ty b u end e p q o g r =
      let f = Two HForall ty b in
      let by_n = subst (λ (z : Tree). Follows d F (CutLine f ∷ TailLine (RForall 1 u) ∷ clash 2 0 ∷ GivenLine end 1 ∷ []) ((z ∷ []) ∷ [])) (sym q) (opened_follows ty b u end o g r) in
      let by_t = subst (λ (z : Tree). Follows d F (CutLine f ∷ TailLine (RForall 1 z) ∷ clash 2 0 ∷ GivenLine end 1 ∷ []) ((n ∷ []) ∷ [])) (sym p) by_n in
      subst (λ (z : Tree). Follows d F (CutLine z ∷ TailLine (RForall 1 t) ∷ clash 2 0 ∷ GivenLine end 1 ∷ []) ((n ∷ []) ∷ [])) (sym e) by_t

  pub valued_at : (w n v b : Tree) (end : ℕ) → w ≡ Two HLet v b → n ≡ neg (inst b v) → IsGroundExpression d.task (Two HLet v b) → sort_of (Two HLet v b) ≡ Formula → Refutes d end (F ++ neg (Two HLet v b) ∷ [])
      → Follows d F (CutLine w ∷ TailLine (RLetDef w) ∷ HoldingLine Iff 2 ∷ clash 4 0 ∷ clash 1 3 ∷ GivenLine end 1 ∷ []) ((n ∷ []) ∷ [])
  valued_at w n v b end e p x q r =
      let l = Two HLet v b in
      let by_n = subst (λ (z : Tree). Follows d F (CutLine l ∷ TailLine (RLetDef l) ∷ HoldingLine Iff 2 ∷ clash 4 0 ∷ clash 1 3 ∷ GivenLine end 1 ∷ []) ((z ∷ []) ∷ [])) (sym p) (valued_follows v b end x q r) in
      subst (λ (z : Tree). Follows d F (CutLine z ∷ TailLine (RLetDef z) ∷ HoldingLine Iff 2 ∷ clash 4 0 ∷ clash 1 3 ∷ GivenLine end 1 ∷ []) ((n ∷ []) ∷ [])) (sym e) by_n
