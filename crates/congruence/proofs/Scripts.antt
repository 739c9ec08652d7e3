-- The scripts of the crate, at the trees of their formulas: what each line asks of the sequent.
use Rattle.std.proofs.Common.{◌≡◌, ℕ, false, Option, Some, IsSomeAnd, List, [], ◌∷◌, ◌++◌, slice_get, refl, sym, ap, subst, ◌∙◌}
use Rattle.std.proofs.lemmas.List.Elements.{All-nil}
use Rattle.trees.specs.declared.TermId.{TermId}
use Rattle.trees.specs.declared.Op.TheVariants.{And, Imp, Iff}
use Rattle.trees.specs.declared.Sort.{Sort}
use Rattle.trees.specs.declared.Sort.TheVariants.{Term, Formula}
use Rattle.trees.specs.Tree.{Tree, Two, Three, HJoin, HForall, HExists, HLet, HIf}
use Rattle.trees.specs.Node.{tree_at, Holds}
use Rattle.trees.specs.Binding.{inst, Param}
use Rattle.trees.specs.Facts.{has_param}
use Rattle.trees.specs.Sorts.{sort_of, type_of}
use Rattle.tasks.specs.Task.{TaskTree, neg}
use Rattle.rules.specs.Trees.{RClash, RNotNot, RForall, RNotForall, RExists, RNotExists, RReplace, RLetDef, RIfDef, RMatchDef}
use Rattle.rules.specs.Forms.{equal, alike, alike_by, by_cases}
use Rattle.rules.specs.Rows.{IsNew, IsTemplate}
use Rattle.kernel.specs.Right.{IsGroundExpression}
use Rattle.evidence.specs.Drafts.{DraftTree, Extends, Refutes, RefutesAt}
use Rattle.evidence.specs.proof_scripts.Scripts.{LineTree, KeptLine, HoldingLine, CutLine, TailLine, MadeLine, Follows}
use Rattle.evidence.proofs.proof_scripts.Lines.{clash_line, not_not_line, forall_line, not_forall_line, exists_line, not_exists_line, replace_line, let_line, if_line, branch_unfolds, branches_unfold}
use Rattle.congruence.specs.Alike.{TemplateFor}
use Rattle.congruence.specs.Conditionals.{IsMatchCases, IsLastBranch}
use Rattle.congruence.proofs.Later.{tree_later}

-- a claim of two terms is their equation
pub claim_equal : (a b : Tree) → sort_of a ≡ Term → alike a b ≡ equal a b
claim_equal a b q = ap (λ (s : Sort). alike_by s a b) q

-- a claim of two formulas is their equivalence
pub claim_iff : (a b : Tree) → sort_of a ≡ Formula → alike a b ≡ Two (HJoin Iff) a b
claim_iff a b q = ap (λ (s : Sort). alike_by s a b) q

template_some : (t : TaskTree) (a e : Tree) → TemplateFor t a e → IsSomeAnd (type_of a) (λ ty. IsTemplate t ty e)
template_some t a e h = subst (λ (o : Option Tree). IsSomeAnd o (λ ty. IsTemplate t ty e)) (sym h.1.0) h.1.1

-- ---- trees in a later draft
module _ (d d1 : DraftTree) (x : Extends d d1) (a b : TermId) where
  pub equal_at : Holds d.trees a → Holds d.trees b → equal (tree_at d.trees a) (tree_at d.trees b) ≡ equal (tree_at d1.trees a) (tree_at d1.trees b)
  equal_at ha hb = cc (sym (tree_later d d1 x a ha), sym (tree_later d d1 x b hb))

  pub link_later : (link : Tree) → Holds d.trees a → Holds d.trees b → link ≡ equal (tree_at d.trees a) (tree_at d.trees b) → link ≡ equal (tree_at d1.trees a) (tree_at d1.trees b)
  link_later link ha hb q = q ∙ equal_at ha hb

  pub inst_later : Holds d.trees a → Holds d.trees b → inst (tree_at d.trees a) (tree_at d.trees b) ≡ inst (tree_at d1.trees a) (tree_at d1.trees b)
  inst_later ha hb = ap (λ (z : Tree). inst z (tree_at d.trees b)) (sym (tree_later d d1 x a ha)) ∙ ap (inst (tree_at d1.trees a)) (sym (tree_later d d1 x b hb))

module _ (d : DraftTree) where
  abbrev clash : ℕ → ℕ → LineTree
  clash i j = TailLine (RClash i j)

  clash_first : (s : List Tree) (i j : ℕ) (a : Tree) (ls : List LineTree) (ts : List (List Tree)) → slice_get s i ≡ Some a → slice_get s j ≡ Some (neg a) → Follows d [] ls ts → Follows d [] (clash i j ∷ ls) (s ∷ ts)
  clash_first s i j a ls ts p q h = (clash_line d.task s i j a p q, tt, h)

  pub one_kept : (s : List Tree) (i k : ℕ) (a : Tree) → slice_get s i ≡ Some a → Refutes d k (a ∷ []) → RefutesAt d s (i ∷ []) k
  one_kept s i k a q r = record { kept = a ∷ []; are = ap (λ (o : Option Tree). o ∷ []) (sym q); refutes = r }

  pub two_kept : (s : List Tree) (i j k : ℕ) (a b : Tree) → slice_get s i ≡ Some a → slice_get s j ≡ Some b → Refutes d k (a ∷ b ∷ []) → RefutesAt d s (i ∷ j ∷ []) k
  two_kept s i j k a b p q r = record { kept = a ∷ b ∷ []; are = cc (p, q); refutes = r }

  -- ---- a term in the place of an equal one
  module _ (a b e link : Tree) (lemma : ℕ) (l : link ≡ equal a b) (t : TemplateFor d.task a e) (r : Refutes d lemma (neg (equal a b) ∷ [])) where
    fits : IsSomeAnd (type_of a) (λ ty. IsTemplate d.task ty e)
    fits = template_some d.task a e t

    pub replaced_goal : (goal : Tree) (step : ℕ) → goal ≡ inst e a → Refutes d step (inst e b ∷ [])
        → Follows d [] (CutLine link ∷ TailLine (RReplace 1 0 e) ∷ KeptLine step (2 ∷ []) ∷ KeptLine lemma (1 ∷ []) ∷ []) ((goal ∷ []) ∷ [])
    replaced_goal goal step g q =
        let s : List Tree = inst e a ∷ equal a b ∷ [] in
        subst (λ (z : Tree). Follows d [] (CutLine link ∷ TailLine (RReplace 1 0 e) ∷ KeptLine step (2 ∷ []) ∷ KeptLine lemma (1 ∷ []) ∷ []) ((z ∷ []) ∷ [])) (sym g)
        (subst (λ (z : Tree). Follows d [] (CutLine z ∷ TailLine (RReplace 1 0 e) ∷ KeptLine step (2 ∷ []) ∷ KeptLine lemma (1 ∷ []) ∷ []) ((inst e a ∷ []) ∷ [])) (sym l)
        (replace_line d.task s 1 0 a b e refl refl fits, tt, (one_kept (inst e a ∷ equal a b ∷ inst e b ∷ []) 2 step (inst e b) refl q, (one_kept (inst e a ∷ neg (equal a b) ∷ []) 1 lemma (neg (equal a b)) refl r, tt))))

    -- [left; not right]
    pub replaced_left : (left no_right : Tree) → left ≡ inst e a → no_right ≡ neg (inst e b) → Follows d [] (CutLine link ∷ TailLine (RReplace 2 0 e) ∷ clash 3 1 ∷ KeptLine lemma (2 ∷ []) ∷ []) ((left ∷ no_right ∷ []) ∷ [])
    replaced_left left no_right p q =
        let s : List Tree = inst e a ∷ neg (inst e b) ∷ equal a b ∷ [] in
        subst (λ (z : Tree). Follows d [] (CutLine link ∷ TailLine (RReplace 2 0 e) ∷ clash 3 1 ∷ KeptLine lemma (2 ∷ []) ∷ []) ((z ∷ no_right ∷ []) ∷ [])) (sym p)
        (subst (λ (z : Tree). Follows d [] (CutLine link ∷ TailLine (RReplace 2 0 e) ∷ clash 3 1 ∷ KeptLine lemma (2 ∷ []) ∷ []) ((inst e a ∷ z ∷ []) ∷ [])) (sym q)
        (subst (λ (z : Tree). Follows d [] (CutLine z ∷ TailLine (RReplace 2 0 e) ∷ clash 3 1 ∷ KeptLine lemma (2 ∷ []) ∷ []) ((inst e a ∷ neg (inst e b) ∷ []) ∷ [])) (sym l)
        (replace_line d.task s 2 0 a b e refl refl fits, tt, clash_first (inst e a ∷ neg (inst e b) ∷ equal a b ∷ inst e b ∷ []) 3 1 (inst e b) (KeptLine lemma (2 ∷ []) ∷ []) ((inst e a ∷ neg (inst e b) ∷ neg (equal a b) ∷ []) ∷ []) refl refl (one_kept (inst e a ∷ neg (inst e b) ∷ neg (equal a b) ∷ []) 2 lemma (neg (equal a b)) refl r, tt))))

    -- [right; not left], by the template's negation
    pub replaced_right : (right no_left f : Tree) → right ≡ f → no_left ≡ inst e a → inst e b ≡ neg f → Follows d [] (CutLine link ∷ TailLine (RReplace 2 1 e) ∷ clash 0 3 ∷ KeptLine lemma (2 ∷ []) ∷ []) ((right ∷ no_left ∷ []) ∷ [])
    replaced_right right no_left f p q n =
        let s : List Tree = f ∷ inst e a ∷ equal a b ∷ [] in
        subst (λ (z : Tree). Follows d [] (CutLine link ∷ TailLine (RReplace 2 1 e) ∷ clash 0 3 ∷ KeptLine lemma (2 ∷ []) ∷ []) ((z ∷ no_left ∷ []) ∷ [])) (sym p)
        (subst (λ (z : Tree). Follows d [] (CutLine link ∷ TailLine (RReplace 2 1 e) ∷ clash 0 3 ∷ KeptLine lemma (2 ∷ []) ∷ []) ((f ∷ z ∷ []) ∷ [])) (sym q)
        (subst (λ (z : Tree). Follows d [] (CutLine z ∷ TailLine (RReplace 2 1 e) ∷ clash 0 3 ∷ KeptLine lemma (2 ∷ []) ∷ []) ((f ∷ inst e a ∷ []) ∷ [])) (sym l)
        (replace_line d.task s 2 1 a b e refl refl fits, tt, clash_first (f ∷ inst e a ∷ equal a b ∷ inst e b ∷ []) 0 3 f (KeptLine lemma (2 ∷ []) ∷ []) ((f ∷ inst e a ∷ neg (equal a b) ∷ []) ∷ []) refl (ap (λ (z : Tree). Some z) n) (one_kept (f ∷ inst e a ∷ neg (equal a b) ∷ []) 2 lemma (neg (equal a b)) refl r, tt))))

  -- the same under hypotheses, of which the first gives the equation
  module _ (a b e link goal h : Tree) (value : ℕ) (l : link ≡ equal a b) (t : TemplateFor d.task a e) (g : goal ≡ inst e a) (r : Refutes d value (h ∷ neg (equal a b) ∷ [])) where
    fits_too : IsSomeAnd (type_of a) (λ ty. IsTemplate d.task ty e)
    fits_too = template_some d.task a e t

    pub replaced_one : (lemma : ℕ) → Refutes d lemma (inst e b ∷ []) → Follows d [] (CutLine link ∷ TailLine (RReplace 2 0 e) ∷ KeptLine lemma (3 ∷ []) ∷ KeptLine value (1 ∷ 2 ∷ []) ∷ []) ((goal ∷ h ∷ []) ∷ [])
    replaced_one lemma q =
        subst (λ (z : Tree). Follows d [] (CutLine link ∷ TailLine (RReplace 2 0 e) ∷ KeptLine lemma (3 ∷ []) ∷ KeptLine value (1 ∷ 2 ∷ []) ∷ []) ((z ∷ h ∷ []) ∷ [])) (sym g)
        (subst (λ (z : Tree). Follows d [] (CutLine z ∷ TailLine (RReplace 2 0 e) ∷ KeptLine lemma (3 ∷ []) ∷ KeptLine value (1 ∷ 2 ∷ []) ∷ []) ((inst e a ∷ h ∷ []) ∷ [])) (sym l)
        (replace_line d.task (inst e a ∷ h ∷ equal a b ∷ []) 2 0 a b e refl refl fits_too, tt, (one_kept (inst e a ∷ h ∷ equal a b ∷ inst e b ∷ []) 3 lemma (inst e b) refl q, (two_kept (inst e a ∷ h ∷ neg (equal a b) ∷ []) 1 2 value h (neg (equal a b)) refl refl r, tt))))

    pub replaced_two : (k : Tree) (step : ℕ) → Refutes d step (inst e b ∷ k ∷ []) → Follows d [] (CutLine link ∷ TailLine (RReplace 3 0 e) ∷ KeptLine step (4 ∷ 2 ∷ []) ∷ KeptLine value (1 ∷ 3 ∷ []) ∷ []) ((goal ∷ h ∷ k ∷ []) ∷ [])
    replaced_two k step q =
        subst (λ (z : Tree). Follows d [] (CutLine link ∷ TailLine (RReplace 3 0 e) ∷ KeptLine step (4 ∷ 2 ∷ []) ∷ KeptLine value (1 ∷ 3 ∷ []) ∷ []) ((z ∷ h ∷ k ∷ []) ∷ [])) (sym g)
        (subst (λ (z : Tree). Follows d [] (CutLine z ∷ TailLine (RReplace 3 0 e) ∷ KeptLine step (4 ∷ 2 ∷ []) ∷ KeptLine value (1 ∷ 3 ∷ []) ∷ []) ((inst e a ∷ h ∷ k ∷ []) ∷ [])) (sym l) (
          replace_line d.task (inst e a ∷ h ∷ k ∷ equal a b ∷ []) 3 0 a b e refl refl fits_too,
          tt,
          (two_kept (inst e a ∷ h ∷ k ∷ equal a b ∷ inst e b ∷ []) 4 2 step (inst e b) k refl refl q, (two_kept (inst e a ∷ h ∷ k ∷ neg (equal a b) ∷ []) 1 3 value h (neg (equal a b)) refl refl r, tt)),
        ))

  -- ---- negations and quantifiers
  pub not_follows : (na whole nb a b : Tree) (back : ℕ) → na ≡ neg a → whole ≡ neg nb → nb ≡ neg b → Refutes d back (b ∷ neg a ∷ []) → Follows d [] (TailLine (RNotNot 1) ∷ KeptLine back (2 ∷ 0 ∷ []) ∷ []) ((na ∷ whole ∷ []) ∷ [])
  not_follows na whole nb a b back p w q r =
      subst (λ (z : Tree). Follows d [] (TailLine (RNotNot 1) ∷ KeptLine back (2 ∷ 0 ∷ []) ∷ []) ((na ∷ z ∷ []) ∷ [])) (sym (w ∙ ap neg q))
      (not_not_line d.task (na ∷ neg (neg b) ∷ []) 1 b refl, tt, (two_kept (na ∷ neg (neg b) ∷ b ∷ []) 2 0 back b (neg a) refl (ap (λ (z : Tree). Some z) p) r, tt))

  module _ (left right no_right ty a b p : Tree) (n step : ℕ) (m : no_right ≡ neg right) (e : p ≡ Param n ty) (g : IsGroundExpression d.task p) (new : IsNew n (left ∷ neg right ∷ [])) (r : Refutes d step (inst a (Param n ty) ∷ neg (inst b (Param n ty)) ∷ [])) where
    none_new : IsNew n []
    none_new = All-nil (λ (z : Tree). has_param z n ≡ false)

    param_ground : IsGroundExpression d.task (Param n ty)
    param_ground = subst (IsGroundExpression d.task) e g

    pub forall_follows : left ≡ Two HForall ty a → right ≡ Two HForall ty b → Follows d [] (TailLine (RNotForall 1 n) ∷ TailLine (RForall 0 p) ∷ KeptLine step (3 ∷ 2 ∷ []) ∷ []) ((left ∷ no_right ∷ []) ∷ [])
    forall_follows l q =
        let L = Two HForall ty a in
        let R = Two HForall ty b in
        let w : IsNew n (L ∷ neg R ∷ []) = subst (λ (z : Tree). IsNew n (L ∷ neg z ∷ [])) q (subst (λ (z : Tree). IsNew n (z ∷ neg right ∷ [])) l new) in
        subst (λ (z : Tree). Follows d [] (TailLine (RNotForall 1 n) ∷ TailLine (RForall 0 z) ∷ KeptLine step (3 ∷ 2 ∷ []) ∷ []) ((left ∷ no_right ∷ []) ∷ [])) (sym e)
        (subst (λ (z : Tree). Follows d [] (TailLine (RNotForall 1 n) ∷ TailLine (RForall 0 (Param n ty)) ∷ KeptLine step (3 ∷ 2 ∷ []) ∷ []) ((z ∷ no_right ∷ []) ∷ [])) (sym l)
        (subst (λ (z : Tree). Follows d [] (TailLine (RNotForall 1 n) ∷ TailLine (RForall 0 (Param n ty)) ∷ KeptLine step (3 ∷ 2 ∷ []) ∷ []) ((L ∷ z ∷ []) ∷ [])) (sym (m ∙ ap neg q)) (
          not_forall_line d.task (L ∷ neg R ∷ []) 1 n ty b refl w,
          none_new,
          (
            forall_line d.task (L ∷ neg R ∷ neg (inst b (Param n ty)) ∷ []) 0 ty a (Param n ty) refl refl param_ground,
            tt,
            (two_kept (L ∷ neg R ∷ neg (inst b (Param n ty)) ∷ inst a (Param n ty) ∷ []) 3 2 step (inst a (Param n ty)) (neg (inst b (Param n ty))) refl refl r, tt),
          ),
        )))

    pub exists_follows : left ≡ Two HExists ty a → right ≡ Two HExists ty b → Follows d [] (TailLine (RExists 0 n) ∷ TailLine (RNotExists 1 p) ∷ KeptLine step (2 ∷ 3 ∷ []) ∷ []) ((left ∷ no_right ∷ []) ∷ [])
    exists_follows l q =
        let L = Two HExists ty a in
        let R = Two HExists ty b in
        let w : IsNew n (L ∷ neg R ∷ []) = subst (λ (z : Tree). IsNew n (L ∷ neg z ∷ [])) q (subst (λ (z : Tree). IsNew n (z ∷ neg right ∷ [])) l new) in
        subst (λ (z : Tree). Follows d [] (TailLine (RExists 0 n) ∷ TailLine (RNotExists 1 z) ∷ KeptLine step (2 ∷ 3 ∷ []) ∷ []) ((left ∷ no_right ∷ []) ∷ [])) (sym e)
        (subst (λ (z : Tree). Follows d [] (TailLine (RExists 0 n) ∷ TailLine (RNotExists 1 (Param n ty)) ∷ KeptLine step (2 ∷ 3 ∷ []) ∷ []) ((z ∷ no_right ∷ []) ∷ [])) (sym l)
        (subst (λ (z : Tree). Follows d [] (TailLine (RExists 0 n) ∷ TailLine (RNotExists 1 (Param n ty)) ∷ KeptLine step (2 ∷ 3 ∷ []) ∷ []) ((L ∷ z ∷ []) ∷ [])) (sym (m ∙ ap neg q)) (
          exists_line d.task (L ∷ neg R ∷ []) 0 n ty a refl w,
          none_new,
          (
            not_exists_line d.task (L ∷ neg R ∷ inst a (Param n ty) ∷ []) 1 ty b (Param n ty) refl refl param_ground,
            tt,
            (two_kept (L ∷ neg R ∷ inst a (Param n ty) ∷ neg (inst b (Param n ty)) ∷ []) 2 3 step (inst a (Param n ty)) (neg (inst b (Param n ty))) refl refl r, tt),
          ),
        )))

  -- ---- an expression by its parts
  pub let_follows : (goal w i v b : Tree) → IsGroundExpression d.task w → w ≡ Two HLet v b → i ≡ inst b v → goal ≡ neg (alike w i) → Follows d [] (TailLine (RLetDef w) ∷ clash 1 0 ∷ []) ((goal ∷ []) ∷ [])
  let_follows goal w i v b g p q r =
      let W = Two HLet v b in
      let m : goal ≡ neg (alike W (inst b v)) = r ∙ ap (λ (z : Tree). neg (alike z i)) p ∙ ap (λ (z : Tree). neg (alike W z)) q in
      subst (λ (z : Tree). Follows d [] (TailLine (RLetDef z) ∷ clash 1 0 ∷ []) ((goal ∷ []) ∷ [])) (sym p)
      (subst (λ (z : Tree). Follows d [] (TailLine (RLetDef W) ∷ clash 1 0 ∷ []) ((z ∷ []) ∷ [])) (sym m)
      (let_line d.task (neg (alike W (inst b v)) ∷ []) v b (subst (IsGroundExpression d.task) p g), tt, clash_first (neg (alike W (inst b v)) ∷ alike W (inst b v) ∷ []) 1 0 (alike W (inst b v)) [] [] refl refl tt))

  pub branch_follows : (goal w x : Tree) → IsGroundExpression d.task w → IsLastBranch d.task w x → goal ≡ neg (alike w x) → Follows d [] (MadeLine (RMatchDef w) (alike w x) ∷ clash 1 0 ∷ []) ((goal ∷ []) ∷ [])
  branch_follows goal w x g h r =
      subst (λ (z : Tree). Follows d [] (MadeLine (RMatchDef w) (alike w x) ∷ clash 1 0 ∷ []) ((z ∷ []) ∷ [])) (sym r)
      (branch_unfolds d.task (neg (alike w x) ∷ []) w x h.scrutinee h.pattern h.body g h.is h.first, clash_first (neg (alike w x) ∷ alike w x ∷ []) 1 0 (alike w x) [] [] refl refl tt)

  -- by the equation of a conditional
  module _ (c w a b : Tree) where
    then_case : Follows d [] (HoldingLine And 2 ∷ HoldingLine Imp 3 ∷ clash 0 5 ∷ clash 5 1 ∷ []) ((c ∷ neg (alike w a) ∷ by_cases c w a b ∷ []) ∷ [])
    then_case =
        let s : List Tree = c ∷ neg (alike w a) ∷ by_cases c w a b ∷ Two (HJoin Imp) c (alike w a) ∷ Two (HJoin Imp) (neg c) (alike w b) ∷ [] in
        (refl, (refl, clash_first (s ++ neg c ∷ []) 0 5 c (clash 5 1 ∷ []) ((s ++ alike w a ∷ []) ∷ []) refl refl (clash_first (s ++ alike w a ∷ []) 5 1 (alike w a) [] [] refl refl tt)))

    else_case : Follows d [] (HoldingLine And 2 ∷ HoldingLine Imp 4 ∷ clash 0 5 ∷ clash 5 1 ∷ []) ((neg c ∷ neg (alike w b) ∷ by_cases c w a b ∷ []) ∷ [])
    else_case =
        let s : List Tree = neg c ∷ neg (alike w b) ∷ by_cases c w a b ∷ Two (HJoin Imp) c (alike w a) ∷ Two (HJoin Imp) (neg c) (alike w b) ∷ [] in
        (refl, (refl, clash_first (s ++ neg (neg c) ∷ []) 0 5 (neg c) (clash 5 1 ∷ []) ((s ++ alike w b ∷ []) ∷ []) refl refl (clash_first (s ++ alike w b ∷ []) 5 1 (alike w b) [] [] refl refl tt)))

    abbrev then_lines : LineTree → List LineTree
    then_lines l = l ∷ HoldingLine And 2 ∷ HoldingLine Imp 3 ∷ clash 0 5 ∷ clash 5 1 ∷ []

    abbrev else_lines : LineTree → List LineTree
    else_lines l = l ∷ HoldingLine And 2 ∷ HoldingLine Imp 4 ∷ clash 0 5 ∷ clash 5 1 ∷ []

    -- at formulas that equal these
    then_goal : (l : LineTree) (goal : Tree) → goal ≡ neg (alike w a) → Follows d [] (then_lines l) ((c ∷ neg (alike w a) ∷ []) ∷ []) → Follows d [] (then_lines l) ((c ∷ goal ∷ []) ∷ [])
    then_goal l goal q h = subst (λ (z : Tree). Follows d [] (then_lines l) ((c ∷ z ∷ []) ∷ [])) (sym q) h

    else_goal : (l : LineTree) (nc goal : Tree) → nc ≡ neg c → goal ≡ neg (alike w b) → Follows d [] (else_lines l) ((neg c ∷ neg (alike w b) ∷ []) ∷ []) → Follows d [] (else_lines l) ((nc ∷ goal ∷ []) ∷ [])
    else_goal l nc goal n q h = subst (λ (z : Tree). Follows d [] (else_lines l) ((z ∷ goal ∷ []) ∷ [])) (sym n) (subst (λ (z : Tree). Follows d [] (else_lines l) ((neg c ∷ z ∷ []) ∷ [])) (sym q) h)

    -- of an `if`
    module _ (g : IsGroundExpression d.task w) (e : w ≡ Three HIf c a b) where
      if_first : (s : Tree → List Tree) (ls : List LineTree) → Follows d [] ls ((s w ++ by_cases c w a b ∷ []) ∷ []) → Follows d [] (TailLine (RIfDef w) ∷ ls) (s w ∷ [])
      if_first s ls h =
          let W = Three HIf c a b in
          subst (λ (z : Tree). Follows d [] (TailLine (RIfDef z) ∷ ls) (s z ∷ [])) (sym e)
          (if_line d.task (s W) c a b (subst (IsGroundExpression d.task) e g), tt, subst (λ (z : Tree). Follows d [] ls ((s z ++ by_cases c z a b ∷ []) ∷ [])) e h)

      pub if_then_follows : (goal : Tree) → goal ≡ neg (alike w a) → Follows d [] (then_lines (TailLine (RIfDef w))) ((c ∷ goal ∷ []) ∷ [])
      if_then_follows goal q = then_goal (TailLine (RIfDef w)) goal q (if_first (λ (z : Tree). c ∷ neg (alike z a) ∷ []) (HoldingLine And 2 ∷ HoldingLine Imp 3 ∷ clash 0 5 ∷ clash 5 1 ∷ []) then_case)

      pub if_else_follows : (nc goal : Tree) → nc ≡ neg c → goal ≡ neg (alike w b) → Follows d [] (else_lines (TailLine (RIfDef w))) ((nc ∷ goal ∷ []) ∷ [])
      if_else_follows nc goal n q = else_goal (TailLine (RIfDef w)) nc goal n q (if_first (λ (z : Tree). neg c ∷ neg (alike z b) ∷ []) (HoldingLine And 2 ∷ HoldingLine Imp 4 ∷ clash 0 5 ∷ clash 5 1 ∷ []) else_case)

    -- of a `match`
    module _ (g : IsGroundExpression d.task w) (h : IsMatchCases d.task w c a b) where
      pub match_then_follows : (goal : Tree) → goal ≡ neg (alike w a) → Follows d [] (then_lines (MadeLine (RMatchDef w) (by_cases c w a b))) ((c ∷ goal ∷ []) ∷ [])
      match_then_follows goal q =
          then_goal (MadeLine (RMatchDef w) (by_cases c w a b)) goal q (branches_unfold d.task (c ∷ neg (alike w a) ∷ []) w c a b h.scrutinee h.pattern h.body h.rest g h.is h.more h.condition h.first h.others, then_case)

      pub match_else_follows : (nc goal : Tree) → nc ≡ neg c → goal ≡ neg (alike w b) → Follows d [] (else_lines (MadeLine (RMatchDef w) (by_cases c w a b))) ((nc ∷ goal ∷ []) ∷ [])
      match_else_follows nc goal n q =
          else_goal (MadeLine (RMatchDef w) (by_cases c w a b)) nc goal n q (branches_unfold d.task (neg c ∷ neg (alike w b) ∷ []) w c a b h.scrutinee h.pattern h.body h.rest g h.is h.more h.condition h.first h.others, else_case)
