-- The scripts of the crate, at the trees of their formulas: what each line asks of the sequent.
use Rattle.std.proofs.Common.{◌≡◌, ℕ, Option, Some, IsSomeAnd, List, [], ◌∷◌, ◌++◌, slice_get, refl, sym, ap, subst, ◌∙◌}
use Rattle.tasks.specs.trees.declared.Op.TheVariants.{And, Imp, Iff}
use Rattle.tasks.specs.trees.declared.Sort.{Sort}
use Rattle.tasks.specs.trees.declared.Sort.TheVariants.{Formula}
use Rattle.tasks.specs.trees.Tree.{Tree, Two, HJoin}
use Rattle.tasks.specs.trees.Binding.{inst}
use Rattle.tasks.specs.trees.Sorts.{sort_of, type_of}
use Rattle.tasks.specs.Task.{TaskTree, neg}
use Rattle.congruence.specs.kernel.rules.Trees.{RClash, RReplace}
use Rattle.congruence.specs.kernel.rules.Forms.{equal, alike, alike_by}
use Rattle.congruence.specs.kernel.rules.Rows.{IsTemplate}
use Rattle.evidence.specs.Drafts.{DraftTree, Refutes, RefutesAt}
use Rattle.evidence.specs.proof_scripts.Scripts.{LineTree, KeptLine, HoldingLine, FailingLine, CutLine, TailLine, Follows}
use Rattle.evidence.proofs.proof_scripts.Lines.{clash_line, replace_line}
use Rattle.congruence.specs.Alike.{TemplateFor}
use Rattle.tr_if.specs.conditionals.Conditionals.{implications}

-- `l <-> r`
abbrev pub iff : Tree → Tree → Tree
iff l r = Two (HJoin Iff) l r

-- a claim of two formulas is their equivalence
pub claim_iff : (a b : Tree) → sort_of a ≡ Formula → alike a b ≡ iff a b
claim_iff a b q = ap (λ (s : Sort). alike_by s a b) q

fits_some : (t : TaskTree) (a e : Tree) → TemplateFor t a e → IsSomeAnd (type_of a) (λ ty. IsTemplate t ty e)
fits_some t a e h = subst (λ (o : Option Tree). IsSomeAnd o (λ ty. IsTemplate t ty e)) (sym h.1.0) h.1.1

module _ (d : DraftTree) where
  abbrev clash : ℕ → ℕ → LineTree
  clash i j = TailLine (RClash i j)

  clash_at : (s : List Tree) (i j : ℕ) (a : Tree) (ls : List LineTree) (ts : List (List Tree)) → slice_get s i ≡ Some a → slice_get s j ≡ Some (neg a) → Follows d [] ls ts → Follows d [] (clash i j ∷ ls) (s ∷ ts)
  clash_at s i j a ls ts p q h = (clash_line d.task s i j a p q, tt, h)

  both_kept : (s : List Tree) (i j k : ℕ) (a b : Tree) → slice_get s i ≡ Some a → slice_get s j ≡ Some b → Refutes d k (a ∷ b ∷ []) → RefutesAt d s (i ∷ j ∷ []) k
  both_kept s i j k a b p q r = record { kept = a ∷ b ∷ []; are = cc (p, q); refutes = r }

  -- ---- [h; not (P <-> Q)], where P and Q are a tree at `a` and at `b`, which are equal under h
  abbrev pub value_lines : (link e denial : Tree) → ℕ → List LineTree
  value_lines link e denial value =
      FailingLine Iff 1 ∷ CutLine link ∷ TailLine (RReplace 4 2 e) ∷ clash 5 3 ∷ KeptLine value (0 ∷ 4 ∷ []) ∷ CutLine link ∷ TailLine (RReplace 4 2 denial) ∷ clash 3 5 ∷ KeptLine value (0 ∷ 4 ∷ []) ∷ []

  module _ (h a b e : Tree) (value : ℕ) (t : TemplateFor d.task a e) (n : TemplateFor d.task a (neg e)) (r : Refutes d value (h ∷ neg (equal a b) ∷ [])) where
    abbrev P : Tree
    P = inst e a

    abbrev Q : Tree
    Q = inst e b

    abbrev G : Tree
    G = neg (iff P Q)

    abbrev E : Tree
    E = equal a b

    back : Follows d [] (CutLine E ∷ TailLine (RReplace 4 2 (neg e)) ∷ clash 3 5 ∷ KeptLine value (0 ∷ 4 ∷ []) ∷ []) ((h ∷ G ∷ neg P ∷ Q ∷ []) ∷ [])
    back =
        let s : List Tree = h ∷ G ∷ neg P ∷ Q ∷ E ∷ [] in (
          replace_line d.task s 4 2 a b (neg e) refl refl (fits_some d.task a (neg e) n),
          tt,
          clash_at (h ∷ G ∷ neg P ∷ Q ∷ E ∷ neg Q ∷ []) 3 5 Q (KeptLine value (0 ∷ 4 ∷ []) ∷ []) ((h ∷ G ∷ neg P ∷ Q ∷ neg E ∷ []) ∷ []) refl refl (both_kept (h ∷ G ∷ neg P ∷ Q ∷ neg E ∷ []) 0 4 value h (neg E) refl refl r, tt),
        )

    value_here : Follows d [] (value_lines E e (neg e) value) ((h ∷ G ∷ []) ∷ [])
    value_here =
        let s : List Tree = h ∷ G ∷ P ∷ neg Q ∷ E ∷ [] in
        let ls : List LineTree = CutLine E ∷ TailLine (RReplace 4 2 (neg e)) ∷ clash 3 5 ∷ KeptLine value (0 ∷ 4 ∷ []) ∷ [] in
        let ts : List (List Tree) = (h ∷ G ∷ neg P ∷ Q ∷ []) ∷ [] in (
          refl,
          (
            replace_line d.task s 4 2 a b e refl refl (fits_some d.task a e t),
            tt,
            clash_at (h ∷ G ∷ P ∷ neg Q ∷ E ∷ Q ∷ []) 5 3 Q (KeptLine value (0 ∷ 4 ∷ []) ∷ ls) ((h ∷ G ∷ P ∷ neg Q ∷ neg E ∷ []) ∷ ts) refl refl (both_kept (h ∷ G ∷ P ∷ neg Q ∷ neg E ∷ []) 0 4 value h (neg E) refl refl r, back),
          ),
        )

    -- at trees that equal these
    pub value_follows : (link denial goal p q : Tree) → link ≡ E → denial ≡ neg e → p ≡ P → q ≡ Q → goal ≡ neg (iff p q) → Follows d [] (value_lines link e denial value) ((h ∷ goal ∷ []) ∷ [])
    value_follows link denial goal p q l m u w g =
        let k : goal ≡ G = g ∙ ap neg (cc (u, w)) in
        subst (λ (z : Tree). Follows d [] (value_lines z e denial value) ((h ∷ goal ∷ []) ∷ [])) (sym l)
        (subst (λ (z : Tree). Follows d [] (value_lines E e z value) ((h ∷ goal ∷ []) ∷ [])) (sym m) (subst (λ (z : Tree). Follows d [] (value_lines E e (neg e) value) ((h ∷ z ∷ []) ∷ [])) (sym k) value_here))

  -- ---- what `(c -> a) /\ (not c -> b)` is, under its condition and under the negation of that
  abbrev pub then_lines : List LineTree
  then_lines =
      FailingLine Iff 1 ∷ HoldingLine And 2 ∷ HoldingLine Imp 4 ∷ clash 0 6 ∷ clash 6 3 ∷ FailingLine And 2 ∷ FailingLine Imp 4 ∷ clash 3 6 ∷ FailingLine Imp 4 ∷ clash 0 5 ∷ []

  abbrev pub else_lines : List LineTree
  else_lines =
      FailingLine Iff 1 ∷ HoldingLine And 2 ∷ HoldingLine Imp 5 ∷ clash 0 6 ∷ clash 6 3 ∷ FailingLine And 2 ∷ FailingLine Imp 4 ∷ clash 5 0 ∷ FailingLine Imp 4 ∷ clash 3 6 ∷ []

  module _ (c a b : Tree) where
    abbrev M : Tree
    M = implications c a b

    abbrev T : Tree
    T = Two (HJoin Imp) c a

    abbrev F : Tree
    F = Two (HJoin Imp) (neg c) b

    then_back : Follows d [] (FailingLine And 2 ∷ FailingLine Imp 4 ∷ clash 3 6 ∷ FailingLine Imp 4 ∷ clash 0 5 ∷ []) ((c ∷ neg (iff M a) ∷ neg M ∷ a ∷ []) ∷ [])
    then_back =
        let s : List Tree = c ∷ neg (iff M a) ∷ neg M ∷ a ∷ [] in
        (refl, (refl, clash_at (s ++ neg T ∷ c ∷ neg a ∷ []) 3 6 a (FailingLine Imp 4 ∷ clash 0 5 ∷ []) ((s ++ neg F ∷ []) ∷ []) refl refl (refl, clash_at (s ++ neg F ∷ neg c ∷ neg b ∷ []) 0 5 c [] [] refl refl tt)))

    then_here : Follows d [] then_lines ((c ∷ neg (iff M a) ∷ []) ∷ [])
    then_here =
        let s : List Tree = c ∷ neg (iff M a) ∷ M ∷ neg a ∷ T ∷ F ∷ [] in
        let ls : List LineTree = FailingLine And 2 ∷ FailingLine Imp 4 ∷ clash 3 6 ∷ FailingLine Imp 4 ∷ clash 0 5 ∷ [] in
        let ts : List (List Tree) = (c ∷ neg (iff M a) ∷ neg M ∷ a ∷ []) ∷ [] in
        (refl, (refl, (refl, clash_at (s ++ neg c ∷ []) 0 6 c (clash 6 3 ∷ ls) ((s ++ a ∷ []) ∷ ts) refl refl (clash_at (s ++ a ∷ []) 6 3 a ls ts refl refl then_back))))

    else_back : Follows d [] (FailingLine And 2 ∷ FailingLine Imp 4 ∷ clash 5 0 ∷ FailingLine Imp 4 ∷ clash 3 6 ∷ []) ((neg c ∷ neg (iff M b) ∷ neg M ∷ b ∷ []) ∷ [])
    else_back =
        let s : List Tree = neg c ∷ neg (iff M b) ∷ neg M ∷ b ∷ [] in
        (refl, (refl, clash_at (s ++ neg T ∷ c ∷ neg a ∷ []) 5 0 c (FailingLine Imp 4 ∷ clash 3 6 ∷ []) ((s ++ neg F ∷ []) ∷ []) refl refl (refl, clash_at (s ++ neg F ∷ neg c ∷ neg b ∷ []) 3 6 b [] [] refl refl tt)))

    else_here : Follows d [] else_lines ((neg c ∷ neg (iff M b) ∷ []) ∷ [])
    else_here =
        let s : List Tree = neg c ∷ neg (iff M b) ∷ M ∷ neg b ∷ T ∷ F ∷ [] in
        let ls : List LineTree = FailingLine And 2 ∷ FailingLine Imp 4 ∷ clash 5 0 ∷ FailingLine Imp 4 ∷ clash 3 6 ∷ [] in
        let ts : List (List Tree) = (neg c ∷ neg (iff M b) ∷ neg M ∷ b ∷ []) ∷ [] in
        (refl, (refl, (refl, clash_at (s ++ neg (neg c) ∷ []) 0 6 (neg c) (clash 6 3 ∷ ls) ((s ++ b ∷ []) ∷ ts) refl refl (clash_at (s ++ b ∷ []) 6 3 b ls ts refl refl else_back))))

    -- at trees that equal these
    pub then_follows : (m goal : Tree) → m ≡ M → goal ≡ neg (iff m a) → Follows d [] then_lines ((c ∷ goal ∷ []) ∷ [])
    then_follows m goal q g = let k : goal ≡ neg (iff M a) = g ∙ ap (λ (z : Tree). neg (iff z a)) q in subst (λ (z : Tree). Follows d [] then_lines ((c ∷ z ∷ []) ∷ [])) (sym k) then_here

    pub else_follows : (m nc goal : Tree) → m ≡ M → nc ≡ neg c → goal ≡ neg (iff m b) → Follows d [] else_lines ((nc ∷ goal ∷ []) ∷ [])
    else_follows m nc goal q n g =
        let k : goal ≡ neg (iff M b) = g ∙ ap (λ (z : Tree). neg (iff z b)) q in
        subst (λ (z : Tree). Follows d [] else_lines ((z ∷ goal ∷ []) ∷ [])) (sym n) (subst (λ (z : Tree). Follows d [] else_lines ((neg c ∷ z ∷ []) ∷ [])) (sym k) else_here)
