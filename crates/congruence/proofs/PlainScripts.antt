-- The scripts of formulas alone: cuts and connectives, where each sequent is ended by a clash or by a step that was made before.
use Rattle.std.proofs.Common.{◌≡◌, ℕ, Some, List, [], ◌∷◌, slice_get, refl, sym, ap, subst, ◌∙◌}
use Rattle.std.proofs.lemmas.List.Elements.{All-cons, All-nil}
use Rattle.trees.specs.declared.TermId.{TermId}
use Rattle.trees.specs.declared.Op.{Op}
use Rattle.trees.specs.declared.Op.TheVariants.{And, AndThen, Or, OrElse, Imp, Iff}
use Rattle.trees.specs.Tree.{Tree, Two, HJoin}
use Rattle.tasks.specs.Task.{neg}
use Rattle.rules.specs.Trees.{RClash, RIrrefl}
use Rattle.rules.specs.Forms.{equal}
use Rattle.evidence.specs.Drafts.{DraftTree, Refutes, RefutesAt, IsFormulaAt, AreFormulas}
use Rattle.evidence.proofs.Formulas.{more_formulas, two_formulas}
use Rattle.evidence.specs.declared.proof_scripts.line.Line.{Line}
use Rattle.evidence.specs.proof_scripts.Scripts.{KeptLine, HoldingLine, FailingLine, CutLine, TailLine, Follows, LineHeld, LinesHeld, lines_at}
use Rattle.evidence.proofs.proof_scripts.Lines.{clash_line, irrefl_line}
use Rattle.congruence.specs.Alike.{HasHalves}
use Rattle.congruence.specs.Lines.{join_lines}
use Rattle.congruence.proofs.Scripts.{one_kept, two_kept}

module _ (d : DraftTree) where
  -- ---- the numbers of lines
  abbrev pub AllHeld : List Line → Type 0
  AllHeld [] = Unit {0}
  AllHeld (l ∷ ls) = LineHeld d l × AllHeld ls

  pub held_lines : (ls : List Line) → AllHeld ls → LinesHeld d ls
  held_lines [] h = All-nil (LineHeld d)
  held_lines (l ∷ ls) h = All-cons (LineHeld d) l ls h.0 (held_lines ls h.1)

  pub three_formulas : (a b c : TermId) → IsFormulaAt d a → IsFormulaAt d b → IsFormulaAt d c → AreFormulas d (a ∷ b ∷ c ∷ [])
  three_formulas a b c f g h = more_formulas d a (b ∷ c ∷ []) f (two_formulas d b c g h)

  -- ---- steps that were made before
  three_kept : (s : List Tree) (i j l k : ℕ) (a b c : Tree) → slice_get s i ≡ Some a → slice_get s j ≡ Some b → slice_get s l ≡ Some c → Refutes d k (a ∷ b ∷ c ∷ []) → RefutesAt d s (i ∷ j ∷ l ∷ []) k
  three_kept s i j l k a b c p q o r = record { kept = a ∷ b ∷ c ∷ []; are = cc (p, q, o); refutes = r }

  -- a step for trees that equal these
  pub one_same : (k : ℕ) (a a1 : Tree) → a1 ≡ a → Refutes d k (a1 ∷ []) → Refutes d k (a ∷ [])
  one_same k a a1 p r = subst (λ (z : Tree). Refutes d k (z ∷ [])) p r

  pub two_same : (k : ℕ) (a b a1 b1 : Tree) → a1 ≡ a → b1 ≡ b → Refutes d k (a1 ∷ b1 ∷ []) → Refutes d k (a ∷ b ∷ [])
  two_same k a b a1 b1 p q r = record { within = r.within; is = r.is ∙ cc (p, q) }

  pub three_same : (k : ℕ) (a b c a1 b1 c1 : Tree) → a1 ≡ a → b1 ≡ b → c1 ≡ c → Refutes d k (a1 ∷ b1 ∷ c1 ∷ []) → Refutes d k (a ∷ b ∷ c ∷ [])
  three_same k a b c a1 b1 c1 p q o r = record { within = r.within; is = r.is ∙ cc (p, q, o) }

  some : (a b : Tree) → a ≡ b → Some a ≡ Some b
  some a b q = ap (λ (z : Tree). Some z) q

  some_neg : (a b : Tree) → a ≡ b → Some (neg a) ≡ Some (neg b)
  some_neg a b q = ap (λ (z : Tree). Some (neg z)) q

  -- ---- [not (x = x)]
  pub irreflexive_follows : (f x : Tree) → f ≡ neg (equal x x) → Follows d [] (TailLine (RIrrefl 0) ∷ []) ((f ∷ []) ∷ [])
  irreflexive_follows f x q = (irrefl_line d.task (f ∷ []) 0 x (some f (neg (equal x x)) q), tt, tt)

  -- ---- [l; not r], through a middle
  pub chain_follows : (l m r l1 m1 nr : Tree) (first second : ℕ) → l1 ≡ l → m1 ≡ m → nr ≡ neg r → Refutes d first (l ∷ neg m ∷ []) → Refutes d second (m ∷ neg r ∷ [])
      → Follows d [] (CutLine m1 ∷ KeptLine second (2 ∷ 1 ∷ []) ∷ KeptLine first (0 ∷ 2 ∷ []) ∷ []) ((l1 ∷ nr ∷ []) ∷ [])
  chain_follows l m r l1 m1 nr first second p q n f s =
      (two_kept d (l1 ∷ nr ∷ m1 ∷ []) 2 1 second m (neg r) (some m1 m q) (some nr (neg r) n) s, (two_kept d (l1 ∷ nr ∷ neg m1 ∷ []) 0 2 first l (neg m) (some l1 l p) (some_neg m1 m q) f, tt))

  -- ---- the halves of an equivalence, from a step for it
  module _ (l r c : Tree) (lemma : ℕ) (q : c ≡ Two (HJoin Iff) l r) (h : Refutes d lemma (neg (Two (HJoin Iff) l r) ∷ [])) where
    pub there_follows : (l1 nr : Tree) → l1 ≡ l → nr ≡ neg r → Follows d [] (CutLine c ∷ HoldingLine Iff 2 ∷ TailLine (RClash 4 1) ∷ TailLine (RClash 0 3) ∷ KeptLine lemma (2 ∷ []) ∷ []) ((l1 ∷ nr ∷ []) ∷ [])
    there_follows l1 nr p n =
        let W : Tree = Two (HJoin Iff) l r in
        subst (λ (z : Tree). Follows d [] (CutLine z ∷ HoldingLine Iff 2 ∷ TailLine (RClash 4 1) ∷ TailLine (RClash 0 3) ∷ KeptLine lemma (2 ∷ []) ∷ []) ((l1 ∷ nr ∷ []) ∷ [])) (sym q) (
          refl,
          (
            clash_line d.task (l1 ∷ nr ∷ W ∷ l ∷ r ∷ []) 4 1 r refl (some nr (neg r) n),
            tt,
            (clash_line d.task (l1 ∷ nr ∷ W ∷ neg l ∷ neg r ∷ []) 0 3 l (some l1 l p) refl, tt, (one_kept d (l1 ∷ nr ∷ neg W ∷ []) 2 lemma (neg W) refl h, tt)),
          ),
        )

    pub back_follows : (r1 nl : Tree) → r1 ≡ r → nl ≡ neg l → Follows d [] (CutLine c ∷ HoldingLine Iff 2 ∷ TailLine (RClash 3 1) ∷ TailLine (RClash 0 4) ∷ KeptLine lemma (2 ∷ []) ∷ []) ((r1 ∷ nl ∷ []) ∷ [])
    back_follows r1 nl p n =
        let W : Tree = Two (HJoin Iff) l r in
        subst (λ (z : Tree). Follows d [] (CutLine z ∷ HoldingLine Iff 2 ∷ TailLine (RClash 3 1) ∷ TailLine (RClash 0 4) ∷ KeptLine lemma (2 ∷ []) ∷ []) ((r1 ∷ nl ∷ []) ∷ [])) (sym q) (
          refl,
          (
            clash_line d.task (r1 ∷ nl ∷ W ∷ l ∷ r ∷ []) 3 1 l refl (some nl (neg l) n),
            tt,
            (clash_line d.task (r1 ∷ nl ∷ W ∷ neg l ∷ neg r ∷ []) 0 4 r (some r1 r p) refl, tt, (one_kept d (r1 ∷ nl ∷ neg W ∷ []) 2 lemma (neg W) refl h, tt)),
          ),
        )

  -- ---- an equivalence, from its halves
  pub iff_follows : (g l r : Tree) (i j : ℕ) → g ≡ neg (Two (HJoin Iff) l r) → Refutes d i (l ∷ neg r ∷ []) → Refutes d j (r ∷ neg l ∷ []) → Follows d [] (FailingLine Iff 0 ∷ KeptLine i (1 ∷ 2 ∷ []) ∷ KeptLine j (2 ∷ 1 ∷ []) ∷ []) ((g ∷ []) ∷ [])
  iff_follows g l r i j q f s =
      let G : Tree = neg (Two (HJoin Iff) l r) in
      subst (λ (z : Tree). Follows d [] (FailingLine Iff 0 ∷ KeptLine i (1 ∷ 2 ∷ []) ∷ KeptLine j (2 ∷ 1 ∷ []) ∷ []) ((z ∷ []) ∷ [])) (sym q)
      (refl, (two_kept d (G ∷ l ∷ neg r ∷ []) 1 2 i l (neg r) refl refl f, (two_kept d (G ∷ neg l ∷ r ∷ []) 2 1 j r (neg l) refl refl s, tt)))

  -- ---- what a formula is alike under a hypothesis
  module _ (h w p c : Tree) (value : ℕ) (q : c ≡ Two (HJoin Iff) w p) (v : Refutes d value (h ∷ neg (Two (HJoin Iff) w p) ∷ [])) where
    pub case_there_follows : (o h1 w1 n1 : Tree) (step : ℕ) → h1 ≡ h → w1 ≡ w → n1 ≡ neg o → Refutes d step (p ∷ neg o ∷ [])
        → Follows d [] (CutLine c ∷ HoldingLine Iff 3 ∷ KeptLine step (5 ∷ 2 ∷ []) ∷ TailLine (RClash 1 4) ∷ KeptLine value (0 ∷ 3 ∷ []) ∷ []) ((h1 ∷ w1 ∷ n1 ∷ []) ∷ [])
    case_there_follows o h1 w1 n1 step eh ew en s =
        let W : Tree = Two (HJoin Iff) w p in
        subst (λ (z : Tree). Follows d [] (CutLine z ∷ HoldingLine Iff 3 ∷ KeptLine step (5 ∷ 2 ∷ []) ∷ TailLine (RClash 1 4) ∷ KeptLine value (0 ∷ 3 ∷ []) ∷ []) ((h1 ∷ w1 ∷ n1 ∷ []) ∷ [])) (sym q) (
          refl,
          (
            two_kept d (h1 ∷ w1 ∷ n1 ∷ W ∷ w ∷ p ∷ []) 5 2 step p (neg o) refl (some n1 (neg o) en) s,
            (clash_line d.task (h1 ∷ w1 ∷ n1 ∷ W ∷ neg w ∷ neg p ∷ []) 1 4 w (some w1 w ew) refl, tt, (two_kept d (h1 ∷ w1 ∷ n1 ∷ neg W ∷ []) 0 3 value h (neg W) (some h1 h eh) refl v, tt)),
          ),
        )

    pub case_back_follows : (h1 p1 nw : Tree) → h1 ≡ h → p1 ≡ p → nw ≡ neg w → Follows d [] (CutLine c ∷ HoldingLine Iff 3 ∷ TailLine (RClash 4 2) ∷ TailLine (RClash 1 5) ∷ KeptLine value (0 ∷ 3 ∷ []) ∷ []) ((h1 ∷ p1 ∷ nw ∷ []) ∷ [])
    case_back_follows h1 p1 nw eh ep en =
        let W : Tree = Two (HJoin Iff) w p in
        subst (λ (z : Tree). Follows d [] (CutLine z ∷ HoldingLine Iff 3 ∷ TailLine (RClash 4 2) ∷ TailLine (RClash 1 5) ∷ KeptLine value (0 ∷ 3 ∷ []) ∷ []) ((h1 ∷ p1 ∷ nw ∷ []) ∷ [])) (sym q) (
          refl,
          (
            clash_line d.task (h1 ∷ p1 ∷ nw ∷ W ∷ w ∷ p ∷ []) 4 2 w refl (some nw (neg w) en),
            tt,
            (clash_line d.task (h1 ∷ p1 ∷ nw ∷ W ∷ neg w ∷ neg p ∷ []) 1 5 p (some p1 p ep) refl, tt, (two_kept d (h1 ∷ p1 ∷ nw ∷ neg W ∷ []) 0 3 value h (neg W) (some h1 h eh) refl v, tt)),
          ),
        )

  -- ---- two formulas under their hypotheses, from their halves there
  pub cases_follow : (g lh rh l r lp rp : Tree) (i j k m : ℕ) → g ≡ neg (Two (HJoin Iff) l r) → Refutes d i (lh ∷ l ∷ neg rp ∷ []) → Refutes d j (lh ∷ lp ∷ neg l ∷ []) → Refutes d k (rh ∷ r ∷ neg lp ∷ []) → Refutes d m (rh ∷ rp ∷ neg r ∷ [])
      → Follows d [] (FailingLine Iff 0 ∷ CutLine rp ∷ KeptLine m (2 ∷ 5 ∷ 4 ∷ []) ∷ KeptLine i (1 ∷ 3 ∷ 5 ∷ []) ∷ CutLine lp ∷ KeptLine j (1 ∷ 5 ∷ 3 ∷ []) ∷ KeptLine k (2 ∷ 4 ∷ 5 ∷ []) ∷ []) ((g ∷ lh ∷ rh ∷ []) ∷ [])
  cases_follow g lh rh l r lp rp i j k m q ri rj rk rm =
      let G : Tree = neg (Two (HJoin Iff) l r) in
      subst (λ (z : Tree). Follows d [] (FailingLine Iff 0 ∷ CutLine rp ∷ KeptLine m (2 ∷ 5 ∷ 4 ∷ []) ∷ KeptLine i (1 ∷ 3 ∷ 5 ∷ []) ∷ CutLine lp ∷ KeptLine j (1 ∷ 5 ∷ 3 ∷ []) ∷ KeptLine k (2 ∷ 4 ∷ 5 ∷ []) ∷ []) ((z ∷ lh ∷ rh ∷ []) ∷ [])) (sym q) (
        refl,
        (
          three_kept (G ∷ lh ∷ rh ∷ l ∷ neg r ∷ rp ∷ []) 2 5 4 m rh rp (neg r) refl refl refl rm,
          (
            three_kept (G ∷ lh ∷ rh ∷ l ∷ neg r ∷ neg rp ∷ []) 1 3 5 i lh l (neg rp) refl refl refl ri,
            (three_kept (G ∷ lh ∷ rh ∷ neg l ∷ r ∷ lp ∷ []) 1 5 3 j lh lp (neg l) refl refl refl rj, (three_kept (G ∷ lh ∷ rh ∷ neg l ∷ r ∷ neg lp ∷ []) 2 4 5 k rh r (neg lp) refl refl refl rk, tt)),
          ),
        ),
      )

  -- ---- a goal by two conditions that are equivalent
  pub conditions_follow : (g l r : Tree) (there back y1 n1 : ℕ) → HasHalves d l r there back → Refutes d y1 (g ∷ l ∷ r ∷ []) → Refutes d n1 (g ∷ neg l ∷ neg r ∷ [])
      → Follows d [] (CutLine l ∷ CutLine r ∷ KeptLine y1 (0 ∷ 1 ∷ 2 ∷ []) ∷ KeptLine there (1 ∷ 2 ∷ []) ∷ CutLine r ∷ KeptLine back (2 ∷ 1 ∷ []) ∷ KeptLine n1 (0 ∷ 1 ∷ 2 ∷ []) ∷ []) ((g ∷ []) ∷ [])
  conditions_follow g l r there back y1 n1 h y n = (
    three_kept (g ∷ l ∷ r ∷ []) 0 1 2 y1 g l r refl refl refl y,
    (
      two_kept d (g ∷ l ∷ neg r ∷ []) 1 2 there l (neg r) refl refl h.there,
      (two_kept d (g ∷ neg l ∷ r ∷ []) 2 1 back r (neg l) refl refl h.back, (three_kept (g ∷ neg l ∷ neg r ∷ []) 0 1 2 n1 g (neg l) (neg r) refl refl refl n, tt)),
    ),
  )

  -- ---- two formulas of one connective, from the halves of their sides
  module _ (a b c e : Tree) (ab ba ce ec : ℕ) (x : HasHalves d a b ab ba) (y : HasHalves d c e ce ec) (s : List Tree) where
    plain_join : (op : Op) → Follows d [] (lines_at s (join_lines op ab ba ce ec)) ((Two (HJoin op) a c ∷ neg (Two (HJoin op) b e) ∷ []) ∷ [])
    plain_join And =
        let L : Tree = Two (HJoin And) a c in
        let R : Tree = neg (Two (HJoin And) b e) in
        (refl, (refl, (two_kept d (L ∷ R ∷ a ∷ c ∷ neg b ∷ []) 2 4 ab a (neg b) refl refl x.there, (two_kept d (L ∷ R ∷ a ∷ c ∷ neg e ∷ []) 3 4 ce c (neg e) refl refl y.there, tt))))
    plain_join AndThen =
        let L : Tree = Two (HJoin AndThen) a c in
        let R : Tree = neg (Two (HJoin AndThen) b e) in
        (refl, (refl, (two_kept d (L ∷ R ∷ a ∷ c ∷ neg b ∷ []) 2 4 ab a (neg b) refl refl x.there, (two_kept d (L ∷ R ∷ a ∷ c ∷ neg e ∷ []) 3 4 ce c (neg e) refl refl y.there, tt))))
    plain_join Or =
        let L : Tree = Two (HJoin Or) a c in
        let R : Tree = neg (Two (HJoin Or) b e) in
        (refl, (refl, (two_kept d (L ∷ R ∷ a ∷ neg b ∷ neg e ∷ []) 2 3 ab a (neg b) refl refl x.there, (refl, (two_kept d (L ∷ R ∷ c ∷ neg b ∷ neg e ∷ []) 2 4 ce c (neg e) refl refl y.there, tt)))))
    plain_join OrElse =
        let L : Tree = Two (HJoin OrElse) a c in
        let R : Tree = neg (Two (HJoin OrElse) b e) in
        (refl, (refl, (two_kept d (L ∷ R ∷ a ∷ neg b ∷ neg e ∷ []) 2 3 ab a (neg b) refl refl x.there, (refl, (two_kept d (L ∷ R ∷ c ∷ neg b ∷ neg e ∷ []) 2 4 ce c (neg e) refl refl y.there, tt)))))
    plain_join Imp =
        let L : Tree = Two (HJoin Imp) a c in
        let R : Tree = neg (Two (HJoin Imp) b e) in
        (refl, (refl, (two_kept d (L ∷ R ∷ neg a ∷ b ∷ neg e ∷ []) 3 2 ba b (neg a) refl refl x.back, (refl, (two_kept d (L ∷ R ∷ c ∷ b ∷ neg e ∷ []) 2 4 ce c (neg e) refl refl y.there, tt)))))
    plain_join Iff =
        let L : Tree = Two (HJoin Iff) a c in
        let R : Tree = neg (Two (HJoin Iff) b e) in (
          refl,
          (
            refl,
            (
              two_kept d (L ∷ R ∷ a ∷ c ∷ b ∷ neg e ∷ []) 3 5 ce c (neg e) refl refl y.there,
              (
                two_kept d (L ∷ R ∷ a ∷ c ∷ neg b ∷ e ∷ []) 2 4 ab a (neg b) refl refl x.there,
                (refl, (two_kept d (L ∷ R ∷ neg a ∷ neg c ∷ b ∷ neg e ∷ []) 4 2 ba b (neg a) refl refl x.back, (two_kept d (L ∷ R ∷ neg a ∷ neg c ∷ neg b ∷ e ∷ []) 5 3 ec e (neg c) refl refl y.back, tt))),
              ),
            ),
          ),
        )

    pub join_follows : (op : Op) (l nr : Tree) (ls : List Line) → ls ≡ join_lines op ab ba ce ec → l ≡ Two (HJoin op) a c → nr ≡ neg (Two (HJoin op) b e) → Follows d [] (lines_at s ls) ((l ∷ nr ∷ []) ∷ [])
    join_follows op l nr ls k p q =
        subst (λ (z : List Line). Follows d [] (lines_at s z) ((l ∷ nr ∷ []) ∷ [])) (sym k)
        (subst (λ (z : Tree). Follows d [] (lines_at s (join_lines op ab ba ce ec)) ((z ∷ nr ∷ []) ∷ [])) (sym p) (subst (λ (z : Tree). Follows d [] (lines_at s (join_lines op ab ba ce ec)) ((Two (HJoin op) a c ∷ z ∷ []) ∷ [])) (sym q) (plain_join op)))

  -- their numbers are held: none has any
  join_held : (op : Op) (ab ba ce ec : ℕ) → AllHeld (join_lines op ab ba ce ec)
  join_held And ab ba ce ec = (tt, (tt, (tt, (tt, tt))))
  join_held AndThen ab ba ce ec = (tt, (tt, (tt, (tt, tt))))
  join_held Or ab ba ce ec = (tt, (tt, (tt, (tt, (tt, tt)))))
  join_held OrElse ab ba ce ec = (tt, (tt, (tt, (tt, (tt, tt)))))
  join_held Imp ab ba ce ec = (tt, (tt, (tt, (tt, (tt, tt)))))
  join_held Iff ab ba ce ec = (tt, (tt, (tt, (tt, (tt, (tt, (tt, tt)))))))

  pub join_lines_held : (op : Op) (ab ba ce ec : ℕ) (ls : List Line) → ls ≡ join_lines op ab ba ce ec → LinesHeld d ls
  join_lines_held op ab ba ce ec ls k = subst (LinesHeld d) (sym k) (held_lines (join_lines op ab ba ce ec) (join_held op ab ba ce ec))
