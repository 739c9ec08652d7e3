-- The first line is a rule, one on a connective, or a cut: its rule, and what its premises add.
use Rattle.std.proofs.Common.{◌≡◌, ℕ, zero, suc, ◌+◌, ◌<◌, ◌≤◌, List, [], ◌∷◌, ◌++◌, length, get_or, slice_get, All, Option, Some, None, IsSomeAnd, refl, sym, ap, subst, ◌∙◌, arith}
use Rattle.std.proofs.lemmas.List.{map-append, length-map, get_or-map}
use Rattle.std.proofs.lemmas.List.Elements.{All-cons, All-nil}
use Rattle.trees.specs.declared.Op.{Op}
use Rattle.trees.specs.declared.TermId.{TermId}
use Rattle.trees.specs.Tree.{Tree, Two, HJoin}
use Rattle.trees.specs.Node.{tree_at}
use Rattle.tasks.specs.Task.{TaskTree, neg}
use Rattle.tasks.specs.Meaning.{trees_at}
use Rattle.tasks.specs.Valid.{IsGroundFormula}
use Rattle.rules.specs.Forms.{negated, connected, join}
use Rattle.rules.specs.Rows.{where_true, where_false}
use Rattle.rules.specs.Trees.{RuleTree, RCut}
use Rattle.evidence.specs.Drafts.{DraftTree, Extends, AreFormulas, IsFormulaAt}
use Rattle.evidence.specs.Rules.{holding_rule, failing_rule}
use Rattle.evidence.proofs.Rules.{holding_row, failing_row, cut_row}
use Rattle.evidence.proofs.Formulas.{following, holding_names, failing_names, cut_names, formula_later, one_formula, two_formulas}
use Rattle.evidence.specs.declared.proof_scripts.line.Word.{Word}
use Rattle.evidence.specs.declared.proof_scripts.line.Word.TheVariants as word
use Rattle.evidence.specs.declared.proof_scripts.line.Formulas.{Formulas}
use Rattle.evidence.specs.declared.proof_scripts.line.Formulas.TheVariants as formulas
use Rattle.evidence.specs.declared.proof_scripts.line.Line.{Line}
use Rattle.evidence.specs.declared.proof_scripts.line.Line.TheVariants as line
use Rattle.evidence.specs.declared.proof_scripts.line.Sides.{Sides}
use Rattle.evidence.specs.declared.proof_scripts.line.Opened.{Opened}
use Rattle.evidence.specs.proof_scripts.Scripts.{LineTree, HoldingLine, FailingLine, CutLine, TailLine, MadeLine, word_rule, WordHeld, IsMaker, added_ids, added_at, script_line_at, LineHeld, sequents_under, adds, IsByRule, IsOfTail, Follows}
use Rattle.evidence.specs.proof_scripts.Words.{rule_past, HasNoPlace}
use Rattle.evidence.specs.proof_scripts.Derived.{CanOpen, IsLineOpened}
use Rattle.evidence.specs.proof_scripts.Sided.{AreSides}
use Rattle.evidence.specs.proof_scripts.Added.{IsAdded}
use Rattle.evidence.proofs.proof_scripts.Following.{word_later, word_same}
use Rattle.evidence.proofs.proof_scripts.Placed.{holding_after, failing_after, word_fits, tail_rule}

-- ---- places
some_at : (o : Option Tree) (op : Op) (x y : Tree) (P : Op × Tree × Tree → Type 0) → o ≡ Some (Two (HJoin op) x y) → IsSomeAnd (connected o) P → P (op, x, y)
some_at o op x y P e h = subst (λ (z : Option Tree). IsSomeAnd (connected z) P) e h

pub place_tree : (s : List Tree) (ids : List TermId) (i : ℕ) (z : TermId) → i < length ids → slice_get (trees_at s ids) i ≡ Some (tree_at s (get_or ids i z))
place_tree s [] i z l = absurd (omega arith)
place_tree s (x ∷ ids) zero z l = refl
place_tree s (x ∷ ids) (suc i) z l = place_tree s ids i z (omega arith)

pub formula_at : (d : DraftTree) (ids : List TermId) (i : ℕ) (z : TermId) → i < length ids → AreFormulas d ids → IsFormulaAt d (get_or ids i z)
formula_at d ids i z l f = record {
  held = f.held i z l;
  ground = subst (IsGroundFormula d.task) (get_or-map (tree_at d.trees) ids i z (tree_at d.trees z) l) (f.ground i (tree_at d.trees z) (omega (arith, length-map ids (tree_at d.trees))));
}

-- the sides of a connective, and what is negated
pub join_formulas : (d : DraftTree) (id : TermId) (op : Op) (a b : TermId) → IsFormulaAt d id → tree_at d.trees id ≡ Two (HJoin op) (tree_at d.trees a) (tree_at d.trees b) → a.0 < id.0 → b.0 < id.0 → IsFormulaAt d a × IsFormulaAt d b
join_formulas d id op a b f e l k =
    let g : IsGroundFormula d.task (Two (HJoin op) (tree_at d.trees a) (tree_at d.trees b)) = subst (IsGroundFormula d.task) e f.ground in (
      record { held = omega (arith, f.held); ground = record { sort = g.typed.0.0.0; typed = g.typed.2; ground = g.ground.0 } },
      record { held = omega (arith, f.held); ground = record { sort = g.typed.0.0.1; typed = g.typed.3; ground = g.ground.1 } },
    )

pub not_formula : (d : DraftTree) (id a : TermId) → IsFormulaAt d id → tree_at d.trees id ≡ neg (tree_at d.trees a) → a.0 < id.0 → IsFormulaAt d a
not_formula d id a f e l =
    let g : IsGroundFormula d.task (neg (tree_at d.trees a)) = subst (IsGroundFormula d.task) e f.ground in
    record { held = omega (arith, f.held); ground = record { sort = g.typed.0; typed = g.typed.2; ground = g.ground } }

-- ---- rules
module _ (t : TaskTree) (F T : List Tree) (n i : ℕ) (len : length F ≡ n) where
  place : (a : Tree) → slice_get T i ≡ Some a → slice_get (F ++ T) (n + i) ≡ Some a
  place a e = subst (λ (m : ℕ). slice_get (F ++ T) (m + i) ≡ Some a) len (following F T i ∙ e)

  pub holding_by : (op : Op) (x y : Tree) → slice_get T i ≡ Some (join op x y) → IsByRule t (F ++ T) (holding_rule op (n + i)) (where_true op x y)
  holding_by op x y e = record { names = holding_names t op (n + i); row = holding_row t (F ++ T) op (n + i) (Some (join op x y)) (sequents_under (F ++ T) (where_true op x y)) (place (join op x y) e) (refl, refl) }

  pub failing_by : (op : Op) (x y : Tree) → slice_get T i ≡ Some (neg (join op x y)) → IsByRule t (F ++ T) (failing_rule op (n + i)) (where_false op x y)
  failing_by op x y e = record { names = failing_names t op (n + i); row = failing_row t (F ++ T) op (n + i) (Some (neg (join op x y))) (sequents_under (F ++ T) (where_false op x y)) (place (neg (join op x y)) e) (refl, refl) }

pub cut_by : (d : DraftTree) (a : TermId) (s : List Tree) → IsFormulaAt d a → IsByRule d.task s (RCut (tree_at d.trees a)) ((tree_at d.trees a ∷ []) ∷ (neg (tree_at d.trees a) ∷ []) ∷ [])
cut_by d a s f = record { names = cut_names d a f; row = cut_row d.task s (tree_at d.trees a) f.ground.sort }

-- ---- what is left
module _ (F T : List Tree) (L : List LineTree) (i : ℕ) (op op' : Op) (x y : Tree) where
  pub holding_left : (d : DraftTree) (r : List (List Tree)) → slice_get T i ≡ Some (join op' x y) → Follows d F (HoldingLine op i ∷ L) (T ∷ r) → (op' ≡ op) × Follows d F L (sequents_under T (where_true op x y) ++ r)
  holding_left d r e h = some_at (slice_get T i) op' x y (λ p. (p.0 ≡ op) × Follows d F L (sequents_under T (where_true op p.1 p.2) ++ r)) e h

  pub failing_left : (d : DraftTree) (r : List (List Tree)) → slice_get T i ≡ Some (neg (join op' x y)) → Follows d F (FailingLine op i ∷ L) (T ∷ r) → (op' ≡ op) × Follows d F L (sequents_under T (where_false op x y) ++ r)
  failing_left d r e h = some_at (negated (slice_get T i)) op' x y (λ p. (p.0 ≡ op) × Follows d F L (sequents_under T (where_false op p.1 p.2) ++ r)) (ap negated e) h

under_both : (T : List Tree) (a b c : List (List Tree)) → a ++ b ≡ c → sequents_under T a ++ sequents_under T b ≡ sequents_under T c
under_both T a b c e = sym (map-append (λ x. T ++ x) a b) ∙ ap (sequents_under T) e

-- ---- what a line means
module _ (d0 d : DraftTree) (F T : List Tree) (n i : ℕ) (len : length F ≡ n) (fits : n + i ≤ 18446744073709551615) (op op' : Op) (x y : Tree) (s : Sides) where
  abbrev opened_at : Word → Opened
  opened_at w = record { before = n; word = w; sides = s }

  pub holding_opened : slice_get T i ≡ Some (join op' x y) → CanOpen d0 F T (HoldingLine op i) → AreSides d s (where_true op x y) → IsLineOpened d F T (HoldingLine op i) (opened_at (word.Holding op i))
  holding_opened at o a =
      let h = holding_left F T o.more i op op' x y d0 o.rest at o.follows in
      let here : slice_get T i ≡ Some (join op x y) = at ∙ ap (λ (z : Op). Some (join z x y)) h.0 in
      let under = under_both T (added_at d.trees s.first) (added_at d.trees s.second) (where_true op x y) a.are in
      record {
        word = tt;
        first = a.first;
        second = a.second;
        fits = fits;
        rule = subst (λ (r : RuleTree). IsByRule d.task (F ++ T) r (added_at d.trees s.first ++ added_at d.trees s.second)) (sym (holding_after n i op)) (subst (IsByRule d.task (F ++ T) (holding_rule op (n + i))) (sym a.are) (holding_by d.task F T n i len op x y here));
        opens = λ g ls r q. subst (λ (z : List (List Tree)). Follows g F ls (z ++ r)) (sym under) (holding_left F T ls i op op' x y g r at q).1;
      }

  pub failing_opened : slice_get T i ≡ Some (neg (join op' x y)) → CanOpen d0 F T (FailingLine op i) → AreSides d s (where_false op x y) → IsLineOpened d F T (FailingLine op i) (opened_at (word.Failing op i))
  failing_opened at o a =
      let h = failing_left F T o.more i op op' x y d0 o.rest at o.follows in
      let here : slice_get T i ≡ Some (neg (join op x y)) = at ∙ ap (λ (z : Op). Some (neg (join z x y))) h.0 in
      let under = under_both T (added_at d.trees s.first) (added_at d.trees s.second) (where_false op x y) a.are in
      record {
        word = tt;
        first = a.first;
        second = a.second;
        fits = fits;
        rule = subst (λ (r : RuleTree). IsByRule d.task (F ++ T) r (added_at d.trees s.first ++ added_at d.trees s.second)) (sym (failing_after n i op)) (subst (IsByRule d.task (F ++ T) (failing_rule op (n + i))) (sym a.are) (failing_by d.task F T n i len op x y here));
        opens = λ g ls r q. subst (λ (z : List (List Tree)). Follows g F ls (z ++ r)) (sym under) (failing_left F T ls i op op' x y g r at q).1;
      }

pub cut_opened : (d0 d : DraftTree) (x : Extends d0 d) (F T : List Tree) (l : Line) (a n : TermId) (s : Sides) → l ≡ line.Cut a → s.first ≡ Some (formulas.One a) → s.second ≡ Some (formulas.One n) → LineHeld d0 l → IsFormulaAt d n
    → tree_at d.trees n ≡ neg (tree_at d0.trees a) → IsLineOpened d F T (script_line_at d0.trees l) (record { before = 0; word = word.Cut a; sides = s })
cut_opened d0 d x F T l a n s e p q held fn m =
    let f0 : IsFormulaAt d0 a = subst (LineHeld d0) e held in
    let fa : IsFormulaAt d a = formula_later d0 d x a f0 in
    let k : tree_at d.trees a ≡ tree_at d0.trees a = x.trees.same a.0 f0.held in
    let A = tree_at d0.trees a in
    let are : added_at d.trees s.first ++ added_at d.trees s.second ≡ (A ∷ []) ∷ (neg A ∷ []) ∷ [] =
    ap (λ (z : Option Formulas). added_at d.trees z ++ added_at d.trees s.second) p ∙ ap (λ (z : Option Formulas). (tree_at d.trees a ∷ []) ∷ added_at d.trees z) q
    ∙ ap (λ (z : Tree). (z ∷ []) ∷ (tree_at d.trees n ∷ []) ∷ []) k ∙ ap (λ (z : Tree). (A ∷ []) ∷ (z ∷ []) ∷ []) m in
    let rule : IsByRule d.task (F ++ T) (RCut (tree_at d.trees a)) ((A ∷ []) ∷ (neg A ∷ []) ∷ []) = subst (λ (z : Tree). IsByRule d.task (F ++ T) (RCut (tree_at d.trees a)) ((z ∷ []) ∷ (neg z ∷ []) ∷ [])) k (cut_by d a (F ++ T) fa) in
    let under = under_both T (added_at d.trees s.first) (added_at d.trees s.second) ((A ∷ []) ∷ (neg A ∷ []) ∷ []) are in
    record {
      word = fa.held;
      fits = tt;
      first = subst (λ (z : Option Formulas). All (AreFormulas d) (added_ids z)) (sym p) (All-cons (AreFormulas d) (a ∷ []) [] (one_formula d a fa) (All-nil (AreFormulas d)));
      second = subst (λ (z : Option Formulas). All (AreFormulas d) (added_ids z)) (sym q) (All-cons (AreFormulas d) (n ∷ []) [] (one_formula d n fn) (All-nil (AreFormulas d)));
      rule = subst (IsByRule d.task (F ++ T) (RCut (tree_at d.trees a))) (sym are) rule;
      opens = λ g ls r h.
          let o : Follows g F (CutLine A ∷ ls) (T ∷ r) = subst (λ (z : Line). Follows g F (script_line_at d0.trees z ∷ ls) (T ∷ r)) e h in
          subst (λ (z : List (List Tree)). Follows g F ls (z ++ r)) (sym under) o;
    }

-- a line whose rule's additions are made
module _ (d : DraftTree) (F T : List Tree) (l : Line) (w : Word) (e : l ≡ line.Rule w) (held : LineHeld d l) (o : CanOpen d F T (script_line_at d.trees l)) where
  tail_follows : Follows d F (TailLine (word_rule d.trees w) ∷ o.more) (T ∷ o.rest)
  tail_follows = subst (λ (z : Line). Follows d F (script_line_at d.trees z ∷ o.more) (T ∷ o.rest)) e o.follows

  pub tail_held : WordHeld d.trees w × IsMaker w
  tail_held = subst (LineHeld d) e held

  pub tail_row : IsOfTail d.task T (word_rule d.trees w)
  tail_row = tail_follows.0

  pub tail_opened : (d1 : DraftTree) (x : Extends d d1) (n m : ℕ) (s : Sides) → length F ≡ n → length T ≡ m → n + m ≤ 18446744073709551615 → AreSides d1 s (adds T (word_rule d.trees w))
      → IsLineOpened d1 F T (script_line_at d.trees l) (record { before = n; word = w; sides = s })
  tail_opened d1 x n m s len many small a =
      let r = word_rule d.trees w in
      let q : word_rule d1.trees w ≡ r = word_same d d1 x w tail_held.0 in
      let rule : IsByRule d1.task (F ++ T) (rule_past n r) (adds T r) = subst (λ (u : TaskTree). IsByRule u (F ++ T) (rule_past n r) (adds T r)) (sym x.task) (tail_rule d.task F T n len d.trees w tail_held.1 tail_row tail_follows.1) in
      let under = under_both T (added_at d1.trees s.first) (added_at d1.trees s.second) (adds T r) a.are in
      record {
        word = word_later d d1 x w tail_held.0;
        fits = word_fits T d.task d.trees w _ n m tail_row.row many small;
        first = a.first;
        second = a.second;
        rule = subst (λ (z : RuleTree). IsByRule d1.task (F ++ T) (rule_past n z) (added_at d1.trees s.first ++ added_at d1.trees s.second)) (sym q) (subst (IsByRule d1.task (F ++ T) (rule_past n r)) (sym a.are) rule);
        opens = λ g ls k h.
            let z : Follows g F (TailLine r ∷ ls) (T ∷ k) = subst (λ (z : Line). Follows g F (script_line_at d.trees z ∷ ls) (T ∷ k)) e h in
            subst (λ (z : List (List Tree)). Follows g F ls (z ++ k)) (sym under) z.2;
      }

-- ---- what a premise adds
pub record Side (d : DraftTree) (o : Option Formulas) (added : List (List Tree)) : Type 0 where
  pub held : All (AreFormulas d) (added_ids o)
  pub are : added_at d.trees o ≡ added

pub no_side : (d : DraftTree) → Side d None []
no_side d = record { held = All-nil (AreFormulas d); are = refl }

pub one_side : (d : DraftTree) (o : Option Formulas) (a : TermId) (x : Tree) → o ≡ Some (formulas.One a) → IsFormulaAt d a → tree_at d.trees a ≡ x → Side d o ((x ∷ []) ∷ [])
one_side d o a x e f p = subst (λ (z : Option Formulas). Side d z ((x ∷ []) ∷ [])) (sym e) (record {
  held = All-cons (AreFormulas d) (a ∷ []) [] (one_formula d a f) (All-nil (AreFormulas d));
  are = ap (λ (z : Tree). (z ∷ []) ∷ []) p;
})

-- one premise that adds one formula, and none
pub only_side : (d : DraftTree) (s : Sides) (id : TermId) (added : List (List Tree)) → s.first ≡ Some (formulas.One id) → s.second ≡ None → IsAdded d id added → AreSides d s added
only_side d s id added p q a = record {
  first = (one_side d s.first id (tree_at d.trees id) p a.formula refl).held;
  second = subst (λ (z : Option Formulas). All (AreFormulas d) (added_ids z)) (sym q) (All-nil (AreFormulas d));
  are = ap (λ (z : Option Formulas). added_at d.trees z ++ added_at d.trees s.second) p ∙ ap (λ (z : Option Formulas). (tree_at d.trees id ∷ []) ∷ added_at d.trees z) q ∙ sym a.is;
}

pub two_side : (d : DraftTree) (o : Option Formulas) (a b : TermId) (x y : Tree) → o ≡ Some (formulas.Two a b) → IsFormulaAt d a → IsFormulaAt d b → tree_at d.trees a ≡ x → tree_at d.trees b ≡ y → Side d o ((x ∷ y ∷ []) ∷ [])
two_side d o a b x y e f g p q = subst (λ (z : Option Formulas). Side d z ((x ∷ y ∷ []) ∷ [])) (sym e) (record {
  held = All-cons (AreFormulas d) (a ∷ b ∷ []) [] (two_formulas d a b f g) (All-nil (AreFormulas d));
  are = ap (λ (z : Tree). (z ∷ tree_at d.trees b ∷ []) ∷ []) p ∙ ap (λ (z : Tree). (x ∷ z ∷ []) ∷ []) q;
})

pub both_sides : (d : DraftTree) (s : Sides) (a b : List (List Tree)) → Side d s.first a → Side d s.second b → AreSides d s (a ++ b)
both_sides d s a b f g = record {
  first = f.held;
  second = g.held;
  are = ap (λ (z : List (List Tree)). z ++ added_at d.trees s.second) f.are ∙ ap (λ (z : List (List Tree)). a ++ z) g.are;
}

-- a line of a rule without places, with the formula that its premise adds
pub made_opened : (d d1 : DraftTree) (x : Extends d d1) (F T : List Tree) (a : Tree) (w : Word) (id : TermId) (s : Sides) → WordHeld d.trees w → HasNoPlace w → CanOpen d F T (MadeLine (word_rule d.trees w) a) → s.first ≡ Some (formulas.One id) → s.second ≡ None
    → IsFormulaAt d1 id → tree_at d1.trees id ≡ a → IsLineOpened d1 F T (MadeLine (word_rule d.trees w) a) (record { before = 0; word = w; sides = s })
made_opened d d1 x F T a w id s h n o p q f m =
    let r = word_rule d.trees w in
    let side : AreSides d1 s ((a ∷ []) ∷ []) = only_side d1 s id ((a ∷ []) ∷ []) p q (record { formula = f; is = ap (λ (z : Tree). (z ∷ []) ∷ []) (sym m) }) in
    let rule : IsByRule d1.task (F ++ T) r ((a ∷ []) ∷ []) = subst (λ (u : TaskTree). IsByRule u (F ++ T) r ((a ∷ []) ∷ [])) (sym x.task) o.follows.0 in
    let under = under_both T (added_at d1.trees s.first) (added_at d1.trees s.second) ((a ∷ []) ∷ []) side.are in
    record {
      word = word_later d d1 x w h;
      fits = n.fits;
      first = side.first;
      second = side.second;
      rule = subst (λ (z : RuleTree). IsByRule d1.task (F ++ T) z (added_at d1.trees s.first ++ added_at d1.trees s.second)) (sym (n.same d1.trees ∙ word_same d d1 x w h)) (subst (IsByRule d1.task (F ++ T) r) (sym side.are) rule);
      opens = λ g ls k z. subst (λ (y : List (List Tree)). Follows g F ls (y ++ k)) (sym under) z.1;
    }
