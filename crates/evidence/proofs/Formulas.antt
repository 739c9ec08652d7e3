-- Formulas of a draft by their numbers, the places of a tail after a front, and what a step that keeps formulas keeps.
use Rattle.std.proofs.Common.{◌≡◌, ℕ, ◌<◌, ◌+◌, ◌-◌, zero, suc, List, [], ◌∷◌, ◌++◌, Option, None, Some, IsSomeAnd, length, map, get_or, slice_get, All, refl, sym, ap, subst, ◌∙◌, append_assoc, arith}
use Rattle.std.proofs.lemmas.List.{map-append, length-append, length-map, append-nil, get_or-map}
use Rattle.std.proofs.lemmas.List.Elements.{All-append, All-cons, All-nil}
use Rattle.std.proofs.lemmas.Option.{slice_get-get_or}
use Rattle.trees.specs.declared.Op.{Op}
use Rattle.trees.specs.declared.Op.TheVariants.{And, AndThen, Or, OrElse, Imp, Iff}
use Rattle.trees.specs.declared.TermId.{TermId}
use Rattle.trees.specs.Tree.{Tree, One, HNot}
use Rattle.trees.specs.Node.{tree_at, Holds}
use Rattle.tasks.specs.declared.facts.Fact.{Fact}
use Rattle.tasks.specs.declared.facts.Fact.TheVariants as fact
use Rattle.tasks.specs.Task.{TaskTree, neg, start}
use Rattle.tasks.specs.Valid.{IsGroundFormula, IsTypeOver}
use Rattle.tasks.specs.Meaning.{trees_at}
use Rattle.tasks.proofs.Growth.{trees_later, all_held_later}
use Rattle.rules.specs.Trees.{RuleTree, RClash, RCut, RKeep, StepTree, no_step, step_or, rule_trees, rule_types}
use Rattle.rules.specs.declared.rule.Step.{Step}
use Rattle.rules.specs.Forms.{negated, connected}
use Rattle.rules.specs.Rows.{Adds, where_true, where_false}
use Rattle.rules.specs.Meaning.{step_at, steps_at, StepHeld, StepsHeld}
use Rattle.rules.proofs.Sequents.{All-unmap}
use Rattle.kernel.specs.Right.{AreRight, last_starts}
use Rattle.kernel.proofs.Places.{step_or-at}
use Rattle.evidence.specs.Drafts.{DraftTree, Extends, Refutes, IsFormulaAt, AreFormulas, RefutesAt}
use Rattle.evidence.specs.Rules.{NamesOwn, RefuteAdded, RefuteHolding, RefuteFailing, Clash, holding_rule, failing_rule, counted}
use Rattle.evidence.specs.Facts.{citing, IsFact}
use Rattle.evidence.proofs.Rules.{refutes_later, clash_row, holding_row, failing_row, cut_row, fact_row}
use Rattle.evidence.proofs.Typed.{as_expression}

module _ (d d1 : DraftTree) (x : Extends d d1) where
  pub same : (ids : List TermId) → AreFormulas d ids → trees_at d1.trees ids ≡ trees_at d.trees ids
  same ids f = trees_later d.trees d1.trees x.trees ids f.held

  pub formulas_later : (ids : List TermId) → AreFormulas d ids → AreFormulas d1 ids
  formulas_later ids f =
      let ground : All (IsGroundFormula d1.task) (trees_at d1.trees ids) = rw (same ids f, x.task) f.ground in
      record { held = all_held_later d.trees d1.trees x.trees ids f.held; ground = ground }

  pub formula_later : (id : TermId) → IsFormulaAt d id → IsFormulaAt d1 id
  formula_later id f =
      let e : tree_at d1.trees id ≡ tree_at d.trees id = x.trees.same id.0 f.held in
      let g : IsGroundFormula d1.task (tree_at d1.trees id) = rw (e, x.task) f.ground in
      record { held = omega (arith, x.trees.longer, f.held); ground = g }

-- what is refuted over the earlier draft is refuted over the later one
pub forth : (d d1 : DraftTree) (x : Extends d d1) (front tail : List TermId) (f : AreFormulas d front) (t : AreFormulas d tail) (k : ℕ) → Refutes d k (trees_at d.trees front ++ trees_at d.trees tail)
    → Refutes d1 k (trees_at d1.trees front ++ trees_at d1.trees tail)
forth d d1 x front tail f t k r =
    let a : trees_at d1.trees front ≡ trees_at d.trees front = same d d1 x front f in
    let b : trees_at d1.trees tail ≡ trees_at d.trees tail = same d d1 x tail t in
    let q = refutes_later d d1 x k _ r in
    record { within = q.within; is = q.is ∙ cc (a, b) }

-- what is refuted over the later draft, by the trees of the earlier one
pub back : (d d1 : DraftTree) (x : Extends d d1) (front tail : List TermId) (f : AreFormulas d front) (t : AreFormulas d tail) (d2 : DraftTree) (k : ℕ)
    → Refutes d2 k (trees_at d1.trees front ++ trees_at d1.trees tail) → Refutes d2 k (trees_at d.trees front ++ trees_at d.trees tail)
back d d1 x front tail f t d2 k r =
    let a : trees_at d1.trees front ≡ trees_at d.trees front = same d d1 x front f in
    let b : trees_at d1.trees tail ≡ trees_at d.trees tail = same d d1 x tail t in
    record { within = r.within; is = r.is ∙ cc (a, b) }

pub none_formulas : (d : DraftTree) → AreFormulas d []
none_formulas d = record { held = All-nil (Holds d.trees); ground = All-nil (IsGroundFormula d.task) }

pub more_formulas : (d : DraftTree) (id : TermId) (ids : List TermId) → IsFormulaAt d id → AreFormulas d ids → AreFormulas d (id ∷ ids)
more_formulas d id ids f g = record {
  held = All-cons (Holds d.trees) id ids f.held g.held;
  ground = All-cons (IsGroundFormula d.task) (tree_at d.trees id) (trees_at d.trees ids) f.ground g.ground;
}

pub one_formula : (d : DraftTree) (id : TermId) → IsFormulaAt d id → AreFormulas d (id ∷ [])
one_formula d id f = more_formulas d id [] f (none_formulas d)

pub two_formulas : (d : DraftTree) (a b : TermId) → IsFormulaAt d a → IsFormulaAt d b → AreFormulas d (a ∷ b ∷ [])
two_formulas d a b f g = more_formulas d a (b ∷ []) f (one_formula d b g)

-- ---- places
-- a place after the front
pub following : (front tail : List Tree) (k : ℕ) → slice_get (front ++ tail) (length front + k) ≡ slice_get tail k
following [] tail k = let e : 0 + k ≡ k = omega arith in ap (slice_get tail) e
following (a ∷ front) tail k = let e : length (a ∷ front) + k ≡ suc (length front + k) = omega arith in ap (slice_get (a ∷ (front ++ tail))) e ∙ following front tail k

-- the same, where the front is given by numbers
pub after_ids : (d : DraftTree) (front : List TermId) (tail : List Tree) (k : ℕ) → slice_get (trees_at d.trees front ++ tail) (length front + k) ≡ slice_get tail k
after_ids d front tail k =
    ap (λ (n : ℕ). slice_get (trees_at d.trees front ++ tail) (n + k)) (sym (length-map front (tree_at d.trees))) ∙ following (trees_at d.trees front) tail k

some_negated : (o : Option Tree) (P : Tree → Type 0) → IsSomeAnd (negated o) P → (a : Tree) × ((o ≡ Some (neg a)) × P a)
some_negated o P h = by_form o h
  where
    by_form : (q : Option Tree) → IsSomeAnd (negated q) P → (a : Tree) × ((q ≡ Some (neg a)) × P a)
    by_form (Some (One HNot a)) x = (a, (refl, x))
    by_form _ x = absurd x

names_none : (t : TaskTree) (r : RuleTree) → rule_trees r ≡ [] → rule_types r ≡ [] → NamesOwn t r
names_none t r e f = record { trees = rw e tt; types = rw f (All-nil (IsTypeOver t 0)) }

pub clash_names : (t : TaskTree) (i j : ℕ) → NamesOwn t (RClash i j)
clash_names t i j = names_none t (RClash i j) refl refl

pub keep_names : (t : TaskTree) (places : List ℕ) → NamesOwn t (RKeep places)
keep_names t places = names_none t (RKeep places) refl refl

pub holding_names : (t : TaskTree) (op : Op) (i : ℕ) → NamesOwn t (holding_rule op i)
holding_names t And i = names_none t (holding_rule And i) refl refl
holding_names t AndThen i = names_none t (holding_rule AndThen i) refl refl
holding_names t Or i = names_none t (holding_rule Or i) refl refl
holding_names t OrElse i = names_none t (holding_rule OrElse i) refl refl
holding_names t Imp i = names_none t (holding_rule Imp i) refl refl
holding_names t Iff i = names_none t (holding_rule Iff i) refl refl

pub failing_names : (t : TaskTree) (op : Op) (i : ℕ) → NamesOwn t (failing_rule op i)
failing_names t And i = names_none t (failing_rule And i) refl refl
failing_names t AndThen i = names_none t (failing_rule AndThen i) refl refl
failing_names t Or i = names_none t (failing_rule Or i) refl refl
failing_names t OrElse i = names_none t (failing_rule OrElse i) refl refl
failing_names t Imp i = names_none t (failing_rule Imp i) refl refl
failing_names t Iff i = names_none t (failing_rule Iff i) refl refl

-- what the rules add is refuted
module _ (d : DraftTree) (front tail : List TermId) where
  pub clash_added : (i j : ℕ) → Clash (trees_at d.trees tail) i j → RefuteAdded d (trees_at d.trees front ++ trees_at d.trees tail) (RClash (length front + i) (length front + j)) []
  clash_added i j h =
      let a = some_negated (slice_get (trees_at d.trees tail) j) _ h in
      record {
        sequents = [];
        refuted = tt;
        row = clash_row d.task (trees_at d.trees front ++ trees_at d.trees tail) (length front + i) (length front + j) a.0 (after_ids d front (trees_at d.trees tail) i ∙ a.1.1)
            (after_ids d front (trees_at d.trees tail) j ∙ a.1.0);
      }

  some_of : (o : Option (Op × Tree × Tree)) (P : Op × Tree × Tree → Type 0) → IsSomeAnd o P → (p : Op × Tree × Tree) × ((o ≡ Some p) × P p)
  some_of None P h = absurd h
  some_of (Some p) P h = (p, (refl, h))

  pub holding_added : (op : Op) (i : ℕ) (premises : List ℕ) → RefuteHolding d (trees_at d.trees front ++ trees_at d.trees tail) op (slice_get (trees_at d.trees tail) i) premises
      → RefuteAdded d (trees_at d.trees front ++ trees_at d.trees tail) (holding_rule op (length front + i)) premises
  holding_added op i premises h =
      let s = trees_at d.trees front ++ trees_at d.trees tail in
      let p = some_of (connected (slice_get (trees_at d.trees tail) i)) _ h in
      let ps : List (List Tree) = map (λ (x : List Tree). s ++ x) (where_true op p.0.1 p.0.2) in
      let row : IsSomeAnd (connected (slice_get (trees_at d.trees tail) i)) (λ q. (q.0 ≡ op) × Adds s ps (where_true op q.1 q.2)) =
      subst (λ (o : Option (Op × Tree × Tree)). IsSomeAnd o (λ q. (q.0 ≡ op) × Adds s ps (where_true op q.1 q.2))) (sym p.1.0) (p.1.1.0, refl) in
      record {
        sequents = ps;
        refuted = p.1.1.1;
        row = holding_row d.task s op (length front + i) (slice_get (trees_at d.trees tail) i) ps (after_ids d front (trees_at d.trees tail) i) row;
      }

  pub failing_added : (op : Op) (i : ℕ) (premises : List ℕ) → RefuteFailing d (trees_at d.trees front ++ trees_at d.trees tail) op (negated (slice_get (trees_at d.trees tail) i)) premises
      → RefuteAdded d (trees_at d.trees front ++ trees_at d.trees tail) (failing_rule op (length front + i)) premises
  failing_added op i premises h =
      let s = trees_at d.trees front ++ trees_at d.trees tail in
      let p = some_of (connected (negated (slice_get (trees_at d.trees tail) i))) _ h in
      let ps : List (List Tree) = map (λ (x : List Tree). s ++ x) (where_false op p.0.1 p.0.2) in
      let row : IsSomeAnd (connected (negated (slice_get (trees_at d.trees tail) i))) (λ q. (q.0 ≡ op) × Adds s ps (where_false op q.1 q.2)) =
      subst (λ (o : Option (Op × Tree × Tree)). IsSomeAnd o (λ q. (q.0 ≡ op) × Adds s ps (where_false op q.1 q.2))) (sym p.1.0) (p.1.1.0, refl) in
      record {
        sequents = ps;
        refuted = p.1.1.1;
        row = failing_row d.task s op (length front + i) (slice_get (trees_at d.trees tail) i) ps (after_ids d front (trees_at d.trees tail) i) row;
      }

-- ---- what a step keeps
-- the formulas after a front, by their places
counted_at : (front ys rest : List Tree) → map (slice_get (front ++ (ys ++ rest))) (counted (length front) (length ys)) ≡ map Some ys
counted_at front [] rest = refl
counted_at front (y ∷ ys) rest =
    let head : slice_get (front ++ (y ∷ (ys ++ rest))) (length front + 0) ≡ Some y = following front (y ∷ (ys ++ rest)) 0 in
    let zero' : length front + 0 ≡ length front = omega arith in
    let first : slice_get (front ++ (y ∷ (ys ++ rest))) (length front) ≡ Some y = ap (slice_get (front ++ (y ∷ (ys ++ rest)))) (sym zero') ∙ head in
    let e : (front ++ y ∷ []) ++ (ys ++ rest) ≡ front ++ (y ∷ (ys ++ rest)) = append_assoc front (y ∷ []) (ys ++ rest) in
    let n : length (front ++ y ∷ []) ≡ length front + 1 = length-append front (y ∷ []) in
    let more : map (slice_get ((front ++ y ∷ []) ++ (ys ++ rest))) (counted (length (front ++ y ∷ [])) (length ys)) ≡ map Some ys = counted_at (front ++ y ∷ []) ys rest in
    let moved : map (slice_get (front ++ (y ∷ (ys ++ rest)))) (counted (length front + 1) (length ys)) ≡ map Some ys =
    sym (ap (λ (z : List Tree). map (slice_get z) (counted (length front + 1) (length ys))) e) ∙ ap (λ (z : ℕ). map (slice_get ((front ++ y ∷ []) ++ (ys ++ rest))) (counted z (length ys))) (sym n) ∙ more in
    cc (first, moved)

-- a sequent without the formulas in the middle
but_kept : (front middle last : List Tree) → map Some (front ++ last) ≡ map (slice_get (front ++ (middle ++ last))) (counted 0 (length front) ++ counted (length front + length middle) (length last))
but_kept front middle last =
    let s : List Tree = front ++ (middle ++ last) in
    let one : map (slice_get s) (counted 0 (length front)) ≡ map Some front = counted_at [] front (middle ++ last) in
    let e : (front ++ middle) ++ (last ++ []) ≡ s = ap (λ (z : List Tree). (front ++ middle) ++ z) (append-nil last) ∙ append_assoc front middle last in
    let n : length (front ++ middle) ≡ length front + length middle = length-append front middle in
    let two' : map (slice_get ((front ++ middle) ++ (last ++ []))) (counted (length (front ++ middle)) (length last)) ≡ map Some last = counted_at (front ++ middle) last [] in
    let two : map (slice_get s) (counted (length front + length middle) (length last)) ≡ map Some last =
    ap (λ (z : ℕ). map (slice_get s) (counted z (length last))) (sym n) ∙ ap (λ (z : List Tree). map (slice_get z) (counted (length (front ++ middle)) (length last))) (sym e) ∙ two' in
    map-append (λ (z : Tree). Some z) front last ∙ cc (one, two) ∙ sym (map-append (slice_get s) (counted 0 (length front)) (counted (length front + length middle) (length last)))

-- a sequent in three parts
pub whole_trees : (d : DraftTree) (front middle last tail ids : List TermId) → tail ≡ middle ++ last → ids ≡ front ++ tail
    → trees_at d.trees ids ≡ trees_at d.trees front ++ (trees_at d.trees middle ++ trees_at d.trees last)
whole_trees d front middle last tail ids is whole =
    let t : trees_at d.trees tail ≡ trees_at d.trees middle ++ trees_at d.trees last = ap (trees_at d.trees) is ∙ map-append (tree_at d.trees) middle last in
    ap (trees_at d.trees) whole ∙ map-append (tree_at d.trees) front tail ∙ ap (λ (z : List Tree). trees_at d.trees front ++ z) t

pub counted_more : (from n : ℕ) → counted from (n + 1) ≡ counted from n ++ (from + n) ∷ []
counted_more from zero = let e : from + 0 ≡ from = omega arith in ap (λ (z : ℕ). z ∷ []) (sym e)
counted_more from (suc n) =
    let e : suc n + 1 ≡ suc (n + 1) = omega arith in
    let h : from + 1 + n ≡ from + suc n = omega arith in
    ap (counted from) e ∙ ap (λ (z : List ℕ). from ∷ z) (counted_more (from + 1) n ∙ ap (λ (z : ℕ). counted (from + 1) n ++ z ∷ []) h)

pub but_kept_at : (d : DraftTree) (front middle last tail ids : List TermId) (empty first places : List ℕ) (k : ℕ) → Refutes d k (trees_at d.trees front ++ trees_at d.trees last)
    → tail ≡ middle ++ last → ids ≡ front ++ tail → empty ≡ [] → first ≡ empty ++ counted 0 (length front)
    → places ≡ first ++ counted (length front + length middle) (length last) → RefutesAt d (trees_at d.trees ids) places k
but_kept_at d front middle last tail ids empty first places k r is whole none e g =
    let F = trees_at d.trees front in
    let M = trees_at d.trees middle in
    let L = trees_at d.trees last in
    let t : trees_at d.trees ids ≡ F ++ (M ++ L) = whole_trees d front middle last tail ids is whole in
    let a : length F ≡ length front = length-map front (tree_at d.trees) in
    let b : length M ≡ length middle = length-map middle (tree_at d.trees) in
    let c : length L ≡ length last = length-map last (tree_at d.trees) in
    let one : first ≡ counted 0 (length F) = e ∙ ap (λ (z : List ℕ). z ++ counted 0 (length front)) none ∙ ap (counted 0) (sym a) in
    let two : counted (length front + length middle) (length last) ≡ counted (length F + length M) (length L) = cc (a, b, c) in
    let p : places ≡ counted 0 (length F) ++ counted (length F + length M) (length L) = g ∙ cc (one, two) in
    rw (t, p) (record { kept = F ++ L; are = but_kept F M L; refutes = r })

pub both_formulas : (d : DraftTree) (middle last ds : List TermId) → ds ≡ middle ++ last → AreFormulas d middle → AreFormulas d last → AreFormulas d ds
both_formulas d middle last ds e f g =
    let t : trees_at d.trees (middle ++ last) ≡ trees_at d.trees middle ++ trees_at d.trees last = map-append (tree_at d.trees) middle last in
    subst (AreFormulas d) (sym e) (record {
      held = All-append (Holds d.trees) middle last f.held g.held;
      ground = rw t (All-append (IsGroundFormula d.task) (trees_at d.trees middle) (trees_at d.trees last) f.ground g.ground);
    })

-- ---- formulas of steps
-- the formulas of a step
pub step_formulas : (d : DraftTree) (steps : List Step) (k : ℕ) (x : Step) (seq : List TermId) → StepsHeld d.trees steps → steps_at d.trees steps ≡ d.steps → AreRight d.task d.steps
    → x ≡ get_or steps k x → seq ≡ x.sequent → k < length d.steps → AreFormulas d seq × (trees_at d.trees seq ≡ (step_or d.steps k).sequent)
step_formulas d steps k x seq h e right is same' within =
    let n : length d.steps ≡ length steps = ap length (sym e) ∙ length-map steps (step_at d.trees) in
    let l : k < length steps = omega arith in
    let t : step_or d.steps k ≡ step_at d.trees x = ap (λ (q : List StepTree). step_or q k) (sym e) ∙ step_or-at d.trees steps k x is l in
    let q : trees_at d.trees seq ≡ (step_or d.steps k).sequent = ap (trees_at d.trees) same' ∙ ap (λ (y : StepTree). y.sequent) (sym t) in
    let ground : All (IsGroundFormula d.task) (trees_at d.trees seq) = subst (All (IsGroundFormula d.task)) (sym q) (right k within).formulas in
    let sh : StepHeld d.trees x = subst (StepHeld d.trees) (sym is) (h k x l) in
    let held : All (Holds d.trees) seq = subst (All (Holds d.trees)) (sym same') sh.sequent in
    (record { held = held; ground = ground }, q)

pub last_at : (d : DraftTree) (steps : List Step) (k : ℕ) (x : Step) (seq : List TermId) (z : TermId) (front : List Tree) (last : Tree) → StepsHeld d.trees steps → steps_at d.trees steps ≡ d.steps → AreRight d.task d.steps
    → x ≡ get_or steps k x → seq ≡ x.sequent → Refutes d k (front ++ last ∷ []) → IsFormulaAt d (get_or seq (length seq - 1) z)
last_at d steps k x seq z front last h e right is same' r =
    let f = step_formulas d steps k x seq h e right is same' r.within in
    let m : length seq ≡ length front + 1 = sym (length-map seq (tree_at d.trees)) ∙ ap length (f.1 ∙ r.is) ∙ length-append front (last ∷ []) in
    let at : length seq - 1 < length seq = omega arith in
    record { held = f.0.held (length seq - 1) z at; ground = All-unmap (IsGroundFormula d.task) (tree_at d.trees) seq f.0.ground (length seq - 1) z at }

-- ---- a cut, and a fact
pub cut_names : (d : DraftTree) (a : TermId) → IsFormulaAt d a → NamesOwn d.task (RCut (tree_at d.trees a))
cut_names d a f = record { trees = (as_expression d.task (tree_at d.trees a) f.ground, tt); types = All-nil (IsTypeOver d.task 0) }

pub cut_added : (d : DraftTree) (ids : List TermId) (a : TermId) (j k : ℕ) → IsFormulaAt d a → Refutes d j (trees_at d.trees ids ++ tree_at d.trees a ∷ [])
    → Refutes d k (trees_at d.trees ids ++ neg (tree_at d.trees a) ∷ []) → RefuteAdded d (trees_at d.trees ids) (RCut (tree_at d.trees a)) (j ∷ k ∷ [])
cut_added d ids a j k f r q =
    let s = trees_at d.trees ids in
    record {
      sequents = (s ++ tree_at d.trees a ∷ []) ∷ (s ++ neg (tree_at d.trees a) ∷ []) ∷ [];
      refuted = (r, (q, tt));
      row = cut_row d.task s (tree_at d.trees a) f.ground.sort;
    }

pub kept_added : (d : DraftTree) (s : List Tree) (places : List ℕ) (k : ℕ) → RefutesAt d s places k → RefuteAdded d s (RKeep places) (k ∷ [])
kept_added d s places k g = record { sequents = g.kept ∷ []; refuted = (g.refutes, tt); row = g.are }

pub citing_names : (from : TaskTree) (name : Fact) (types : List Tree) → All (IsTypeOver from 0) types → NamesOwn from (citing name types)
citing_names from (fact.Proposition k) types a = record { trees = tt; types = a }
citing_names from (fact.Equation k) types a = record { trees = tt; types = a }
citing_names from (fact.Clause k c) types a = record { trees = tt; types = a }
citing_names from (fact.Inversion k) types a = record { trees = tt; types = a }

pub fact_added : (d : DraftTree) (s : List Tree) (name : Fact) (types : List Tree) (formula : Tree) (k : ℕ) → IsFact d.task d.task name types formula → Refutes d k (s ++ formula ∷ [])
    → RefuteAdded d s (citing name types) (k ∷ [])
fact_added d s name types formula k f r = record { sequents = (s ++ formula ∷ []) ∷ []; refuted = (r, tt); row = fact_row d.task s name types formula f.said }

-- ---- the last step
-- a draft whose last step has the start
pub ends_at : (d d1 : DraftTree) (k : ℕ) (q : List Tree) → Extends d d1 → q ≡ start d.task → Refutes d1 k q → length d1.steps ≡ k + 1 → last_starts d1.task d1.steps
ends_at d d1 k q x e r n =
    let f : StepTree → List Tree = λ z. z.sequent in
    let i : length d1.steps - 1 ≡ k = omega arith in
    let within : k < length (map f d1.steps) = omega (arith, length-map d1.steps f) in
    let got : slice_get (map f d1.steps) k ≡ Some q = slice_get-get_or (map f d1.steps) k [] within ∙ ap (λ (z : List Tree). Some z) (get_or-map f d1.steps k no_step [] r.within ∙ r.is) in
    let at : slice_get (map f d1.steps) (length d1.steps - 1) ≡ Some q = ap (slice_get (map f d1.steps)) i ∙ got in
    let s : q ≡ start d1.task = e ∙ sym (ap start x.task) in
    subst (λ (o : Option (List Tree)). IsSomeAnd o (λ z. z ≡ start d1.task)) (sym at) s

pub fact_later : (d d1 : DraftTree) (x : Extends d d1) (name : Fact) (types : List TermId) (a : TermId) → All (Holds d.trees) types → Holds d.trees a
    → IsFact d.task d.task name (trees_at d.trees types) (tree_at d.trees a) → IsFact d1.task d1.task name (trees_at d1.trees types) (tree_at d1.trees a)
fact_later d d1 x name types a h g f =
    let e : trees_at d1.trees types ≡ trees_at d.trees types = trees_later d.trees d1.trees x.trees types h in
    let b : tree_at d1.trees a ≡ tree_at d.trees a = x.trees.same a.0 g in
    rw (x.task, e, b) f

-- the clash of a fact and its negation
pub clash_of : (d d1 d2 : DraftTree) (x1 : Extends d d1) (x2 : Extends d1 d2) (n a : TermId) (k : ℕ) → IsFormulaAt d a → IsFormulaAt d1 n
    → Refutes d2 k (tree_at d1.trees n ∷ tree_at d1.trees a ∷ []) → Refutes d2 k (tree_at d2.trees n ∷ tree_at d2.trees a ∷ [])
clash_of d d1 d2 x1 x2 n a k f g r =
    let b : tree_at d2.trees n ≡ tree_at d1.trees n = x2.trees.same n.0 g.held in
    let c : tree_at d2.trees a ≡ tree_at d1.trees a = x2.trees.same a.0 (formula_later d d1 x1 a f).held in
    rw (b, c) r

pub first_negated : (d d1 : DraftTree) (x : Extends d d1) (n a : TermId) → IsFormulaAt d a → tree_at d1.trees n ≡ neg (tree_at d.trees a) → Clash (trees_at d1.trees (n ∷ a ∷ [])) 1 0
first_negated d d1 x n a f e =
    let b : tree_at d1.trees n ≡ neg (tree_at d1.trees a) = e ∙ ap neg (sym (x.trees.same a.0 f.held)) in
    rw b refl

pub whole_kept : (d : DraftTree) (ids : List TermId) (k : ℕ) (q : List Tree) → trees_at d.trees ids ≡ q → Refutes d k q → Refutes d k (trees_at d.trees ids ++ [])
whole_kept d ids k q e r = record { within = r.within; is = r.is ∙ sym e ∙ sym (append-nil (trees_at d.trees ids)) }
