-- The parts of a conditional: formulas have no type, the parts of an `if` have its sort and type, and what is said of these stays as
-- the draft extends.
use Rattle.std.proofs.Common.{◌≡◌, ℕ, [], ◌∷◌, None, inr, refl, sym, ap, subst, ◌∙◌}
use Rattle.trees.specs.declared.TermId.{TermId}
use Rattle.trees.specs.declared.Op.TheVariants.{Iff}
use Rattle.trees.specs.declared.Sort.TheVariants.{Term, Formula}
use Rattle.trees.specs.Tree.{Tree, Leaf, One, Two, Three, HNum, HBound, HParam, HPatAny, HPatVar, HPatAlias, HCell, HLet, HCase, HArm, HFun, HIf, HPatCon, HJoin}
use Rattle.trees.specs.Node.{tree_at, Holds}
use Rattle.trees.specs.Binding.{inst_many}
use Rattle.trees.specs.Sorts.{sort_of, type_of, yield, yield_type, IsExpression}
use Rattle.tasks.specs.Task.{TaskTree, neg}
use Rattle.tasks.specs.MatchTests.{test, bind}
use Rattle.tasks.specs.Valid.{IsGround, IsGroundFormula}
use Rattle.tasks.specs.Typing.{TypedUnder}
use Rattle.tasks.specs.Vocabulary.{of_task}
use Rattle.rules.specs.Forms.{alike, equal}
use Rattle.evidence.specs.Drafts.{DraftTree, Extends, Refutes, IsFormulaAt}
use Rattle.evidence.specs.Laws.{Extends_trans}
use Rattle.evidence.proofs.Rules.{refutes_later}
use Rattle.evidence.proofs.Formulas.{formula_later}
use Rattle.evidence.specs.proof_scripts.Added.{AreComparable}
use Rattle.images.proofs.Images.{expression_sort, expression_type}
use Rattle.congruence.specs.Alike.{IsClosedAt, ArePair, HasHalves}
use Rattle.congruence.specs.declared.conditionals.Conditional.{Conditional}
use Rattle.congruence.specs.declared.conditionals.CaseValues.{CaseValues}
use Rattle.congruence.specs.declared.cases.Case.{Case}
use Rattle.congruence.specs.declared.cases.CaseLinks.{CaseLinks}
use Rattle.congruence.specs.Conditionals.{IsConditional, HasValues, IsCase, AreLinked, HasCaseHalves, IsIfAt, IsMatchAt, IsLastBranch}
use Rattle.congruence.proofs.Later.{tree_later, closed_later, pair_later, shows_at}
pub use Rattle.images.proofs.typing_laws.Sorted.{formula_no_type as formula_untyped}

-- ---- a formula has no type
untyped : (e : Tree) → yield e ≡ Formula → yield_type e ≡ None
untyped (Leaf (HNum z)) q = absurd (cc)
untyped (Leaf _) q = refl
untyped (One (HBound i) a) q = absurd (cc)
untyped (One (HParam n) a) q = absurd (cc)
untyped (One HPatAny a) q = absurd (cc)
untyped (One HPatVar a) q = absurd (cc)
untyped (One HPatAlias a) q = absurd (cc)
untyped (One _ a) q = refl
untyped (Two HCell a b) q = untyped a q
untyped (Two HLet a b) q = untyped b q
untyped (Two HCase a b) q = untyped b q
untyped (Two HArm a b) q = untyped b q
untyped (Two _ a b) q = refl
untyped (Three (HFun f) a b c) q = absurd (cc)
untyped (Three HIf a b c) q = untyped b q
untyped (Three (HPatCon k) a b c) q = absurd (cc)
untyped (Three _ a b c) q = refl

-- a formula of a sequent is closed
pub formula_closed : (d : DraftTree) (id : TermId) → IsFormulaAt d id → IsClosedAt d id
formula_closed d id f = record { held = f.held; ground = record { sort = inr f.ground.sort; typed = f.ground.typed; ground = f.ground.ground } }

-- two formulas are a pair
pub formula_pair : (d : DraftTree) (l r : TermId) → IsFormulaAt d l → IsFormulaAt d r → ArePair d l r
formula_pair d l r f g = record {
  left = formula_closed d l f;
  right = formula_closed d r g;
  sort = g.ground.sort ∙ sym f.ground.sort;
  type = formula_untyped (tree_at d.trees r) g.ground.sort ∙ sym (formula_untyped (tree_at d.trees l) f.ground.sort);
}

-- what is closed and a formula is a formula of sequents
pub closed_formula : (d : DraftTree) (id : TermId) → IsClosedAt d id → sort_of (tree_at d.trees id) ≡ Formula → IsFormulaAt d id
closed_formula d id c s = record { held = c.held; ground = record { sort = s; typed = c.ground.typed; ground = c.ground.ground } }

-- and what is a pair with a formula
pub part_formula : (d : DraftTree) (l r : TermId) → ArePair d l r → sort_of (tree_at d.trees l) ≡ Formula → IsFormulaAt d r
part_formula d l r p s = closed_formula d r p.right (p.sort ∙ s)

-- halves of equal trees
pub halves_here : (d : DraftTree) (l r m n : Tree) (i j : ℕ) → l ≡ m → r ≡ n → HasHalves d m n i j → HasHalves d l r i j
halves_here d l r m n i j p q h = subst (λ (z : Tree). HasHalves d z r i j) (sym p) (subst (λ (z : Tree). HasHalves d m z i j) (sym q) h)

-- ---- claims as they are made
pub iff_made : (d d1 : DraftTree) (x : Extends d d1) (id l r : TermId) → Holds d1.trees id → tree_at d1.trees id ≡ Two (HJoin Iff) (tree_at d.trees l) (tree_at d.trees r) → IsFormulaAt d l → IsFormulaAt d r → IsFormulaAt d1 id
iff_made d d1 x id l r h q f g =
    let made : IsGroundFormula d.task (Two (HJoin Iff) (tree_at d.trees l) (tree_at d.trees r)) = record { sort = refl; typed = (((f.ground.sort, g.ground.sort), tt), tt, f.ground.typed, g.ground.typed); ground = (f.ground.ground, g.ground.ground) } in
    record { held = h; ground = subst (λ (t : TaskTree). IsGroundFormula t (tree_at d1.trees id)) (sym x.task) (subst (IsGroundFormula d.task) (sym q) made) }

pub equal_made : (d d1 : DraftTree) (x : Extends d d1) (id l r : TermId) → Holds d1.trees id → tree_at d1.trees id ≡ equal (tree_at d.trees l) (tree_at d.trees r) → ArePair d l r → sort_of (tree_at d.trees l) ≡ Term → IsFormulaAt d1 id
equal_made d d1 x id l r h q p s =
    let made : IsGroundFormula d.task (equal (tree_at d.trees l) (tree_at d.trees r)) = record { sort = refl; typed = (((s, p.sort ∙ s), tt), sym p.type, p.left.ground.typed, p.right.ground.typed); ground = (p.left.ground.ground, p.right.ground.ground) } in
    record { held = h; ground = subst (λ (t : TaskTree). IsGroundFormula t (tree_at d1.trees id)) (sym x.task) (subst (IsGroundFormula d.task) (sym q) made) }

-- a pair is what a `match` by its parts takes
pub pair_comparable : (d : DraftTree) (l r : TermId) → ArePair d l r → AreComparable d l r
pair_comparable d l r p = record { left = record { held = p.left.held; ground = p.left.ground }; right = record { held = p.right.held; ground = p.right.ground }; sort = p.sort; type = p.type }

-- ---- pairs
pub pair_turned : (d : DraftTree) (l r : TermId) → ArePair d l r → ArePair d r l
pair_turned d l r p = record { left = p.right; right = p.left; sort = sym p.sort; type = sym p.type }

pub pair_through : (d : DraftTree) (l m r : TermId) → ArePair d l m → ArePair d m r → ArePair d l r
pair_through d l m r p q = record { left = p.left; right = q.right; sort = q.sort ∙ p.sort; type = q.type ∙ p.type }

-- what two conditionals that are a pair are alike, part by part, are pairs
pub parts_pair : (d : DraftTree) (l r a b : TermId) → ArePair d l r → ArePair d l a → ArePair d r b → ArePair d a b
parts_pair d l r a b p q s = pair_through d a l b (pair_turned d l a q) (pair_through d l r b p s)

-- ---- the parts of an `if`
if_sort : (c a b : Tree) → IsExpression (sort_of a) → sort_of a ≡ sort_of (Three HIf c a b)
if_sort c a b k = sym (expression_sort a k)

if_type : (c a b : Tree) → IsExpression (sort_of a) → type_of a ≡ type_of (Three HIf c a b)
if_type c a b k = expression_type a k

part : (d : DraftTree) (id : TermId) → Holds d.trees id → IsExpression (sort_of (tree_at d.trees id)) → TypedUnder (of_task d.task) [] (tree_at d.trees id) → IsGround (tree_at d.trees id) → IsClosedAt d id
part d id h s t g = record { held = h; ground = record { sort = s; typed = t; ground = g } }

pub if_parts : (d : DraftTree) (k : Conditional) → IsClosedAt d k.whole → IsIfAt d k → Holds d.trees k.condition → Holds d.trees k.then_part → Holds d.trees k.else_part → IsConditional d k
if_parts d k w q hc ha hb =
    let C = tree_at d.trees k.condition in
    let A = tree_at d.trees k.then_part in
    let B = tree_at d.trees k.else_part in
    let x : TypedUnder (of_task d.task) [] (Three HIf C A B) = subst (TypedUnder (of_task d.task) []) q w.ground.typed in
    let g : IsGround (Three HIf C A B) = subst IsGround q w.ground.ground in
    let sa : IsExpression (sort_of A) = x.0.1 in
    let e : sort_of B ≡ sort_of A = x.0.2 in
    let sb : IsExpression (sort_of B) = subst IsExpression (sym e) sa in
    let ws : sort_of (tree_at d.trees k.whole) ≡ sort_of A = ap sort_of q ∙ sym (if_sort C A B sa) in
    let wt : type_of (tree_at d.trees k.whole) ≡ type_of A = ap type_of q ∙ sym (if_type C A B sa) in
    record {
      whole = w;
      condition = record { held = hc; ground = record { sort = x.0.0; typed = x.2; ground = g.0 } };
      then_part = record { left = w; right = part d k.then_part ha sa x.3 g.1; sort = sym ws; type = sym wt };
      else_part = record { left = w; right = part d k.else_part hb sb x.4 g.2; sort = e ∙ sym ws; type = sym x.1 ∙ sym wt };
    }

-- ---- in a later draft
module _ (d d1 : DraftTree) (x : Extends d d1) where
  pub parts_later : (k : Conditional) → IsConditional d k → IsConditional d1 k
  parts_later k p = record {
    whole = closed_later d d1 x k.whole p.whole;
    condition = formula_later d d1 x k.condition p.condition;
    then_part = pair_later d d1 x k.whole k.then_part p.then_part;
    else_part = pair_later d d1 x k.whole k.else_part p.else_part;
  }

  pub same_alike : (a b : TermId) → Holds d.trees a → Holds d.trees b → alike (tree_at d.trees a) (tree_at d.trees b) ≡ alike (tree_at d1.trees a) (tree_at d1.trees b)
  same_alike a b ha hb = ap (λ (z : Tree). alike z (tree_at d.trees b)) (sym (tree_later d d1 x a ha)) ∙ ap (alike (tree_at d1.trees a)) (sym (tree_later d d1 x b hb))

  pub values_later : (k : Conditional) (v : CaseValues) → IsConditional d k → HasValues d k v → HasValues d1 k v
  values_later k v p h = record {
    then_value = subst (λ (z : Tree). Refutes d1 v.then_value (z ∷ neg (alike (tree_at d1.trees k.whole) (tree_at d1.trees k.then_part)) ∷ [])) (sym (tree_later d d1 x k.condition p.condition.held))
        (subst (λ (z : Tree). Refutes d1 v.then_value (tree_at d.trees k.condition ∷ neg z ∷ [])) (same_alike k.whole k.then_part p.whole.held p.then_part.right.held) (refutes_later d d1 x v.then_value _ h.then_value));
    else_value = subst (λ (z : Tree). Refutes d1 v.else_value (neg z ∷ neg (alike (tree_at d1.trees k.whole) (tree_at d1.trees k.else_part)) ∷ [])) (sym (tree_later d d1 x k.condition p.condition.held))
        (subst (λ (z : Tree). Refutes d1 v.else_value (neg (tree_at d.trees k.condition) ∷ neg z ∷ [])) (same_alike k.whole k.else_part p.whole.held p.else_part.right.held) (refutes_later d d1 x v.else_value _ h.else_value));
  }

  pub case_later : (k : Case) → IsCase d k → IsCase d1 k
  case_later k h = record {
    pair = pair_later d d1 x k.whole k.part h.pair;
    hypothesis = formula_later d d1 x k.hypothesis h.hypothesis;
    value = subst (λ (z : Tree). Refutes d1 k.value (z ∷ neg (alike (tree_at d1.trees k.whole) (tree_at d1.trees k.part)) ∷ [])) (sym (tree_later d d1 x k.hypothesis h.hypothesis.held))
        (subst (λ (z : Tree). Refutes d1 k.value (tree_at d.trees k.hypothesis ∷ neg z ∷ [])) (same_alike k.whole k.part h.pair.left.held h.pair.right.held) (refutes_later d d1 x k.value _ h.value));
  }

  pub linked_later : (l r : Conditional) (w : CaseLinks) → IsConditional d l → IsConditional d r → AreLinked d l r w → AreLinked d1 l r w
  linked_later l r w p q h = record {
    condition = shows_at d d1 x w.condition l.condition r.condition p.condition.held q.condition.held h.condition;
    then_part = shows_at d d1 x w.then_part l.then_part r.then_part p.then_part.right.held q.then_part.right.held h.then_part;
    else_part = shows_at d d1 x w.else_part l.else_part r.else_part p.else_part.right.held q.else_part.right.held h.else_part;
  }

  -- the negation of a claim
  pub denied : (goal l r : TermId) → Holds d.trees l → Holds d.trees r → tree_at d1.trees goal ≡ neg (alike (tree_at d.trees l) (tree_at d.trees r)) → tree_at d1.trees goal ≡ neg (alike (tree_at d1.trees l) (tree_at d1.trees r))
  denied goal l r hl hr q = q ∙ ap neg (same_alike l r hl hr)

  pub denied_step : (e : DraftTree) (k : ℕ) (l r : TermId) → Holds d.trees l → Holds d.trees r → Refutes e k (neg (alike (tree_at d.trees l) (tree_at d.trees r)) ∷ []) → Refutes e k (neg (alike (tree_at d1.trees l) (tree_at d1.trees r)) ∷ [])
  denied_step e k l r hl hr h = subst (λ (z : Tree). Refutes e k (neg z ∷ [])) (same_alike l r hl hr) h

  -- an `if`, and a `match`, by their parts
  pub if_later : (k : Conditional) → IsConditional d k → IsIfAt d k → IsIfAt d1 k
  if_later k p q = tree_later d d1 x k.whole p.whole.held ∙ q ∙ cc (sym (tree_later d d1 x k.condition p.condition.held), sym (tree_later d d1 x k.then_part p.then_part.right.held), sym (tree_later d d1 x k.else_part p.else_part.right.held))

  pub cases_later : (k : Conditional) → IsConditional d k → IsMatchAt d k → IsMatchAt d1 k
  cases_later k p q = record {
    scrutinee = q.scrutinee;
    pattern = q.pattern;
    body = q.body;
    rest = q.rest;
    is = tree_later d d1 x k.whole p.whole.held ∙ q.is;
    more = q.more;
    condition = tree_later d d1 x k.condition p.condition.held ∙ q.condition ∙ ap (λ (t : TaskTree). test t q.pattern q.scrutinee) (sym x.task);
    first = tree_later d d1 x k.then_part p.then_part.right.held ∙ q.first ∙ ap (λ (t : TaskTree). inst_many q.body (bind t q.pattern q.scrutinee)) (sym x.task);
    others = tree_later d d1 x k.else_part p.else_part.right.held ∙ q.others;
  }

  pub last_later : (whole inner : TermId) → Holds d.trees whole → Holds d.trees inner → IsLastBranch d.task (tree_at d.trees whole) (tree_at d.trees inner) → IsLastBranch d1.task (tree_at d1.trees whole) (tree_at d1.trees inner)
  last_later whole inner hw hi q = record {
    scrutinee = q.scrutinee;
    pattern = q.pattern;
    body = q.body;
    is = tree_later d d1 x whole hw ∙ q.is;
    first = tree_later d d1 x inner hi ∙ q.first ∙ ap (λ (t : TaskTree). inst_many q.body (bind t q.pattern q.scrutinee)) (sym x.task);
  }

  -- what a conditional is under its condition, in trees of the later draft
  then_moved : (e : DraftTree) (k : Conditional) (m : ℕ) → IsConditional d k → Refutes e m (tree_at d.trees k.condition ∷ neg (alike (tree_at d.trees k.whole) (tree_at d.trees k.then_part)) ∷ []) → Refutes e m (tree_at d1.trees k.condition ∷ neg (alike (tree_at d1.trees k.whole) (tree_at d1.trees k.then_part)) ∷ [])
  then_moved e k m p u =
      subst (λ (z : Tree). Refutes e m (z ∷ neg (alike (tree_at d1.trees k.whole) (tree_at d1.trees k.then_part)) ∷ [])) (sym (tree_later d d1 x k.condition p.condition.held))
      (subst (λ (z : Tree). Refutes e m (tree_at d.trees k.condition ∷ neg z ∷ [])) (same_alike k.whole k.then_part p.whole.held p.then_part.right.held) u)

  else_moved : (e : DraftTree) (k : Conditional) (m : ℕ) → IsConditional d k → Refutes e m (neg (tree_at d.trees k.condition) ∷ neg (alike (tree_at d.trees k.whole) (tree_at d.trees k.else_part)) ∷ []) → Refutes e m (neg (tree_at d1.trees k.condition) ∷ neg (alike (tree_at d1.trees k.whole) (tree_at d1.trees k.else_part)) ∷ [])
  else_moved e k m p u =
      subst (λ (z : Tree). Refutes e m (neg z ∷ neg (alike (tree_at d1.trees k.whole) (tree_at d1.trees k.else_part)) ∷ [])) (sym (tree_later d d1 x k.condition p.condition.held))
      (subst (λ (z : Tree). Refutes e m (neg (tree_at d.trees k.condition) ∷ neg z ∷ [])) (same_alike k.whole k.else_part p.whole.held p.else_part.right.held) u)

  pub same_steps : (k : ℕ) (a b c : TermId) → Holds d.trees a → Holds d.trees b → Holds d.trees c → Refutes d1 k (tree_at d.trees a ∷ tree_at d.trees b ∷ neg (tree_at d.trees c) ∷ []) → Refutes d1 k (tree_at d1.trees a ∷ tree_at d1.trees b ∷ neg (tree_at d1.trees c) ∷ [])
  same_steps k a b c ha hb hc r =
      subst (λ (z : Tree). Refutes d1 k (z ∷ tree_at d1.trees b ∷ neg (tree_at d1.trees c) ∷ [])) (sym (tree_later d d1 x a ha))
      (subst (λ (z : Tree). Refutes d1 k (tree_at d.trees a ∷ z ∷ neg (tree_at d1.trees c) ∷ [])) (sym (tree_later d d1 x b hb))
      (subst (λ (z : Tree). Refutes d1 k (tree_at d.trees a ∷ tree_at d.trees b ∷ neg z ∷ [])) (sym (tree_later d d1 x c hc)) r))

  pub three_later : (k : ℕ) (a b c : TermId) → Holds d.trees a → Holds d.trees b → Holds d.trees c → Refutes d k (tree_at d.trees a ∷ tree_at d.trees b ∷ neg (tree_at d.trees c) ∷ []) → Refutes d1 k (tree_at d1.trees a ∷ tree_at d1.trees b ∷ neg (tree_at d1.trees c) ∷ [])
  three_later k a b c ha hb hc r = same_steps k a b c ha hb hc (refutes_later d d1 x k _ r)

  pub case_halves_later : (k : Case) (other : TermId) (i j : ℕ) → IsCase d k → Holds d.trees other → HasCaseHalves d k other i j → HasCaseHalves d1 k other i j
  case_halves_later k other i j c h p = record {
    there = three_later i k.hypothesis k.whole other c.hypothesis.held c.pair.left.held h p.there;
    back = three_later j k.hypothesis k.part k.whole c.hypothesis.held c.pair.right.held c.pair.left.held p.back;
  }

  -- a step for a goal under two hypotheses, in trees of either draft
  pub goal_before : (e : DraftTree) (k : ℕ) (g a b : TermId) → Holds d.trees g → Holds d.trees a → Holds d.trees b → Refutes e k (tree_at d1.trees g ∷ tree_at d1.trees a ∷ tree_at d1.trees b ∷ []) → Refutes e k (tree_at d.trees g ∷ tree_at d.trees a ∷ tree_at d.trees b ∷ [])
  goal_before e k g a b hg ha hb r =
      subst (λ (z : Tree). Refutes e k (z ∷ tree_at d.trees a ∷ tree_at d.trees b ∷ [])) (tree_later d d1 x g hg)
      (subst (λ (z : Tree). Refutes e k (tree_at d1.trees g ∷ z ∷ tree_at d.trees b ∷ [])) (tree_later d d1 x a ha)
      (subst (λ (z : Tree). Refutes e k (tree_at d1.trees g ∷ tree_at d1.trees a ∷ z ∷ [])) (tree_later d d1 x b hb) r))

  pub goal_after : (e : DraftTree) (k : ℕ) (g a b : TermId) → Holds d.trees g → Holds d.trees a → Holds d.trees b → Refutes e k (tree_at d.trees g ∷ tree_at d.trees a ∷ tree_at d.trees b ∷ []) → Refutes e k (tree_at d1.trees g ∷ tree_at d1.trees a ∷ tree_at d1.trees b ∷ [])
  goal_after e k g a b hg ha hb r =
      subst (λ (z : Tree). Refutes e k (z ∷ tree_at d1.trees a ∷ tree_at d1.trees b ∷ [])) (sym (tree_later d d1 x g hg))
      (subst (λ (z : Tree). Refutes e k (tree_at d.trees g ∷ z ∷ tree_at d1.trees b ∷ [])) (sym (tree_later d d1 x a ha))
      (subst (λ (z : Tree). Refutes e k (tree_at d.trees g ∷ tree_at d.trees a ∷ z ∷ [])) (sym (tree_later d d1 x b hb)) r))

  pub refuted_after : (e : DraftTree) (k : ℕ) (g a b : TermId) → Holds d.trees g → Holds d.trees a → Holds d.trees b → Refutes e k (tree_at d.trees g ∷ neg (tree_at d.trees a) ∷ neg (tree_at d.trees b) ∷ []) → Refutes e k (tree_at d1.trees g ∷ neg (tree_at d1.trees a) ∷ neg (tree_at d1.trees b) ∷ [])
  refuted_after e k g a b hg ha hb r =
      subst (λ (z : Tree). Refutes e k (z ∷ neg (tree_at d1.trees a) ∷ neg (tree_at d1.trees b) ∷ [])) (sym (tree_later d d1 x g hg))
      (subst (λ (z : Tree). Refutes e k (tree_at d.trees g ∷ neg z ∷ neg (tree_at d1.trees b) ∷ [])) (sym (tree_later d d1 x a ha))
      (subst (λ (z : Tree). Refutes e k (tree_at d.trees g ∷ neg (tree_at d.trees a) ∷ neg z ∷ [])) (sym (tree_later d d1 x b hb)) r))

  pub step_later : (k : ℕ) (a b : TermId) → Holds d.trees a → Holds d.trees b → Refutes d k (tree_at d.trees a ∷ neg (tree_at d.trees b) ∷ []) → Refutes d1 k (tree_at d1.trees a ∷ neg (tree_at d1.trees b) ∷ [])
  step_later k a b ha hb r =
      subst (λ (z : Tree). Refutes d1 k (z ∷ neg (tree_at d1.trees b) ∷ [])) (sym (tree_later d d1 x a ha)) (subst (λ (z : Tree). Refutes d1 k (tree_at d.trees a ∷ neg z ∷ [])) (sym (tree_later d d1 x b hb)) (refutes_later d d1 x k _ r))

  -- the negation of an equivalence
  pub no_iff_later : (id a b : TermId) → Holds d.trees id → Holds d.trees a → Holds d.trees b → tree_at d.trees id ≡ neg (Two (HJoin Iff) (tree_at d.trees a) (tree_at d.trees b)) → tree_at d1.trees id ≡ neg (Two (HJoin Iff) (tree_at d1.trees a) (tree_at d1.trees b))
  no_iff_later id a b hi ha hb q = tree_later d d1 x id hi ∙ q ∙ cc (tree_later d d1 x a ha, tree_later d d1 x b hb)

-- values from the two steps
pub values_made : (d d1 d2 : DraftTree) (x : Extends d d1) (y : Extends d1 d2) (k : Conditional) (m n : ℕ) → IsConditional d k → Refutes d2 m (tree_at d.trees k.condition ∷ neg (alike (tree_at d.trees k.whole) (tree_at d.trees k.then_part)) ∷ [])
    → Refutes d2 n (neg (tree_at d1.trees k.condition) ∷ neg (alike (tree_at d1.trees k.whole) (tree_at d1.trees k.else_part)) ∷ []) → HasValues d2 k (record { then_value = m; else_value = n })
values_made d d1 d2 x y k m n p u v = record { then_value = then_moved d d2 (Extends_trans d d1 d2 x y) d2 k m p u; else_value = else_moved d1 d2 y d2 k n (parts_later d d1 x k p) v }
