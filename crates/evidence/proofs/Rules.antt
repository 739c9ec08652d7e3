-- Steps by each rule are right: their premises refute what its row adds. Here is a row of each rule, from the formulas at its
-- places.
use Rattle.std.proofs.Common.{◌≡◌, ◌≢◌, ℕ, ◌<◌, ◌+◌, ◌-◌, ◌^◌, ℤ, pos, ◌+ℤ◌, ◌<ℤ◌, IsTrue, List, [], ◌∷◌, ◌++◌, Option, None, Some, IsSomeAnd, length, slice_get, map, All, refl, sym, ap, subst, ◌∙◌, arith}
use Rattle.std.specs.Option.{option_map, option_and_then}
use Rattle.std.proofs.lemmas.List.{length-append, map-append, get_or_append_left}
use Rattle.std.proofs.lemmas.List.Elements.{All-append, All-cons, All-nil}
use Rattle.trees.specs.declared.Op.{Op}
use Rattle.trees.specs.declared.Op.TheVariants.{And, AndThen, Or, OrElse, Imp, Iff}
use Rattle.trees.specs.declared.Sort.TheVariants.{Term, Formula}
use Rattle.trees.specs.declared.TermId.{TermId}
use Rattle.trees.specs.declared.ints.Ints.{Ints}
use Rattle.trees.specs.Tree.{Tree, Leaf, One, Two, Three, HTrue, HFalse, HNum, HForall, HExists, HLet, HIf, HCase, HCell, HArm, HFun, HTyApp}
use Rattle.trees.specs.Node.{tree_at}
use Rattle.trees.specs.Binding.{inst, inst_types, Param}
use Rattle.trees.specs.Sorts.{sort_of, type_of, int_type}
use Rattle.tasks.specs.declared.facts.Fact.{Fact}
use Rattle.tasks.specs.declared.facts.Fact.TheVariants as fact
use Rattle.tasks.specs.Task.{TaskTree, ConstructorTree, PropositionTree, props, symbol_or, neg}
use Rattle.tasks.specs.Roles.{AlgebraicRole, ProjectionRole, role, is_constructor}
use Rattle.tasks.specs.Typing.{members}
use Rattle.tasks.specs.Inversion.{inversion}
use Rattle.tasks.specs.Meaning.{trees_at}
use Rattle.tasks.specs.Valid.{IsGroundFormula}
use Rattle.tasks.specs.MatchTests.{test, bind, rebuilt}
use Rattle.linear_leaf.specs.Linear.{ClosesLinear}
use Rattle.rules.specs.declared.rule.Rule.{Rule}
use Rattle.rules.specs.Trees.{RuleTree, RFalse, RNotTrue, RClash, RIrrefl, RNotNot, RForall, RNotForall, RExists, RNotExists, RCut, RKeep, RRefl, RReplace, RLetDef, RIfDef, RMatchDef, RDistinct, RLinear, RCase, RInject, RProject, RTrichotomy, RBound, StepTree, no_step, step_or, sequents}
use Rattle.rules.specs.Forms.{negated, equal, alike, by_cases, comparison}
use Rattle.rules.specs.Rows.{IsRuleRow, Adds, Holding, Failing, IsNew, IsTemplate, unfolded, equation, clauses, equal_each, DeclaresInts}
use Rattle.rules.specs.Meaning.{rule_at}
use Rattle.kernel.specs.Right.{IsRight}
use Rattle.evidence.specs.Drafts.{DraftTree, Extends, Refutes, RefuteAll, AreFormulas}
use Rattle.evidence.specs.Facts.{at_symbol, fact_named, citing}
use Rattle.evidence.specs.Rules.{NamesOwn, RefuteAdded, holding_rule, failing_rule}

-- a step stays
pub refutes_later : (a b : DraftTree) → Extends a b → (k : ℕ) (q : List Tree) → Refutes a k q → Refutes b k q
refutes_later a b e k q r =
    let n : length b.steps ≡ length a.steps + length e.more = ap length e.steps ∙ length-append a.steps e.more in
    record {
      within = omega (arith, r.within);
      is = ap (λ (zs : List StepTree). (step_or zs k).sequent) e.steps ∙ ap (λ (z : StepTree). z.sequent) (get_or_append_left a.steps e.more no_step k r.within) ∙ r.is;
    }

-- ---- any rule
sequents_of : (d : DraftTree) (ks : List ℕ) (qs : List (List Tree)) → RefuteAll d ks qs → sequents d.steps ks ≡ qs
sequents_of d [] [] r = refl
sequents_of d [] (q ∷ qs) r = absurd r
sequents_of d (k ∷ ks) [] r = absurd r
sequents_of d (k ∷ ks) (q ∷ qs) r = cc (r.0.is, sequents_of d ks qs r.1)

all_earlier : (d : DraftTree) (ks : List ℕ) (qs : List (List Tree)) → RefuteAll d ks qs → All (λ k. k < length d.steps) ks
all_earlier d [] [] r = All-nil (λ k. k < length d.steps)
all_earlier d [] (q ∷ qs) r = absurd r
all_earlier d (k ∷ ks) [] r = absurd r
all_earlier d (k ∷ ks) (q ∷ qs) r = All-cons (λ j. j < length d.steps) k ks r.0.within (all_earlier d ks qs r.1)

pub right_by : (d : DraftTree) (s : List Tree) (r : RuleTree) (ks : List ℕ) → All (IsGroundFormula d.task) s → NamesOwn d.task r → RefuteAdded d s r ks
    → IsRight d.task d.steps (record { sequent = s; rule = r; premises = ks })
right_by d s r ks formulas names a = record {
  formulas = formulas;
  trees = names.trees;
  types = names.types;
  earlier = all_earlier d ks a.sequents a.refuted;
  row = subst (IsRuleRow d.task s r) (sym (sequents_of d ks a.sequents a.refuted)) a.row;
}

-- a step in code, with a front and a tail
pub step_right : (d : DraftTree) (front tail ids : List TermId) (r : Rule) (ps premises : List ℕ) → ids ≡ front ++ tail → ps ≡ premises → AreFormulas d front → AreFormulas d tail
    → NamesOwn d.task (rule_at d.trees r) → RefuteAdded d (trees_at d.trees front ++ trees_at d.trees tail) (rule_at d.trees r) premises
    → IsRight d.task d.steps (record { sequent = trees_at d.trees ids; rule = rule_at d.trees r; premises = ps })
step_right d front tail ids r ps premises e p f t n a =
    let q : trees_at d.trees ids ≡ trees_at d.trees front ++ trees_at d.trees tail = ap (trees_at d.trees) e ∙ map-append (tree_at d.trees) front tail in
    rw (q, p) (right_by d (trees_at d.trees front ++ trees_at d.trees tail) (rule_at d.trees r) premises
    (All-append (IsGroundFormula d.task) (trees_at d.trees front) (trees_at d.trees tail) f.ground t.ground) n a)

-- ---- the rows
some_mapped : {X Y : Type 0} (f : X → Y) (o : Option X) (P : Y → Type 0) → IsSomeAnd (option_map f o) P → IsSomeAnd o (λ x. P (f x))
some_mapped f None P h = h
some_mapped f (Some x) P h = h

mapped_some : {X Y : Type 0} (f : X → Y) (o : Option X) (P : Y → Type 0) → IsSomeAnd o (λ x. P (f x)) → IsSomeAnd (option_map f o) P
mapped_some f None P h = h
mapped_some f (Some x) P h = h

pub some_map : {X : Type 0} (o : Option X) (P Q : X → Type 0) → ((x : X) → P x → Q x) → IsSomeAnd o P → IsSomeAnd o Q
some_map None P Q f h = h
some_map (Some x) P Q f h = f x h

module _ (t : TaskTree) (s : List Tree) where
  pub false_row : (i : ℕ) → slice_get s i ≡ Some (Leaf HFalse) → IsRuleRow t s (RFalse i) []
  false_row i e = (e, refl)

  pub nottrue_row : (i : ℕ) → slice_get s i ≡ Some (neg (Leaf HTrue)) → IsRuleRow t s (RNotTrue i) []
  nottrue_row i e = (e, refl)

  pub clash_row : (i j : ℕ) (a : Tree) → slice_get s i ≡ Some a → slice_get s j ≡ Some (neg a) → IsRuleRow t s (RClash i j) []
  clash_row i j a e f = rw (e, f) (refl, refl)

  pub irrefl_row : (i : ℕ) (a : Tree) → slice_get s i ≡ Some (neg (equal a a)) → IsRuleRow t s (RIrrefl i) []
  irrefl_row i a e = rw e (refl, refl)

  pub notnot_row : (i : ℕ) (a : Tree) → slice_get s i ≡ Some (neg (neg a)) → IsRuleRow t s (RNotNot i) ((s ++ a ∷ []) ∷ [])
  notnot_row i a e = rw e refl

  -- a connective, by what it is where it holds and where its negation holds: twelve rules
  pub holding_row : (op : Op) (i : ℕ) (f : Option Tree) (ps : List (List Tree)) → slice_get s i ≡ f → Holding op s f ps → IsRuleRow t s (holding_rule op i) ps
  holding_row And i f ps e h = subst (λ (z : Option Tree). Holding And s z ps) (sym e) h
  holding_row AndThen i f ps e h = subst (λ (z : Option Tree). Holding AndThen s z ps) (sym e) h
  holding_row Or i f ps e h = subst (λ (z : Option Tree). Holding Or s z ps) (sym e) h
  holding_row OrElse i f ps e h = subst (λ (z : Option Tree). Holding OrElse s z ps) (sym e) h
  holding_row Imp i f ps e h = subst (λ (z : Option Tree). Holding Imp s z ps) (sym e) h
  holding_row Iff i f ps e h = subst (λ (z : Option Tree). Holding Iff s z ps) (sym e) h

  pub failing_row : (op : Op) (i : ℕ) (f : Option Tree) (ps : List (List Tree)) → slice_get s i ≡ f → Failing op s (negated f) ps → IsRuleRow t s (failing_rule op i) ps
  failing_row And i f ps e h = subst (λ (z : Option Tree). Failing And s (negated z) ps) (sym e) h
  failing_row AndThen i f ps e h = subst (λ (z : Option Tree). Failing AndThen s (negated z) ps) (sym e) h
  failing_row Or i f ps e h = subst (λ (z : Option Tree). Failing Or s (negated z) ps) (sym e) h
  failing_row OrElse i f ps e h = subst (λ (z : Option Tree). Failing OrElse s (negated z) ps) (sym e) h
  failing_row Imp i f ps e h = subst (λ (z : Option Tree). Failing Imp s (negated z) ps) (sym e) h
  failing_row Iff i f ps e h = subst (λ (z : Option Tree). Failing Iff s (negated z) ps) (sym e) h

  pub forall_row : (i : ℕ) (ty b u : Tree) → slice_get s i ≡ Some (Two HForall ty b) → type_of u ≡ Some ty → IsRuleRow t s (RForall i u) ((s ++ inst b u ∷ []) ∷ [])
  forall_row i ty b u e f = rw e (f, refl)

  pub notforall_row : (i n : ℕ) (ty b : Tree) → slice_get s i ≡ Some (neg (Two HForall ty b)) → IsNew n s → IsRuleRow t s (RNotForall i n) ((s ++ neg (inst b (Param n ty)) ∷ []) ∷ [])
  notforall_row i n ty b e f = rw e (f, refl)

  pub exists_row : (i n : ℕ) (ty b : Tree) → slice_get s i ≡ Some (Two HExists ty b) → IsNew n s → IsRuleRow t s (RExists i n) ((s ++ inst b (Param n ty) ∷ []) ∷ [])
  exists_row i n ty b e f = rw e (f, refl)

  pub notexists_row : (i : ℕ) (ty b u : Tree) → slice_get s i ≡ Some (neg (Two HExists ty b)) → type_of u ≡ Some ty → IsRuleRow t s (RNotExists i u) ((s ++ neg (inst b u) ∷ []) ∷ [])
  notexists_row i ty b u e f = rw e (f, refl)

  pub cut_row : (a : Tree) → sort_of a ≡ Formula → IsRuleRow t s (RCut a) ((s ++ a ∷ []) ∷ (s ++ neg a ∷ []) ∷ [])
  cut_row a e = (e, refl)

  pub keep_row : (places : List ℕ) (q : List Tree) → map Some q ≡ map (slice_get s) places → IsRuleRow t s (RKeep places) (q ∷ [])
  keep_row places q e = e

  pub refl_row : (a : Tree) → sort_of a ≡ Term → IsRuleRow t s (RRefl a) ((s ++ equal a a ∷ []) ∷ [])
  refl_row a e = (e, refl)

  pub replace_row : (i j : ℕ) (a b e ty : Tree) → slice_get s i ≡ Some (equal a b) → type_of a ≡ Some ty → IsTemplate t ty e → slice_get s j ≡ Some (inst e a) → IsRuleRow t s (RReplace i j e) ((s ++ inst e b ∷ []) ∷ [])
  replace_row i j a b e ty p q r f = rw p (rw q r, f, refl)

  pub letdef_row : (a b : Tree) → IsRuleRow t s (RLetDef (Two HLet a b)) ((s ++ alike (Two HLet a b) (inst b a) ∷ []) ∷ [])
  letdef_row a b = refl

  pub ifdef_row : (c a b : Tree) → IsRuleRow t s (RIfDef (Three HIf c a b)) ((s ++ by_cases c (Three HIf c a b) a b ∷ []) ∷ [])
  ifdef_row c a b = refl

  pub matchdef_row : (v p a rest : Tree)
      → let e : Tree = Two HCase v (Two HCell (Two HArm p a) rest) in IsRuleRow t s (RMatchDef e) ((s ++ unfolded (test t p v) (bind t p v) e v a rest ∷ []) ∷ [])
  matchdef_row v p a rest = refl

  -- constructors on arguments, told by the symbols in an equation
  pub distinct_row : (i c d : ℕ) (xs as' x ys bs y : Tree) → slice_get s i ≡ Some (equal (Three (HFun c) xs as' x) (Three (HFun d) ys bs y))
      → IsTrue (is_constructor (role t c)) → IsTrue (is_constructor (role t d)) → c ≢ d → IsRuleRow t s (RDistinct i) []
  distinct_row i c d xs as' x ys bs y e f g n = rw e (f, g, n, refl)

  pub inject_row : (i c : ℕ) (xs as' x ys bs y : Tree) → slice_get s i ≡ Some (equal (Three (HFun c) xs as' x) (Three (HFun c) ys bs y))
      → IsTrue (is_constructor (role t c)) → IsRuleRow t s (RInject i) ((s ++ equal_each (members as') (members bs)) ∷ [])
  inject_row i c xs as' x ys bs y e f = rw e (f, f, refl, refl)

  pub project_row : (p j : ℕ) (con : ConstructorTree) (xs rest x ys bs y a : Tree) → role t p ≡ ProjectionRole con j → slice_get (members bs) j ≡ Some a
      → let e : Tree = Three (HFun p) xs (Two HCell (Three (HFun con.symbol) ys bs y) rest) x in IsRuleRow t s (RProject e) ((s ++ equal e a ∷ []) ∷ [])
  project_row p j con xs rest x ys bs y a e f = rw e (refl, rw f refl)

  pub case_row : (u types : Tree) (k : ℕ) (cs : List ConstructorTree) → type_of u ≡ Some (One (HTyApp k) types) → role t k ≡ AlgebraicRole cs
      → IsRuleRow t s (RCase u) (map (λ x. s ++ x) (map (λ (c : ConstructorTree). equal u (rebuilt t c.symbol c.projections types u) ∷ []) cs))
  case_row u types k cs e f = rw e (rw f refl)

  -- integers, where the task declares their eight symbols
  module _ (z : Ints) (has : t.ints ≡ Some z) (all : DeclaresInts t z) where
    pub linear_row : (uses : List (ℕ × ℤ)) → ClosesLinear z s uses → IsRuleRow t s (RLinear uses) []
    linear_row uses h = rw has (all, h, refl)

    pub trichotomy_row : (a b : Tree) → type_of a ≡ Some int_type → type_of b ≡ Some int_type
        → IsRuleRow t s (RTrichotomy a b) ((s ++ comparison z.lt a b ∷ []) ∷ (s ++ equal a b ∷ []) ∷ (s ++ comparison z.lt b a ∷ []) ∷ [])
    trichotomy_row a b e f = (e, f, rw has (all, refl))

    pub bound_row : (e : Tree) (n : ℤ) → type_of e ≡ Some int_type → n <ℤ pos (2 ^ 127 - 1)
        → IsRuleRow t s (RBound e n) ((s ++ comparison z.le e (Leaf (HNum n)) ∷ []) ∷ (s ++ comparison z.le (Leaf (HNum (n +ℤ pos 1))) e ∷ []) ∷ [])
    bound_row e n f l = (f, l, rw has (all, refl))

  -- a fact at types: four rules
  abbrev AddsAt : List Tree → List (List Tree) → PropositionTree → Type 0
  AddsAt types ps p = (length types ≡ p.vars) × Adds s ps ((inst_types p.formula types ∷ []) ∷ [])

  facts_some : (types : List Tree) (formula : Tree) (o : Option PropositionTree) → IsSomeAnd o (λ p. (length types ≡ p.vars) × (formula ≡ inst_types p.formula types)) → IsSomeAnd o (AddsAt types ((s ++ formula ∷ []) ∷ []))
  facts_some types formula None h = h
  facts_some types formula (Some p) h = (h.0, ap (λ (z : Tree). (s ++ z ∷ []) ∷ []) h.1)

  pub fact_row : (name : Fact) (types : List Tree) (formula : Tree) → IsSomeAnd (fact_named t name) (λ p. (length types ≡ p.vars) × (formula ≡ inst_types p.formula types))
      → IsRuleRow t s (citing name types) ((s ++ formula ∷ []) ∷ [])
  fact_row (fact.Proposition k) types formula h = facts_some types formula (slice_get (props t) k) h
  fact_row (fact.Equation k) types formula h =
      let o : Option Tree = equation (role t k) in
      some_mapped (at_symbol t k) o (AddsAt types ((s ++ formula ∷ []) ∷ [])) (facts_some types formula (option_map (at_symbol t k) o) h)
  fact_row (fact.Clause k c) types formula h =
      let o : Option Tree = option_and_then (λ cs. slice_get cs c) (clauses (role t k)) in
      some_mapped (at_symbol t k) o (AddsAt types ((s ++ formula ∷ []) ∷ [])) (facts_some types formula (option_map (at_symbol t k) o) h)
  fact_row (fact.Inversion k) types formula h =
      let o : Option (List Tree) = clauses (role t k) in
      let f : List Tree → PropositionTree = λ cs. at_symbol t k (inversion k (symbol_or t.symbols k) cs) in
      some_mapped f o (AddsAt types ((s ++ formula ∷ []) ∷ [])) (facts_some types formula (option_map f o) h)

-- what a step by such a rule cites
pub record Cited (t : TaskTree) (s : List Tree) (name : Fact) (types : List Tree) (ps : List (List Tree)) : Type 0 where
  pub formula : Tree
  pub said : IsSomeAnd (fact_named t name) (λ p. (length types ≡ p.vars) × (formula ≡ inst_types p.formula types))
  pub premise : ps ≡ (s ++ formula ∷ []) ∷ []

cited_some : (t : TaskTree) (s : List Tree) (name : Fact) (types : List Tree) (ps : List (List Tree)) (o : Option PropositionTree) → fact_named t name ≡ o
    → IsSomeAnd o (λ p. (length types ≡ p.vars) × Adds s ps ((inst_types p.formula types ∷ []) ∷ [])) → Cited t s name types ps
cited_some t s name types ps None e h = absurd h
cited_some t s name types ps (Some p) e h = record { formula = inst_types p.formula types; said = rw e (h.0, refl); premise = h.1 }

pub row_cited : (t : TaskTree) (s : List Tree) (name : Fact) (types : List Tree) (ps : List (List Tree)) → IsRuleRow t s (citing name types) ps → Cited t s name types ps
row_cited t s (fact.Proposition k) types ps h = cited_some t s (fact.Proposition k) types ps (slice_get (props t) k) refl h
row_cited t s (fact.Equation k) types ps h =
    let o : Option Tree = equation (role t k) in
    cited_some t s (fact.Equation k) types ps (option_map (at_symbol t k) o) refl (mapped_some (at_symbol t k) o (AddsAt t s types ps) h)
row_cited t s (fact.Clause k c) types ps h =
    let o : Option Tree = option_and_then (λ cs. slice_get cs c) (clauses (role t k)) in
    cited_some t s (fact.Clause k c) types ps (option_map (at_symbol t k) o) refl (mapped_some (at_symbol t k) o (AddsAt t s types ps) h)
row_cited t s (fact.Inversion k) types ps h =
    let o : Option (List Tree) = clauses (role t k) in
    let f : List Tree → PropositionTree = λ cs. at_symbol t k (inversion k (symbol_or t.symbols k) cs) in
    cited_some t s (fact.Inversion k) types ps (option_map f o) refl (mapped_some f o (AddsAt t s types ps) h)
