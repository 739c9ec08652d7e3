-- What right steps give: their trees are typed as far as they go, and so are the parts of these.
use Rattle.std.proofs.Common.{◌≡◌, ℕ, ◌≤◌, ◌<◌, zero, suc, List, [], ◌∷◌, ◌++◌, length, get_or, take, All, Option, Some, None, inl, inr, refl, sym, ap, subst, arith}
use Rattle.std.specs.Prelude.{IsSomeAnd, slice_get, flat_map}
use Rattle.std.proofs.lemmas.List.Elements.{All-cons, All-nil, All-append}
use Rattle.kernel.specs.trees.Tree.{Tree, Leaf, One, Two, Three, Head, HEnd, HPred, HFun, HPatCon, height}
use Rattle.kernel.specs.trees.Sorts.{sort_of, IsExpression}
use Rattle.kernel.specs.tasks.declared.signature.SymbolKind.TheVariants.{Predicate, Constructor}
use Rattle.kernel.specs.tasks.Task.{TaskTree, SymbolTree}
use Rattle.kernel.specs.tasks.Typing.{members, MakesTerms, IsUse, HasResult}
use Rattle.kernel.specs.tasks.Vocabulary.{Vocabulary, of_task}
use Rattle.kernel.specs.tasks.Open.{OpenTyped}
use Rattle.kernel.specs.tasks.Valid.{IsGround}
use Rattle.kernel.proofs.tasks.Closing.{typed_open}
use Rattle.kernel.specs.rules.Trees.{RuleTree, RReplace, StepTree, rule_trees, rule_types, step_or, sequents}
use Rattle.kernel.specs.trees.Binding.{inst}
use Rattle.kernel.specs.rules.Forms.{equation_sides}
use Rattle.kernel.specs.rules.Rows.{IsRuleRow, IsTemplate, Adds}
use Rattle.kernel.specs.trees.Sorts.{type_of}
use Rattle.kernel.specs.trees.Facts.{Each}
use Rattle.kernel.specs.Right.{IsGroundExpression, IsRight, AreRight}
use Rattle.kernel.specs.Open.{OpenIn}
use Rattle.step_reading.specs.Lines.{IsGoodTree}
use Rattle.step_writing.specs.tree_writing.Used.{IsUsed}
use Rattle.step_writing.specs.tree_writing.Parts.{IsSubtree, StandsIn}
use Rattle.step_writing.specs.Named.{rule_expressions, step_trees, IsSortedStep, AreSorted, IsLow, AreLow}
use Rattle.tasks.proofs.plain_laws.Lists.{All-left as front_all, All-right as back_all}
use Rattle.step_lines.proofs.rule_words.ReadBack.{first_of, rest_of}

-- a part is typed as far as it goes
pub part_open : (v : Vocabulary) (x e : Tree) → IsSubtree x e → OpenTyped v e → OpenTyped v x
part_open v x (Leaf h) p o = subst (OpenTyped v) (sym p) o
part_open v x (One h a) (inl q) o = subst (OpenTyped v) (sym q) o
part_open v x (One h a) (inr p) o = part_open v x a p o.2
part_open v x (Two h a b) (inl q) o = subst (OpenTyped v) (sym q) o
part_open v x (Two h a b) (inr (inl p)) o = part_open v x a p o.2
part_open v x (Two h a b) (inr (inr p)) o = part_open v x b p o.3
part_open v x (Three h a b c) (inl q) o = subst (OpenTyped v) (sym q) o
part_open v x (Three h a b c) (inr (inl p)) o = part_open v x a p o.2
part_open v x (Three h a b c) (inr (inr (inl p))) o = part_open v x b p o.3
part_open v x (Three h a b c) (inr (inr (inr p))) o = part_open v x c p o.4

-- and free of schematic type variables
pub part_ground : (x e : Tree) → IsSubtree x e → IsGround e → IsGround x
part_ground x (Leaf h) p g = subst IsGround (sym p) g
part_ground x (One h a) (inl q) g = subst IsGround (sym q) g
part_ground x (One h a) (inr p) g = part_ground x a p g
part_ground x (Two h a b) (inl q) g = subst IsGround (sym q) g
part_ground x (Two h a b) (inr (inl p)) g = part_ground x a p g.0
part_ground x (Two h a b) (inr (inr p)) g = part_ground x b p g.1
part_ground x (Three h a b c) (inl q) g = subst IsGround (sym q) g
part_ground x (Three h a b c) (inr (inl p)) g = part_ground x a p g.0
part_ground x (Three h a b c) (inr (inr (inl p))) g = part_ground x b p g.1
part_ground x (Three h a b c) (inr (inr (inr p))) g = part_ground x c p g.2

-- and no taller
part_low : (x e : Tree) → IsSubtree x e → height x ≤ height e
part_low x (Leaf h) p = omega (arith, ap height p)
part_low x (One h a) (inl q) = omega (arith, ap height q)
part_low x (One h a) (inr p) = let k = part_low x a p in omega (arith, k)
part_low x (Two h a b) (inl q) = omega (arith, ap height q)
part_low x (Two h a b) (inr (inl p)) = let k = part_low x a p in omega (arith, k)
part_low x (Two h a b) (inr (inr p)) = let k = part_low x b p in omega (arith, k)
part_low x (Three h a b c) (inl q) = omega (arith, ap height q)
part_low x (Three h a b c) (inr (inl p)) = let k = part_low x a p in omega (arith, k)
part_low x (Three h a b c) (inr (inr (inl p))) = let k = part_low x b p in omega (arith, k)
part_low x (Three h a b c) (inr (inr (inr p))) = let k = part_low x c p in omega (arith, k)

-- what an entry has, where it has more
entry_more : {A : Type 0} (P Q : A → Type 0) (o : Option A) → ((x : A) → P x → Q x) → IsSomeAnd o P → IsSomeAnd o Q
entry_more P Q None f h = h
entry_more P Q (Some x) f h = f x h

two_used_open : (t : TaskTree) (h : Head) (a b : Tree) → OpenIn t (Two h a b) → IsUsed t (Two h a b)
two_used_open t (HPred k) a b o = entry_more (λ (e : SymbolTree). (e.kind ≡ Predicate) × IsUse e a b) (λ (e : SymbolTree). (e.kind ≡ Predicate) × (length (members a) ≡ e.vars)) (slice_get t.symbols k) (λ e p. (p.0, p.1.as_many)) o.1.0.1
two_used_open t _ a b o = tt

three_used_open : (t : TaskTree) (h : Head) (a b c : Tree) → OpenIn t (Three h a b c) → IsUsed t (Three h a b c)
three_used_open t (HFun k) a b c o = entry_more (λ (e : SymbolTree). MakesTerms e.kind × IsUse e a b × HasResult e a c) (λ (e : SymbolTree). MakesTerms e.kind × (length (members a) ≡ e.vars) × HasResult e a c) (slice_get t.symbols k) (λ e p. (p.0, p.1.as_many, p.2)) o.1.1
three_used_open t (HPatCon k) a b c o = entry_more (λ (e : SymbolTree). (e.kind ≡ Constructor) × IsUse e a b × HasResult e a c) (λ (e : SymbolTree). (length (members a) ≡ e.vars) × HasResult e a c) (slice_get t.symbols k) (λ e p. (p.1.as_many, p.2)) o.1.1
three_used_open t _ a b c o = tt

used_open : (t : TaskTree) (e : Tree) → OpenIn t e → IsUsed t e
used_open t (Leaf h) o = tt
used_open t (One h a) o = tt
used_open t (Two h a b) o = two_used_open t h a b o
used_open t (Three h a b c) o = three_used_open t h a b c o

pub same_default : (xs : List StepTree) (k : ℕ) (d : StepTree) → k < length xs → step_or xs k ≡ get_or xs k d
same_default [] k d l = absurd (omega arith)
same_default (x ∷ xs) zero d l = refl
same_default (x ∷ xs) (suc k) d l = same_default xs k d (omega arith)

module _ (t : TaskTree) where
  each_all : (P Q : Tree → Type 0) (es : List Tree) → ((e : Tree) → P e → Q e) → Each P es → All Q es
  each_all P Q [] f h = All-nil Q
  each_all P Q (e ∷ es) f h = All-cons Q e es (f e h.0) (each_all P Q es f h.1)

  abbrev IsOpenExpression : Tree → Type 0
  IsOpenExpression e = IsExpression (sort_of e) × OpenIn t e × IsGround e

  ground_open : (e : Tree) → IsGroundExpression t e → IsOpenExpression e
  ground_open e g = (g.sort, typed_open (of_task t) [] e g.typed, g.ground)

  template_open : (ty e : Tree) → IsTemplate t ty e → IsOpenExpression e
  template_open ty e h = (inr h.sort, typed_open (of_task t) (ty ∷ []) e h.typed, h.ground)

  some_template : (o : Option (Tree × Tree)) (e : Tree) (Q R : Tree × Tree → Type 0) → IsSomeAnd o (λ p. IsSomeAnd (type_of p.0) (λ ty. IsTemplate t ty e) × Q p × R p) → IsOpenExpression e
  some_template None e Q R h = absurd h
  some_template (Some p) e Q R h = at (type_of p.0) h.0 where
    at : (o : Option Tree) → IsSomeAnd o (λ ty. IsTemplate t ty e) → IsOpenExpression e
    at None k = absurd k
    at (Some ty) k = template_open ty e k

  rule_open : (q : List Tree) (r : RuleTree) (ps : List (List Tree)) → Each (IsGroundExpression t) (rule_trees r) → IsRuleRow t q r ps → All IsOpenExpression (rule_expressions r)
  rule_open q (RReplace i j e) ps h w = All-cons IsOpenExpression e [] (some_template (equation_sides (slice_get q i)) e (λ p. slice_get q j ≡ Some (inst e p.0)) (λ p. Adds q ps ((inst e p.1 ∷ []) ∷ [])) w) (All-nil IsOpenExpression)
  rule_open q r ps h w = each_all (IsGroundExpression t) IsOpenExpression (rule_trees r) ground_open h

  pub step_sorted : (before : List StepTree) (st : StepTree) → IsRight t before st → IsSortedStep st
  step_sorted before st h = record {
    sequent = λ k d l. inr (h.formulas k d l).sort;
    expressions = λ k d l. (rule_open st.sequent st.rule (sequents before st.premises) h.trees h.row k d l).0;
    types = λ k d l. (h.types k d l).sort;
  }

  pub steps_sorted : (steps : List StepTree) → AreRight t steps → AreSorted steps
  steps_sorted steps h k d l = subst IsSortedStep (same_default steps k d l) (step_sorted (take k steps) (step_or steps k) (h k l))

  pub step_open : (before : List StepTree) (st : StepTree) → IsRight t before st → All (OpenIn t) (step_trees st)
  step_open before st h =
      All-append (OpenIn t) st.sequent (rule_expressions st.rule ++ rule_types st.rule) (λ k d l. typed_open (of_task t) [] (get_or st.sequent k d) (h.formulas k d l).typed)
      (All-append (OpenIn t) (rule_expressions st.rule) (rule_types st.rule) (λ k d l. (rule_open st.sequent st.rule (sequents before st.premises) h.trees h.row k d l).1) (λ k d l. typed_open (of_task t) [] (get_or (rule_types st.rule) k d) (h.types k d l).typed))

  pub step_ground : (before : List StepTree) (st : StepTree) → IsRight t before st → All IsGround (step_trees st)
  step_ground before st h =
      All-append IsGround st.sequent (rule_expressions st.rule ++ rule_types st.rule) (λ k d l. (h.formulas k d l).ground)
      (All-append IsGround (rule_expressions st.rule) (rule_types st.rule) (λ k d l. (rule_open st.sequent st.rule (sequents before st.premises) h.trees h.row k d l).2) (λ k d l. (h.types k d l).variables))

  pub steps_open : (steps : List StepTree) → AreRight t steps → All (λ (st : StepTree). All (OpenIn t) (step_trees st)) steps
  steps_open steps h k d l = subst (λ (st : StepTree). All (OpenIn t) (step_trees st)) (same_default steps k d l) (step_open (take k steps) (step_or steps k) (h k l))

pub flat_all : {X Y : Type 0} (P : Y → Type 0) (f : X → List Y) (xs : List X) → All (λ x. All P (f x)) xs → All P (flat_map f xs)
flat_all P f [] a = All-nil P
flat_all P f (x ∷ xs) a = All-append P (f x) (flat_map f xs) (first_of (λ x. All P (f x)) x xs a) (flat_all P f xs (rest_of (λ x. All P (f x)) x xs a))

pub all_flat : {X Y : Type 0} (P : Y → Type 0) (f : X → List Y) (xs : List X) → All P (flat_map f xs) → All (λ x. All P (f x)) xs
all_flat P f [] a = All-nil (λ x. All P (f x))
all_flat P f (x ∷ xs) a = All-cons (λ x. All P (f x)) x xs (front_all P (f x) (flat_map f xs) a) (all_flat P f xs (back_all P (f x) (flat_map f xs) a))

-- what holds of each part of these holds of what is in them
pub all_stand : (Q : Tree → Type 0) (roots : List Tree) → All (λ (r : Tree). (x : Tree) → IsSubtree x r → Q x) roots → (e : Tree) → StandsIn roots e → Q e
all_stand Q roots a e p = a p.place (Leaf HEnd) p.within e p.part

pub all_used : (t : TaskTree) (steps : List StepTree) → AreRight t steps → (e : Tree) → StandsIn (flat_map step_trees steps) e → IsUsed t e
all_used t steps h e p =
    let a = flat_all (OpenIn t) step_trees steps (steps_open t steps h) in
    used_open t e (part_open (of_task t) e (get_or (flat_map step_trees steps) p.place (Leaf HEnd)) p.part (a p.place (Leaf HEnd) p.within))

pub all_good : (t : TaskTree) (tallest : Option ℕ) (steps : List StepTree) → AreRight t steps → AreLow tallest steps → (e : Tree) → StandsIn (flat_map step_trees steps) e → IsGoodTree t tallest e
all_good t tallest steps h low e p =
    let root = get_or (flat_map step_trees steps) p.place (Leaf HEnd) in
    let a = flat_all (OpenIn t) step_trees steps (steps_open t steps h) in
    let b = flat_all (IsLow tallest) step_trees steps low in
    record {
      typed = part_open (of_task t) e root p.part (a p.place (Leaf HEnd) p.within);
      low = λ n s. omega (arith, part_low e root p.part, b p.place (Leaf HEnd) p.within n s);
    }
