-- The equation of a branch of a valid definition at types: at closed terms for its variables it says of a use of the symbol what the
-- body there gives.
use Rattle.std.proofs.Common.{◌≡◌, ◌⊎◌, inl, inr, ℕ, zero, suc, ◌+◌, ◌-◌, ◌<◌, ◌≤◌, true, List, [], ◌∷◌, ◌++◌, map, length, take, drop, slice_get, All, Option, Some, None, IfSome, refl, sym, ap, subst, ◌∙◌, arith}
use Rattle.std.specs.List.{list_all}
use Rattle.tasks.proofs.plain_laws.Bools.{and_first, and_second}
use Rattle.tasks.specs.trees.declared.Op.TheVariants.{Iff}
use Rattle.tasks.specs.trees.Tree.{Tree, One, Two, Three, Head, HBound, HCase, HFun, HPred, HEq, HJoin, HPatVar, HPatAny, binders_over, loose, pat_vars}
use Rattle.tasks.specs.trees.Binding.{inst_types, inst_many, AreTypes, AreClosed}
use Rattle.tasks.specs.trees.Sorts.{WellSorted}
use Rattle.tasks.proofs.trees.Laws.{loose_inst_types}
use Rattle.tasks.proofs.trees.Types.{only_types, loose_types, type_closed}
use Rattle.tasks.specs.declared.signature.SymbolKind.{SymbolKind}
use Rattle.tasks.specs.declared.signature.SymbolKind.TheVariants.{Function, Predicate}
use Rattle.tasks.specs.Task.{SymbolTree, symbol_or, DefinitionTree}
use Rattle.tasks.specs.Vocabulary.{Vocabulary}
use Rattle.tasks.specs.Equations.{cells, type_variables, bound_variables, equated, for_all}
use Rattle.tasks.specs.Valid.{IsTypeIn, IsDefinition}
use Rattle.tasks.proofs.Closing.{typed_sorted}
use Rattle.tr_inline.specs.inlining.images.typing_laws.HasTyping.{HasTyping}
use Rattle.tr_inline.proofs.inlining.images.typing_laws.Sorted.{typed_has, has_closed}
use Rattle.tr_inline.specs.inlining.images.Instances.{for_all_at, AreTypesClosed}
use Rattle.tr_inline.proofs.inlining.images.OpenInstances.{for_all_opens}
use Rattle.checks.specs.decl_checks.Structure.{defining_body}
use Rattle.tr_inline.proofs.inlining.Bodies.{onto, under_typed, under_body}
use Rattle.tr_inline.proofs.inlining.Equations.{function_there, predicate_there}
use Rattle.tr_inline.specs.inlining.branch_equations.Branches.{ConstructorBranch, is_plain_field, field_type, below_quantifiers, quantifiers, parameters_before, parameters_after, branch_types, branch_sides, branch_equation, are_different}
use Rattle.tr_inline.specs.inlining.branch_equations.Laws.{BranchesAtTerms}
use Rattle.tr_recursion.specs.branch_instances.Instances.{IsSymbolUse, SaysChosen}
use Rattle.tr_recursion.specs.branch_instances.Chosen.{arms_of, has_plain_fields, branch_pattern, IsChosenOf}
use Rattle.tr_recursion.proofs.branch_instances.Arms.{variable_count, cells_vars}
use Rattle.tr_recursion.proofs.branch_instances.AtTypes.{branch_at, branch_types_at, equation_at_types}
use Rattle.tr_recursion.proofs.branch_instances.Opened.{IsUseSplit, closed_cells, sides_there}

-- ---- quantifiers
count_all : (types : List Tree) (h : Head) (a b : Tree) → (h ≡ HEq) ⊎ (h ≡ HJoin Iff) → quantifiers (for_all types (Two h a b)) ≡ length types
count_all [] h a b (inl e) = ap (λ (g : Head). quantifiers (Two g a b)) e
count_all [] h a b (inr e) = ap (λ (g : Head). quantifiers (Two g a b)) e
count_all (ty ∷ types) h a b k = ap suc (count_all types h a b k)

below_all : (types : List Tree) (h : Head) (a b : Tree) → (h ≡ HEq) ⊎ (h ≡ HJoin Iff) → below_quantifiers (for_all types (Two h a b)) ≡ Two h a b
below_all [] h a b (inl e) = subst (λ (g : Head). below_quantifiers (Two g a b) ≡ Two g a b) (sym e) refl
below_all [] h a b (inr e) = subst (λ (g : Head). below_quantifiers (Two g a b) ≡ Two g a b) (sym e) refl
below_all (ty ∷ types) h a b k = below_all types h a b k

sorted_under : (types : List Tree) (e : Tree) → WellSorted (for_all types e) → WellSorted e
sorted_under [] e w = w
sorted_under (ty ∷ types) e w = sorted_under types e w.2

length_onto : (xs ys : List Tree) → length (onto xs ys) ≡ length xs + length ys
length_onto [] ys = omega arith
length_onto (x ∷ xs) ys = omega (arith, length_onto xs (x ∷ ys))

binds_none : (h : Head) → (h ≡ HEq) ⊎ (h ≡ HJoin Iff) → (a : Tree) → binders_over h a ≡ 0
binds_none h (inl e) a = ap (λ (g : Head). binders_over g a) e
binds_none h (inr e) a = ap (λ (g : Head). binders_over g a) e

-- ---- branches of sorted arms
arm_at : (bs : List ConstructorBranch) (i : ℕ) (b : ConstructorBranch) (n : ℕ) → WellSorted (arms_of bs) → list_all has_plain_fields bs ≡ true → loose (arms_of bs) ≤ n → slice_get bs i ≡ Some b → WellSorted (branch_pattern b) × ((has_plain_fields b ≡ true) × (loose b.body ≤ n + variable_count b.fields))
arm_at [] i b n w k l e = absurd (cc)
arm_at (x ∷ xs) zero b n w k l e =
    let s : x ≡ b = cc in
    let p : has_plain_fields x ≡ true = and_first (has_plain_fields x) (list_all has_plain_fields xs) k in
    let v : pat_vars (branch_pattern x) ≡ variable_count x.fields = cells_vars x.fields p in
    subst (λ (z : ConstructorBranch). WellSorted (branch_pattern z) × ((has_plain_fields z ≡ true) × (loose z.body ≤ n + variable_count z.fields))) s (w.1.1, (p, omega (arith, l, v)))
arm_at (x ∷ xs) (suc i) b n w k l e = arm_at xs i b n w.2 (and_second (has_plain_fields x) (list_all has_plain_fields xs) k) (omega (arith, l)) e

types_of_fields : (ps : List Tree) → list_all is_plain_field ps ≡ true → WellSorted (cells ps) → AreTypesClosed (map field_type ps)
types_of_fields [] k w = tt
types_of_fields (p ∷ ps) k w = (one p (and_first (is_plain_field p) (list_all is_plain_field ps) k) w.1, types_of_fields ps (and_second (is_plain_field p) (list_all is_plain_field ps) k) w.2)
  where
    one : (p : Tree) → is_plain_field p ≡ true → WellSorted p → loose (field_type p) ≡ 0
    one (One HPatVar ty) k w = type_closed ty w.1 w.0
    one (One HPatAny ty) k w = type_closed ty w.1 w.0
    one _ k w = absurd (cc)

closed_append : (xs ys : List Tree) → AreTypesClosed xs → AreTypesClosed ys → AreTypesClosed (xs ++ ys)
closed_append [] ys a b = b
closed_append (x ∷ xs) ys a b = (a.0, closed_append xs ys a.1 b)

closed_take : (n : ℕ) (xs : List Tree) → AreTypesClosed xs → AreTypesClosed (take n xs)
closed_take zero xs a = tt
closed_take (suc n) [] a = tt
closed_take (suc n) (x ∷ xs) a = (a.0, closed_take n xs a.1)

closed_drop : (n : ℕ) (xs : List Tree) → AreTypesClosed xs → AreTypesClosed (drop n xs)
closed_drop zero xs a = a
closed_drop (suc n) [] a = tt
closed_drop (suc n) (x ∷ xs) a = closed_drop n xs a.1

closed_at_types : (ys : List Tree) → AreTypes ys → (xs : List Tree) → AreTypesClosed xs → AreTypesClosed (map (λ e. inst_types e ys) xs)
closed_at_types ys t [] a = tt
closed_at_types ys t (x ∷ xs) a = (omega (arith, loose_inst_types x ys 0 t (omega (arith, a.0))), closed_at_types ys t xs a.1)

closed_args : (v : Vocabulary) (n : ℕ) (args : List Tree) → All (IsTypeIn v n) args → AreTypesClosed args
closed_args v n [] a = tt
closed_args v n (x ∷ xs) a = let h = a 0 x (omega arith) in (type_closed x (typed_sorted v [] x h.typed) h.sort, closed_args v n xs (λ i e l. a (suc i) e (omega (arith, l))))

-- ---- the use on the left side
record HasUse (k : ℕ) (zs bs : Tree) (result : Option Tree) (body inner : Tree) : Type 0 where
  head : Head
  left : Tree
  is : inner ≡ Two head left body
  kind : (head ≡ HEq) ⊎ (head ≡ HJoin Iff)
  shape : ((ty : Tree) × ((result ≡ Some ty) × ((head ≡ HEq) × (left ≡ Three (HFun k) zs bs ty)))) ⊎ ((head ≡ HJoin Iff) × (left ≡ Two (HPred k) zs bs))

use_of : (k : ℕ) (zs bs : Tree) (kind : SymbolKind) (result : Option Tree) (body inner : Tree) → equated kind k zs bs result body ≡ Some inner → HasUse k zs bs result body inner
use_of k zs bs Function (Some ty) body inner q = record { head = HEq; left = Three (HFun k) zs bs ty; is = (let z : inner ≡ Two HEq (Three (HFun k) zs bs ty) body = cc in z); kind = inl refl; shape = inl (ty, (refl, (refl, refl))) }
use_of k zs bs Predicate None body inner q = record { head = HJoin Iff; left = Two (HPred k) zs bs; is = (let z : inner ≡ Two (HJoin Iff) (Two (HPred k) zs bs) body = cc in z); kind = inr refl; shape = inr (refl, refl) }
use_of k zs bs _ result body inner q = absurd (cc)

module _ (at_terms : BranchesAtTerms) (v : Vocabulary) (m : DefinitionTree) (a : IsDefinition v m) (i : ℕ) (bs : List ConstructorBranch) (type : Tree) (matched : defining_body m.equation ≡ Two HCase (One (HBound i) type) (arms_of bs)) (within : i < length (symbol_or v.symbols m.symbol).args)
    (plain : list_all has_plain_fields bs ≡ true) (different : are_different bs ≡ true) (place : ℕ) (b : ConstructorBranch) (there : slice_get bs place ≡ Some b) (ys : List Tree) (types : AreTypes ys) (closed_types : AreClosed ys) (many : length ys ≡ (symbol_or v.symbols m.symbol).vars) where
  abbrev entry : SymbolTree
  entry = symbol_or v.symbols m.symbol

  abbrev at : Tree → Tree
  at e = inst_types e ys

  used : HasUse m.symbol (cells (type_variables 0 entry.vars)) (cells (bound_variables entry.args)) entry.result a.form.body a.form.inner
  used = use_of m.symbol _ _ entry.kind entry.result a.form.body a.form.inner a.form.equated

  equation_is : m.equation ≡ for_all entry.args (Two used.head used.left a.form.body)
  equation_is = a.form.is ∙ ap (for_all entry.args) used.is

  body_of : (h : Head) (l r : Tree) → (h ≡ HEq) ⊎ (h ≡ HJoin Iff) → defining_body (Two h l r) ≡ r
  body_of h l r (inl e) = ap (λ (g : Head). defining_body (Two g l r)) e
  body_of h l r (inr e) = ap (λ (g : Head). defining_body (Two g l r)) e

  body_is : a.form.body ≡ Two HCase (One (HBound i) type) (arms_of bs)
  body_is = sym (ap defining_body equation_is ∙ under_body entry.args (Two used.head used.left a.form.body) ∙ body_of used.head used.left a.form.body used.kind) ∙ matched

  sorted : WellSorted (Two used.head used.left a.form.body)
  sorted = sorted_under entry.args (Two used.head used.left a.form.body) (subst WellSorted equation_is (typed_sorted v [] m.equation a.formula.typed))

  arms_sorted : WellSorted (arms_of bs)
  arms_sorted = (subst WellSorted body_is sorted.2).2

  inner_loose : loose (Two used.head used.left a.form.body) ≤ length entry.args
  inner_loose =
      let x = under_typed v entry.args [] (Two used.head used.left a.form.body) (subst (HasTyping v []) equation_is (typed_has v [] m.equation a.formula.typed)) in
      omega (arith, has_closed v (onto entry.args []) (Two used.head used.left a.form.body) x, length_onto entry.args [])

  left_loose : loose used.left ≤ length entry.args
  left_loose = omega (arith, inner_loose)

  body_loose : loose a.form.body ≤ length entry.args
  body_loose = omega (arith, inner_loose, binds_none used.head used.kind used.left)

  arms_loose : loose (arms_of bs) ≤ length entry.args
  arms_loose = let l : loose (Two HCase (One (HBound i) type) (arms_of bs)) ≤ length entry.args = subst (λ (z : Tree). loose z ≤ length entry.args) body_is body_loose in omega (arith, l)

  branch : WellSorted (branch_pattern b) × ((has_plain_fields b ≡ true) × (loose b.body ≤ length entry.args + variable_count b.fields))
  branch = arm_at bs place b (length entry.args) arms_sorted plain arms_loose there

  pattern_types_closed : loose b.types ≡ 0
  pattern_types_closed = loose_types b.types (only_types b.types branch.0.1 (inr branch.0.0.0))

  pattern_type_closed : loose b.type ≡ 0
  pattern_type_closed = type_closed b.type branch.0.3 branch.0.0.2

  abbrev F : Tree
  F = at (branch_equation entry.args m.equation i b)

  abbrev Q : List Tree
  Q = branch_types (map at entry.args) i (branch_at ys b)

  abbrev E : Tree
  E = branch_sides (map at entry.args) i (branch_at ys b) (Two used.head (at used.left) (at a.form.body))

  formula_is : F ≡ for_all Q E
  formula_is =
      equation_at_types ys entry.args i b branch.1.0 types used.head (binds_none used.head used.kind) used.left a.form.body m.equation
      (ap below_quantifiers equation_is ∙ below_all entry.args used.head used.left a.form.body used.kind)

  variables_closed : AreTypesClosed Q
  variables_closed =
      let args = closed_args v entry.vars entry.args a.signature.types.args in
      subst AreTypesClosed (branch_types_at ys entry.args i b branch.1.0)
      (closed_at_types ys types (branch_types entry.args i b)
      (closed_append (parameters_before entry.args i) (map field_type b.fields ++ parameters_after entry.args i) (closed_take (length entry.args - 1 - i) entry.args args)
      (closed_append (map field_type b.fields) (parameters_after entry.args i) (types_of_fields b.fields branch.1.0 branch.0.2) (closed_drop (length entry.args - i) entry.args args))))

  count : quantifiers F ≡ length Q
  count = ap quantifiers formula_is ∙ count_all Q used.head _ _ used.kind

  module _ (ws : List Tree) (closed : AreClosed ws) (as_many : length ws ≡ quantifiers F) where
    split : IsUseSplit (at (Two HCase (One (HBound i) type) (arms_of bs))) (length entry.args) used.head (at used.left) (inst_many (branch_sides (map at entry.args) i (branch_at ys b) (Two used.head (at used.left) (at (Two HCase (One (HBound i) type) (arms_of bs))))) ws)
    split =
        sides_there at_terms ys types entry.args i within bs plain different place b there branch.1.0 pattern_types_closed pattern_type_closed used.head (binds_none used.head used.kind) used.left left_loose branch.1.1 type ws
        (as_many ∙ count) closed

    there_is : for_all_at F ws ≡ Two used.head (inst_many (at used.left) split.terms) split.right
    there_is =
        ap (λ (z : Tree). for_all_at z ws) formula_is ∙ for_all_opens Q ws E variables_closed closed (as_many ∙ count)
        ∙ ap (λ (z : Tree). inst_many (branch_sides (map at entry.args) i (branch_at ys b) (Two used.head (at used.left) (at z))) ws) body_is ∙ split.is

    result_closed : (ty : Tree) → entry.result ≡ Some ty → loose (at ty) ≡ 0
    result_closed ty q =
        let h = subst (λ (o : Option Tree). IfSome o (IsTypeIn v entry.vars)) q a.signature.types.result in
        omega (arith, loose_inst_types ty ys 0 types (omega (arith, type_closed ty (typed_sorted v [] ty h.typed) h.sort)))

    left_use : IsSymbolUse m.symbol (inst_many (at used.left) split.terms) (cells ys) (cells split.terms)
    left_use = by used.shape
      where
        by : ((ty : Tree) × ((entry.result ≡ Some ty) × ((used.head ≡ HEq) × (used.left ≡ Three (HFun m.symbol) (cells (type_variables 0 entry.vars)) (cells (bound_variables entry.args)) ty)))) ⊎ ((used.head ≡ HJoin Iff) × (used.left ≡ Two (HPred m.symbol) (cells (type_variables 0 entry.vars)) (cells (bound_variables entry.args))))
            → IsSymbolUse m.symbol (inst_many (at used.left) split.terms) (cells ys) (cells split.terms)
        by (inl p) =
            let f = function_there ys split.terms entry.args entry.vars many split.as_many split.closed m.symbol a.form.body p.0 (closed_cells ys closed_types) (result_closed p.0 p.1.0) in
            let g : inst_many (at (Three (HFun m.symbol) (cells (type_variables 0 entry.vars)) (cells (bound_variables entry.args)) p.0)) split.terms ≡ Three (HFun m.symbol) (cells ys) (cells split.terms) (at p.0) = cc f in
            inl (at p.0, ap (λ (z : Tree). inst_many (at z) split.terms) p.1.1.1 ∙ g)
        by (inr p) =
            let f = predicate_there ys split.terms entry.args entry.vars many split.as_many split.closed m.symbol a.form.body (closed_cells ys closed_types) in
            let g : inst_many (at (Two (HPred m.symbol) (cells (type_variables 0 entry.vars)) (cells (bound_variables entry.args)))) split.terms ≡ Two (HPred m.symbol) (cells ys) (cells split.terms) = cc f in
            inr (ap (λ (z : Tree). inst_many (at z) split.terms) p.1 ∙ g)

    pub says_chosen : SaysChosen m.symbol (defining_body m.equation) ys (for_all_at F ws)
    says_chosen = record {
      head = used.head;
      left = inst_many (at used.left) split.terms;
      right = split.right;
      is = there_is;
      kind = used.kind;
      terms = split.terms;
      use' = left_use;
      chosen = subst (λ (z : Tree). IsChosenOf (inst_many (at z) split.terms) split.right) (sym matched) split.chosen;
    }
