-- Terms and formulas that are well typed under binders, each by its parts.
use Rattle.std.proofs.Common.{◌≡◌, ◌≢◌, ℕ, ◌<◌, ℤ, Bool, true, false, List, [], ◌∷◌, ◌++◌, map, option_map, length, slice_get, Option, Some, None, IsSomeAnd, IsTrue, inl, inr, refl, sym, ap, subst, ◌∙◌}
use Rattle.elab_groups.specs.trees.declared.Op.{Op}
use Rattle.elab_groups.specs.trees.declared.Sort.{Sort}
use Rattle.elab_groups.specs.trees.declared.Sort.TheVariants.{Kind, Term, Pattern}
use Rattle.elab_groups.specs.trees.declared.Sort.TheVariants as sorts
use Rattle.elab_groups.specs.trees.Tree.{Tree, Leaf, One, Two, Three, Head, HEnd, HCell, HBound, HNum, HFun, HPred, HEq, HTrue, HFalse, HNot, HJoin, HForall, HExists, HLet, HIf, HArm, HPatAny, HPatVar, HPatCon, HPatAlias, head_of}
use Rattle.elab_groups.specs.trees.Sorts.{Fits, sort_of, yield, top_sort, first_sort, IsList, IsListOf, IsExpression, int_type, type_of, yield_type, top_type}
use Rattle.elab_groups.specs.trees.Binding.{inst_types}
use Rattle.elab_groups.specs.tasks.declared.signature.SymbolKind.TheVariants.{Predicate, Constructor}
use Rattle.elab_groups.specs.tasks.Equations.{cells}
use Rattle.elab_groups.specs.tasks.Task.{SymbolTree}
use Rattle.elab_groups.specs.tasks.Vocabulary.{Vocabulary}
use Rattle.elab_groups.specs.tasks.Typing.{pattern_types, members, entry, MakesTerms, IsUse, HasResult, TwoTyped, option_list, bound_types}
use Rattle.elaboration_laws.specs.Typed.{due_sort}
use Rattle.elaboration_laws.proofs.Over.{IsOver, IsGood, AreOver, over_good, cells_over, members_cells}
use Rattle.checks.proofs.match_cover.Fields.{pattern_top as top_pattern}

abbrev pub IsWanted : Option Tree → Tree → Type 0
IsWanted t e = (sort_of e ≡ due_sort t) × (type_of e ≡ t)

pub due_expression : (t : Option Tree) (s : Sort) → s ≡ due_sort t → IsExpression s
due_expression None s q = inr q
due_expression (Some x) s q = inl q

-- what a term or a formula yields is its own
top_same : (h : Head) (s : Sort) (o t : Option Tree) → top_sort h s ≡ due_sort t → (top_sort h s ≡ s) × (top_type h o ≡ o)
top_same HCell s o None q = absurd (cc)
top_same HCell s o (Some t) q = absurd (cc)
top_same HEnd s o None q = absurd (cc)
top_same HEnd s o (Some t) q = absurd (cc)
top_same HArm s o None q = absurd (cc)
top_same HArm s o (Some t) q = absurd (cc)
top_same _ s o t q = (refl, refl)

pub yields : (t : Option Tree) (e : Tree) → IsWanted t e → (yield e ≡ due_sort t) × (yield_type e ≡ t)
yields t e w =
    let p = top_same (head_of e) (yield e) (yield_type e) t w.0 in
    (sym p.0 ∙ w.0, sym p.1 ∙ w.1)

abbrev pub if_all : Bool → Tree → Tree → Tree
if_all true t b = Two HForall t b
if_all false t b = Two HExists t b

pub pattern_yields : (e : Tree) → sort_of e ≡ Pattern → type_of e ≡ yield_type e
pattern_yields e q = top_pattern (head_of e) (yield e) (yield_type e) q

module _ (v : Vocabulary) where
  abbrev pub TypedAs : List Tree → Option Tree → Tree → Type 0
  TypedAs types t e = IsGood v types e × IsWanted t e

  -- a list of terms or patterns of these types
  abbrev pub ListTyped : Sort → List Tree → List Tree → Tree → Type 0
  ListTyped s types ts e = IsGood v types e × IsList s e × (map type_of (members e) ≡ map (λ (t : Tree). Some t) ts)

  module _ (types : List Tree) where
    pub good_two : (h : Head) (a b : Tree) → Fits (Two h a b) → TwoTyped v h a b → IsGood v types a → IsGood v (bound_types h a ++ types) b → IsGood v types (Two h a b)
    good_two h a b f t x y = ((f, t, x.0, y.0), (x.1, y.1))

    pub over_at : (t : Tree) → IsOver v true t → IsGood v types t × (sort_of t ≡ Kind)
    over_at t o = over_good v true types t o

    pub cells_at : (ts : List Tree) → AreOver v ts → IsGood v types (cells ts) × IsList Kind (cells ts)
    cells_at ts o = over_good v false types (cells ts) (cells_over v ts o)

    pub number_typed : (z : ℤ) → TypedAs types (Some int_type) (Leaf (HNum z))
    number_typed z = (((tt, tt), tt), (refl, refl))

    pub truth_typed : TypedAs types None (Leaf HTrue)
    truth_typed = (((tt, tt), tt), (refl, refl))

    pub falsity_typed : TypedAs types None (Leaf HFalse)
    falsity_typed = (((tt, tt), tt), (refl, refl))

    pub variable_typed : (i : ℕ) (t : Tree) → i < 18446744073709551615 → slice_get types i ≡ Some t → IsOver v true t → TypedAs types (Some t) (One (HBound i) t)
    variable_typed i t l q o = let x = over_at t o in ((((x.1, l), q, x.0.0), (tt, x.0.1)), (refl, refl))

    pub negation_typed : (a : Tree) → TypedAs types None a → TypedAs types None (One HNot a)
    negation_typed a x = (((x.1.0, tt, x.0.0), (tt, x.0.1)), (refl, refl))

    pub joined_typed : (o : Op) (a b : Tree) → TypedAs types None a → TypedAs types None b → TypedAs types None (Two (HJoin o) a b)
    joined_typed o a b x y = (good_two (HJoin o) a b ((x.1.0, y.1.0), tt) tt x.0 y.0, (refl, refl))

    pub equality_typed : (t a b : Tree) → TypedAs types (Some t) a → TypedAs types (Some t) b → TypedAs types None (Two HEq a b)
    equality_typed t a b x y = (good_two HEq a b ((x.1.0, y.1.0), tt) (x.1.1 ∙ sym y.1.1) x.0 y.0, (refl, refl))

    pub choice_typed : (t : Option Tree) (c a b : Tree) → TypedAs types None c → TypedAs types t a → TypedAs types t b → TypedAs types t (Three HIf c a b)
    choice_typed t c a b z x y =
        let q = yields t a x.1 in
        (((((z.1.0, due_expression t (sort_of a) x.1.0, y.1.0 ∙ sym x.1.0), x.1.1 ∙ sym y.1.1, z.0.0, x.0.0, y.0.0), (z.0.1, x.0.1, y.0.1))), (q.0, q.1))

    pub quantifier_typed : (all : Bool) (t b : Tree) → IsOver v true t → TypedAs (t ∷ types) None b → TypedAs types None (if_all all t b)
    quantifier_typed true t b o y = let x = over_at t o in (good_two HForall t b ((x.1, y.1.0), tt) tt x.0 y.0, (refl, refl))
    quantifier_typed false t b o y = let x = over_at t o in (good_two HExists t b ((x.1, y.1.0), tt) tt x.0 y.0, (refl, refl))

    pub let_typed : (t : Option Tree) (u a b : Tree) → TypedAs types (Some u) a → TypedAs (u ∷ types) t b → TypedAs types t (Two HLet a b)
    let_typed t u a b x y =
        let q = yields t b y.1 in
        let under : IsGood v (option_list (type_of a) ++ types) b = subst (λ (o : Option Tree). IsGood v (option_list o ++ types) b) (sym x.1.1) y.0 in
        (good_two HLet a b ((x.1.0, due_expression t (sort_of b) y.1.0), tt) tt x.0 under, (q.0, q.1))

    -- ---- lists
    pub end_typed : (s : Sort) → ListTyped s types [] (Leaf HEnd)
    end_typed s = (((tt, tt), tt), (refl, inl refl), refl)

    pub cell_typed : (s : Sort) (t : Tree) (ts : List Tree) (a b : Tree) → s ≢ sorts.List → IsGood v types a → sort_of a ≡ s → type_of a ≡ Some t → ListTyped s types ts b → ListTyped s types (t ∷ ts) (Two HCell a b)
    cell_typed s t ts a b n g k q y =
        let rest : IsListOf (sort_of a) (sort_of b) (first_sort b) = subst (λ (z : Sort). IsListOf z (sort_of b) (first_sort b)) (sym k) y.1 in
        (good_two HCell a b (((λ e. n (sym k ∙ e)), rest), tt) tt g y.0, (refl, inr (ap (λ (z : Sort). Some z) k)), cc (q, y.2))

    -- ---- uses of a symbol at types
    some_entry : (o : Option SymbolTree) (e : SymbolTree) (P : SymbolTree → Type 0) → o ≡ Some e → P e → IsSomeAnd o P
    some_entry o e P q x = subst (λ (z : Option SymbolTree). IsSomeAnd z P) (sym q) x

    somes : (ts : List Tree) (as' : List Tree) → map (λ (t : Tree). Some t) (map (λ a. inst_types a ts) as') ≡ map (λ a. Some (inst_types a ts)) as'
    somes ts [] = refl
    somes ts (a ∷ as') = cc (somes ts as')

    module _ (e : SymbolTree) (ts : List Tree) (args : Tree) (s : Sort) (count : length ts ≡ e.vars) (over : AreOver v ts) (given : ListTyped s types (map (λ a. inst_types a ts) e.args) args) where
      used : IsUse e (cells ts) args
      used = record {
        as_many = ap length (members_cells ts) ∙ count;
        fit = given.2 ∙ somes ts e.args ∙ sym (ap (λ (l : List Tree). map (λ a. Some (inst_types a l)) e.args) (members_cells ts));
      }

      gives : (r c : Tree) → e.result ≡ Some r → inst_types r ts ≡ c → HasResult e (cells ts) c
      gives r c p q = ap (λ (o : Option Tree). option_map (λ x. inst_types x (members (cells ts))) o) p ∙ ap (λ (l : List Tree). Some (inst_types r l)) (members_cells ts) ∙ ap (λ (t : Tree). Some t) q

    pub predicate_typed : (k : ℕ) (e : SymbolTree) (ts : List Tree) (args : Tree) → IsTrue (v.usable k) → entry v k ≡ Some e → e.kind ≡ Predicate → length ts ≡ e.vars → AreOver v ts
        → ListTyped Term types (map (λ a. inst_types a ts) e.args) args → TypedAs types None (Two (HPred k) (cells ts) args)
    predicate_typed k e ts args u q p c o g =
        let x = cells_at ts o in
        (good_two (HPred k) (cells ts) args ((x.1, g.1), tt) (u, some_entry (entry v k) e _ q (p, used e ts args Term c o g)) x.0 g.0, (refl, refl))

    pub function_typed : (k : ℕ) (e : SymbolTree) (ts : List Tree) (args r c : Tree) → IsTrue (v.usable k) → entry v k ≡ Some e → MakesTerms e.kind → length ts ≡ e.vars → AreOver v ts
        → ListTyped Term types (map (λ a. inst_types a ts) e.args) args → e.result ≡ Some r → inst_types r ts ≡ c → IsOver v true c → TypedAs types (Some c) (Three (HFun k) (cells ts) args c)
    function_typed k e ts args r c u q p n o g h i w =
        let x = cells_at ts o in
        let z = over_at c w in
        ((((x.1, g.1, z.1), (u, some_entry (entry v k) e _ q (p, used e ts args Term n o g, gives e ts args Term n o g r c h i)), x.0.0, g.0.0, z.0.0), (x.0.1, g.0.1, z.0.1)), (refl, refl))

    -- ---- patterns
    -- a pattern of a type, with its variables innermost first
    abbrev pub PatternTyped : Tree → List Tree → Tree → Type 0
    PatternTyped t vars e = IsGood v types e × (sort_of e ≡ Pattern) × (type_of e ≡ Some t) × (pattern_types e ≡ vars)

    pub wild_typed : (t : Tree) → IsOver v true t → PatternTyped t [] (One HPatAny t)
    wild_typed t o = let x = over_at t o in (((x.1, tt, x.0.0), (tt, x.0.1)), refl, refl, refl)

    pub bound_typed : (t : Tree) → IsOver v true t → PatternTyped t (t ∷ []) (One HPatVar t)
    bound_typed t o = let x = over_at t o in (((x.1, tt, x.0.0), (tt, x.0.1)), refl, refl, refl)

    pub alias_typed : (t : Tree) (vars : List Tree) (e : Tree) → PatternTyped t vars e → PatternTyped t (t ∷ vars) (One HPatAlias e)
    alias_typed t vars e x =
        let y = pattern_yields e x.1 in
        (((x.1, tt, x.0.0), (tt, x.0.1)), refl, sym y ∙ x.2, cc (x.2, x.3))

    -- parts of a constructor
    abbrev pub PartsTyped : List Tree → List Tree → Tree → Type 0
    PartsTyped ts vars e = ListTyped Pattern types ts e × (pattern_types e ≡ vars)

    pub no_parts : PartsTyped [] [] (Leaf HEnd)
    no_parts = (end_typed Pattern, refl)

    pub more_parts : (t : Tree) (ts xs ys : List Tree) (a b : Tree) → PatternTyped t xs a → PartsTyped ts ys b → PartsTyped (t ∷ ts) (ys ++ xs) (Two HCell a b)
    more_parts t ts xs ys a b x y = (cell_typed Pattern t ts a b (λ q. cc) x.0 x.1 x.2 y.0, cc (x.3, y.1))

    pub constructor_typed : (k : ℕ) (e : SymbolTree) (ts vars : List Tree) (args r c : Tree) → IsTrue (v.matched k) → entry v k ≡ Some e → e.kind ≡ Constructor → length ts ≡ e.vars → AreOver v ts
        → PartsTyped (map (λ a. inst_types a ts) e.args) vars args → e.result ≡ Some r → inst_types r ts ≡ c → IsOver v true c → PatternTyped c vars (Three (HPatCon k) (cells ts) args c)
    constructor_typed k e ts vars args r c u q p n o g h i w =
        let x = cells_at ts o in
        let z = over_at c w in
        ((((x.1, g.0.1, z.1), (u, some_entry (entry v k) e _ q (p, used e ts args Pattern n o g.0, gives e ts args Pattern n o g.0 r c h i)), x.0.0, g.0.0.0, z.0.0), (x.0.1, g.0.0.1, z.0.1)), refl, refl, g.1)
