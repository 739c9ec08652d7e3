-- Tests and bound terms of a pattern commute with closed terms put in for the open variables of the scrutinee.
use Rattle.std.proofs.Common.{◌≡◌, ℕ, zero, suc, ◌==◌, if◌then◌else◌, Bool, true, false, inr, List, [], ◌∷◌, ◌++◌, map, get_or, Option, Some, None, refl, ap, ◌∙◌, arith}
use Rattle.std.proofs.lemmas.List.{map-append}
use Rattle.std.proofs.lemmas.Bool.Decides.{nat_tests}
use Rattle.trees.specs.Tree.{Tree, Leaf, One, Two, Three, Head, HEnd, HCell, HJoin, HPatVar, HPatAlias, HPatCon, loose, pat_vars}
use Rattle.trees.specs.declared.Op.TheVariants.{And}
use Rattle.trees.specs.Binding.{inst_types, inst_many, AreTypes, TyVar}
use Rattle.trees.specs.Sorts.{Fits, WellSorted}
use Rattle.trees.proofs.Types.{OnlyTypes, only_types, loose_types}
use Rattle.trees.proofs.Laws.{loose_inst_types}
use Rattle.trees.proofs.Many.{inst_many_closed}
use Rattle.tasks.specs.Task.{TaskTree, symbol_or}
use Rattle.tasks.specs.Typing.{members}
use Rattle.tasks.specs.Equations.{cells}
use Rattle.tasks.specs.Conjunctions.{conjunction}
use Rattle.tasks.specs.MatchTests.{result_at, apply_list, field, fields, rebuilt, constructor_projections, top, other_terms, parts, one_tests, two_tests, three_tests, tests, test, one_binds, two_binds, three_binds, pattern_terms, bind}

-- the types of each constructor of a pattern are closed
abbrev HeadClosed : Head → Tree → Type 0
HeadClosed (HPatCon k) types = AreTypes (members types) × (loose types ≡ 0)
HeadClosed _ types = Unit {0}

abbrev ClosedTypes : Tree → Type 0
ClosedTypes (Leaf h) = Unit {0}
ClosedTypes (One h p) = ClosedTypes p
ClosedTypes (Two h p q) = ClosedTypes p × ClosedTypes q
ClosedTypes (Three h a p c) = HeadClosed h a × ClosedTypes p

-- ---- those of each well-sorted tree are
type_parts : (e : Tree) → OnlyTypes e → (loose e ≡ 0) × (pat_vars e ≡ 0)
type_parts (Leaf h) o = (refl, refl)
type_parts (One h a) o = (loose_types (One h a) o, rw o.0.1 refl)
type_parts (Two h a b) o = (loose_types (Two h a b) o, rw o.0 (omega (arith, (type_parts a o.1).1, (type_parts b o.2).1)))
type_parts (Three h a b c) o = absurd o

members_types : (e d : Tree) (j : ℕ) → OnlyTypes e → OnlyTypes d → OnlyTypes (get_or (members e) j d)
members_types (Leaf h) d j o x = x
members_types (One h a) d j o x = x
members_types (Two HCell a b) d zero o x = o.1
members_types (Two HCell a b) d (suc j) o x = members_types b d j o.2 x
members_types (Two _ a b) d j o x = x
members_types (Three h a b c) d j o x = x

head_closed : (h : Head) (a b c : Tree) → Fits (Three h a b c) → WellSorted a → HeadClosed h a
head_closed (HPatCon k) a b c f w =
    let o : OnlyTypes a = only_types a w (inr f.0) in
    let each : (j : ℕ) → (loose (get_or (members a) j (TyVar j)) ≡ 0) × (pat_vars (get_or (members a) j (TyVar j)) ≡ 0) = λ j. type_parts (get_or (members a) j (TyVar j)) (members_types a (TyVar j) j o tt) in
    (record { closed = λ j. (each j).0; no_vars = λ j. (each j).1 }, loose_types a o)
head_closed _ a b c f w = tt

closed_types : (e : Tree) → WellSorted e → ClosedTypes e
closed_types (Leaf h) w = tt
closed_types (One h a) w = closed_types a w.1
closed_types (Two h a b) w = (closed_types a w.1, closed_types b w.2)
closed_types (Three h a b c) w = (head_closed h a b c w.0 w.1, closed_types b w.2)

module _ (t : TaskTree) (env : List Tree) where
  abbrev at : Tree → Tree
  at e = inst_many e env

  abbrev each : List Tree → List Tree
  each ss = map (λ s. inst_many s env) ss

  result_closed : (o : Option Tree) (types : Tree) → AreTypes (members types) → loose (result_at o types) ≡ 0
  result_closed None types c = refl
  result_closed (Some r) types c = by (loose r == 0) refl
    where
      by : (b : Bool) → (loose r == 0) ≡ b → loose (if b then inst_types r (members types) else Leaf HEnd) ≡ 0
      by false q = refl
      by true q = let z : loose r ≡ 0 = grind (arith, nat_tests) in omega (arith, loose_inst_types r (members types) 0 c (omega arith))

  apply_at : (f : ℕ) (types args : Tree) → AreTypes (members types) → loose types ≡ 0 → at (apply_list t f types args) ≡ apply_list t f types (at args)
  apply_at f types args c l = cc (inst_many_closed env 0 types l, inst_many_closed env 0 (result_at (symbol_or t.symbols f).result types) (result_closed (symbol_or t.symbols f).result types c))

  cells_at : (ss : List Tree) → at (cells ss) ≡ cells (each ss)
  cells_at [] = refl
  cells_at (s ∷ ss) = ap (Two HCell (at s)) (cells_at ss)

  field_at : (j : ℕ) (types s : Tree) → AreTypes (members types) → loose types ≡ 0 → at (field t j types s) ≡ field t j types (at s)
  field_at j types s c l = apply_at j types (cells (s ∷ [])) c l

  fields_at : (js : List ℕ) (types s : Tree) → AreTypes (members types) → loose types ≡ 0 → each (fields t js types s) ≡ fields t js types (at s)
  fields_at [] types s c l = refl
  fields_at (j ∷ js) types s c l = cc (field_at j types s c l, fields_at js types s c l)

  rebuilt_at : (k : ℕ) (js : List ℕ) (types s : Tree) → AreTypes (members types) → loose types ≡ 0 → at (rebuilt t k js types s) ≡ rebuilt t k js types (at s)
  rebuilt_at k js types s c l =
      apply_at k types (cells (fields t js types s)) c l
      ∙ ap (apply_list t k types) (cells_at (fields t js types s) ∙ ap cells (fields_at js types s c l))

  top_at : (ss : List Tree) → at (top ss) ≡ top (each ss)
  top_at [] = refl
  top_at (s ∷ ss) = refl

  others_at : (ss : List Tree) → each (other_terms ss) ≡ other_terms (each ss)
  others_at [] = refl
  others_at (s ∷ ss) = refl

  parts_at : (h : Head) (types : Tree) (ss : List Tree) → HeadClosed h types → each (parts t h types ss) ≡ parts t h types (each ss)
  parts_at (HPatCon k) types ss c = fields_at (constructor_projections t k) types (top ss) c.0 c.1 ∙ ap (fields t (constructor_projections t k) types) (top_at ss)
  parts_at _ types ss c = refl

  -- ---- bound terms
  one_binds_at : (h : Head) (inner ss : List Tree) → each (one_binds h inner ss) ≡ one_binds h (each inner) (each ss)
  one_binds_at HPatVar inner ss = ap (λ (z : Tree). z ∷ []) (top_at ss)
  one_binds_at HPatAlias inner ss = map-append (λ s. inst_many s env) inner (top ss ∷ []) ∙ ap (λ (z : Tree). each inner ++ z ∷ []) (top_at ss)
  one_binds_at _ inner ss = refl

  two_binds_at : (h : Head) (first more : List Tree) → each (two_binds h first more) ≡ two_binds h (each first) (each more)
  two_binds_at HCell first more = map-append (λ s. inst_many s env) first more
  two_binds_at _ first more = refl

  three_binds_at : (h : Head) (inner : List Tree) → each (three_binds h inner) ≡ three_binds h (each inner)
  three_binds_at (HPatCon k) inner = refl
  three_binds_at _ inner = refl

  terms_at : (p : Tree) (ss : List Tree) → ClosedTypes p → each (pattern_terms t p ss) ≡ pattern_terms t p (each ss)
  terms_at (Leaf h) ss c = refl
  terms_at (One h p) ss c = one_binds_at h (pattern_terms t p ss) ss ∙ ap (λ (z : List Tree). one_binds h z (each ss)) (terms_at p ss c)
  terms_at (Two h p q) ss c =
      two_binds_at h (pattern_terms t p (top ss ∷ [])) (pattern_terms t q (other_terms ss))
      ∙ ap (λ (z : List Tree). two_binds h z (each (pattern_terms t q (other_terms ss)))) (terms_at p (top ss ∷ []) c.0 ∙ ap (λ (z : Tree). pattern_terms t p (z ∷ [])) (top_at ss))
      ∙ ap (λ (z : List Tree). two_binds h (pattern_terms t p (top (each ss) ∷ [])) z) (terms_at q (other_terms ss) c.1 ∙ ap (pattern_terms t q) (others_at ss))
  terms_at (Three h a p b) ss c =
      three_binds_at h (pattern_terms t p (parts t h a ss)) ∙ ap (three_binds h) (terms_at p (parts t h a ss) c.1 ∙ ap (pattern_terms t p) (parts_at h a ss c.0))

  -- the terms for the variables of a pattern
  pub bind_at : (p s : Tree) → WellSorted p → map (λ e. inst_many e env) (bind t p s) ≡ bind t p (inst_many s env)
  bind_at p s w = terms_at p (s ∷ []) (closed_types p w)

  -- ---- tests
  one_tests_at : (h : Head) (inner : List Tree) → each (one_tests h inner) ≡ one_tests h (each inner)
  one_tests_at HPatAlias inner = refl
  one_tests_at _ inner = refl

  two_tests_at : (h : Head) (first more : List Tree) → each (two_tests h first more) ≡ two_tests h (each first) (each more)
  two_tests_at HCell first more = map-append (λ s. inst_many s env) first more
  two_tests_at _ first more = refl

  three_tests_at : (h : Head) (types : Tree) (ss inner : List Tree) → HeadClosed h types → each (three_tests t h types ss inner) ≡ three_tests t h types (each ss) (each inner)
  three_tests_at (HPatCon k) types ss inner c =
      ap (λ (z : Tree). z ∷ each inner) (cc (top_at ss, rebuilt_at k (constructor_projections t k) types (top ss) c.0 c.1, ap (rebuilt t k (constructor_projections t k) types) (top_at ss)))
  three_tests_at _ types ss inner c = refl

  tests_at : (p : Tree) (ss : List Tree) → ClosedTypes p → each (tests t p ss) ≡ tests t p (each ss)
  tests_at (Leaf h) ss c = refl
  tests_at (One h p) ss c = one_tests_at h (tests t p ss) ∙ ap (one_tests h) (tests_at p ss c)
  tests_at (Two h p q) ss c =
      two_tests_at h (tests t p (top ss ∷ [])) (tests t q (other_terms ss))
      ∙ ap (λ (z : List Tree). two_tests h z (each (tests t q (other_terms ss)))) (tests_at p (top ss ∷ []) c.0 ∙ ap (λ (z : Tree). tests t p (z ∷ [])) (top_at ss))
      ∙ ap (λ (z : List Tree). two_tests h (tests t p (top (each ss) ∷ [])) z) (tests_at q (other_terms ss) c.1 ∙ ap (tests t q) (others_at ss))
  tests_at (Three h a p b) ss c =
      three_tests_at h a ss (tests t p (parts t h a ss)) c.0 ∙ ap (three_tests t h a (each ss)) (tests_at p (parts t h a ss) c.1 ∙ ap (tests t p) (parts_at h a ss c.0))

  conjunction_at : (es : List Tree) → at (conjunction es) ≡ conjunction (each es)
  conjunction_at [] = refl
  conjunction_at (a ∷ []) = refl
  conjunction_at (a ∷ b ∷ es) = ap (Two (HJoin And) (at a)) (conjunction_at (b ∷ es))

  -- the test of a pattern
  pub test_at : (p s : Tree) → WellSorted p → inst_many (test t p s) env ≡ test t p (inst_many s env)
  test_at p s w = conjunction_at (tests t p (s ∷ [])) ∙ ap conjunction (tests_at p (s ∷ []) (closed_types p w))
