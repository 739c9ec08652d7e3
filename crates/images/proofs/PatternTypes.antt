-- Tests and bound terms of a typed pattern commute with types put in for type variables, in a valid task.
use Rattle.std.proofs.Common.{◌≡◌, ℕ, suc, ◌⊎◌, inl, inr, List, [], ◌∷◌, map, length, All, Contains, Option, Some, None, subst, refl, sym, ap, ◌∙◌, arith}
use Rattle.std.proofs.lemmas.List.{map-append}
use Rattle.std.proofs.lemmas.List.Elements.{All-contains}
use Rattle.trees.specs.declared.Sort.{Sort}
use Rattle.trees.specs.declared.Sort.TheVariants.{Kind, Pattern}
use Rattle.trees.specs.declared.Op.TheVariants.{And}
use Rattle.trees.specs.Tree.{Tree, Leaf, One, Two, Three, Head, HTyVar, HCell, HEq, HFun, HJoin, HBound, HParam, HPatVar, HPatAlias, HPatCon, loose}
use Rattle.trees.specs.Binding.{inst_types}
use Rattle.trees.specs.Sorts.{sort_of, first_sort, IsListOf, IsList}
use Rattle.trees.proofs.Instances.{inst_two}
use Rattle.trees.proofs.Many.{inst_types_inst_types}
use Rattle.trees.proofs.Types.{type_closed, kind_first}
use Rattle.tasks.specs.Task.{TaskTree, symbol_or}
use Rattle.tasks.specs.Vocabulary.{Vocabulary, of_task}
use Rattle.tasks.specs.Typing.{members, TypedUnder}
use Rattle.tasks.specs.Equations.{cells}
use Rattle.tasks.specs.Conjunctions.{conjunction}
use Rattle.tasks.specs.MatchTests.{result_at, apply_list, fields, rebuilt, constructor_projections, con_equation, top, other_terms, tests, test, pattern_terms, bind}
use Rattle.tasks.specs.Valid.{VariablesBelow, IsValid}
use Rattle.tasks.proofs.Closing.{typed_sorted}
use Rattle.tasks.proofs.TypeInstances.{below}
use Rattle.images.proofs.Images.{ArePatterns}
use Rattle.images.proofs.Constructors.{IsMadeCon, con_projections, HasResultOver, con_results}
use Rattle.images.proofs.DataTerms.{result_is}
use Rattle.images.proofs.PatternTyping.{con_pattern}

module _ (tys : List Tree) where
  abbrev at : Tree → Tree
  at e = inst_types e tys

  abbrev each : List Tree → List Tree
  each es = map (λ e. inst_types e tys) es

  one_there : (h : Head) (a : Tree) → at (One h a) ≡ One h (at a)
  one_there (HBound i) a = refl
  one_there (HParam n) a = refl
  one_there _ a = refl

  -- the members of a list
  list_members : (v : Vocabulary) (types : List Tree) (a : Tree) → IsList Kind a → TypedUnder v types a → members (at a) ≡ each (members a)
  list_members v types (Leaf (HTyVar j)) l x = absurd (let q = l.0 in cc)
  list_members v types (Leaf _) l x = refl
  list_members v types (One h a) l x = ap members (one_there h a)
  list_members v types (Two HCell a b) l x =
      let q : sort_of a ≡ Kind = kind_first (sort_of a) l.1 in
      ap (λ (es : List Tree). at a ∷ es) (list_members v types b (subst (λ (s : Sort). IsListOf s (sort_of b) (first_sort b)) q x.0.0.1) x.3)
  list_members v types (Two _ a b) l x = refl
  list_members v types (Three h a b c) l x = refl

  cells_there : (ss : List Tree) → at (cells ss) ≡ cells (each ss)
  cells_there [] = refl
  cells_there (s ∷ ss) = inst_two tys HCell s (cells ss) ∙ ap (Two HCell (at s)) (cells_there ss)

  top_there : (ss : List Tree) → at (top ss) ≡ top (each ss)
  top_there [] = refl
  top_there (s ∷ ss) = refl

  others_there : (ss : List Tree) → each (other_terms ss) ≡ other_terms (each ss)
  others_there [] = refl
  others_there (s ∷ ss) = refl

  conjunction_there : (es : List Tree) → at (conjunction es) ≡ conjunction (each es)
  conjunction_there [] = refl
  conjunction_there (a ∷ []) = refl
  conjunction_there (a ∷ b ∷ es) = inst_two tys (HJoin And) a (conjunction (b ∷ es)) ∙ ap (Two (HJoin And) (at a)) (conjunction_there (b ∷ es))

  module _ (t : TaskTree) where
    -- the result of a symbol at these types is its result at the types there
    abbrev ResultThere : Tree → ℕ → Type 0
    ResultThere a f = at (result_at (symbol_or t.symbols f).result a) ≡ result_at (symbol_or t.symbols f).result (at a)

    apply_there : (f : ℕ) (a args : Tree) → ResultThere a f → at (apply_list t f a args) ≡ apply_list t f (at a) (at args)
    apply_there f a args r = ap (Three (HFun f) (at a) (at args)) r

    fields_there : (js : List ℕ) (a s : Tree) → ((f : ℕ) → Contains js f → ResultThere a f) → each (fields t js a s) ≡ fields t js (at a) (at s)
    fields_there [] a s r = refl
    fields_there (j ∷ js) a s r = cc (apply_there j a (cells (s ∷ [])) (r j (0, omega arith, refl)) ∙ ap (apply_list t j (at a)) (cells_there (s ∷ [])), fields_there js a s (λ f c. r f (suc c.0, let l = c.1 in omega arith, c.2)))

    rebuilt_there : (k : ℕ) (js : List ℕ) (a s : Tree) → ((f : ℕ) → Contains (k ∷ js) f → ResultThere a f) → at (rebuilt t k js a s) ≡ rebuilt t k js (at a) (at s)
    rebuilt_there k js a s r =
        apply_there k a (cells (fields t js a s)) (r k (0, omega arith, refl))
        ∙ ap (apply_list t k (at a)) (cells_there (fields t js a s) ∙ ap cells (fields_there js a s (λ f c. r f (suc c.0, let l = c.1 in omega arith, c.2))))

    -- in a valid task
    module _ (valid : IsValid t) where
      results_there : (types : List Tree) (k : ℕ) (a p c : Tree) → TypedUnder (of_task t) types (Three (HPatCon k) a p c) → (f : ℕ) → Contains (k ∷ constructor_projections t k) f → ResultThere a f
      results_there types k a p c x f i =
          let g = con_pattern t valid types k a p c x in
          let m : IsMadeCon t k = g.con in
          let js : List ℕ = constructor_projections t k in
          let es : k ∷ js ≡ m.con.symbol ∷ m.con.projections = cc (sym m.symbol, con_projections t valid k m) in
          let rs : All (HasResultOver t m.known.vars) (k ∷ js) = subst (All (HasResultOver t m.known.vars)) (sym es) (con_results t m.known.type m.known.vars m.con m.known.is) in
          let r : HasResultOver t m.known.vars f = All-contains (HasResultOver t m.known.vars) (k ∷ js) f rs i in
          let l : loose r.result ≡ 0 = type_closed r.result (typed_sorted (of_task t) [] r.result r.type.typed) r.type.sort in
          let here : (b : Tree) → result_at (symbol_or t.symbols f).result b ≡ inst_types r.result (members b) = λ b. ap (λ (o : Option Tree). result_at o b) r.is ∙ result_is r.result b l in
          ap (λ (e : Tree). inst_types e tys) (here a)
          ∙ inst_types_inst_types (members a) tys r.result (below (length (members a)) r.result (subst (λ (n : ℕ). VariablesBelow n r.result) (sym g.count) r.type.variables))
          ∙ ap (inst_types r.result) (sym (list_members (of_task t) types a x.0.0 x.2)) ∙ sym (here (at a))

      leaf_there : (h : Head) (rs : List Tree) → ArePatterns (Leaf h) → (tests t (at (Leaf h)) rs ≡ []) × (pattern_terms t (at (Leaf h)) rs ≡ [])
      leaf_there (HTyVar j) rs (inl k) = absurd (cc)
      leaf_there (HTyVar j) rs (inr l) = absurd (let k = l.0 in cc)
      leaf_there _ rs k = (refl, refl)

      list_of : (a b : Tree) → ArePatterns (Two HCell a b) → IsList Pattern (Two HCell a b)
      list_of a b (inl q) = absurd (cc)
      list_of a b (inr l) = l

      first_of : (s : Sort) → (Some s ≡ None) ⊎ (Some s ≡ Some Pattern) → s ≡ Pattern
      first_of s (inl q) = absurd (cc)
      first_of s (inr q) = cc

      -- both lists
      abbrev Both : Tree → List Tree → Type 0
      Both p ss = (each (tests t p ss) ≡ tests t (at p) (each ss)) × (each (pattern_terms t p ss) ≡ pattern_terms t (at p) (each ss))

      both_there : (types : List Tree) (p : Tree) (ss : List Tree) → TypedUnder (of_task t) types p → ArePatterns p → Both p ss
      both_there types (Leaf h) ss x k = let r = leaf_there h (each ss) k in (sym r.0, sym r.1)
      both_there types (One HPatVar p) ss x k = (refl, ap (λ (z : Tree). z ∷ []) (top_there ss))
      both_there types (One HPatAlias p) ss x k =
          let r = both_there types p ss x.2 (inl x.0) in
          (r.0, map-append (λ e. inst_types e tys) (pattern_terms t p ss) (top ss ∷ []) ∙ cc (r.1, top_there ss))
      both_there types (One h p) ss x k = (refl, refl)
      both_there types (Two HCell p q) ss x k =
          let l = list_of p q k in
          let n : sort_of p ≡ Pattern = first_of (sort_of p) l.1 in
          let m : IsList Pattern q = subst (λ (z : Sort). IsListOf z (sort_of q) (first_sort q)) n x.0.0.1 in
          let r = both_there types p (top ss ∷ []) x.2 (inl n) in
          let s = both_there types q (other_terms ss) x.3 (inr m) in
          let u : each (top ss ∷ []) ≡ top (each ss) ∷ [] = ap (λ (z : Tree). z ∷ []) (top_there ss) in
          let w : each (other_terms ss) ≡ other_terms (each ss) = others_there ss in (
            map-append (λ e. inst_types e tys) (tests t p (top ss ∷ [])) (tests t q (other_terms ss)) ∙ cc (r.0 ∙ ap (tests t (at p)) u, s.0 ∙ ap (tests t (at q)) w),
            map-append (λ e. inst_types e tys) (pattern_terms t p (top ss ∷ [])) (pattern_terms t q (other_terms ss)) ∙ cc (r.1 ∙ ap (pattern_terms t (at p)) u, s.1 ∙ ap (pattern_terms t (at q)) w),
          )
      both_there types (Two h p q) ss x k = (refl, refl)
      both_there types (Three (HPatCon k) a p c) ss x j =
          let js : List ℕ = constructor_projections t k in
          let rs = results_there types k a p c x in
          let s : Tree = top ss in
          let fs : each (fields t js a s) ≡ fields t js (at a) (top (each ss)) = fields_there js a s (λ f i. rs f (suc i.0, let l = i.1 in omega arith, i.2)) ∙ ap (fields t js (at a)) (top_there ss) in
          let r = both_there types p (fields t js a s) x.3 (inr x.0.1) in
          let q : at (con_equation t k a s) ≡ con_equation t k (at a) (top (each ss)) =
          inst_two tys HEq s (rebuilt t k js a s) ∙ ap (Two HEq (at s)) (rebuilt_there k js a s rs) ∙ ap (λ (z : Tree). Two HEq z (rebuilt t k js (at a) z)) (top_there ss) in
          (cc (q, r.0 ∙ ap (tests t (at p)) fs), r.1 ∙ ap (pattern_terms t (at p)) fs)
      both_there types (Three h a p c) ss x k = (refl, refl)

      pub test_there : (types : List Tree) (p s : Tree) → TypedUnder (of_task t) types p → sort_of p ≡ Pattern → inst_types (test t p s) tys ≡ test t (inst_types p tys) (inst_types s tys)
      test_there types p s x k = conjunction_there (tests t p (s ∷ [])) ∙ ap conjunction (both_there types p (s ∷ []) x (inl k)).0

      pub bind_there : (types : List Tree) (p s : Tree) → TypedUnder (of_task t) types p → sort_of p ≡ Pattern → map (λ e. inst_types e tys) (bind t p s) ≡ bind t (inst_types p tys) (inst_types s tys)
      bind_there types p s x k = (both_there types p (s ∷ []) x (inl k)).1
