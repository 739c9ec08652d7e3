-- What the test of a pattern and the terms for its variables have of type variables and parameters: those of the pattern's types
-- and of the term.
use Rattle.std.proofs.Common.{◌≡◌, ℕ, suc, ◌≤◌, inl, inr, List, [], ◌∷◌, ◌++◌, All, Contains, Option, subst, refl, sym, ap, ◌∙◌, arith}
use Rattle.std.proofs.lemmas.List.Elements.{All-contains}
use Rattle.trees.specs.declared.Op.TheVariants.{And}
use Rattle.trees.specs.Tree.{Tree, Leaf, One, Two, Three, Head, HEnd, HCell, HTrue, HEq, HFun, HJoin, HPatVar, HPatAlias, HPatCon, above_params}
use Rattle.trees.specs.Binding.{inst_types, TyVar}
use Rattle.trees.specs.Facts.{Each}
use Rattle.trees.proofs.Types.{OnlyTypes, only_types, type_closed}
use Rattle.tasks.specs.Task.{TaskTree, symbol_or}
use Rattle.tasks.specs.Vocabulary.{of_task}
use Rattle.tasks.specs.Typing.{members, bound_types, TypedUnder}
use Rattle.tasks.specs.Equations.{cells}
use Rattle.tasks.specs.Conjunctions.{conjunction}
use Rattle.tasks.specs.MatchTests.{result_at, fields, rebuilt, constructor_projections, top, other_terms, tests, test, pattern_terms, bind}
use Rattle.tasks.specs.Valid.{VariablesBelow, ParametersOf, IsValid}
use Rattle.tasks.proofs.Closing.{typed_sorted}
use Rattle.images.specs.PatternTerms.{HasOfBoth}
use Rattle.images.proofs.Constructors.{IsMadeCon, con_projections, HasResultOver, con_results}
use Rattle.images.proofs.TypesAt.{member_type, member_variables, variables_here, types_above, types_parameters}
use Rattle.images.proofs.DataTerms.{result_is, result_typed}
use Rattle.images.proofs.PatternTyping.{con_pattern}

-- nodes keep it
pub record IsKept (P : Tree → Type 0) : Type 0 where
  pub ends : P (Leaf HEnd)
  pub truth : P (Leaf HTrue)
  pub cell : (a b : Tree) → P a → P b → P (Two HCell a b)
  pub equation : (a b : Tree) → P a → P b → P (Two HEq a b)
  pub both : (a b : Tree) → P a → P b → P (Two (HJoin And) a b)
  pub function : (f : ℕ) (a b c : Tree) → P a → P b → P c → P (Three (HFun f) a b c)

module _ (t : TaskTree) (P : Tree → Type 0) (K : IsKept P) where
  -- the types at a constructor's pattern, and the results of the constructor and its projections there
  abbrev HeadHas : Head → Tree → Type 0
  HeadHas (HPatCon k) a = P a × ((f : ℕ) → Contains (k ∷ constructor_projections t k) f → P (result_at (symbol_or t.symbols f).result a))
  HeadHas _ a = Unit {0}

  abbrev PatternHas : Tree → Type 0
  PatternHas (Leaf h) = Unit {0}
  PatternHas (One h p) = PatternHas p
  PatternHas (Two h p q) = PatternHas p × PatternHas q
  PatternHas (Three h a p c) = HeadHas h a × PatternHas p

  cells_kept : (ss : List Tree) → Each P ss → P (cells ss)
  cells_kept [] e = K.ends
  cells_kept (s ∷ ss) e = K.cell s (cells ss) e.0 (cells_kept ss e.1)

  fields_kept : (js : List ℕ) (a s : Tree) → P a → P s → ((f : ℕ) → Contains js f → P (result_at (symbol_or t.symbols f).result a)) → Each P (fields t js a s)
  fields_kept [] a s x y r = tt
  fields_kept (j ∷ js) a s x y r = (
    K.function j a (cells (s ∷ [])) (result_at (symbol_or t.symbols j).result a) x (K.cell s (Leaf HEnd) y K.ends) (r j (0, omega arith, refl)),
    fields_kept js a s x y (λ f c. r f (suc c.0, let l = c.1 in omega arith, c.2)),
  )

  pub rebuilt_kept : (k : ℕ) (js : List ℕ) (a s : Tree) → P a → P s → ((f : ℕ) → Contains (k ∷ js) f → P (result_at (symbol_or t.symbols f).result a)) → P (rebuilt t k js a s)
  rebuilt_kept k js a s x y r =
      K.function k a (cells (fields t js a s)) (result_at (symbol_or t.symbols k).result a) x (cells_kept (fields t js a s) (fields_kept js a s x y (λ f c. r f (suc c.0, let l = c.1 in omega arith, c.2)))) (r k (0, omega arith, refl))

  top_kept : (ss : List Tree) → Each P ss → P (top ss)
  top_kept [] e = K.ends
  top_kept (s ∷ ss) e = e.0

  others_kept : (ss : List Tree) → Each P ss → Each P (other_terms ss)
  others_kept [] e = tt
  others_kept (s ∷ ss) e = e.1

  joined : (xs ys : List Tree) → Each P xs → Each P ys → Each P (xs ++ ys)
  joined [] ys a b = b
  joined (x ∷ xs) ys a b = (a.0, joined xs ys a.1 b)

  pub walk_kept : (p : Tree) (ss : List Tree) → PatternHas p → Each P ss → Each P (tests t p ss) × Each P (pattern_terms t p ss)
  walk_kept (Leaf h) ss g e = (tt, tt)
  walk_kept (One HPatVar p) ss g e = (tt, (top_kept ss e, tt))
  walk_kept (One HPatAlias p) ss g e = let r = walk_kept p ss g e in (r.0, joined (pattern_terms t p ss) (top ss ∷ []) r.1 (top_kept ss e, tt))
  walk_kept (One _ p) ss g e = (tt, tt)
  walk_kept (Two HCell p q) ss g e =
      let r = walk_kept p (top ss ∷ []) g.0 (top_kept ss e, tt) in
      let s = walk_kept q (other_terms ss) g.1 (others_kept ss e) in
      (joined (tests t p (top ss ∷ [])) (tests t q (other_terms ss)) r.0 s.0, joined (pattern_terms t p (top ss ∷ [])) (pattern_terms t q (other_terms ss)) r.1 s.1)
  walk_kept (Two _ p q) ss g e = (tt, tt)
  walk_kept (Three (HPatCon k) a p c) ss g e =
      let js : List ℕ = constructor_projections t k in
      let y = top_kept ss e in
      let r = walk_kept p (fields t js a (top ss)) g.1 (fields_kept js a (top ss) g.0.0 y (λ f x. g.0.1 f (suc x.0, let l = x.1 in omega arith, x.2))) in
      ((K.equation (top ss) (rebuilt t k js a (top ss)) y (rebuilt_kept k js a (top ss) g.0.0 y g.0.1), r.0), r.1)
  walk_kept (Three _ a p c) ss g e = (tt, tt)

  pub conjunction_kept : (es : List Tree) → Each P es → P (conjunction es)
  conjunction_kept [] e = K.truth
  conjunction_kept (a ∷ []) e = e.0
  conjunction_kept (a ∷ b ∷ es) e = K.both a (conjunction (b ∷ es)) e.0 (conjunction_kept (b ∷ es) e.1)

-- ---- patterns that are typed in a valid task
kept_variables : (n : ℕ) → IsKept (VariablesBelow n)
kept_variables n = record { ends = tt; truth = tt; cell = λ a b x y. (x, y); equation = λ a b x y. (x, y); both = λ a b x y. (x, y); function = λ f a b c x y z. (x, y, z) }

kept_above : (m : ℕ) → IsKept (λ e. above_params e ≤ m)
kept_above m = record {
  ends = omega arith;
  truth = omega arith;
  cell = λ a b x y. omega (arith, x, y);
  equation = λ a b x y. omega (arith, x, y);
  both = λ a b x y. omega (arith, x, y);
  function = λ f a b c x y z. omega (arith, x, y, z);
}

kept_parameters : (ps : List Tree) → IsKept (ParametersOf ps)
kept_parameters ps = record { ends = tt; truth = tt; cell = λ a b x y. (x, y); equation = λ a b x y. (x, y); both = λ a b x y. (x, y); function = λ f a b c x y z. (x, y, z) }

module _ (t : TaskTree) (valid : IsValid t) (types : List Tree) where
  -- the types at a constructor's pattern, and the results there
  pub record HasTypesAt (k : ℕ) (a : Tree) : Type 0 where
    pub types_only : OnlyTypes a
    pub result : (f : ℕ) → Contains (k ∷ constructor_projections t k) f → OnlyTypes (result_at (symbol_or t.symbols f).result a)
    pub variables : (n : ℕ) → VariablesBelow n a → (f : ℕ) → Contains (k ∷ constructor_projections t k) f → VariablesBelow n (result_at (symbol_or t.symbols f).result a)

  con_types : (k : ℕ) (a p c : Tree) → TypedUnder (of_task t) types (Three (HPatCon k) a p c) → HasTypesAt k a
  con_types k a p c x =
      let g = con_pattern t valid types k a p c x in
      let m : IsMadeCon t k = g.con in
      let js : List ℕ = constructor_projections t k in
      let es : k ∷ js ≡ m.con.symbol ∷ m.con.projections = cc (sym m.symbol, con_projections t valid k m) in
      let rs : All (HasResultOver t m.known.vars) (k ∷ js) = subst (All (HasResultOver t m.known.vars)) (sym es) (con_results t m.known.type m.known.vars m.con m.known.is) in
      record {
        types_only = only_types a (typed_sorted (of_task t) types a x.2) (inr x.0.0);
        result = λ f i.
            let r = All-contains (HasResultOver t m.known.vars) (k ∷ js) f rs i in
            let q = result_typed t types a x.0.0 x.2 r.result r.type.sort r.type.typed in
            subst OnlyTypes (sym (is m.known.vars f r)) (only_types (inst_types r.result (members a)) (typed_sorted (of_task t) types (inst_types r.result (members a)) q.1) (inl q.0));
        variables = λ n b f i.
            let r = All-contains (HasResultOver t m.known.vars) (k ∷ js) f rs i in
            subst (VariablesBelow n) (sym (is m.known.vars f r))
            (variables_here (of_task t) (members a) (λ j. member_type (of_task t) types a x.0.0 x.2 j (TyVar j) (refl, (tt, tt))) n (λ j l. member_variables n a b j (TyVar j) l) r.result r.type.sort (typed_sorted (of_task t) [] r.result r.type.typed)
            (subst (λ (v : ℕ). VariablesBelow v r.result) (sym g.count) r.type.variables));
      }
    where
      is : (vars f : ℕ) (r : HasResultOver t vars f) → result_at (symbol_or t.symbols f).result a ≡ inst_types r.result (members a)
      is vars f r = ap (λ (o : Option Tree). result_at o a) r.is ∙ result_is r.result a (type_closed r.result (typed_sorted (of_task t) [] r.result r.type.typed) r.type.sort)

module _ (t : TaskTree) (valid : IsValid t) where
  -- what holds of types alone
  module _ (P : Tree → Type 0) (K : IsKept P) (only : (e : Tree) → OnlyTypes e → P e) where
    pattern_has : (types : List Tree) (p : Tree) → TypedUnder (of_task t) types p → PatternHas t P K p
    pattern_has types (Leaf h) x = tt
    pattern_has types (One h p) x = pattern_has types p x.2
    pattern_has types (Two h p q) x = (pattern_has types p x.2, pattern_has (bound_types h p ++ types) q x.3)
    pattern_has types (Three (HPatCon k) a p c) x =
        let g = con_types t valid types k a p c x in
        ((only a g.types_only, λ f i. only (result_at (symbol_or t.symbols f).result a) (g.result f i)), pattern_has types p x.3)
    pattern_has types (Three _ a p c) x = (tt, pattern_has types p x.3)

  pattern_variables : (n : ℕ) (types : List Tree) (p : Tree) → TypedUnder (of_task t) types p → VariablesBelow n p → PatternHas t (VariablesBelow n) (kept_variables n) p
  pattern_variables n types (Leaf h) x b = tt
  pattern_variables n types (One h p) x b = pattern_variables n types p x.2 b
  pattern_variables n types (Two h p q) x b = (pattern_variables n types p x.2 b.0, pattern_variables n (bound_types h p ++ types) q x.3 b.1)
  pattern_variables n types (Three (HPatCon k) a p c) x b = let g = con_types t valid types k a p c x in ((b.0, λ f i. g.variables n b.0 f i), pattern_variables n types p x.3 b.1)
  pattern_variables n types (Three _ a p c) x b = (tt, pattern_variables n types p x.3 b.1)

  module _ (types : List Tree) (p s : Tree) (x : TypedUnder (of_task t) types p) where
    made_variables : (n : ℕ) → VariablesBelow n p → VariablesBelow n s → Each (VariablesBelow n) (tests t p (s ∷ [])) × Each (VariablesBelow n) (bind t p s)
    made_variables n b c = walk_kept t (VariablesBelow n) (kept_variables n) p (s ∷ []) (pattern_variables n types p x b) (c, tt)

    made_above : (m : ℕ) → above_params s ≤ m → Each (λ e. above_params e ≤ m) (tests t p (s ∷ [])) × Each (λ e. above_params e ≤ m) (bind t p s)
    made_above m c = walk_kept t (λ e. above_params e ≤ m) (kept_above m) p (s ∷ []) (pattern_has (λ e. above_params e ≤ m) (kept_above m) (λ e o. omega (arith, types_above e o)) types p x) (c, tt)

    made_parameters : (ps : List Tree) → ParametersOf ps s → Each (ParametersOf ps) (tests t p (s ∷ [])) × Each (ParametersOf ps) (bind t p s)
    made_parameters ps c = walk_kept t (ParametersOf ps) (kept_parameters ps) p (s ∷ []) (pattern_has (ParametersOf ps) (kept_parameters ps) (λ e o. types_parameters ps e o) types p x) (c, tt)

    pub test_parts : HasOfBoth p s (test t p s)
    test_parts = record {
      variables = λ n b c. conjunction_kept t (VariablesBelow n) (kept_variables n) (tests t p (s ∷ [])) (made_variables n b c).0;
      above = λ m c. conjunction_kept t (λ e. above_params e ≤ m) (kept_above m) (tests t p (s ∷ [])) (made_above m c).0;
      parameters = λ ps c. conjunction_kept t (ParametersOf ps) (kept_parameters ps) (tests t p (s ∷ [])) (made_parameters ps c).0;
    }

    each_parts : (es : List Tree) → ((n : ℕ) → VariablesBelow n p → VariablesBelow n s → Each (VariablesBelow n) es) → ((m : ℕ) → above_params s ≤ m → Each (λ e. above_params e ≤ m) es)
        → ((ps : List Tree) → ParametersOf ps s → Each (ParametersOf ps) es) → Each (HasOfBoth p s) es
    each_parts [] v a q = tt
    each_parts (e ∷ es) v a q =
        (record { variables = λ n b c. (v n b c).0; above = λ m c. (a m c).0; parameters = λ ps c. (q ps c).0 }, each_parts es (λ n b c. (v n b c).1) (λ m c. (a m c).1) (λ ps c. (q ps c).1))

    pub tests_parts : Each (HasOfBoth p s) (tests t p (s ∷ []))
    tests_parts = each_parts (tests t p (s ∷ [])) (λ n b c. (made_variables n b c).0) (λ m c. (made_above m c).0) (λ ps c. (made_parameters ps c).0)

    pub bind_parts : Each (HasOfBoth p s) (bind t p s)
    bind_parts = each_parts (bind t p s) (λ n b c. (made_variables n b c).1) (λ m c. (made_above m c).1) (λ ps c. (made_parameters ps c).1)
