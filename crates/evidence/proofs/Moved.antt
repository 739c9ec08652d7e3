-- The row of a rule that cites no fact is that of a task that has the same symbols, and makes what a group of the one makes as the same.
use Rattle.std.proofs.Common.{◌≡◌, ◌≢◌, ℕ, List, [], ◌∷◌, ◌++◌, map, Option, IsTrue, inl, inr, refl, sym, ap, subst, ◌∙◌}
use Rattle.std.specs.Prelude.{pos, ◌+ℤ◌, IsSomeAnd, slice_get, Contains}
use Rattle.std.proofs.lemmas.List.Elements.{Contains-append_left, Contains-append_right, Contains-append_cases}
use Rattle.trees.specs.declared.ints.Ints.{Ints}
use Rattle.trees.specs.Tree.{Tree, Leaf, One, Two, Three, Head, HEq, HFun, HNum, HCase, HCell, HArm, HPatCon}
use Rattle.trees.specs.Sorts.{type_of}
use Rattle.trees.specs.Facts.{Each}
use Rattle.tasks.specs.Task.{TaskTree, ConstructorTree, SymbolTree, made, declared, symbol_or}
use Rattle.tasks.specs.Roles.{RoleTree, AlgebraicRole, ProjectionRole, role, is_constructor}
use Rattle.tasks.specs.Vocabulary.{of_task}
use Rattle.tasks.specs.Typing.{ThreeTyped, TypedUnder, bound_types}
use Rattle.tasks.specs.Equations.{cells}
use Rattle.tasks.specs.Conjunctions.{conjunction}
use Rattle.tasks.specs.MatchTests.{result_at, field, fields, rebuilt, projections_by, constructor_projections, parts, top, other_terms, con_equation, one_tests, three_tests, tests, test, one_binds, three_binds, pattern_terms, bind}
use Rattle.tasks.proofs.Declared.{contains_step, contains_cases}
use Rattle.linear_leaf.specs.Linear.{ClosesLinear}
use Rattle.rules.specs.Trees.{RuleTree, rule_trees, RDistinct, RLinear, RReplace, RMatchDef, RFact, RDef, RClause, RInv, RCase, RInject, RProject, RTrichotomy, RBound}
use Rattle.rules.specs.Forms.{equation_sides, match_of, application_parts, type_applied, equal, comparison}
use Rattle.rules.specs.Rows.{IsRuleRow, Adds, Constructors, DeclaresFour, DeclaresInts, equal_each, unfolded, constructors, projected}
use Rattle.kernel.specs.Right.{IsGroundExpression}
use Rattle.evidence.specs.Facts.{CitesNone}
use Rattle.evidence.specs.Stages.{IsGrouped, KeepsDeclared}
use Rattle.evidence.proofs.Rules.{some_map}
use Rattle.evidence.proofs.Typed.{constructor_grouped, constructor_moved, template_moved}

module _ (t u : TaskTree) (kept : KeepsDeclared u t) where
  field_same : (j : ℕ) (types s : Tree) → field t j types s ≡ field u j types s
  field_same j types s = ap (λ (z : List SymbolTree). Three (HFun j) types (cells (s ∷ [])) (result_at (symbol_or z j).result types)) kept.symbols

  fields_same : (js : List ℕ) (types s : Tree) → fields t js types s ≡ fields u js types s
  fields_same [] types s = refl
  fields_same (j ∷ js) types s = cc (field_same j types s, fields_same js types s)

  rebuilt_same : (c : ℕ) (js : List ℕ) (types s : Tree) → rebuilt t c js types s ≡ rebuilt u c js types s
  rebuilt_same c js types s =
      ap (λ (fs : List Tree). Three (HFun c) types (cells fs) (result_at (symbol_or t.symbols c).result types)) (fields_same js types s)
      ∙ ap (λ (z : List SymbolTree). Three (HFun c) types (cells (fields u js types s)) (result_at (symbol_or z c).result types)) kept.symbols

  projections_same : (k : ℕ) → IsTrue (is_constructor (role t k)) → constructor_projections t k ≡ constructor_projections u k
  projections_same k c = ap projections_by (sym (kept.groups k (constructor_grouped (role t k) c)))

  -- of a pattern that is typed in the one task
  parts_same : (h : Head) (a b c : Tree) (ss : List Tree) → ThreeTyped (of_task t) h a b c → parts t h a ss ≡ parts u h a ss
  parts_same (HPatCon k) a b c ss y = ap (λ (js : List ℕ). fields t js a (top ss)) (projections_same k y.0) ∙ fields_same (constructor_projections u k) a (top ss)
  parts_same _ a b c ss y = refl

  equation_same : (k : ℕ) (types s : Tree) → IsTrue (is_constructor (role t k)) → con_equation t k types s ≡ con_equation u k types s
  equation_same k types s c = ap (λ (x : Tree). Two HEq s x) (ap (λ (js : List ℕ). rebuilt t k js types s) (projections_same k c) ∙ rebuilt_same k (constructor_projections u k) types s)

  three_same : (h : Head) (a b c : Tree) (ss inner : List Tree) → ThreeTyped (of_task t) h a b c → three_tests t h a ss inner ≡ three_tests u h a ss inner
  three_same (HPatCon k) a b c ss inner y = ap (λ (x : Tree). x ∷ inner) (equation_same k a (top ss) y.0)
  three_same _ a b c ss inner y = refl

  tests_same : (types : List Tree) (p : Tree) (ss : List Tree) → TypedUnder (of_task t) types p → tests t p ss ≡ tests u p ss
  tests_same types (Leaf h) ss y = refl
  tests_same types (One h p) ss y = ap (one_tests h) (tests_same types p ss y.2)
  tests_same types (Two h p q) ss y = cc (tests_same types p (top ss ∷ []) y.2, tests_same (bound_types h p ++ types) q (other_terms ss) y.3)
  tests_same types (Three h a p c) ss y =
      ap (three_tests t h a ss) (ap (tests t p) (parts_same h a p c ss y.1) ∙ tests_same types p (parts u h a ss) y.3) ∙ three_same h a p c ss (tests u p (parts u h a ss)) y.1

  binds_same : (types : List Tree) (p : Tree) (ss : List Tree) → TypedUnder (of_task t) types p → pattern_terms t p ss ≡ pattern_terms u p ss
  binds_same types (Leaf h) ss y = refl
  binds_same types (One h p) ss y = ap (λ (x : List Tree). one_binds h x ss) (binds_same types p ss y.2)
  binds_same types (Two h p q) ss y = cc (binds_same types p (top ss ∷ []) y.2, binds_same (bound_types h p ++ types) q (other_terms ss) y.3)
  binds_same types (Three h a p c) ss y = ap (three_binds h) (ap (pattern_terms t p) (parts_same h a p c ss y.1) ∙ binds_same types p (parts u h a ss) y.3)

  test_same : (types : List Tree) (p s : Tree) → TypedUnder (of_task t) types p → test t p s ≡ test u p s
  test_same types p s y = ap conjunction (tests_same types p (s ∷ []) y)

  role_same : (k : ℕ) → IsGrouped (role t k) → role u k ≡ role t k
  role_same k g = kept.groups k g

  -- a symbol that the one declares the other declares
  contains_moved : (k : ℕ) → Contains (declared t) k → Contains (declared u) k
  contains_moved k h = elim (contains_cases 0 k (t.rigid ++ made t.decls) h) [
    | inl e ↦ contains_step 0 k (u.rigid ++ made u.decls) (inl e)
    | inr i ↦ contains_step 0 k (u.rigid ++ made u.decls) (inr (elim (Contains-append_cases t.rigid (made t.decls) k i) [
      | inl j ↦ Contains-append_left u.rigid (made u.decls) k (subst (λ (ks : List ℕ). Contains ks k) kept.rigid j)
      | inr j ↦ Contains-append_right u.rigid (made u.decls) k ((kept.made k).0 j)
    ]))
  ]

  four_moved : (a b c d : ℕ) → DeclaresFour t a b c d → DeclaresFour u a b c d
  four_moved a b c d h = (contains_moved a h.0, contains_moved b h.1, contains_moved c h.2, contains_moved d h.3)

  ints_moved : (z : Ints) → DeclaresInts t z → DeclaresInts u z
  ints_moved z h = (four_moved z.neg z.add z.sub z.mul h.0, four_moved z.lt z.le z.gt z.ge h.1)

  constructors_moved : (R : ℕ → ℕ → Type 0) (a b : Tree) (P : List Tree → List Tree → Type 0) → Constructors t R a b P → Constructors u R a b P
  constructors_moved R a b P h =
      some_map (application_parts a) _ _ (λ p. some_map (application_parts b) _ _ (λ q x. (constructor_moved t u kept p.0 x.0, constructor_moved t u kept q.0 x.1, x.2, x.3))) h

  unfolded_moved : (q types : List Tree) (e s p a rest : Tree) (ps : List (List Tree)) → TypedUnder (of_task t) types p
      → Adds q ps ((unfolded (test t p s) (bind t p s) e s a rest ∷ []) ∷ []) → Adds q ps ((unfolded (test u p s) (bind u p s) e s a rest ∷ []) ∷ [])
  unfolded_moved q types e s p a rest ps y h =
      let one : unfolded (test t p s) (bind t p s) e s a rest ≡ unfolded (test u p s) (bind u p s) e s a rest =
      ap (λ (c : Tree). unfolded c (bind t p s) e s a rest) (test_same types p s y) ∙ ap (λ (ts : List Tree). unfolded (test u p s) ts e s a rest) (binds_same types p (s ∷ []) y) in
      h ∙ ap (λ (x : Tree). (q ++ x ∷ []) ∷ []) one

  -- a `match` that is typed in the one task, as it is told there and in the other
  match_moved : (q types : List Tree) (e : Tree) (ps : List (List Tree)) → TypedUnder (of_task t) types e
      → IsSomeAnd (match_of e) (λ p. Adds q ps ((unfolded (test t p.1 p.0) (bind t p.1 p.0) e p.0 p.2 p.3 ∷ []) ∷ []))
      → IsSomeAnd (match_of e) (λ p. Adds q ps ((unfolded (test u p.1 p.0) (bind u p.1 p.0) e p.0 p.2 p.3 ∷ []) ∷ []))
  match_moved q types (Two HCase s (Two HCell (Two HArm p a) rest)) ps y h = unfolded_moved q types (Two HCase s (Two HCell (Two HArm p a) rest)) s p a rest ps y.3.2.2 h
  match_moved q types _ ps y h = absurd h

  cases_same : (e types : Tree) (cs : List ConstructorTree) → map (λ (c : ConstructorTree). equal e (rebuilt t c.symbol c.projections types e) ∷ []) cs ≡ map (λ (c : ConstructorTree). equal e (rebuilt u c.symbol c.projections types e) ∷ []) cs
  cases_same e types [] = refl
  cases_same e types (c ∷ cs) = cc (rebuilt_same c.symbol c.projections types e, cases_same e types cs)

  integers_moved : (P : Ints → Type 0) → IsSomeAnd t.ints (λ z. DeclaresInts t z × P z) → IsSomeAnd u.ints (λ z. DeclaresInts u z × P z)
  integers_moved P h = subst (λ (o : Option Ints). IsSomeAnd o (λ z. DeclaresInts u z × P z)) kept.ints (some_map t.ints _ _ (λ z x. (ints_moved z x.0, x.1)) h)

  cases_moved : (q : List Tree) (e : Tree) (k : ℕ) (types : Tree) (ps : List (List Tree)) (r : RoleTree) → r ≡ role t k
      → IsSomeAnd (constructors r) (λ cs. Adds q ps (map (λ (c : ConstructorTree). equal e (rebuilt t c.symbol c.projections types e) ∷ []) cs))
      → IsSomeAnd (constructors (role u k)) (λ cs. Adds q ps (map (λ (c : ConstructorTree). equal e (rebuilt u c.symbol c.projections types e) ∷ []) cs))
  cases_moved q e k types ps (AlgebraicRole cs) is h =
      let same : role u k ≡ AlgebraicRole cs = role_same k (subst IsGrouped is tt) ∙ sym is in
      rw same (h ∙ ap (map (λ (x : List Tree). q ++ x)) (cases_same e types cs))
  cases_moved q e k types ps _ is h = absurd h

  projected_moved : (k : ℕ) (P : ℕ × ℕ → Type 0) (r : RoleTree) → r ≡ role t k → IsSomeAnd (projected r) P → IsSomeAnd (projected (role u k)) P
  projected_moved k P (ProjectionRole c j) is h = let same : role u k ≡ ProjectionRole c j = role_same k (subst IsGrouped is tt) ∙ sym is in rw same h
  projected_moved k P _ is h = absurd h

  -- of a step that cites no fact
  pub row_other : (s : List Tree) (r : RuleTree) (ps : List (List Tree)) → CitesNone r → Each (IsGroundExpression t) (rule_trees r) → IsRuleRow t s r ps → IsRuleRow u s r ps
  row_other s (RFact k types) ps n y h = absurd n
  row_other s (RDef k types) ps n y h = absurd n
  row_other s (RClause k c types) ps n y h = absurd n
  row_other s (RInv k types) ps n y h = absurd n
  row_other s (RDistinct i) ps n y h = some_map (equation_sides (slice_get s i)) _ _ (λ e x. constructors_moved (λ c d. c ≢ d) e.0 e.1 (λ as' bs. Adds s ps []) x) h
  row_other s (RLinear uses) ps n y h = subst (λ (o : Option Ints). IsSomeAnd o (λ z. DeclaresInts u z × ClosesLinear z s uses × Adds s ps [])) kept.ints (some_map t.ints _ _ (λ z x. (ints_moved z x.0, x.1, x.2)) h)
  row_other s (RReplace i j e) ps n y h = some_map (equation_sides (slice_get s i)) _ _ (λ p x. (some_map (type_of p.0) _ _ (λ ty z. template_moved t u kept ty e z) x.0, x.1, x.2)) h
  row_other s (RMatchDef e) ps n y h = match_moved s [] e ps y.0.typed h
  row_other s (RCase e) ps n y h = some_map (type_applied (type_of e)) _ _ (λ z x. cases_moved s e z.0 z.1 ps (role t z.0) refl x) h
  row_other s (RInject i) ps n y h = some_map (equation_sides (slice_get s i)) _ _ (λ e x. constructors_moved (λ c d. c ≡ d) e.0 e.1 (λ as' bs. Adds s ps (equal_each as' bs ∷ [])) x) h
  row_other s (RProject e) ps n y h = some_map (application_parts e) _ _ (λ p x. projected_moved p.0 _ (role t p.0) refl x) h
  row_other s (RTrichotomy a b) ps n y h = (h.0, h.1, integers_moved (λ z. Adds s ps ((comparison z.lt a b ∷ []) ∷ (equal a b ∷ []) ∷ (comparison z.lt b a ∷ []) ∷ [])) h.2)
  row_other s (RBound e m) ps n y h = (h.0, h.1, integers_moved (λ z. Adds s ps ((comparison z.le e (Leaf (HNum m)) ∷ []) ∷ (comparison z.le (Leaf (HNum (m +ℤ pos 1))) e ∷ []) ∷ [])) h.2)
  row_other s _ ps n y h = h
