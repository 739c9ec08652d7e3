-- The fact of a name is in the task's list.
use Rattle.std.proofs.Common.{◌≡◌, inl, inr, Bool, true, false, ◌==◌, if◌then◌else◌, ℕ, ◌+◌, suc, zero, List, [], ◌∷◌, ◌++◌, map, slice_get, Option, Some, None, IfSome, refl, sym, subst, ap, ◌∙◌, arith}
use Rattle.std.specs.List.{Contains, position_from}
use Rattle.std.specs.Option.{option_map, option_and_then}
use Rattle.std.proofs.lemmas.Bool.Decides.{nat_tests}
use Rattle.std.proofs.lemmas.List.Elements.{Contains-append_left, Contains-append_right}
use Rattle.trees.specs.Tree.{Tree}
use Rattle.tasks.specs.declared.facts.Fact.{Fact}
use Rattle.tasks.specs.declared.facts.Fact.TheVariants as fact
use Rattle.tasks.specs.Task.{SymbolTree, symbol_or, DefinitionTree, InductiveTree, ConstructorTree, AlgebraicTree, BodyTree, Defines, Induces, Constructs, Says, DeclarationTree, TaskTree, PropositionTree, props, props_of, said_by}
use Rattle.tasks.specs.Roles.{RoleTree, PlainRole, DefinedRole, InductiveRole, AlgebraicRole, ConstructorRole, ProjectionRole, or_role, maker, role, role_by, role_in, is_made_by, defined_as, inductive_as, projection_at, projected_as, constructed_as, algebraic_as}
use Rattle.tasks.specs.Facts.{FactTree, facts, facts_from, body_facts, equation_fact, inversion_fact, clause_facts, all_clause_facts, said_in}
use Rattle.tasks.specs.Inversion.{inversion}
use Rattle.rules.specs.Rows.{equation, clauses}
use Rattle.evidence.specs.Facts.{at_symbol, fact_of, IsListed}
use Rattle.evidence.proofs.FactNames.{first_or_rest, first_contained, rest_contains, nothing_in}

-- ---- propositions
prop_step : (symbols : List SymbolTree) (n k : ℕ) (d : DeclarationTree) (b : BodyTree) (ds : List DeclarationTree) (p : PropositionTree) → slice_get (said_by d b ++ props_of ds) k ≡ Some p
    → ((j : ℕ) → slice_get (props_of ds) j ≡ Some p → Contains (facts_from symbols (n + said_in b) ds) (fact_of (fact.Proposition (n + said_in b + j)) p))
    → Contains (body_facts symbols n d.vars b ++ facts_from symbols (n + said_in b) ds) (fact_of (fact.Proposition (n + k)) p)
prop_step symbols n zero d (Says a) ds p e f =
    let q : record { vars = d.vars; formula = a } ≡ p = cc in
    let m : n ≡ n + 0 = omega arith in
    (0, omega arith, ap (fact_of (fact.Proposition n)) q ∙ ap (λ (i : ℕ). fact_of (fact.Proposition i) p) m)
prop_step symbols n (suc k) d (Says a) ds p e f =
    let m : n + 1 + k ≡ n + suc k = omega arith in
    rest_contains (fact_of (fact.Proposition (n + suc k)) p) (fact_of (fact.Proposition n) (record { vars = d.vars; formula = a })) (facts_from symbols (n + 1) ds)
    (subst (λ (i : ℕ). Contains (facts_from symbols (n + 1) ds) (fact_of (fact.Proposition i) p)) m (f k e))
prop_step symbols n k d b ds p e f =
    let m : n + 0 + k ≡ n + k = omega arith in
    Contains-append_right (body_facts symbols n d.vars b) (facts_from symbols (n + 0) ds) (fact_of (fact.Proposition (n + k)) p)
    (subst (λ (i : ℕ). Contains (facts_from symbols (n + 0) ds) (fact_of (fact.Proposition i) p)) m (f k e))

prop_listed : (symbols : List SymbolTree) (n k : ℕ) (ds : List DeclarationTree) (p : PropositionTree) → slice_get (props_of ds) k ≡ Some p → Contains (facts_from symbols n ds) (fact_of (fact.Proposition (n + k)) p)
prop_listed symbols n k [] p e = absurd (cc)
prop_listed symbols n k (d ∷ ds) p e = prop_step symbols n k d d.body ds p e (λ j. prop_listed symbols (n + said_in d.body) j ds p)

either : {A : Type 0} (P : A → Type 0) (b : Bool) (x y : A) → P x → P y → P (if b then x else y)
either P true x y p q = p
either P false x y p q = q

-- ---- what an algebraic declaration makes has no equation and no clauses
module _ {A : Type 0} (part : RoleTree → Option A) (plain : part PlainRole ≡ None) (algebraic : (cs : List ConstructorTree) → part (AlgebraicRole cs) ≡ None) (constructor : (c : ConstructorTree) → part (ConstructorRole c) ≡ None) (projection : (c : ConstructorTree) (n : ℕ) → part (ProjectionRole c n) ≡ None) where
  or_none : (q r : RoleTree) → part q ≡ None → part r ≡ None → part (or_role q r) ≡ None
  or_none PlainRole r a b = b
  or_none _ r a b = a

  projected_none : (c : ConstructorTree) (o : Option ℕ) → part (projection_at c o) ≡ None
  projected_none c None = plain
  projected_none c (Some n) = projection c n

  constructed_none : (k : ℕ) (cs : List ConstructorTree) → part (constructed_as k cs) ≡ None
  constructed_none k [] = plain
  constructed_none k (c ∷ cs) =
      either (λ (r : RoleTree). part r ≡ None) (c.symbol == k) (ConstructorRole c) (or_role (projected_as k c) (constructed_as k cs)) (constructor c)
      (or_none (projected_as k c) (constructed_as k cs) (projected_none c (position_from (λ j. j == k) 0 c.projections)) (constructed_none k cs))

  algebraic_none : (k : ℕ) (ts : List AlgebraicTree) → part (algebraic_as k ts) ≡ None
  algebraic_none k [] = plain
  algebraic_none k (a ∷ ts) =
      either (λ (r : RoleTree). part r ≡ None) (a.symbol == k) (AlgebraicRole a.cons) (or_role (constructed_as k a.cons) (algebraic_as k ts)) (algebraic a.cons)
      (or_none (constructed_as k a.cons) (algebraic_as k ts) (constructed_none k a.cons) (algebraic_none k ts))

-- ---- a symbol's fact is among those of the declaration that makes it
module _ {A : Type 0} (part : RoleTree → Option A) (plain : part PlainRole ≡ None) (v : A) (symbols : List SymbolTree) (k : ℕ) (x : FactTree) (inside : (n vars : ℕ) (b : BodyTree) → part (role_in k b) ≡ Some v → Contains (body_facts symbols n vars b) x) where
  symbol_listed : (n : ℕ) (ds : List DeclarationTree) → part (role_by k (maker ds k)) ≡ Some v → Contains (facts_from symbols n ds) x
  symbol_listed n [] h = absurd (let z : None ≡ Some v = sym plain ∙ h in cc)
  symbol_listed n (d ∷ ds) h = by (is_made_by k d.body) h (symbol_listed (n + said_in d.body) ds)
    where
      by : (b : Bool) → part (role_by k (if b then Some d else maker ds k)) ≡ Some v → (part (role_by k (maker ds k)) ≡ Some v → Contains (facts_from symbols (n + said_in d.body) ds) x)
          → Contains (body_facts symbols n d.vars d.body ++ facts_from symbols (n + said_in d.body) ds) x
      by true i f = Contains-append_left (body_facts symbols n d.vars d.body) (facts_from symbols (n + said_in d.body) ds) x (inside n d.vars d.body i)
      by false i f = Contains-append_right (body_facts symbols n d.vars d.body) (facts_from symbols (n + said_in d.body) ds) x (f i)

not_some : {A : Type 0} (o : Option A) (v : A) → o ≡ None → o ≡ Some v → ⊥
not_some o v e h = let z : None ≡ Some v = sym e ∙ h in cc

-- ---- equations
defined_listed : (symbols : List SymbolTree) (k : ℕ) (ds : List DefinitionTree) (e : Tree) → equation (defined_as k ds) ≡ Some e → Contains (map (equation_fact symbols) ds) (fact_of (fact.Equation k) (record { vars = (symbol_or symbols k).vars; formula = e }))
defined_listed symbols k [] e h = absurd (not_some None e refl h)
defined_listed symbols k (d ∷ ds) e h = by (d.symbol == k) refl h (defined_listed symbols k ds e)
  where
    found : FactTree
    found = fact_of (fact.Equation k) (record { vars = (symbol_or symbols k).vars; formula = e })

    by : (b : Bool) → (d.symbol == k) ≡ b → equation (if b then DefinedRole d.equation else defined_as k ds) ≡ Some e → (equation (defined_as k ds) ≡ Some e → Contains (map (equation_fact symbols) ds) found) → Contains (map (equation_fact symbols) (d ∷ ds)) found
    by true q i f =
        let z : d.equation ≡ e = cc in
        let j : d.symbol ≡ k = grind (arith, nat_tests) in (
          0,
          omega arith,
          ap (λ (y : Tree). fact_of (fact.Equation d.symbol) (record { vars = (symbol_or symbols d.symbol).vars; formula = y })) z
              ∙ ap (λ (m : ℕ). fact_of (fact.Equation m) (record { vars = (symbol_or symbols m).vars; formula = e })) j,
        )
    by false q i f = rest_contains found (equation_fact symbols d) (map (equation_fact symbols) ds) (f i)

inductive_no_equation : (k : ℕ) (is : List InductiveTree) → equation (inductive_as k is) ≡ None
inductive_no_equation k [] = refl
inductive_no_equation k (i ∷ is) =
    either (λ (r : RoleTree). equation r ≡ None) (i.symbol == k) (InductiveRole i.clauses) (inductive_as k is) refl (inductive_no_equation k is)

equation_inside : (symbols : List SymbolTree) (k : ℕ) (e : Tree) (n vars : ℕ) (b : BodyTree) → equation (role_in k b) ≡ Some e → Contains (body_facts symbols n vars b) (fact_of (fact.Equation k) (record { vars = (symbol_or symbols k).vars; formula = e }))
equation_inside symbols k e n vars (Defines ds) h = defined_listed symbols k ds e h
equation_inside symbols k e n vars (Induces is) h = absurd (not_some _ e (inductive_no_equation k is) h)
equation_inside symbols k e n vars (Constructs ts) h = absurd (not_some _ e (algebraic_none equation refl (λ cs. refl) (λ c. refl) (λ c m. refl) k ts) h)
equation_inside symbols k e n vars _ h = absurd (not_some None e refl h)

-- ---- clauses and inversion formulas
record IsMember (k : ℕ) (is : List InductiveTree) (cs : List Tree) : Type 0 where
  member : InductiveTree
  there : Contains is member
  symbol : member.symbol ≡ k
  clauses_are : member.clauses ≡ cs

inductive_member : (k : ℕ) (is : List InductiveTree) (cs : List Tree) → clauses (inductive_as k is) ≡ Some cs → IsMember k is cs
inductive_member k [] cs h = absurd (not_some None cs refl h)
inductive_member k (i ∷ is) cs h = by (i.symbol == k) refl h (inductive_member k is cs)
  where
    by : (b : Bool) → (i.symbol == k) ≡ b → clauses (if b then InductiveRole i.clauses else inductive_as k is) ≡ Some cs → (clauses (inductive_as k is) ≡ Some cs → IsMember k is cs) → IsMember k (i ∷ is) cs
    by true q e f = record { member = i; there = first_contained i is; symbol = grind (arith, nat_tests); clauses_are = cc }
    by false q e f = let r = f e in record { member = r.member; there = rest_contains r.member i is r.there; symbol = r.symbol; clauses_are = r.clauses_are }

defined_no_clauses : (k : ℕ) (ds : List DefinitionTree) → clauses (defined_as k ds) ≡ None
defined_no_clauses k [] = refl
defined_no_clauses k (d ∷ ds) =
    either (λ (r : RoleTree). clauses r ≡ None) (d.symbol == k) (DefinedRole d.equation) (defined_as k ds) refl (defined_no_clauses k ds)

clause_in : (k vars n : ℕ) (cs : List Tree) (c : ℕ) (a : Tree) → slice_get cs c ≡ Some a → Contains (clause_facts k vars n cs) (fact_of (fact.Clause k (n + c)) (record { vars = vars; formula = a }))
clause_in k vars n [] c a e = absurd (not_some None a refl e)
clause_in k vars n (x ∷ cs) zero a e =
    let z : x ≡ a = cc in
    let m : n ≡ n + 0 = omega arith in
    (0, omega arith, ap (λ (f : Tree). fact_of (fact.Clause k n) (record { vars = vars; formula = f })) z ∙ ap (λ (i : ℕ). fact_of (fact.Clause k i) (record { vars = vars; formula = a })) m)
clause_in k vars n (x ∷ cs) (suc c) a e =
    let m : n + 1 + c ≡ n + suc c = omega arith in
    rest_contains (fact_of (fact.Clause k (n + suc c)) (record { vars = vars; formula = a })) (fact_of (fact.Clause k n) (record { vars = vars; formula = x })) (clause_facts k vars (n + 1) cs)
    (subst (λ (i : ℕ). Contains (clause_facts k vars (n + 1) cs) (fact_of (fact.Clause k i) (record { vars = vars; formula = a }))) m (clause_in k vars (n + 1) cs c a e))

all_clauses_in : (symbols : List SymbolTree) (is : List InductiveTree) (m : InductiveTree) (x : FactTree) → Contains is m → Contains (clause_facts m.symbol (symbol_or symbols m.symbol).vars 0 m.clauses) x → Contains (all_clause_facts symbols is) x
all_clauses_in symbols [] m x h c = absurd (nothing_in m h)
all_clauses_in symbols (i ∷ is) m x h c = elim (first_or_rest m i is h) [
  | inl e ↦ Contains-append_left (clause_facts i.symbol (symbol_or symbols i.symbol).vars 0 i.clauses) (all_clause_facts symbols is) x
      (subst (λ (j : InductiveTree). Contains (clause_facts j.symbol (symbol_or symbols j.symbol).vars 0 j.clauses) x) (sym e) c)
  | inr r ↦ Contains-append_right (clause_facts i.symbol (symbol_or symbols i.symbol).vars 0 i.clauses) (all_clause_facts symbols is) x (all_clauses_in symbols is m x r c)
]

contains_map : (f : InductiveTree → FactTree) (is : List InductiveTree) (m : InductiveTree) → Contains is m → Contains (map f is) (f m)
contains_map f [] m h = absurd (nothing_in m h)
contains_map f (i ∷ is) m h = elim (first_or_rest m i is h) [
  | inl e ↦ (0, omega arith, ap f e)
  | inr r ↦ rest_contains (f m) (f i) (map f is) (contains_map f is m r)
]

-- what holds of each inductive declaration holds of the one that has the clauses
module _ (symbols : List SymbolTree) (k : ℕ) (cs : List Tree) (x : FactTree) (inside : (is : List InductiveTree) → IsMember k is cs → Contains (all_clause_facts symbols is ++ map (inversion_fact symbols) is) x) where
  clauses_inside : (n vars : ℕ) (b : BodyTree) → clauses (role_in k b) ≡ Some cs → Contains (body_facts symbols n vars b) x
  clauses_inside n vars (Defines ds) h = absurd (not_some _ cs (defined_no_clauses k ds) h)
  clauses_inside n vars (Induces is) h = inside is (inductive_member k is cs h)
  clauses_inside n vars (Constructs ts) h = absurd (not_some _ cs (algebraic_none clauses refl (λ cs. refl) (λ c. refl) (λ c m. refl) k ts) h)
  clauses_inside n vars _ h = absurd (not_some None cs refl h)

  clauses_listed : (n : ℕ) (ds : List DeclarationTree) → clauses (role_by k (maker ds k)) ≡ Some cs → Contains (facts_from symbols n ds) x
  clauses_listed n ds h = symbol_listed clauses refl cs symbols k x clauses_inside n ds h

clause_inside : (symbols : List SymbolTree) (k c : ℕ) (cs : List Tree) (a : Tree) → slice_get cs c ≡ Some a → (is : List InductiveTree) → IsMember k is cs
    → Contains (all_clause_facts symbols is ++ map (inversion_fact symbols) is) (fact_of (fact.Clause k c) (record { vars = (symbol_or symbols k).vars; formula = a }))
clause_inside symbols k c cs a e is m =
    let i = m.member in
    let z : 0 + c ≡ c = omega arith in
    let here = clause_in i.symbol (symbol_or symbols i.symbol).vars 0 i.clauses c a (ap (λ (l : List Tree). slice_get l c) m.clauses_are ∙ e) in
    let x = fact_of (fact.Clause k c) (record { vars = (symbol_or symbols k).vars; formula = a }) in
    let same : fact_of (fact.Clause i.symbol (0 + c)) (record { vars = (symbol_or symbols i.symbol).vars; formula = a }) ≡ x =
    ap (λ (j : ℕ). fact_of (fact.Clause i.symbol j) (record { vars = (symbol_or symbols i.symbol).vars; formula = a })) z
    ∙ ap (λ (j : ℕ). fact_of (fact.Clause j c) (record { vars = (symbol_or symbols j).vars; formula = a })) m.symbol in
    Contains-append_left (all_clause_facts symbols is) (map (inversion_fact symbols) is) x
    (subst (Contains (all_clause_facts symbols is)) same (all_clauses_in symbols is i (fact_of (fact.Clause i.symbol (0 + c)) (record { vars = (symbol_or symbols i.symbol).vars; formula = a })) m.there here))

inversion_inside : (symbols : List SymbolTree) (k : ℕ) (cs : List Tree) (is : List InductiveTree) → IsMember k is cs
    → Contains (all_clause_facts symbols is ++ map (inversion_fact symbols) is) (fact_of (fact.Inversion k) (record { vars = (symbol_or symbols k).vars; formula = inversion k (symbol_or symbols k) cs }))
inversion_inside symbols k cs is m =
    let x = fact_of (fact.Inversion k) (record { vars = (symbol_or symbols k).vars; formula = inversion k (symbol_or symbols k) cs }) in
    let same : inversion_fact symbols m.member ≡ x =
    ap (λ (l : List Tree). fact_of (fact.Inversion m.member.symbol) (record { vars = (symbol_or symbols m.member.symbol).vars; formula = inversion m.member.symbol (symbol_or symbols m.member.symbol) l })) m.clauses_are
    ∙ ap (λ (j : ℕ). fact_of (fact.Inversion j) (record { vars = (symbol_or symbols j).vars; formula = inversion j (symbol_or symbols j) cs })) m.symbol in
    Contains-append_right (all_clause_facts symbols is) (map (inversion_fact symbols) is) x (subst (Contains (map (inversion_fact symbols) is)) same (contains_map (inversion_fact symbols) is m.member m.there))

-- ---- each name
module _ (t : TaskTree) where
  at_place : (k : ℕ) (o : Option PropositionTree) → slice_get (props t) k ≡ o → IfSome o (λ p. Contains (facts t) (fact_of (fact.Proposition k) p))
  at_place k None e = tt
  at_place k (Some p) e = let z : 0 + k ≡ k = omega arith in subst (λ (i : ℕ). Contains (facts t) (fact_of (fact.Proposition i) p)) z (prop_listed t.symbols 0 k t.decls p e)

  of_equation : (k : ℕ) (o : Option Tree) → equation (role t k) ≡ o → IfSome (option_map (at_symbol t k) o) (λ p. Contains (facts t) (fact_of (fact.Equation k) p))
  of_equation k None h = tt
  of_equation k (Some e) h = symbol_listed equation refl e t.symbols k (fact_of (fact.Equation k) (at_symbol t k e)) (equation_inside t.symbols k e) 0 t.decls h

  of_clause : (k c : ℕ) (o : Option (List Tree)) → clauses (role t k) ≡ o → IfSome (option_map (at_symbol t k) (option_and_then (λ cs. slice_get cs c) o)) (λ p. Contains (facts t) (fact_of (fact.Clause k c) p))
  of_clause k c None h = tt
  of_clause k c (Some cs) h = by (slice_get cs c) refl
    where
      by : (o : Option Tree) → slice_get cs c ≡ o → IfSome (option_map (at_symbol t k) o) (λ p. Contains (facts t) (fact_of (fact.Clause k c) p))
      by None e = tt
      by (Some a) e = clauses_listed t.symbols k cs (fact_of (fact.Clause k c) (at_symbol t k a)) (clause_inside t.symbols k c cs a e) 0 t.decls h

  of_inversion : (k : ℕ) (o : Option (List Tree)) → clauses (role t k) ≡ o → IfSome (option_map (λ cs. at_symbol t k (inversion k (symbol_or t.symbols k) cs)) o) (λ p. Contains (facts t) (fact_of (fact.Inversion k) p))
  of_inversion k None h = tt
  of_inversion k (Some cs) h = clauses_listed t.symbols k cs (fact_of (fact.Inversion k) (at_symbol t k (inversion k (symbol_or t.symbols k) cs))) (inversion_inside t.symbols k cs) 0 t.decls h

  pub listed : (name : Fact) → IsListed t name
  listed (fact.Proposition k) = at_place k (slice_get (props t) k) refl
  listed (fact.Equation k) = of_equation k (equation (role t k)) refl
  listed (fact.Clause k c) = of_clause k c (clauses (role t k)) refl
  listed (fact.Inversion k) = of_inversion k (clauses (role t k)) refl
