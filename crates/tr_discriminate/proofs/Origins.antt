-- A proposition of the new task is an instance of one of the old task, and each other fact is one of the old task.
use Rattle.std.proofs.Common.{◌≡◌, ◌≢◌, ◌⊎◌, inl, inr, ◌+◌, ℕ, zero, suc, Bool, true, false, if◌then◌else◌, List, [], ◌∷◌, ◌++◌, map, length, slice_get, All, Option, Some, None, IsSomeAnd, refl, sym, ap, subst, ◌∙◌, arith}
use Rattle.std.proofs.lemmas.List.Elements.{All-cons, All-nil, All-map, All-weaker}
use Rattle.tasks.specs.trees.Tree.{Tree, Leaf, One, Two, Three, Head, HTyVar, HBound, HParam, binders_over}
use Rattle.tasks.specs.trees.Binding.{change, leaf_by, one_by, typing, inst_types}
use Rattle.tasks.specs.declared.facts.Fact.{Fact}
use Rattle.tasks.specs.declared.facts.Fact.TheVariants as fact
use Rattle.tasks.specs.Task.{BodyTree, MakesType, Makes, Defines, Induces, Constructs, Says, DeclarationTree, TaskTree, PropositionTree, said_by, props, props_of}
use Rattle.tasks.specs.Roles.{role}
use Rattle.tasks.specs.Vocabulary.{of_task}
use Rattle.tasks.specs.Valid.{IsTypeIn, IsTypeOver, IsValidBody, IsValidDecl, IsValid}
use Rattle.evidence.specs.Facts.{IsFact}
use Rattle.evidence.specs.Stages.{Gives, IsAmong}
use Rattle.evidence.proofs.task_parts.One.{among_one}
use Rattle.name_tables.specs.Occurrences.{Occurrence}
use Rattle.tr_discriminate.specs.wanted_instances.Wanted.{wanted_types, wanted_formulas}
use Rattle.tr_discriminate.specs.wanted_instances.Discriminated.{is_monomorphic, last_set, said_at, proposition_of, put_in_place, discriminated_decls, discriminated_task}
use Rattle.tr_discriminate.specs.wanted_instances.lemmas.Kept.{AreFor, wanted_for, last_good}
use Rattle.declarations.specs.Rewritten.{IsAsBefore}
use Rattle.declarations.specs.Names.{IsOldName}
use Rattle.declarations.proofs.Names.{fact_there}
use Rattle.declarations.specs.lemmas.Rewritten.{roles_rewritten}
use Rattle.tr_discriminate.specs.Equation.{discriminate_rule, discriminate_equation}
use Rattle.tr_discriminate.specs.Kept.{discriminate_rule_keeps, discriminated_one}
use Rattle.tr_discriminate.specs.instance_sets.Made.{IsTypeTree}
use Rattle.tr_discriminate.specs.Origins.{IsSaidInstance, HasOrigin}
use Rattle.evidence.proofs.FactNames.{props_append as props_two}

-- ---- no types change nothing
leaf_none : (h : Head) → leaf_by (typing []) h ≡ Leaf h
leaf_none (HTyVar j) = refl
leaf_none _ = refl

one_none : (d : ℕ) (h : Head) (x y : Tree) → x ≡ y → one_by (typing []) d h x ≡ One h y
one_none d (HBound i) x y e = ap (One (HBound i)) e
one_none d (HParam n) x y e = ap (One (HParam n)) e
one_none d h x y e = ap (One h) e

typed_none : (d : ℕ) (e : Tree) → change (typing []) d e ≡ e
typed_none d (Leaf h) = leaf_none h
typed_none d (One h a) = one_none d h (change (typing []) d a) a (typed_none d a)
typed_none d (Two h a b) = cc (typed_none d a, typed_none (d + binders_over h a) b)
typed_none d (Three h a b c) = cc (typed_none d a, typed_none d b, typed_none d c)

no_types : (tys : List Tree) → length tys ≡ 0 → tys ≡ []
no_types [] e = refl
no_types (y ∷ tys) e = absurd (omega (arith, e))

-- ---- where a proposition comes from
-- what is at a place of two lists is in the first, where this holds of each, or in the second
at_place : {A : Type 0} (P : A → Type 0) (xs ys : List A) (k : ℕ) (p : A) → All P xs → slice_get (xs ++ ys) k ≡ Some p → P p ⊎ ((j : ℕ) × (slice_get ys j ≡ Some p))
at_place P [] ys k p a e = inr (k, e)
at_place P (x ∷ xs) ys zero p a e = inl (let q : x ≡ p = cc in subst P q (a 0 x (omega arith)))
at_place P (x ∷ xs) ys (suc k) p a e = at_place P xs ys k p (λ i d l. a (suc i) d (omega arith)) e

module _ (t : TaskTree) (valid : IsValid t) where
  abbrev s : List Occurrence
  s = last_set t

  -- at types each is an instance of what the declaration says
  abbrev ComesFrom : DeclarationTree → PropositionTree → Type 0
  ComesFrom d p = (types : List Tree) → length types ≡ p.vars → All IsTypeTree types → IsSaidInstance d.vars d.body (inst_types p.formula types)

  said_props : (d : DeclarationTree) (P : PropositionTree → Type 0) (es : List Tree) → All (λ (e : Tree). P (proposition_of 0 e)) es → All P (props_of (map (said_at d) es))
  said_props d P [] a = All-nil P
  said_props d P (e ∷ es) a = All-cons P (proposition_of 0 e) (props_of (map (said_at d) es)) (a 0 e (omega arith)) (said_props d P es (λ k x l. a (suc k) x (omega arith)))

  module _ (d : DeclarationTree) where
    own_comes : (a : Tree) → d.body ≡ Says a → IsValidBody (of_task t) d.vars (Says a) → ComesFrom d (proposition_of d.vars a)
    own_comes a q h types l k = subst (λ (b : BodyTree). IsSaidInstance d.vars b (inst_types a types)) (sym q) (record { types = types; long = l; kinds = k; variables = h.variables; is = refl })

    instance_comes : (a : Tree) → d.body ≡ Says a → IsValidBody (of_task t) d.vars (Says a) → (ys : List Tree) → AreFor t valid d.vars ys → ComesFrom d (proposition_of 0 (inst_types a ys))
    instance_comes a q h ys f types l k =
        let same : inst_types (inst_types a ys) types ≡ inst_types a ys = ap (inst_types (inst_types a ys)) (no_types types l) ∙ typed_none 0 (inst_types a ys) in
        subst (λ (b : BodyTree). IsSaidInstance d.vars b (inst_types (inst_types a ys) types)) (sym q)
        (record { types = ys; long = f.long; kinds = All-weaker (IsTypeIn (of_task t) 0) IsTypeTree (λ ty g. g.sort) ys f.good; variables = h.variables; is = same })

    says_come : (a : Tree) → d.body ≡ Says a → IsValidBody (of_task t) d.vars (Says a) → (m : Bool) → All (ComesFrom d) (props_of (if m then d ∷ [] else map (said_at d) (wanted_formulas s (proposition_of d.vars a))))
    says_come a q h true =
        subst (λ (b : BodyTree). All (ComesFrom d) (said_by d b ++ [])) (sym q) (All-cons (ComesFrom d) (proposition_of d.vars a) [] (own_comes a q h) (All-nil (ComesFrom d)))
    says_come a q h false =
        let p = proposition_of d.vars a in
        said_props d (ComesFrom d) (wanted_formulas s p) (All-map (λ (e : Tree). ComesFrom d (proposition_of 0 e)) (inst_types a) (wanted_types s p)
        (All-weaker (AreFor t valid d.vars) (λ (ys : List Tree). ComesFrom d (proposition_of 0 (inst_types a ys))) (instance_comes a q h) (wanted_types s p) (wanted_for t valid s (last_good t valid) p)))

    none_come : (b : BodyTree) → d.body ≡ b → said_by d b ≡ [] → All (ComesFrom d) (props_of (d ∷ []))
    none_come b q e = subst (All (ComesFrom d)) (sym (ap (λ (z : BodyTree). said_by d z ++ []) q ∙ ap (λ (z : List PropositionTree). z ++ []) e)) (All-nil (ComesFrom d))

    body_comes : (b : BodyTree) → d.body ≡ b → IsValidBody (of_task t) d.vars b → All (ComesFrom d) (props_of (put_in_place s d b))
    body_comes (Says a) q h = says_come a q h (is_monomorphic a)
    body_comes (MakesType k) q h = none_come (MakesType k) q refl
    body_comes (Makes k) q h = none_come (Makes k) q refl
    body_comes (Defines ds) q h = none_come (Defines ds) q refl
    body_comes (Induces is) q h = none_come (Induces is) q refl
    body_comes (Constructs ts) q h = none_come (Constructs ts) q refl

  origin_among : (ds : List DeclarationTree) → All (IsValidDecl (of_task t)) ds → (k : ℕ) (p : PropositionTree) → slice_get (props_of (discriminated_decls s ds)) k ≡ Some p → (types : List Tree) → length types ≡ p.vars → All IsTypeTree types → HasOrigin ds (inst_types p.formula types)
  origin_among [] a k p e types l w = absurd (cc)
  origin_among (d ∷ ds) a k p e types l w =
      let all = body_comes d d.body refl (a 0 d (omega arith)) in
      elim (at_place (ComesFrom d) (props_of (put_in_place s d d.body)) (props_of (discriminated_decls s ds)) k p all (ap (λ (z : List PropositionTree). slice_get z k) (sym (props_two (put_in_place s d d.body) (discriminated_decls s ds))) ∙ e)) [
        | inl c ↦ inl (c types l w)
        | inr r ↦ inr (origin_among ds (λ i x m. a (suc i) x (omega arith)) r.0 p r.1 types l w)
      ]

  proposition_origin : (k : ℕ) (types : List Tree) (formula : Tree) → IsFact t (discriminated_task t) (fact.Proposition k) types formula → HasOrigin t.decls formula
  proposition_origin k types formula f = by (slice_get (props (discriminated_task t)) k) refl f.said
    where
      by : (o : Option PropositionTree) → slice_get (props (discriminated_task t)) k ≡ o → IsSomeAnd o (λ p. (length types ≡ p.vars) × (formula ≡ inst_types p.formula types)) → HasOrigin t.decls formula
      by None e h = absurd h
      by (Some p) e h = subst (HasOrigin t.decls) (sym h.1) (origin_among t.decls valid.decls k p e types h.0 (All-weaker (IsTypeOver t 0) IsTypeTree (λ ty g. g.sort) types f.ground))

  -- ---- the other facts
  role_before : (k : ℕ) → IsAsBefore (role (discriminated_task t) k) (role t k)
  role_before k = roles_rewritten (discriminate_rule s) (discriminate_rule_keeps s) t k

  other_name : (name : Fact) → ((k : ℕ) → name ≢ fact.Proposition k) → IsOldName t (discriminated_task t) name name
  other_name (fact.Proposition k) n p e = absurd (n k refl)
  other_name (fact.Equation k) n p e = elim (role_before k) [
    | inl q ↦ absurd (let h = rw q at e in cc)
    | inr q ↦ rw q at e
  ]
  other_name (fact.Clause k c) n p e = elim (role_before k) [
    | inl q ↦ absurd (let h = rw q at e in cc)
    | inr q ↦ rw q at e
  ]
  other_name (fact.Inversion k) n p e = elim (role_before k) [
    | inl q ↦ absurd (let h = rw q at e in cc)
    | inr q ↦ rw q at e
  ]

  module _ (u : TaskTree) (among : IsAmong (Gives discriminate_equation t) u) (types : List Tree) (formula : Tree) where
    pub origin : (k : ℕ) → IsFact t u (fact.Proposition k) types formula → HasOrigin t.decls formula
    origin k = among_one (λ z. IsFact t z (fact.Proposition k) types formula → HasOrigin t.decls formula) (Gives discriminate_equation t) (discriminated_task t) u among (discriminated_one t among.tasks among.is) (proposition_origin k types formula)

    pub other_fact : (name : Fact) → ((k : ℕ) → name ≢ fact.Proposition k) → IsFact t u name types formula → IsFact t t name types formula
    other_fact name n =
        among_one (λ z. IsFact t z name types formula → IsFact t t name types formula) (Gives discriminate_equation t) (discriminated_task t) u among (discriminated_one t among.tasks among.is)
        (fact_there t (discriminated_task t) name name types formula (other_name name n))
