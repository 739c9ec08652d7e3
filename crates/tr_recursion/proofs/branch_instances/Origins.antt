-- What recursive definitions say by branches, and what stays, by the facts of the old task.
use Rattle.std.specs.List.{flat_map, Contains}
use Rattle.std.proofs.Common.{◌≡◌, inl, inr, ℕ, zero, suc, ◌+◌, Bool, true, false, if◌then◌else◌, List, [], ◌∷◌, ◌++◌, map, slice_get, All, Option, Some, None, refl, sym, ap, subst, ◌∙◌, arith}
use Rattle.std.proofs.lemmas.List.Elements.{Contains-append_left, Contains-append_right, Contains-append_cases}
use Rattle.tasks.specs.declared.facts.Fact.{Fact}
use Rattle.tasks.specs.declared.facts.Fact.TheVariants as fact
use Rattle.tasks.specs.Task.{DefinitionTree, BodyTree, Defines, DeclarationTree, TaskTree, PropositionTree}
use Rattle.tasks.specs.Facts.{FactTree, facts, facts_from, body_facts, equation_fact, said_in}
use Rattle.tasks.specs.Looking.{fact_name}
use Rattle.tasks.specs.Vocabulary.{Vocabulary, of_task}
use Rattle.tasks.specs.Valid.{IsDefinition, IsValidDecl, IsValidBody, IsValid}
use Rattle.evidence.specs.Facts.{fact_named, IsFoundByName}
use Rattle.evidence.proofs.FactNames.{all_named, first_or_rest, first_contained, rest_contains, nothing_in}
use Rattle.declarations.specs.Rewritten.{rewritten_task}
use Rattle.declarations.specs.Said.{said_from, all_said, content, own_said, AreSaid}
use Rattle.declarations.specs.lemmas.Said.{said_props, own_facts}
use Rattle.checks.specs.recursive_groups.Groups.{is_recursive}
use Rattle.checks.specs.decl_checks.Structure.{defining_body}
use Rattle.declarations.specs.spelled_groups.Spelled.{said_of, spelling_rule, spelling_said}
use Rattle.tr_recursion.specs.branch_instances.Origins.{IsBranchOf, IsFrom, IsOldFact}
use Rattle.tr_inline.specs.inlining.branch_equations.Branches.{ConstructorBranch, matched_parameter, quantifiers, branch_fact, facts_by, member_facts, recursion_facts}

record IsFromOne (v : Vocabulary) (x : FactTree) (ys : List FactTree) : Type 0 where
  fact : FactTree
  there : Contains ys fact
  from : IsFrom v x fact

module _ (v : Vocabulary) where
  left_one : (x : FactTree) (ys zs : List FactTree) → IsFromOne v x ys → IsFromOne v x (ys ++ zs)
  left_one x ys zs h = record { fact = h.fact; there = Contains-append_left ys zs h.fact h.there; from = h.from }

  right_one : (x : FactTree) (ys zs : List FactTree) → IsFromOne v x zs → IsFromOne v x (ys ++ zs)
  right_one x ys zs h = record { fact = h.fact; there = Contains-append_right ys zs h.fact h.there; from = h.from }

  -- ---- one definition
  in_branches : (d : DefinitionTree) → IsDefinition v d → (i : ℕ) (all : List ConstructorBranch) → matched_parameter (quantifiers d.equation) (defining_body d.equation) ≡ Some (i, all) → (n : ℕ) (bs : List ConstructorBranch)
      → ((j : ℕ) (b : ConstructorBranch) → slice_get bs j ≡ Some b → slice_get all (n + j) ≡ Some b) → (x : FactTree) → Contains (map (branch_fact v.symbols d i) bs) x → IsBranchOf v x (equation_fact v.symbols d)
  in_branches d a i all m n [] f x h = absurd (nothing_in x h)
  in_branches d a i all m n (b ∷ bs) f x h = elim (first_or_rest x (branch_fact v.symbols d i b) (map (branch_fact v.symbols d i) bs) h) [
    | inl e ↦ record { member = d; equation = refl; defined = a; index = i; branches = all; matched = m; place = n + 0; branch = b; there = f 0 b refl; is = sym e }
    | inr c ↦ in_branches d a i all m (n + 1) bs (λ j b' e. let k : n + 1 + j ≡ n + suc j = omega arith in ap (slice_get all) k ∙ f (suc j) b' e) x c
  ]

  in_member : (d : DefinitionTree) → IsDefinition v d → (x : FactTree) (o : Option (ℕ × List ConstructorBranch)) → matched_parameter (quantifiers d.equation) (defining_body d.equation) ≡ o → Contains (facts_by v.symbols d o) x → IsFrom v x (equation_fact v.symbols d)
  in_member d a x None m h = elim (first_or_rest x (equation_fact v.symbols d) [] h) [ inl e ↦ inl (sym e) | inr c ↦ absurd (nothing_in x c) ]
  in_member d a x (Some p) m h = inr (in_branches d a p.0 p.1 m 0 p.1 (λ j b e. let k : 0 + j ≡ j = omega arith in ap (slice_get p.1) k ∙ e) x h)

  in_members : (ds : List DefinitionTree) → All (IsDefinition v) ds → (x : FactTree) → Contains (flat_map (member_facts v.symbols) ds) x → IsFromOne v x (map (equation_fact v.symbols) ds)
  in_members [] a x h = absurd (nothing_in x h)
  in_members (d ∷ ds) a x h = elim (Contains-append_cases (member_facts v.symbols d) (flat_map (member_facts v.symbols) ds) x h) [
    | inl c ↦ record { fact = equation_fact v.symbols d; there = first_contained (equation_fact v.symbols d) (map (equation_fact v.symbols) ds); from = in_member d (a 0 d (omega arith)) x _ refl c }
    | inr c ↦
        let r = in_members ds (λ j m l. a (suc j) m (omega (arith, l))) x c in
        record { fact = r.fact; there = rest_contains r.fact (equation_fact v.symbols d) (map (equation_fact v.symbols) ds) r.there; from = r.from }
  ]

  -- ---- one declaration
  own_one : (n : ℕ) (d : DeclarationTree) (b : BodyTree) → d.body ≡ b → (x : FactTree) → Contains (own_said n d d.body) x → IsFromOne v x (body_facts v.symbols n d.vars b)
  own_one n d b e x c = record { fact = x; there = subst (λ (z : BodyTree). Contains (body_facts v.symbols n d.vars z) x) e (own_facts v.symbols n d x c); from = inl refl }

  in_body : (n : ℕ) (d : DeclarationTree) (b : BodyTree) → d.body ≡ b → IsValidBody v d.vars b → (x : FactTree) → Contains (said_of n d (recursion_facts v.symbols b)) x → IsFromOne v x (body_facts v.symbols n d.vars b)
  in_body n d (Defines ds) e a x h = by (is_recursive ds) h
    where
      by : (t : Bool) → Contains (said_of n d (if t then Some (flat_map (member_facts v.symbols) ds) else None)) x → IsFromOne v x (body_facts v.symbols n d.vars (Defines ds))
      by true c = in_members ds a x c
      by false c = own_one n d (Defines ds) e x c
  in_body n d b e a x h = own_one n d b e x h

  -- ---- declarations
  in_decls : (n : ℕ) (ds : List DeclarationTree) → All (IsValidDecl v) ds → (x : FactTree) → Contains (said_from (spelling_said recursion_facts) v.symbols n ds) x → IsFromOne v x (facts_from v.symbols n ds)
  in_decls n [] a x h = absurd (nothing_in x h)
  in_decls n (d ∷ ds) a x h = elim (Contains-append_cases (spelling_said recursion_facts v.symbols n d) (said_from (spelling_said recursion_facts) v.symbols (n + said_in d.body) ds) x h) [
    | inl c ↦ left_one x (body_facts v.symbols n d.vars d.body) (facts_from v.symbols (n + said_in d.body) ds) (in_body n d d.body refl (a 0 d (omega arith)) x c)
    | inr c ↦ right_one x (body_facts v.symbols n d.vars d.body) (facts_from v.symbols (n + said_in d.body) ds) (in_decls (n + said_in d.body) ds (λ j m l. a (suc j) m (omega (arith, l))) x c)
  ]

-- ---- by places
record IsSaidAt (xs : List FactTree) (k : ℕ) (p : PropositionTree) (x : FactTree) : Type 0 where
  there : Contains xs x
  name : slice_get (map fact_name xs) k ≡ Some x.name
  content_is : content x ≡ p

said_at : (xs : List FactTree) (k : ℕ) (p : PropositionTree) → slice_get (map content xs) k ≡ Some p → (x : FactTree) × IsSaidAt xs k p x
said_at [] k p e = absurd (cc)
said_at (x ∷ xs) zero p e = (x, record { there = first_contained x xs; name = refl; content_is = cc })
said_at (x ∷ xs) (suc k) p e = let r = said_at xs k p e in (r.0, record { there = rest_contains r.0 x xs r.1.there; name = r.1.name; content_is = r.1.content_is })

module _ (t : TaskTree) (valid : IsValid t) (says : AreSaid (spelling_rule recursion_facts) (spelling_said recursion_facts)) where
  abbrev w : List FactTree
  w = all_said (spelling_said recursion_facts) t

  props_are : (k : ℕ) (p : PropositionTree) → fact_named (rewritten_task (spelling_rule recursion_facts) t) (fact.Proposition k) ≡ Some p → slice_get (map content w) k ≡ Some p
  props_are k p e = ap (λ (ps : List PropositionTree). slice_get ps k) (sym (said_props (spelling_rule recursion_facts) (spelling_said recursion_facts) says t.symbols 0 t.decls)) ∙ e

  same_name : (x y : FactTree) → IsFrom (of_task t) x y → x.name ≡ y.name
  same_name x y (inl e) = ap (λ (z : FactTree). z.name) e
  same_name x y (inr b) = ap (λ (z : FactTree). z.name) b.is ∙ ap (λ (z : FactTree). z.name) (sym b.equation)

  found : (x : FactTree) → Contains (facts t) x → IsFoundByName t x
  found x c = subst (IsFoundByName t) c.2 (all_named t valid c.0 x c.1)

  pub old_fact_of : (k : ℕ) (p : PropositionTree) (old : Fact) → fact_named (rewritten_task (spelling_rule recursion_facts) t) (fact.Proposition k) ≡ Some p → slice_get (map fact_name w) k ≡ Some old → IsOldFact t old p
  old_fact_of k p old e q =
      let r = said_at w k p (props_are k p e) in
      let o = in_decls (of_task t) 0 t.decls valid.decls r.0 r.1.there in
      let same : r.0.name ≡ old = let both : Some r.0.name ≡ Some old = sym r.1.name ∙ q in cc in
      let name : o.fact.name ≡ old = sym (same_name r.0 o.fact o.from) ∙ same in
      record { said = r.0; fact = o.fact; named = ap (fact_named t) (sym name) ∙ found o.fact o.there; name = name; from = o.from; content_is = r.1.content_is }

  pub some_old : (k : ℕ) (p : PropositionTree) → fact_named (rewritten_task (spelling_rule recursion_facts) t) (fact.Proposition k) ≡ Some p → slice_get (map fact_name w) k ≡ None → ⊥
  some_old k p e q = let r = said_at w k p (props_are k p e) in let both : Some r.0.name ≡ None = sym r.1.name ∙ q in cc
