-- The declarations of the tuples that occur: what each is, and what they make.
use Rattle.std.proofs.Common.{◌≡◌, ◌≢◌, ◌⊎◌, inl, inr, ℕ, ◌+◌, ◌-◌, ◌<◌, ◌≤◌, zero, suc, Bool, true, false, if◌then◌else◌, List, [], ◌∷◌, ◌++◌, length, get_or, All, Option, Some, None, IsTrue, codes, decimal, refl, sym, ap, subst, ◌∙◌, arith}
use Rattle.std.specs.List.{flat_map, range_with_len, Contains}
use Rattle.std.proofs.lemmas.List.Elements.{All-nil, All-cons, All-append, Contains-append_cases}
use Rattle.elab_groups.specs.trees.Tree.{Tree}
use Rattle.elab_groups.specs.tasks.declared.signature.SymbolKind.TheVariants.{Kind, Constructor, Projection}
use Rattle.elab_groups.specs.tasks.Task.{SymbolTree, symbol_or, int_symbol, DeclarationTree, made}
use Rattle.elab_groups.specs.tasks.Equations.{type_variables}
use Rattle.elab_groups.specs.tasks.Valid.{own_type}
use Rattle.elab_groups.proofs.tasks.Declared.{none_in}
use Rattle.elab_groups.specs.surface.Lexeme.{Word}
use Rattle.elab_groups.specs.parts.Entries.{type_entry, projections, builtin, tuple_in}
use Rattle.elaboration_laws.proofs.Algebraics.{got}
use Rattle.theory_states.specs.goal_tasks.Tuples.{tuple_declaration, tuple_occurs, tuples_of, tuples_in}
use Rattle.theory_states.specs.goal_tasks.Meaning.{IsTupleAt}
use Rattle.elaboration_laws.specs.Built.{IsBuiltRight}
use Rattle.elaboration_laws.proofs.Kept.{within}
use Rattle.elaboration_laws.proofs.Distinct.{IsDistinct, distinct_both, range_contains, range_distinct}
use Rattle.elaboration_laws.proofs.TupleDecls.{made_both, made_flat, in_range, type_is, constructor_is, projection_is, made_are, made_cases}
use Rattle.theory_states.proofs.goal_tasks.TuplesMade.{variables_count as count_variables}

-- ---- the declaration of a width
pub record IsTupleDecl (symbols : List SymbolTree) (d : DeclarationTree) : Type 0 where
  pub width : ℕ
  pub constructor : ℕ
  pub found : tuple_in symbols width ≡ Some constructor
  pub is : d ≡ tuple_declaration width (constructor - 1)

-- an entry that it makes
pub record IsTupleEntry (symbols : List SymbolTree) (n c k : ℕ) : Type 0 where
  pub theory : (symbol_or symbols k).theory ≡ builtin
  pub vars : (symbol_or symbols k).vars ≡ n
  pub first : k ≢ 0
  pub constructor : (symbol_or symbols k).kind ≡ Constructor → k ≡ c

projection_at : (theory name : Word) (n : ℕ) (t : Tree) (i : ℕ) (fs : List Tree) (j : ℕ) → j < length fs
    → let e = get_or (projections theory name n t i fs) j int_symbol in (e.theory ≡ theory) × ((e.vars ≡ n) × (e.kind ≡ Projection))
projection_at theory name n t i [] j l = absurd (omega (arith, l))
projection_at theory name n t i (f ∷ fs) zero l = (refl, (refl, refl))
projection_at theory name n t i (f ∷ fs) (suc j) l = projection_at theory name n t (suc i) fs j (omega (arith, l))

module _ (symbols : List SymbolTree) (built : IsBuiltRight symbols) where
  abbrev First : ℕ → Type 0
  First k = symbol_or symbols k ≡ int_symbol

  zero_is : symbol_or symbols 0 ≡ int_symbol
  zero_is = (got symbols 0 int_symbol built.int).1

  at_first : (k : ℕ) → k ≡ 0 → First k
  at_first k q = ap (symbol_or symbols) q ∙ zero_is

  module _ (n c : ℕ) (at : IsTupleAt symbols n c) where
    is_type : (j : ℕ) → j ≡ c - 1 → IsTupleEntry symbols n c j
    is_type j q =
        let e : symbol_or symbols j ≡ type_entry builtin (codes "tuple" ++ decimal n) n = ap (symbol_or symbols) q ∙ type_is symbols n c at in
        record {
          theory = ap (λ (x : SymbolTree). x.theory) e;
          vars = ap (λ (x : SymbolTree). x.vars) e;
          first = λ z. other_name (decimal n) (sym (ap (λ (x : SymbolTree). x.name) e) ∙ ap (λ (x : SymbolTree). x.name) (at_first j z));
          constructor = λ k. let y : Kind ≡ Constructor = sym (ap (λ (x : SymbolTree). x.kind) e) ∙ k in cc;
        }
      where
        other_name : (rest : Word) → codes "tuple" ++ rest ≡ codes "int" → ⊥
        other_name rest q = let z : 116 ≡ 105 = ap (λ (xs : List ℕ). get_or xs 0 0) q in omega (arith, z)

    is_constructor : (j : ℕ) → j ≡ c → IsTupleEntry symbols n c j
    is_constructor j q =
        let e = ap (symbol_or symbols) q ∙ constructor_is symbols n c at in
        record {
          theory = ap (λ (x : SymbolTree). x.theory) e;
          vars = ap (λ (x : SymbolTree). x.vars) e;
          first = λ z. let p = at.type_before in omega (arith, q, z, p);
          constructor = λ k. q;
        }

    is_projection : (j i : ℕ) → i < n → j ≡ c - 1 + 2 + i → IsTupleEntry symbols n c j
    is_projection j i l q =
        let e = ap (symbol_or symbols) q ∙ projection_is symbols n c at i l in
        let count = count_variables 0 n in
        let p = projection_at builtin (codes "Tuple" ++ decimal n) n (own_type (c - 1) n) 1 (type_variables 0 n) i (omega (arith, l, count)) in
        record {
          theory = ap (λ (x : SymbolTree). x.theory) e ∙ p.0;
          vars = ap (λ (x : SymbolTree). x.vars) e ∙ p.1.0;
          first = λ z. omega (arith, q, z);
          constructor = λ k. let y : Projection ≡ Constructor = sym (ap (λ (x : SymbolTree). x.kind) e ∙ p.1.1) ∙ k in cc;
        }

    pub entry_is : (j : ℕ) → Contains (made (tuple_declaration n (c - 1) ∷ [])) j → IsTupleEntry symbols n c j
    entry_is j h = of (made_cases symbols n c at j h)
      where
        of : (j ≡ c - 1) ⊎ ((j ≡ c) ⊎ ((i : ℕ) × (i < n) × (j ≡ c - 1 + 2 + i))) → IsTupleEntry symbols n c j
        of (inl q) = is_type j q
        of (inr (inl q)) = is_constructor j q
        of (inr (inr (i, l, q))) = is_projection j i l q

    pub one_distinct : IsDistinct (made (tuple_declaration n (c - 1) ∷ []))
    one_distinct =
        let k = c - 1 in
        let e = made_are symbols n c at in
        subst IsDistinct (sym e) ((λ h. of h), ((λ h. let l = range_contains (k + 2) n (k + 1) h in omega (arith, l)), range_distinct (k + 2) n))
      where
        of : Contains ((c - 1 + 1) ∷ range_with_len (c - 1 + 2) n) (c - 1) → ⊥
        of h = let l = range_contains (c - 1 + 1) (suc n) (c - 1) (again h) in omega (arith, l)
          where
            again : Contains ((c - 1 + 1) ∷ range_with_len (c - 1 + 2) n) (c - 1) → Contains (range_with_len (c - 1 + 1) (suc n)) (c - 1)
            again h = let z : c - 1 + 2 ≡ c - 1 + 1 + 1 = omega arith in subst (λ (a : ℕ). Contains ((c - 1 + 1) ∷ range_with_len a n) (c - 1)) z h

  -- ---- those of some widths
  module _ (ks : List ℕ) where
    abbrev of_width : ℕ → List DeclarationTree
    of_width n = tuples_of ks n (tuple_in symbols n)

    width_are : (n : ℕ) (o : Option ℕ) → tuple_in symbols n ≡ o → All (IsTupleDecl symbols) (tuples_of ks n o)
    width_are n None q = All-nil (IsTupleDecl symbols)
    width_are n (Some c) q = of (tuple_occurs ks c)
      where
        of : (b : Bool) → All (IsTupleDecl symbols) (if b then tuple_declaration n (c - 1) ∷ [] else [])
        of true = All-cons (IsTupleDecl symbols) (tuple_declaration n (c - 1)) [] (record { width = n; constructor = c; found = q; is = refl }) (All-nil (IsTupleDecl symbols))
        of false = All-nil (IsTupleDecl symbols)

    widths_are : (ns : List ℕ) → All (IsTupleDecl symbols) (flat_map of_width ns)
    widths_are [] = All-nil (IsTupleDecl symbols)
    widths_are (n ∷ ns) = All-append (IsTupleDecl symbols) (of_width n) (flat_map of_width ns) (width_are n (tuple_in symbols n) refl) (widths_are ns)

    pub tuples_are : All (IsTupleDecl symbols) (tuples_in symbols ks)
    tuples_are = widths_are (range_with_len 0 (length symbols))

    -- a width that occurs is there
    pub occurring_made : (n c k : ℕ) → tuple_in symbols n ≡ Some c → IsTrue (tuple_occurs ks c) → (k ≡ c) ⊎ (suc k ≡ c) → Contains (made (tuples_in symbols ks)) k
    occurring_made n c k q o is =
        let at = built.tuples n c q in
        let l = within symbols n c at in
        made_flat of_width (range_with_len 0 (length symbols)) n k (in_range 0 (length symbols) n (omega arith) (omega (arith, l))) (subst (λ (r : Option ℕ). Contains (made (tuples_of ks n r)) k) (sym q) (subst (λ (b : Bool). Contains (made (if b then tuple_declaration n (c - 1) ∷ [] else [])) k) (sym o) (of at is)))
      where
        of : IsTupleAt symbols n c → (k ≡ c) ⊎ (suc k ≡ c) → Contains (made (tuple_declaration n (c - 1) ∷ [])) k
        of at (inl z) = let e = made_are symbols n c at in let p = at.type_before in subst (λ (xs : List ℕ). Contains xs k) (sym e) (1, omega arith, omega (arith, z, p))
        of at (inr z) = let e = made_are symbols n c at in subst (λ (xs : List ℕ). Contains xs k) (sym e) (0, omega arith, omega (arith, z))

    -- ---- no symbol is made twice
    width_vars : (n : ℕ) (o : Option ℕ) → tuple_in symbols n ≡ o → (k : ℕ) → Contains (made (tuples_of ks n o)) k → (symbol_or symbols k).vars ≡ n
    width_vars n None q k h = absurd (none_in k h)
    width_vars n (Some c) q k h = of (tuple_occurs ks c) h
      where
        of : (b : Bool) → Contains (made (if b then tuple_declaration n (c - 1) ∷ [] else [])) k → (symbol_or symbols k).vars ≡ n
        of true h = (entry_is n c (built.tuples n c q) k h).vars
        of false h = absurd (none_in k h)

    width_distinct : (n : ℕ) (o : Option ℕ) → tuple_in symbols n ≡ o → IsDistinct (made (tuples_of ks n o))
    width_distinct n None q = tt
    width_distinct n (Some c) q = of (tuple_occurs ks c)
      where
        of : (b : Bool) → IsDistinct (made (if b then tuple_declaration n (c - 1) ∷ [] else []))
        of true = one_distinct n c (built.tuples n c q)
        of false = tt

    wider : (a m k : ℕ) → Contains (made (flat_map of_width (range_with_len a m))) k → a ≤ (symbol_or symbols k).vars
    wider a zero k h = absurd (none_in k h)
    wider a (suc m) k h =
        let e = made_both (of_width a) (flat_map of_width (range_with_len (a + 1) m)) in
        of (Contains-append_cases (made (of_width a)) (made (flat_map of_width (range_with_len (a + 1) m))) k (subst (λ (xs : List ℕ). Contains xs k) e h)) (λ c. wider (a + 1) m k c)
      where
        of : Contains (made (of_width a)) k ⊎ Contains (made (flat_map of_width (range_with_len (a + 1) m))) k → (Contains (made (flat_map of_width (range_with_len (a + 1) m))) k → a + 1 ≤ (symbol_or symbols k).vars) → a ≤ (symbol_or symbols k).vars
        of (inl c) f = let q = width_vars a (tuple_in symbols a) refl k c in omega (arith, q)
        of (inr c) f = let l = f c in omega (arith, l)

    widths_distinct : (a m : ℕ) → IsDistinct (made (flat_map of_width (range_with_len a m)))
    widths_distinct a zero = tt
    widths_distinct a (suc m) =
        let rest = flat_map of_width (range_with_len (a + 1) m) in
        let e = made_both (of_width a) rest in
        subst IsDistinct (sym e) (distinct_both (made (of_width a)) (made rest) (width_distinct a (tuple_in symbols a) refl) (widths_distinct (a + 1) m) (λ k b c. let q = width_vars a (tuple_in symbols a) refl k b in let l = wider (a + 1) m k c in omega (arith, q, l)))

    pub tuples_distinct : IsDistinct (made (tuples_in symbols ks))
    tuples_distinct = widths_distinct 0 (length symbols)
