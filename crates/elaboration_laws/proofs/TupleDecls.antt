-- The declarations of tuples: which symbols they make, as what, and that they are valid.
use Rattle.std.proofs.Common.{◌≡◌, ◌≢◌, ◌⊎◌, inl, inr, ℕ, ◌+◌, ◌-◌, ◌<◌, ◌≤◌, ◌==◌, zero, suc, Bool, true, false, List, [], ◌∷◌, ◌++◌, drop, length, get_or, All, Some, IsTrue, codes, decimal, refl, sym, ap, subst, ◌∙◌, arith, append-nil}
use Rattle.std.specs.List.{flat_map, range_with_len, Contains}
use Rattle.std.proofs.lemmas.Bool.Decides.{nat_tests}
use Rattle.std.proofs.lemmas.List.{get_or-take, get_or-drop}
use Rattle.std.proofs.lemmas.List.Elements.{All-nil, All-cons, Contains-append_left, Contains-append_right}
use Rattle.elab_groups.specs.trees.Tree.{Tree}
use Rattle.elab_groups.specs.tasks.declared.signature.SymbolKind.TheVariants.{Kind, Constructor, Projection}
use Rattle.elab_groups.specs.tasks.Task.{SymbolTree, symbol_or, int_symbol, DeclarationTree, made}
use Rattle.elab_groups.specs.tasks.Equations.{type_variables}
use Rattle.elab_groups.specs.tasks.Vocabulary.{Vocabulary}
use Rattle.elab_groups.specs.tasks.Typing.{IsTypeSymbol}
use Rattle.elab_groups.specs.tasks.Valid.{own_type, IsTypeIn, AreProjections, IsConstructorOf, IsAlgebraic, IsValidDecl}
use Rattle.elab_groups.proofs.tasks.Declared.{contains_cases, contains_step}
use Rattle.elab_groups.specs.surface.Lexeme.{Word}
use Rattle.elab_groups.specs.parts.Entries.{type_entry, projections, builtin, tuple_entries}
use Rattle.elaboration_laws.proofs.Tuples.{own_in, variables_in}
use Rattle.theory_states.specs.goal_tasks.Tuples.{tuple_constructor, tuple_algebraic, tuple_declaration}
use Rattle.theory_states.specs.goal_tasks.Meaning.{IsTupleAt}
use Rattle.elaboration_laws.proofs.Kept.{within}
use Rattle.std.proofs.lemmas.Option.{slice_get-get_or as some_at}
use Rattle.theory_states.proofs.goal_tasks.TuplesMade.{variables_count as count_variables}
pub use Rattle.elaboration_laws.proofs.Steps.{made_both}

-- ---- what lists of declarations make
pub made_flat : (f : ℕ → List DeclarationTree) (xs : List ℕ) (n k : ℕ) → Contains xs n → Contains (made (f n)) k → Contains (made (flat_map f xs)) k
made_flat f [] n k c d = absurd (omega (arith, c.1))
made_flat f (x ∷ xs) n k c d = of (contains_cases x n xs c) (λ i. made_flat f xs n k i d)
  where
    of : (n ≡ x) ⊎ Contains xs n → (Contains xs n → Contains (made (flat_map f xs)) k) → Contains (made (f x ++ flat_map f xs)) k
    of (inl q) g = let e = made_both (f x) (flat_map f xs) in rw e (Contains-append_left (made (f x)) (made (flat_map f xs)) k (rw q at d))
    of (inr i) g = let e = made_both (f x) (flat_map f xs) in rw e (Contains-append_right (made (f x)) (made (flat_map f xs)) k (g i))

pub in_range : (a m n : ℕ) → a ≤ n → n < a + m → Contains (range_with_len a m) n
in_range a zero n l r = absurd (omega arith)
in_range a (suc m) n l r = of (n == a) refl (λ z. in_range (a + 1) m n z (omega arith))
  where
    of : (b : Bool) → (n == a) ≡ b → (a + 1 ≤ n → Contains (range_with_len (a + 1) m) n) → Contains (a ∷ range_with_len (a + 1) m) n
    of true q f = let s : n ≡ a = grind (arith, nat_tests) in contains_step a n (range_with_len (a + 1) m) (inl s)
    of false q f = let d : n ≢ a = grind (arith, nat_tests) in contains_step a n (range_with_len (a + 1) m) (inr (f (omega arith)))

-- ---- the entries of a width
module _ (symbols : List SymbolTree) (n c : ℕ) (at : IsTupleAt symbols n c) where
  abbrev pub k : ℕ
  k = c - 1

  abbrev type : Tree
  type = own_type k n

  abbrev fields : List Tree
  fields = type_variables 0 n

  abbrev name : Word
  name = codes "Tuple" ++ decimal n

  next : k + 1 ≡ c
  next = let p = at.type_before in omega arith

  entry : (i : ℕ) → i < n + 2 → symbol_or symbols (k + i) ≡ get_or (tuple_entries k n) i int_symbol
  entry i l = sym (get_or-drop k symbols i int_symbol) ∙ (sym (get_or-take (n + 2) (drop k symbols) i int_symbol l) ∙ ap (λ (es : List SymbolTree). get_or es i int_symbol) at.entries)

  pub type_is : symbol_or symbols k ≡ type_entry builtin (codes "tuple" ++ decimal n) n
  type_is = let z : k ≡ k + 0 = omega arith in ap (symbol_or symbols) z ∙ entry 0 (omega arith)

  pub constructor_is : symbol_or symbols c ≡ record { theory = builtin; name = name; kind = Constructor; vars = n; args = fields; result = Some type }
  constructor_is = let z : c ≡ k + 1 = sym next in ap (symbol_or symbols) z ∙ entry 1 (omega arith)

  pub projection_is : (i : ℕ) → i < n → symbol_or symbols (k + 2 + i) ≡ get_or (projections builtin name n type 1 fields) i int_symbol
  projection_is i l = let z : k + 2 + i ≡ k + suc (suc i) = omega arith in ap (symbol_or symbols) z ∙ entry (suc (suc i)) (omega arith)

  -- each of its symbols
  pub made_are : made (tuple_declaration n k ∷ []) ≡ k ∷ ((k + 1) ∷ range_with_len (k + 2) n)
  made_are = let a = append-nil (range_with_len (k + 2) n) in rw (a, a, a) refl

  -- ---- over a vocabulary that may name the type
  module _ (w : Vocabulary) (same : w.symbols ≡ symbols) (may : IsTrue (w.usable k)) where
    there : (j : ℕ) → j < length symbols → j < length w.symbols
    there j l = subst (λ (es : List SymbolTree). j < length es) (sym same) l

    or_same : (j : ℕ) → symbol_or w.symbols j ≡ symbol_or symbols j
    or_same j = ap (λ (es : List SymbolTree). symbol_or es j) same

    long : c + n < length symbols
    long = within symbols n c at

    type_at : symbol_or w.symbols k ≡ type_entry builtin (codes "tuple" ++ decimal n) n
    type_at = or_same k ∙ type_is

    constructor_at : symbol_or w.symbols (k + 1) ≡ record { theory = builtin; name = name; kind = Constructor; vars = n; args = fields; result = Some type }
    constructor_at = or_same (k + 1) ∙ (ap (symbol_or symbols) next ∙ constructor_is)

    symbol_is : IsTypeSymbol w k n
    symbol_is =
        let q = some_at w.symbols k int_symbol (there k (omega (arith, long))) in
        let z = type_at in
        (may, rw (q, z) (refl, refl))

    type_in : IsTypeIn w n type
    type_in = own_in w k n symbol_is

    fields_in : All (IsTypeIn w n) fields
    fields_in = variables_in w 0 n n (omega arith)

    projections_valid : (fs : List Tree) (i p : ℕ) → ((j : ℕ) → j < length fs → symbol_or w.symbols (p + j) ≡ get_or (projections builtin name n type i fs) j int_symbol) → p + length fs ≤ length w.symbols → All (IsTypeIn w n) fs → AreProjections w k n fs (range_with_len p (length fs))
    projections_valid [] i p h l f = tt
    projections_valid (x ∷ fs) i p h l f =
        let zero' : p ≡ p + 0 = omega arith in
        let q = ap (symbol_or w.symbols) zero' ∙ h 0 (omega arith) in
        let one : IsTypeIn w n x = f 0 x (omega arith) in (
          record {
            signature = record { entry = omega arith; kind = λ z. let y : Projection ≡ Kind = sym (ap (λ (e : SymbolTree). e.kind) q) ∙ z in cc; types = rw q (record { args = All-cons (IsTypeIn w n) type [] type_in (All-nil (IsTypeIn w n)); result = one }) };
            kind = ap (λ (e : SymbolTree). e.kind) q;
            vars_are = ap (λ (e : SymbolTree). e.vars) q;
            args = ap (λ (e : SymbolTree). e.args) q;
            result = ap (λ (e : SymbolTree). e.result) q;
          },
          projections_valid fs (suc i) (p + 1) (λ j m. let z : p + 1 + j ≡ p + suc j = omega arith in ap (symbol_or w.symbols) z ∙ h (suc j) (omega arith)) (omega arith) (λ j d m. f (suc j) d (omega arith)),
        )

    pub tuple_valid : IsValidDecl w (tuple_declaration n k)
    tuple_valid =
        let t = type_at in
        let q = constructor_at in
        let count : length fields ≡ n = count_variables 0 n in
        let vars : (symbol_or w.symbols k).vars ≡ n = ap (λ (e : SymbolTree). e.vars) t in
        let p : AreProjections w k n fields (range_with_len (k + 2) (length fields)) =
        projections_valid fields 1 (k + 2) (λ j l. or_same (k + 2 + j) ∙ projection_is j (omega (arith, l, count))) (let z = there (c + n) long in omega (arith, z, count, next)) fields_in in
        let con : IsConstructorOf w k n (tuple_constructor n k) = record {
          signature = record { entry = there (k + 1) (omega (arith, long, next)); kind = λ z. let y : Constructor ≡ Kind = sym (ap (λ (e : SymbolTree). e.kind) q) ∙ z in cc; types = rw q (record { args = fields_in; result = type_in }) };
          kind = ap (λ (e : SymbolTree). e.kind) q;
          vars_are = ap (λ (e : SymbolTree). e.vars) q;
          args = ap (λ (e : SymbolTree). e.args) q;
          result = ap (λ (e : SymbolTree). e.result) q;
          projections = subst (λ (m : ℕ). AreProjections w k n fields (range_with_len (k + 2) m)) count p;
        } in
        let one : IsAlgebraic w (tuple_algebraic n k) = record {
          entry = record { entry = there k (omega (arith, long)); kind = ap (λ (e : SymbolTree). e.kind) t; types = rw t (record { args = All-nil (IsTypeIn w n); result = tt }) };
          cons = subst (λ (m : ℕ). All (IsConstructorOf w k m) (tuple_constructor n k ∷ [])) (sym vars) (All-cons (IsConstructorOf w k n) (tuple_constructor n k) [] con (All-nil (IsConstructorOf w k n)));
        } in
        All-cons (IsAlgebraic w) (tuple_algebraic n k) [] one (All-nil (IsAlgebraic w))

  -- ---- what its symbols are
  pub made_cases : (j : ℕ) → Contains (made (tuple_declaration n k ∷ [])) j → (j ≡ k) ⊎ ((j ≡ c) ⊎ ((i : ℕ) × (i < n) × (j ≡ k + 2 + i)))
  made_cases j h =
      let e = made_are in
      of j (contains_cases k j ((k + 1) ∷ range_with_len (k + 2) n) (subst (λ (xs : List ℕ). Contains xs j) e h))
    where
      range_cases : (a m j : ℕ) → Contains (range_with_len a m) j → (i : ℕ) × (i < m) × (j ≡ a + i)
      range_cases a zero j h = absurd (omega (arith, h.1))
      range_cases a (suc m) j h = more (contains_cases a j (range_with_len (a + 1) m) h) (λ z. range_cases (a + 1) m j z)
        where
          more : (j ≡ a) ⊎ Contains (range_with_len (a + 1) m) j → (Contains (range_with_len (a + 1) m) j → (i : ℕ) × (i < m) × (j ≡ a + 1 + i)) → (i : ℕ) × (i < suc m) × (j ≡ a + i)
          more (inl q) f = (0, omega arith, omega (arith, q))
          more (inr z) f = let r = f z in (suc r.0, omega (arith, r.1), omega (arith, r.2))

      of : (j : ℕ) → (j ≡ k) ⊎ Contains ((k + 1) ∷ range_with_len (k + 2) n) j → (j ≡ k) ⊎ ((j ≡ c) ⊎ ((i : ℕ) × (i < n) × (j ≡ k + 2 + i)))
      of j (inl q) = inl q
      of j (inr z) = inr (two (contains_cases (k + 1) j (range_with_len (k + 2) n) z))
        where
          two : (j ≡ k + 1) ⊎ Contains (range_with_len (k + 2) n) j → (j ≡ c) ⊎ ((i : ℕ) × (i < n) × (j ≡ k + 2 + i))
          two (inl q) = inl (q ∙ next)
          two (inr y) = inr (range_cases (k + 2) n j y)
