-- The fields of a term of an algebraic type, and the constructor on them, are typed in a valid task.
use Rattle.std.proofs.Common.{◌≡◌, ℕ, ◌==◌, Bool, true, false, inl, inr, IsSomeAnd, List, [], ◌∷◌, map, length, get_or, Contains, Option, Some, option_map, if◌then◌else◌, subst, refl, sym, ap, ◌∙◌, arith}
use Rattle.std.proofs.lemmas.Bool.Decides.{nat_tests}
use Rattle.std.proofs.lemmas.Option.{slice_get-get_or}
use Rattle.trees.specs.declared.Sort.{Sort}
use Rattle.trees.specs.declared.Sort.TheVariants.{Kind, Term}
use Rattle.trees.specs.declared.Sort.TheVariants as sort
use Rattle.trees.specs.Tree.{Tree, Leaf, Two, HEnd, HEq, loose}
use Rattle.trees.specs.Binding.{inst_types, TyVar}
use Rattle.trees.specs.Sorts.{sort_of, type_of, first_sort, IsListOf, IsList}
use Rattle.trees.specs.Facts.{Each}
use Rattle.tasks.specs.Task.{SymbolTree, int_symbol, ConstructorTree, TaskTree, made, symbol_or}
use Rattle.tasks.specs.Vocabulary.{Vocabulary, of_task}
use Rattle.tasks.specs.Typing.{members, MakesTerms, IsUse, HasResult, TypedUnder}
use Rattle.tasks.specs.Equations.{cells}
use Rattle.tasks.specs.MatchTests.{result_at, apply_list, field, fields, rebuilt}
use Rattle.tasks.specs.Valid.{IsTypeIn, IsSignatureOf, IsProjectionOf, AreProjections, IsConstructorOf, own_type}
use Rattle.tasks.proofs.Declared.{contains_step, made_usable}
use Rattle.images.specs.PatternTerms.{HasClosedResult}
use Rattle.images.proofs.Constructors.{result_type, entry_result}
use Rattle.images.proofs.TypesAt.{IsTypeHere, member_type, type_here, sort_at_types}

-- the result of a symbol at types
pub result_is : (r types : Tree) → loose r ≡ 0 → result_at (Some r) types ≡ inst_types r (members types)
result_is r types l = by (loose r == 0) refl
  where
    by : (b : Bool) → (loose r == 0) ≡ b → (if b then inst_types r (members types) else Leaf HEnd) ≡ inst_types r (members types)
    by true q = refl
    by false q = absurd (grind (arith, nat_tests))

pub closed_result_is : (t : TaskTree) (k : ℕ) (types : Tree) (h : HasClosedResult t k) → result_at (symbol_or t.symbols k).result types ≡ inst_types h.result (members types)
closed_result_is t k types h = ap (λ (o : Option Tree). result_at o types) h.is ∙ result_is h.result types h.closed

-- a term under binders of these types
abbrev pub IsTermUnder : Vocabulary → List Tree → Tree → Type 0
IsTermUnder v types s = (sort_of s ≡ Term) × TypedUnder v types s

-- ---- lists of terms
module _ (v : Vocabulary) (types : List Tree) where
  pub cells_list : (ss : List Tree) → Each (IsTermUnder v types) ss → IsList Term (cells ss)
  cells_list [] e = (refl, inl refl)
  cells_list (s ∷ ss) e = (refl, inr (ap Some e.0.0))

  pub cells_typed : (ss : List Tree) → Each (IsTermUnder v types) ss → TypedUnder v types (cells ss)
  cells_typed [] e = (tt, tt)
  cells_typed (s ∷ ss) e = (
    (((λ q. let z : Term ≡ sort.List = sym e.0.0 ∙ q in cc), subst (λ (k : Sort). IsListOf k (sort_of (cells ss)) (first_sort (cells ss))) (sym e.0.0) (cells_list ss e.1)), tt),
    tt,
    e.0.1,
    cells_typed ss e.1,
  )

pub cells_members : (ss : List Tree) → members (cells ss) ≡ ss
cells_members [] = refl
cells_members (s ∷ ss) = ap (λ (z : List Tree). s ∷ z) (cells_members ss)

module _ (t : TaskTree) (types : List Tree) where
  abbrev v : Vocabulary
  v = of_task t

  -- ---- a symbol at types on arguments
  module _ (a : Tree) (l : IsList Kind a) (x : TypedUnder (of_task t) types a) where
    each_type : (j : ℕ) → IsTypeHere (of_task t) (get_or (members a) j (TyVar j))
    each_type j = member_type (of_task t) types a l x j (TyVar j) (refl, (tt, tt))

    pub result_typed : (r : Tree) → sort_of r ≡ Kind → TypedUnder (of_task t) [] r → (sort_of (inst_types r (members a)) ≡ Kind) × TypedUnder (of_task t) types (inst_types r (members a))
    result_typed r k y = (sort_at_types (of_task t) (members a) each_type r ∙ k, type_here (of_task t) (members a) each_type types r k y)

    pub apply_typed : (k : ℕ) (args r : Tree) → Contains (made t.decls) k → IsSignatureOf (of_task t) k → MakesTerms (symbol_or t.symbols k).kind → (symbol_or t.symbols k).result ≡ Some r
        → length (members a) ≡ (symbol_or t.symbols k).vars → IsList Term args → TypedUnder (of_task t) types args
        → map type_of (members args) ≡ map (λ z. Some (inst_types z (members a))) (symbol_or t.symbols k).args
        → TypedUnder (of_task t) types (apply_list t k a args) × (type_of (apply_list t k a args) ≡ Some (inst_types r (members a)))
    apply_typed k args r c s m q n la y f =
        let h : HasClosedResult t k = entry_result t k r s q in
        let o : IsTypeIn (of_task t) (symbol_or t.symbols k).vars r = result_type t k r s q in
        let e : result_at (symbol_or t.symbols k).result a ≡ inst_types r (members a) = ap (λ (o : Option Tree). result_at o a) q ∙ result_is r a (closed_by h r q) in
        let w = result_typed r o.sort o.typed in
        let used : IsUse (symbol_or t.symbols k) a args = record { as_many = n; fit = f } in
        let gives : HasResult (symbol_or t.symbols k) a (result_at (symbol_or t.symbols k).result a) = ap (option_map (λ (z : Tree). inst_types z (members a))) q ∙ ap (λ (z : Tree). Some z) (sym e) in (
          (
            (l, la, ap sort_of e ∙ w.0),
            (
              made_usable t k (contains_step 0 k (made t.decls) (inr c)),
              subst (λ (o : Option SymbolTree). IsSomeAnd o (λ z. MakesTerms z.kind × IsUse z a args × HasResult z a (result_at (symbol_or t.symbols k).result a))) (sym (slice_get-get_or t.symbols k int_symbol s.entry)) (m, used, gives),
            ),
            x,
            y,
            subst (TypedUnder (of_task t) types) (sym e) w.1,
          ),
          ap (λ (z : Tree). Some z) e,
        )
      where
        closed_by : (h : HasClosedResult t k) (r : Tree) → (symbol_or t.symbols k).result ≡ Some r → loose r ≡ 0
        closed_by h r q = let z : h.result ≡ r = (let i : Some h.result ≡ Some r = sym h.is ∙ q in cc) in ap loose (sym z) ∙ h.closed

    -- ---- the fields of a term, and the constructor on them
    module _ (type vars : ℕ) (s : Tree) (n : length (members a) ≡ vars) (term : IsTermUnder (of_task t) types s) (typed : type_of s ≡ Some (inst_types (own_type type vars) (members a))) where
      field_typed : (j : ℕ) (f : Tree) → Contains (made t.decls) j → IsProjectionOf (of_task t) type vars f j → IsTermUnder (of_task t) types (field t j a s) × (type_of (field t j a s) ≡ Some (inst_types f (members a)))
      field_typed j f c p =
          let r = apply_typed j (cells (s ∷ [])) f c p.signature (subst MakesTerms (sym p.kind) tt) p.result (n ∙ sym p.vars_are) (cells_list (of_task t) types (s ∷ []) (term, tt)) (cells_typed (of_task t) types (s ∷ []) (term, tt))
          (ap (λ (o : Option Tree). o ∷ []) typed ∙ ap (map (λ (z : Tree). Some (inst_types z (members a)))) (sym p.args)) in
          ((refl, r.0), r.1)

      pub fields_typed : (fs : List Tree) (js : List ℕ) → AreProjections (of_task t) type vars fs js → ((j : ℕ) → Contains js j → Contains (made t.decls) j)
          → Each (IsTermUnder (of_task t) types) (fields t js a s) × (map type_of (fields t js a s) ≡ map (λ z. Some (inst_types z (members a))) fs)
      fields_typed [] [] p m = (tt, refl)
      fields_typed (f ∷ fs) (j ∷ js) p m =
          let here = field_typed j f (m j (contains_step j j js (inl refl))) p.0 in
          let more = fields_typed fs js p.1 (λ i c. m i (contains_step j i js (inr c))) in
          ((here.0, more.0), cc (here.1, more.1))
      fields_typed [] (j ∷ js) p m = absurd p
      fields_typed (f ∷ fs) [] p m = absurd p

      module _ (c : ConstructorTree) (is : IsConstructorOf (of_task t) type vars c) (among : (j : ℕ) → Contains (c.symbol ∷ c.projections) j → Contains (made t.decls) j) where
        con_fields : Each (IsTermUnder (of_task t) types) (fields t c.projections a s) × (map type_of (fields t c.projections a s) ≡ map (λ z. Some (inst_types z (members a))) c.fields)
        con_fields = fields_typed c.fields c.projections is.projections (λ j x. among j (contains_step c.symbol j c.projections (inr x)))

        pub con_fields_typed : Each (IsTermUnder (of_task t) types) (fields t c.projections a s)
        con_fields_typed = con_fields.0

        pub con_fields_types : map type_of (fields t c.projections a s) ≡ map (λ z. Some (inst_types z (members a))) c.fields
        con_fields_types = con_fields.1

        pub rebuilt_typed : TypedUnder (of_task t) types (rebuilt t c.symbol c.projections a s) × (type_of (rebuilt t c.symbol c.projections a s) ≡ type_of s)
        rebuilt_typed =
            let ss : List Tree = fields t c.projections a s in
            let r = apply_typed c.symbol (cells ss) (own_type type vars) (among c.symbol (contains_step c.symbol c.symbol c.projections (inl refl))) is.signature (subst MakesTerms (sym is.kind) tt) is.result (n ∙ sym is.vars_are)
            (cells_list (of_task t) types ss con_fields.0) (cells_typed (of_task t) types ss con_fields.0)
            (ap (map type_of) (cells_members ss) ∙ con_fields.1 ∙ ap (map (λ (z : Tree). Some (inst_types z (members a)))) (sym is.args)) in
            (r.0, r.1 ∙ sym typed)

        -- the equation of a pattern's test
        pub equation_typed : TypedUnder (of_task t) types (Two HEq s (rebuilt t c.symbol c.projections a s))
        equation_typed = let r = rebuilt_typed in (((term.0, refl), tt), sym r.1, term.1, r.0)
