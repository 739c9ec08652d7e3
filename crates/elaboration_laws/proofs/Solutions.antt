-- From one solution by types to a solution by types over the signature, without unknowns; and the tree of a piece there.
use Rattle.std.proofs.Common.{◌≡◌, ℕ, suc, true, List, [], ◌∷◌, map, get_or, All, Option, Some, None, IfSome, option_map, refl, sym, ap, subst, ◌∙◌, arith}
use Rattle.std.specs.List.{AllByRecursion}
use Rattle.std.proofs.lemmas.List.Elements.{All-cons, All-nil}
use Rattle.elab_groups.specs.trees.Tree.{Tree, Leaf, One, Two, Three, Head, HTyVar}
use Rattle.elab_groups.specs.trees.Sorts.{int_type}
use Rattle.elab_groups.specs.trees.Facts.{IndicesFit}
use Rattle.elab_groups.specs.tasks.Vocabulary.{Vocabulary}
use Rattle.elab_groups.specs.tasks.Valid.{VariablesBelow, LeafBelow, IsTypeIn, IsFormulaOver}
use Rattle.elab_groups.proofs.tasks.Closing.{typed_sorted}
use Rattle.elab_groups.specs.open_types.unify_types.Assigned.{assign, leaf_assigned}
use Rattle.elab_groups.specs.open_types.unify_types.Pairs.{IsKind, SolvesAll}
use Rattle.elab_groups.proofs.open_types.unify_types.Assigning.{assign-assign, assign-rigid}
use Rattle.elab_groups.proofs.open_types.unify_types.SortedTypes.{kind_is_type}
use Rattle.elab_groups.specs.name_resolution.Abstract.{Expression}
use Rattle.elab_groups.specs.name_resolution.Where.{Where}
use Rattle.elab_groups.specs.open_types.Patterns.{LocalTree}
use Rattle.elab_groups.specs.open_types.Pieces.{piece}
use Rattle.elab_groups.specs.parts.Elaborated.{IsSolved, matches_assigned}
use Rattle.elaboration_laws.specs.Signature.{with_entries, IsWellFormed}
use Rattle.elaboration_laws.specs.Typed.{assigned_types, IsTypeOf, IsTypedAs, IsNamedExpression, local_types, AreTypedLocals, AreTypesIn, IsTypedIn, IsPatternOf, ArePatterns}
use Rattle.elaboration_laws.proofs.Over.{IsOver, sorted_over, over_good, over_assigned}
use Rattle.elaboration_laws.proofs.Fixed.{fixed, fixed_over, fixed_assigned, closed}
use Rattle.elaboration_laws.proofs.Forms.{TypedAs}
use Rattle.elaboration_laws.proofs.Signed.{int_over}
use Rattle.elaboration_laws.proofs.Sound.{IsPatternAt, ArePatternsAt, EquationsOver, LocalsOver, WantedOver}
use Rattle.elaboration_laws.proofs.Expressions.{sound}

leaf_same : (r : ℕ) (f : ℕ → Tree) (h : Head) → LeafBelow r h → leaf_assigned r f h ≡ Leaf h
leaf_same r f (HTyVar j) l = assign-rigid r f j l
leaf_same r f _ l = refl

-- a type of the declaration's own type variables is the same at each assignment
pub own_same : (r : ℕ) (f : ℕ → Tree) (e : Tree) → VariablesBelow r e → assign r f e ≡ e
own_same r f (Leaf h) l = leaf_same r f h l
own_same r f (One h a) l = ap (One h) (own_same r f a l)
own_same r f (Two h a b) l = cc (own_same r f a l.0, own_same r f b l.1)
own_same r f (Three h a b c) l = cc (own_same r f a l.0, own_same r f b l.1, own_same r f c l.2)

module _ (base : Vocabulary) (w : Where) (good : IsWellFormed base w) (r : ℕ) where
  abbrev v : Vocabulary
  v = with_entries base w.symbols

  ints : ℕ → Tree
  ints j = int_type

  module _ (f : ℕ → Tree) (kinds : (j : ℕ) → IsKind (f j)) where
    abbrev mended : ℕ → Tree
    mended j = fixed v (f j)

    abbrev pub kept : ℕ → Tree
    kept j = assign r (λ i. int_type) (mended j)

    pub kept_over : (j : ℕ) → IsOver v true (kept j)
    kept_over j = over_assigned v r (λ i. int_type) (λ i. int_over base w good) true (mended j) (fixed_over v (int_over base w good) true (f j) (kind_is_type (f j) (kinds j).0 (kinds j).1))

    pub kept_kind : (j : ℕ) → IsKind (kept j)
    kept_kind j = let x = over_good v true [] (kept j) (kept_over j) in (typed_sorted v [] (kept j) x.0.0, x.1)

    pub kept_closed : (j : ℕ) → VariablesBelow r (kept j)
    kept_closed j = closed r (λ i. int_type) (λ i. tt) (mended j)

    kept_assigned : (e : Tree) → IsOver v true e → assign r kept e ≡ assign r (λ i. int_type) (fixed v (assign r f e))
    kept_assigned e o = sym (assign-assign r (λ i. int_type) mended e) ∙ ap (assign r (λ i. int_type)) (sym (fixed_assigned v r f true e o))

    pub kept_solves : (es : List (Tree × Tree)) → EquationsOver v es → SolvesAll r f es → SolvesAll r kept es
    kept_solves [] h s = tt
    kept_solves (e ∷ es) h s =
        (kept_assigned e.0 h.0.0 ∙ ap (λ (x : Tree). assign r (λ i. int_type) (fixed v x)) s.0 ∙ sym (kept_assigned e.1 h.0.1), kept_solves es h.1 s.1)

  -- ---- types over the signature
  over_of : (t : Tree) → IsTypeOf v t → IsOver v true t
  over_of t x = sorted_over v t x.sort x.typed

  of_over : (t : Tree) → IsTypeIn v r t → IsTypeOf v t
  of_over t x = record { sort = x.sort; typed = x.typed }

  locals_over : (ls : List LocalTree) → All (λ (l : LocalTree). IsTypeOf v l.type) ls → LocalsOver v ls
  locals_over [] a = tt
  locals_over (l ∷ ls) a = (over_of l.type (a 0 l (omega arith)), locals_over ls (λ k d m. a (suc k) d (omega arith)))

  wanted_over : (t : Option Tree) → IfSome t (IsTypeOf v) → WantedOver v t
  wanted_over None x = tt
  wanted_over (Some t) x = over_of t x

  typed_as : (types : List Tree) (t : Option Tree) (e : Tree) → TypedAs v types t e → IsTypedAs v types t e
  typed_as types t e x = record { typed = x.0.0; sort = x.1.0; type = x.1.1; parameters = x.0.1 }

  -- ---- the law at each solution by types over the signature
  pub typed_at_solution : (ls : List LocalTree) (n : ℕ) (t : Option Tree) (e : Expression) (f : ℕ → Tree) → IsNamedExpression base w ls t e → AreTypedLocals v ls t → ((j : ℕ) → IsTypeOf v (f j))
      → SolvesAll r f (piece w ls n t e).notes.equations → IndicesFit (assign r f (piece w ls n t e).tree) → IsTypedAs v (assigned_types r f ls) (option_map (assign r f) t) (assign r f (piece w ls n t e).tree)
  typed_at_solution ls n t e f h a o s i =
      let p = piece w ls n t e in
      typed_as (assigned_types r f ls) (option_map (assign r f) t) (assign r f p.tree)
      ((sound base w good r e ls n t (locals_over ls a.variables) (wanted_over t a.wanted) h.tuples h.named).typed f (λ j. over_of (f j) (o j)) s i)

  -- ---- what the declaration's own type variables tell
  own_variables : (ls : List LocalTree) → All (λ (l : LocalTree). IsTypeIn v r l.type) ls → All (λ (l : LocalTree). IsTypeOf v l.type) ls
  own_variables ls a k d l = of_over (get_or ls k d).type (a k d l)

  own_wanted : (t : Option Tree) → IfSome t (IsTypeIn v r) → IfSome t (IsTypeOf v)
  own_wanted None x = tt
  own_wanted (Some t) x = of_over t x

  locals_same : (f : ℕ → Tree) (ls : List LocalTree) → All (λ (l : LocalTree). IsTypeIn v r l.type) ls → assigned_types r f ls ≡ local_types ls
  locals_same f [] a = refl
  locals_same f (l ∷ ls) a = let x : IsTypeIn v r l.type = a 0 l (omega arith) in cc (own_same r f l.type x.variables, locals_same f ls (λ k d m. a (suc k) d (omega arith)))

  wanted_same : (f : ℕ → Tree) (t : Option Tree) → IfSome t (IsTypeIn v r) → option_map (assign r f) t ≡ t
  wanted_same f None x = refl
  wanted_same f (Some t) x = ap (λ (z : Tree). Some z) (own_same r f t x.variables)

  -- the law of what is solved
  pub solved_typed : (ls : List LocalTree) (n : ℕ) (t : Option Tree) (e : Expression) (tree : Tree) (ms : List (ℕ × List Tree)) → IsNamedExpression base w ls t e → AreTypesIn v r ls t → IsSolved r (piece w ls n t e) tree ms → IndicesFit tree → IsTypedIn v r (local_types ls) t tree
  solved_typed ls n t e tree ms h a s i =
      let p = piece w ls n t e in
      let x = sound base w good r e ls n t (locals_over ls (own_variables ls a.variables)) (wanted_over t (own_wanted t a.wanted)) h.tuples h.named in
      let f = s.determined.solvable.0 in
      let solution = s.determined.solvable.1 in
      let g = kept f solution.types in
      let solves = kept_solves f solution.types p.notes.equations x.notes.equations solution.solves in
      let same : assign r g p.tree ≡ tree = s.tree g (record { types = kept_kind f solution.types; solves = solves }) in
      let y : TypedAs v (assigned_types r g ls) (option_map (assign r g) t) (assign r g p.tree) = x.typed g (kept_over f solution.types) solves (rw same i) in
      let z : TypedAs v (local_types ls) t tree = rw (sym (locals_same g ls a.variables), sym (wanted_same g t a.wanted), sym same) y in
      record { typed = typed_as (local_types ls) t tree z; variables = subst (VariablesBelow r) same (closed r g (kept_closed f solution.types) p.tree) }

  -- ---- the law of matches
  as_patterns : (t : Tree) (es : List Tree) → AllByRecursion (IsPatternAt base w r t) es → All (IsPatternOf v t) es
  as_patterns t [] h = All-nil (IsPatternOf v t)
  as_patterns t (e ∷ es) h = All-cons (IsPatternOf v t) e es (record { typed = h.0.0.0; sort = h.0.1; type = h.0.2; parameters = h.0.0.1 }) (as_patterns t es h.1)

  as_matches : (f : ℕ → Tree) (ms : List (ℕ × List Tree)) → AllByRecursion (λ (m : ℕ × List Tree). ArePatternsAt base w r f m.1) ms → All (λ (m : ℕ × List Tree). ArePatterns v m.1) (matches_assigned r f ms)
  as_matches f [] h = All-nil (λ (m : ℕ × List Tree). ArePatterns v m.1)
  as_matches f (m ∷ ms) h =
      let x = over_good v true [] h.0.0 h.0.1 in
      All-cons (λ (m : ℕ × List Tree). ArePatterns v m.1) (m.0, map (assign r f) m.1) (matches_assigned r f ms)
      (record { type = h.0.0; over = record { sort = x.1; typed = x.0.0 }; patterns = as_patterns h.0.0 (map (assign r f) m.1) h.0.2 }) (as_matches f ms h.1)

  pub matches_typed : (ls : List LocalTree) (n : ℕ) (t : Option Tree) (e : Expression) (tree : Tree) (ms : List (ℕ × List Tree)) → IsNamedExpression base w ls t e → AreTypedLocals v ls t → IsSolved r (piece w ls n t e) tree ms → All (λ (m : ℕ × List Tree). ArePatterns v m.1) ms
  matches_typed ls n t e tree ms h a s =
      let p = piece w ls n t e in
      let x = sound base w good r e ls n t (locals_over ls a.variables) (wanted_over t a.wanted) h.tuples h.named in
      let f = s.determined.solvable.0 in
      let solution = s.determined.solvable.1 in
      let g = kept f solution.types in
      let solves = kept_solves f solution.types p.notes.equations x.notes.equations solution.solves in
      subst (λ (z : List (ℕ × List Tree)). All (λ (m : ℕ × List Tree). ArePatterns v m.1) z) (s.matches g (record { types = kept_kind f solution.types; solves = solves }))
      (as_matches g p.notes.matches (x.notes.matches g (kept_over f solution.types) solves))

  -- of a proposition
  pub solved_formula : (n : ℕ) (e : Expression) (tree : Tree) (ms : List (ℕ × List Tree)) → IsNamedExpression base w [] None e → IsSolved r (piece w [] n None e) tree ms → IndicesFit tree → IsFormulaOver v [] r tree
  solved_formula n e tree ms h s i =
      let x = solved_typed [] n None e tree ms h (record { variables = λ k d l. absurd (omega arith); wanted = tt }) s i in
      record { sort = x.typed.sort; typed = x.typed.typed; parameters = x.typed.parameters; variables = x.variables }
