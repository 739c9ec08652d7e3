-- The propositions of a task with laws, by their origins.
use Rattle.std.specs.List.{flat_map, Contains}
use Rattle.std.proofs.Common.{inl, inr, ◌≡◌, ℕ, ◌+◌, zero, suc, List, [], ◌∷◌, ◌++◌, length, map, slice_get, Some, None, refl, sym, ap, subst, ◌∙◌, arith, append_assoc}
use Rattle.std.proofs.lemmas.List.{map-append, append-nil}
use Rattle.std.proofs.lemmas.List.Elements.{Contains-append_cases}
use Rattle.tasks.specs.trees.Tree.{Tree}
use Rattle.tasks.specs.Task.{SymbolTree, AlgebraicTree, BodyTree, MakesType, Makes, Defines, Induces, Constructs, Says, DeclarationTree, PropositionTree, TaskTree, props, props_of, said_by, made_by_cons}
use Rattle.tasks.specs.Facts.{said_in}
use Rattle.declarations.proofs.Places.{slice_left, slice_right}
use Rattle.declarations.specs.spelled_groups.Spelled.{as_symbol}
use Rattle.evidence.specs.changed_tasks.Changed.{with_formula, changed_declarations, changed_task}
use Rattle.tr_algebraic.specs.declared.algebraic_forms.origins.LawKind.{LawKind}
use Rattle.tr_algebraic.specs.algebraic_forms.Groups.{LawTree, group_laws, group_symbols, group_place, as_law, algebraic_rule}
use Rattle.tr_algebraic.specs.algebraic_forms.Search.{kinds_of_laws}
use Rattle.tr_algebraic.specs.declared.algebraic_tasks.origins.PropositionOrigin.{PropositionOrigin}
use Rattle.tr_algebraic.specs.declared.algebraic_tasks.origins.PropositionOrigin.TheVariants.{Proposition, Law}
use Rattle.tr_algebraic.specs.algebraic_tasks.Plain.{task_with_laws}
use Rattle.tr_algebraic.specs.algebraic_tasks.Origins.{PlacedTree, law_says, placed_law, placed_by, placed_from, origins, says_after, IsLawThere, ComesFrom}
use Rattle.evidence.proofs.FactNames.{props_append}

abbrev after : (Tree → Tree) → PlacedTree → PropositionTree
after g x = says_after g x.origin x.says

module _ (symbols : List SymbolTree) (g : Tree → Tree) where
  -- ---- what is put in the place of a declaration says
  symbols_say : (d : DeclarationTree) (ks : List ℕ) → props_of (map (as_symbol symbols d) ks) ≡ []
  symbols_say d [] = refl
  symbols_say d (k ∷ ks) = symbols_say d ks

  types_say : (d : DeclarationTree) (ts : List AlgebraicTree) → props_of (group_symbols symbols d ts) ≡ []
  types_say d [] = refl
  types_say d (a ∷ ts) =
      let xs = map (as_symbol symbols d) (made_by_cons a.cons) in
      props_append xs (group_symbols symbols d ts) ∙ ap (λ (z : List PropositionTree). z ++ props_of (group_symbols symbols d ts)) (symbols_say d (made_by_cons a.cons)) ∙ types_say d ts

  laws_say : (d : DeclarationTree) (xs : List LawTree) → props_of (map (as_law d) xs) ≡ map (after g) (map placed_law xs)
  laws_say d [] = refl
  laws_say d (x ∷ xs) = ap (λ (z : List PropositionTree). law_says x ∷ z) (laws_say d xs)

  none_say : (d : DeclarationTree) (b : BodyTree) → d.body ≡ b → said_by d b ≡ [] → props_of (d ∷ []) ≡ []
  none_say d b q e = append-nil (said_by d d.body) ∙ ap (said_by d) q ∙ e

  -- by its body, after its formula has become another
  place_says : (n : ℕ) (d : DeclarationTree) (b : BodyTree) → d.body ≡ b → props_of (algebraic_rule symbols (with_formula g d b)) ≡ map (after g) (placed_by symbols n d b)
  place_says n d (Says a) q = refl
  place_says n d (Constructs ts) q =
      let xs = map (as_law d) (group_laws symbols ts) in
      ap (λ (z : BodyTree). props_of (group_place symbols d z)) q ∙ props_append (group_symbols symbols d ts) xs ∙ ap (λ (z : List PropositionTree). z ++ props_of xs) (types_say d ts) ∙ laws_say d (group_laws symbols ts)
  place_says n d (MakesType k) q = ap (λ (z : BodyTree). props_of (group_place symbols d z)) q ∙ none_say d (MakesType k) q refl
  place_says n d (Makes k) q = ap (λ (z : BodyTree). props_of (group_place symbols d z)) q ∙ none_say d (Makes k) q refl
  place_says n d (Defines ds) q = ap (λ (z : BodyTree). props_of (group_place symbols d z)) q ∙ none_say d (Defines ds) q refl
  place_says n d (Induces is) q = ap (λ (z : BodyTree). props_of (group_place symbols d z)) q ∙ none_say d (Induces is) q refl

  -- the propositions, in order
  all_say : (n : ℕ) (ds : List DeclarationTree) → props_of (flat_map (algebraic_rule symbols) (changed_declarations g ds)) ≡ map (after g) (placed_from symbols n ds)
  all_say n [] = refl
  all_say n (d ∷ ds) =
      props_append (algebraic_rule symbols (with_formula g d d.body)) (flat_map (algebraic_rule symbols) (changed_declarations g ds))
      ∙ ap (λ (z : List PropositionTree). z ++ props_of (flat_map (algebraic_rule symbols) (changed_declarations g ds))) (place_says n d d.body refl)
      ∙ ap (λ (z : List PropositionTree). map (after g) (placed_by symbols n d d.body) ++ z) (all_say (n + said_in d.body) ds)
      ∙ sym (map-append (after g) (placed_by symbols n d d.body) (placed_from symbols (n + said_in d.body) ds))

-- ---- what is at a place
record IsPlacedAt (xs : List PlacedTree) (k : ℕ) (x : PlacedTree) (g : Tree → Tree) (p : PropositionTree) : Type 0 where
  there : Contains xs x
  origin : slice_get (origins xs) k ≡ Some x.origin
  says : p ≡ after g x

at_place : (g : Tree → Tree) (xs : List PlacedTree) (k : ℕ) (p : PropositionTree) → slice_get (map (after g) xs) k ≡ Some p → (x : PlacedTree) × IsPlacedAt xs k x g p
at_place g [] k p e = absurd (cc)
at_place g (x ∷ xs) zero p e = (x, record { there = (0, omega arith, refl); origin = refl; says = cc })
at_place g (x ∷ xs) (suc k) p e =
    let r = at_place g xs k p e in
    let l = r.1.there.1 in
    (r.0, record { there = (suc r.1.there.0, omega arith, r.1.there.2); origin = r.1.origin; says = r.1.says })

-- ---- where it comes from
module _ (symbols : List SymbolTree) (all_decls : List DeclarationTree) (all_props : List PropositionTree) where
  -- what is listed comes from a proposition of these, or is a law of a group among these declarations
  abbrev IsOf : PropositionOrigin → PropositionTree → Type 0
  IsOf (Proposition n) p = slice_get all_props n ≡ Some p
  IsOf (Law kind) p = IsLawThere symbols all_decls kind p

  law_of : (d : DeclarationTree) → Contains all_decls d → (ts : List AlgebraicTree) → d.body ≡ Constructs ts → (done xs : List LawTree) → done ++ xs ≡ group_laws symbols ts → (x : PlacedTree) → Contains (map placed_law xs) x → IsOf x.origin x.says
  law_of d c ts q done [] e x h = absurd (omega (arith, h.1))
  law_of d c ts q done (l ∷ xs) e x (zero, m, r) =
      subst (λ (z : PlacedTree). IsOf z.origin z.says) r (record { decl = d; there = c; types = ts; body = q; law = l; among = subst (λ (z : List LawTree). Contains z l) e (in_middle done); kind_is = refl; says = refl })
    where
      in_middle : (ys : List LawTree) → Contains (ys ++ l ∷ xs) l
      in_middle [] = (0, omega arith, refl)
      in_middle (y ∷ ys) = let m = in_middle ys in let n = m.1 in (suc m.0, omega arith, m.2)
  law_of d c ts q done (l ∷ xs) e x (suc k, m, r) = law_of d c ts q (done ++ l ∷ []) xs (append_assoc done (l ∷ []) xs ∙ e) x (k, omega (arith, m), r)

  by_body : (n : ℕ) (d : DeclarationTree) → Contains all_decls d → (b : BodyTree) → d.body ≡ b → (ps : List PropositionTree) → ((j : ℕ) (p : PropositionTree) → slice_get (said_by d b ++ ps) j ≡ Some p → slice_get all_props (n + j) ≡ Some p)
      → (x : PlacedTree) → Contains (placed_by symbols n d b) x → IsOf x.origin x.says
  by_body n d c (Says a) q ps f x (zero, m, r) =
      let first : slice_get all_props n ≡ Some (record { vars = d.vars; formula = a }) = subst (λ (j : ℕ). slice_get all_props j ≡ Some (record { vars = d.vars; formula = a })) (omega arith) (f 0 (record { vars = d.vars; formula = a }) refl) in
      subst (λ (z : PlacedTree). IsOf z.origin z.says) r first
  by_body n d c (Says a) q ps f x (suc k, m, r) = absurd (omega (arith, m))
  by_body n d c (Constructs ts) q ps f x h = law_of d c ts q [] (group_laws symbols ts) refl x h
  by_body n d c (MakesType k) q ps f x h = absurd (omega (arith, h.1))
  by_body n d c (Makes k) q ps f x h = absurd (omega (arith, h.1))
  by_body n d c (Defines ds) q ps f x h = absurd (omega (arith, h.1))
  by_body n d c (Induces is) q ps f x h = absurd (omega (arith, h.1))

  after_body : (d : DeclarationTree) (b : BodyTree) (n j : ℕ) (ps : List PropositionTree) (p : PropositionTree) → ((i : ℕ) → slice_get (said_by d b ++ ps) i ≡ Some p → slice_get all_props (n + i) ≡ Some p) → slice_get ps j ≡ Some p → slice_get all_props ((n + said_in b) + j) ≡ Some p
  after_body d (Says a) n j ps p f e = subst (λ (i : ℕ). slice_get all_props i ≡ Some p) (omega arith) (f (suc j) e)
  after_body d (MakesType k) n j ps p f e = subst (λ (i : ℕ). slice_get all_props i ≡ Some p) (omega arith) (f j e)
  after_body d (Makes k) n j ps p f e = subst (λ (i : ℕ). slice_get all_props i ≡ Some p) (omega arith) (f j e)
  after_body d (Defines ds) n j ps p f e = subst (λ (i : ℕ). slice_get all_props i ≡ Some p) (omega arith) (f j e)
  after_body d (Induces is) n j ps p f e = subst (λ (i : ℕ). slice_get all_props i ≡ Some p) (omega arith) (f j e)
  after_body d (Constructs ts) n j ps p f e = subst (λ (i : ℕ). slice_get all_props i ≡ Some p) (omega arith) (f j e)

  all_from : (n : ℕ) (ds : List DeclarationTree) → ((d : DeclarationTree) → Contains ds d → Contains all_decls d) → ((j : ℕ) (p : PropositionTree) → slice_get (props_of ds) j ≡ Some p → slice_get all_props (n + j) ≡ Some p)
      → (x : PlacedTree) → Contains (placed_from symbols n ds) x → IsOf x.origin x.says
  all_from n [] c f x h = absurd (omega (arith, h.1))
  all_from n (d ∷ ds) c f x h = elim (Contains-append_cases (placed_by symbols n d d.body) (placed_from symbols (n + said_in d.body) ds) x h) [
    | inl k ↦ by_body n d (c d ((0, omega arith, refl))) d.body refl (props_of ds) f x k
    | inr k ↦ all_from (n + said_in d.body) ds (λ y m. c y (let n = m.1 in (suc m.0, omega arith, m.2))) (λ j p e. after_body d d.body n j (props_of ds) p (λ i. f i p) e) x k
  ]

from_origin : (t : TaskTree) (g : Tree → Tree) (o : PropositionOrigin) (old p : PropositionTree) → IsOf t.symbols t.decls (props t) o old → p ≡ says_after g o old → ComesFrom t g o p
from_origin t g (Proposition n) old p h e = (old, h, e)
from_origin t g (Law kind) old p h e = subst (IsLawThere t.symbols t.decls kind) (sym e) h

-- A proposition of the task with laws comes from where the list says.
pub proposition_from : (t : TaskTree) (g : Tree → Tree) (k : ℕ) (o : PropositionOrigin) (p : PropositionTree) → slice_get (props (task_with_laws (changed_task g t))) k ≡ Some p → slice_get (origins (placed_from t.symbols 0 t.decls)) k ≡ Some o → ComesFrom t g o p
proposition_from t g k o p e q =
    let xs = placed_from t.symbols 0 t.decls in
    let r = at_place g xs k p (ap (λ (ps : List PropositionTree). slice_get ps k) (sym (all_say t.symbols g 0 t.decls)) ∙ e) in
    let same : r.0.origin ≡ o = let both : Some r.0.origin ≡ Some o = sym r.1.origin ∙ q in cc in
    from_origin t g o r.0.says p (subst (λ (z : PropositionOrigin). IsOf t.symbols t.decls (props t) z r.0.says) same (all_from t.symbols t.decls (props t) 0 t.decls (λ d c. c) (λ j p e. subst (λ (i : ℕ). slice_get (props t) i ≡ Some p) (omega arith) e) r.0 r.1.there)) (r.1.says ∙ ap (λ (z : PropositionOrigin). says_after g z r.0.says) same)

-- and each has a place in it
pub proposition_listed : (t : TaskTree) (g : Tree → Tree) (k : ℕ) (p : PropositionTree) → slice_get (props (task_with_laws (changed_task g t))) k ≡ Some p → slice_get (origins (placed_from t.symbols 0 t.decls)) k ≡ None → ⊥
proposition_listed t g k p e q =
    let xs = placed_from t.symbols 0 t.decls in
    let r = at_place g xs k p (ap (λ (ps : List PropositionTree). slice_get ps k) (sym (all_say t.symbols g 0 t.decls)) ∙ e) in
    let both : Some r.0.origin ≡ None = sym r.1.origin ∙ q in cc

-- ---- a place that is looked for in lists one after another
module _ (symbols : List SymbolTree) (n : ℕ) (d : DeclarationTree) (ds : List DeclarationTree) (k : ℕ) where
  abbrev own : List PropositionOrigin
  own = origins (placed_by symbols n d d.body)

  abbrev later : ℕ → List PropositionOrigin
  later m = origins (placed_from symbols m ds)

  joined : origins (placed_from symbols n (d ∷ ds)) ≡ own ++ later (n + said_in d.body)
  joined = map-append (λ (x : PlacedTree). x.origin) (placed_by symbols n d d.body) (placed_from symbols (n + said_in d.body) ds)

  pub origin_here : (o : PropositionOrigin) → slice_get own k ≡ Some o → Some o ≡ slice_get (origins (placed_from symbols n (d ∷ ds))) k
  origin_here o e = sym (slice_left own (later (n + said_in d.body)) (origins (placed_from symbols n (d ∷ ds))) k o joined e)

  pub origin_after : (left next : ℕ) → length own + left ≡ k → next ≡ n + said_in d.body → slice_get (later next) left ≡ slice_get (origins (placed_from symbols n (d ∷ ds))) k
  origin_after left next e q = ap (λ (m : ℕ). slice_get (later m) left) q ∙ sym (ap (λ (z : List PropositionOrigin). slice_get z k) joined ∙ slice_right own (later (n + said_in d.body)) k left e)

-- the laws of a group, by their kinds
law_origins : (xs : List LawTree) → origins (map placed_law xs) ≡ map (λ (kind : LawKind). Law kind) (kinds_of_laws xs)
law_origins [] = refl
law_origins (x ∷ xs) = ap (λ (z : List PropositionOrigin). Law x.kind ∷ z) (law_origins xs)

kind_at : (ks : List LawKind) (k : ℕ) (kind : LawKind) → slice_get ks k ≡ Some kind → slice_get (map (λ (z : LawKind). Law z) ks) k ≡ Some (Law kind)
kind_at [] k kind e = absurd (cc)
kind_at (z ∷ ks) zero kind e = let q : z ≡ kind = cc in ap (λ (y : LawKind). Some (Law y)) q
kind_at (z ∷ ks) (suc k) kind e = kind_at ks k kind e

count_kinds : (ks : List LawKind) → length (map (λ (z : LawKind). Law z) ks) ≡ length ks
count_kinds [] = refl
count_kinds (z ∷ ks) = omega (arith, count_kinds ks)

pub law_here : (xs : List LawTree) (k : ℕ) (kind : LawKind) → slice_get (kinds_of_laws xs) k ≡ Some kind → slice_get (origins (map placed_law xs)) k ≡ Some (Law kind)
law_here xs k kind e = ap (λ (z : List PropositionOrigin). slice_get z k) (law_origins xs) ∙ kind_at (kinds_of_laws xs) k kind e

pub laws_before : (xs : List LawTree) (k left : ℕ) → length (kinds_of_laws xs) + left ≡ k → length (origins (map placed_law xs)) + left ≡ k
laws_before xs k left e = omega (arith, e, ap length (law_origins xs), count_kinds (kinds_of_laws xs))
