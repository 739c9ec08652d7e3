-- The map of a clone takes type symbols to type symbols, or to types, of the signature with the copies' entries.
use Rattle.std.proofs.Common.{◌≡◌, ◌⊎◌, inl, inr, ℕ, ◌+◌, ◌==◌, ◌&&◌, if◌then◌else◌, Bool, true, false, zero, suc, List, [], ◌∷◌, ◌++◌, map, length, slice_get, All, Option, Some, None, IfSome, IsSomeAnd, IsTrue, refl, sym, ap, subst, ◌∙◌, arith}
use Rattle.std.specs.List.{Contains}
use Rattle.std.specs.Option.{is_none}
use Rattle.std.proofs.lemmas.Bool.Decides.{nat_tests}
use Rattle.std.proofs.lemmas.List.Elements.{All-nil, All-cons, All-head, All-tail, Contains-append_cases}
use Rattle.elab_groups.specs.trees.Tree.{Tree}
use Rattle.elab_groups.specs.tasks.declared.signature.SymbolKind.TheVariants.{Kind}
use Rattle.elab_groups.specs.tasks.Task.{SymbolTree, symbol_or}
use Rattle.elab_groups.specs.tasks.Vocabulary.{Vocabulary, of_signature, is_empty}
use Rattle.elab_groups.specs.tasks.Typing.{IsRigid, IsTypeSymbol}
use Rattle.elab_groups.specs.tasks.Valid.{IsTypeIn}
use Rattle.elab_groups.specs.surface.Lexeme.{Word}
use Rattle.elab_groups.specs.surface.Declarations.{Element, type_element, symbol_element, prop_element, all_axioms}
use Rattle.clones.specs.Mapped.{Map}
use Rattle.clones.specs.Copies.{entry_copied}
use Rattle.elab_groups.specs.parts.Outcomes.{Setting}
use Rattle.elaboration_laws.specs.Scopes.{IsSubvocabulary}
use Rattle.elaboration_laws.proofs.Extended.{type_more}
use Rattle.elaboration_laws.specs.Valid.{IsTypedSetting}
use Rattle.clones.specs.clone_elements.Left.{Origin, symbol_at_place, called_text, last_place}
use Rattle.clones.specs.clone_elements.Rights.{RightTree, type_right, symbol_right, no_right, right_tuples, rights_fault}
use Rattle.clones.specs.clone_elements.Replacements.{SideTree, PlacedEffects, no_effects, with_side, effects_of, type_with, type_for, replaced_types, types_replaced, symbol_for, symbols_replaced, kept, clone_map, sides_made}
use Rattle.elaboration_laws.specs.Morphisms.{TypeBecomes, MapsTypes}
use Rattle.elaboration_laws.specs.Sides.{IsTypedRight, IsTypedSide, with_rights, left_sides_at, with_copies}
use Rattle.elaboration_laws.proofs.Numbers.{symbol_of, type_of}
use Rattle.elaboration_laws.proofs.Lefts.{IsOther, named_other}
use Rattle.elaboration_laws.proofs.Rights.{entries_more, rights_typed}
use Rattle.elaboration_laws.proofs.Begun.{slice_or as or_at}
use Rattle.elaboration_laws.proofs.Places.{cases_of, none_here}

-- ---- lists

pub only_here : {X : Type 0} (y x : X) → Contains (y ∷ []) x → y ≡ x
only_here y x c = of (cases_of y x [] c)
  where
    of : (y ≡ x) ⊎ Contains [] x → y ≡ x
    of (inl e) = e
    of (inr n) = absurd (none_here x n)

pub following : (xs ys : List SymbolTree) (i n : ℕ) → n ≡ length xs + i → slice_get (xs ++ ys) n ≡ slice_get ys i
following [] ys i n q = ap (slice_get ys) (omega (arith, q))
following (x ∷ xs) ys i zero q = absurd (omega (arith, q))
following (x ∷ xs) ys i (suc n) q = following xs ys i n (omega (arith, q))

pub copied_at : (f : ℕ → SymbolTree) (ks : List ℕ) (i k : ℕ) → slice_get ks i ≡ Some k → slice_get (map f ks) i ≡ Some (f k)
copied_at f [] i k q = absurd (cc)
copied_at f (j ∷ ks) zero k q = let e : j ≡ k = cc in ap (λ (n : ℕ). Some (f n)) e
copied_at f (j ∷ ks) (suc i) k q = copied_at f ks i k q

-- before further entries it is a type too
kind_before : (xs ys : List SymbolTree) (k : ℕ) (e : SymbolTree) → slice_get (xs ++ ys) k ≡ Some e → e.kind ≡ Kind → (symbol_or xs k).kind ≡ Kind
kind_before [] ys k e q z = refl
kind_before (x ∷ xs) ys zero e q z = let i : x ≡ e = cc in ap (λ (s : SymbolTree). s.kind) i ∙ z
kind_before (x ∷ xs) ys (suc k) e q z = kind_before xs ys k e q z

-- what a type symbol is
record IsKindAt (symbols : List SymbolTree) (k n : ℕ) : Type 0 where
  is : SymbolTree
  at : slice_get symbols k ≡ Some is
  kind : is.kind ≡ Kind
  vars : n ≡ is.vars

kind_at : (symbols : List SymbolTree) (k n : ℕ) → IsTypeSymbol (of_signature symbols) k n → IsKindAt symbols k n
kind_at symbols k n h = of (slice_get symbols k) refl h.1
  where
    of : (o : Option SymbolTree) → slice_get symbols k ≡ o → IsSomeAnd o (λ (e : SymbolTree). (e.kind ≡ Kind) × (n ≡ e.vars)) → IsKindAt symbols k n
    of None q x = absurd x
    of (Some e) q x = record { is = e; at = q; kind = x.0; vars = x.1 }

-- ---- symbols that are replaced are no types
abbrev ReplacesOther : List SymbolTree → Origin → Option ℕ → RightTree → Type 0
ReplacesOther symbols t left (symbol_right k) = IfSome left (λ (place : ℕ). IsOther (symbol_or symbols (symbol_at_place t.decls place)))
ReplacesOther symbols t left r = Unit {0}

abbrev IsOtherSide : List SymbolTree → Origin → SideTree → Type 0
IsOtherSide symbols t x = ReplacesOther symbols t x.left x.right

module _ (c : Setting) (t : Origin) where
  abbrev places : Word → Option ℕ
  places = λ x. last_place c.symbols t x None t.own

  side_other : (symbols : List SymbolTree) (e : Element) → All (IsOtherSide c.symbols t) (sides_made places symbols c.scope (e ∷ []))
  side_other symbols (type_element i d vs f) = All-cons (IsOtherSide c.symbols t) _ [] tt (All-nil (IsOtherSide c.symbols t))
  side_other symbols (symbol_element i w d e) = All-cons (IsOtherSide c.symbols t) _ [] (named_other c.symbols w (called_text d) t) (All-nil (IsOtherSide c.symbols t))
  side_other symbols (prop_element i k d) = All-cons (IsOtherSide c.symbols t) _ [] tt (All-nil (IsOtherSide c.symbols t))
  side_other symbols (all_axioms i) = All-cons (IsOtherSide c.symbols t) _ [] tt (All-nil (IsOtherSide c.symbols t))

  sides_other : (es : List Element) (symbols : List SymbolTree) → All (IsOtherSide c.symbols t) (sides_made places symbols c.scope es)
  sides_other [] symbols = All-nil (IsOtherSide c.symbols t)
  sides_other (e ∷ es) symbols = All-cons (IsOtherSide c.symbols t) _ (sides_made places (symbols ++ right_tuples symbols e) c.scope es) (All-head (IsOtherSide c.symbols t) _ [] (side_other symbols e)) (sides_other es (symbols ++ right_tuples symbols e))

module _ (symbols : List SymbolTree) (t : Origin) where
  pair_other : (left : Option ℕ) (r : RightTree) (p : ℕ × ℕ) → ReplacesOther symbols t left r → Contains (symbol_for t left r) p → IsOther (symbol_or symbols p.0)
  pair_other (Some place) (symbol_right k) p h c = let e : (symbol_at_place t.decls place, k) ≡ p = only_here _ p c in subst (λ (q : ℕ × ℕ). IsOther (symbol_or symbols q.0)) e h
  pair_other (Some place) (type_right ty) p h c = absurd (none_here p c)
  pair_other (Some place) no_right p h c = absurd (none_here p c)
  pair_other None r p h c = absurd (none_here p c)

  pairs_other : (xs : List SideTree) → All (IsOtherSide symbols t) xs → (p : ℕ × ℕ) → Contains (symbols_replaced t xs) p → IsOther (symbol_or symbols p.0)
  pairs_other [] h p c = absurd (none_here p c)
  pairs_other (x ∷ xs) h p c = of (Contains-append_cases (symbol_for t x.left x.right) (symbols_replaced t xs) p c) (λ z. pairs_other xs (All-tail (IsOtherSide symbols t) x xs h) p z)
    where
      of : Contains (symbol_for t x.left x.right) p ⊎ Contains (symbols_replaced t xs) p → (Contains (symbols_replaced t xs) p → IsOther (symbol_or symbols p.0)) → IsOther (symbol_or symbols p.0)
      of (inl z) f = pair_other x.left x.right p (All-head (IsOtherSide symbols t) x xs h) z
      of (inr z) f = f z

-- ---- types are replaced by types at as many type variables
module _ (symbols : List SymbolTree) (t : Origin) where
  abbrev v : Vocabulary
  v = of_signature symbols

  abbrev Fits : ℕ × Tree → Type 0
  Fits p = IsTypeIn v (symbol_or symbols p.0).vars p.1

  both_of : (a b : Bool) → (a && b) ≡ true → b ≡ true
  both_of true b q = q
  both_of false b q = absurd (cc)

  same_number : (a b : ℕ) → (a == b) ≡ true → a ≡ b
  same_number a b q = grind (arith, nat_tests)

  with_fits : (effects : PlacedEffects) (place n : ℕ) (ty : Tree) (p : ℕ × Tree) → IsTypeIn v n ty → Contains (type_with symbols t effects place n ty) p → Fits p
  with_fits effects place n ty p h c = of (is_none (effects place) && ((symbol_or symbols (symbol_at_place t.decls place)).vars == n)) refl c
    where
      k : ℕ
      k = symbol_at_place t.decls place

      of : (b : Bool) → (is_none (effects place) && ((symbol_or symbols k).vars == n)) ≡ b → Contains (if b then (k, ty) ∷ [] else []) p → Fits p
      of true q z =
          let e : (k, ty) ≡ p = only_here (k, ty) p z in
          let m : (symbol_or symbols k).vars ≡ n = same_number (symbol_or symbols k).vars n (both_of (is_none (effects place)) ((symbol_or symbols k).vars == n) q) in
          subst Fits e (subst (λ (i : ℕ). IsTypeIn v i ty) (sym m) h)
      of false q z = absurd (none_here p z)

  for_fits : (effects : PlacedEffects) (e : Element) (left : Option ℕ) (r : RightTree) (p : ℕ × Tree) → IsTypedRight v e r → Contains (type_for symbols t effects e left r) p → Fits p
  for_fits effects (type_element i c vs f) (Some place) (type_right ty) p h z = with_fits effects place (length vs) ty p h z
  for_fits effects (type_element i c vs f) (Some place) (symbol_right k) p h z = absurd (none_here p z)
  for_fits effects (type_element i c vs f) (Some place) no_right p h z = absurd (none_here p z)
  for_fits effects (type_element i c vs f) None r p h z = absurd (none_here p z)
  for_fits effects (symbol_element i w c d) left r p h z = absurd (none_here p z)
  for_fits effects (prop_element i k c) left r p h z = absurd (none_here p z)
  for_fits effects (all_axioms i) left r p h z = absurd (none_here p z)

  after_fits : (xs : List SideTree) (effects : PlacedEffects) → All (IsTypedSide v) xs → (p : ℕ × Tree) → Contains (replaced_types symbols t effects xs) p → Fits p
  after_fits [] effects h p c = absurd (none_here p c)
  after_fits (x ∷ xs) effects h p c = of (Contains-append_cases (type_for symbols t effects x.element x.left x.right) (replaced_types symbols t (with_side x effects) xs) p c) (λ z. after_fits xs (with_side x effects) (All-tail (IsTypedSide v) x xs h) p z)
    where
      of : Contains (type_for symbols t effects x.element x.left x.right) p ⊎ Contains (replaced_types symbols t (with_side x effects) xs) p → (Contains (replaced_types symbols t (with_side x effects) xs) p → Fits p) → Fits p
      of (inl z) f = for_fits effects x.element x.left x.right p (All-head (IsTypedSide v) x xs h) z
      of (inr z) f = f z

-- ---- the map
module _ (c : Setting) (t : Origin) (es : List Element) (theory within : Word) (typed : IsTypedSetting (of_signature c.symbols) c) (right : rights_fault c.symbols c.scope es ≡ None) (named : is_empty theory ≡ false) where
  abbrev all : List SymbolTree
  all = (with_rights c es).symbols

  abbrev xs : List SideTree
  xs = left_sides_at c t es

  abbrev m : Map
  m = clone_map all t xs

  abbrev ks : List ℕ
  ks = kept t (effects_of xs)

  copy : ℕ → SymbolTree
  copy k = entry_copied m theory within (symbol_or all k)

  abbrev symbols' : List SymbolTree
  symbols' = with_copies c t es theory within

  abbrev before' : Vocabulary
  before' = of_signature all

  abbrev after' : Vocabulary
  after' = of_signature symbols'

  part : IsSubvocabulary before' after'
  part = entries_more all (map (λ k. entry_copied m theory within (symbol_or all k)) ks)

  -- a type symbol becomes one with as many arguments
  abbrev Becomes : ℕ → ℕ → Type 0
  Becomes k j = (n : ℕ) → IsTypeSymbol before' k n → IsTypeSymbol after' j n

  stays : (k : ℕ) → Becomes k k
  stays k n h =
      let z = kind_at all k n h in
      let q = part.entries k z.is z.at in
      (part.usable k z.is z.at h.0, rw q (z.kind, z.vars))

  anew : (i k : ℕ) → slice_get ks i ≡ Some k → Becomes k (length all + i)
  anew i k q n h =
      let z = kind_at all k n h in
      let e = entry_copied m theory within (symbol_or all k) in
      let same : symbol_or all k ≡ z.is = or_at all k z.is z.at in
      let at : slice_get symbols' (length all + i) ≡ Some e = following all (map (λ j. entry_copied m theory within (symbol_or all j)) ks) i (length all + i) refl ∙ copied_at (λ j. entry_copied m theory within (symbol_or all j)) ks i k q in
      let kind : (symbol_or all k).kind ≡ Kind = ap (λ (s : SymbolTree). s.kind) same ∙ z.kind in
      let vars : n ≡ (symbol_or all k).vars = z.vars ∙ sym (ap (λ (s : SymbolTree). s.vars) same) in
      (rw (at, named) refl, rw at (kind, vars))

  replaced : (p : ℕ × ℕ) → Contains (symbols_replaced t xs) p → Becomes p.0 p.1
  replaced p z n h =
      let k = kind_at all p.0 n h in
      let no = pairs_other c.symbols t xs (sides_other c t es c.symbols) p z in
      absurd (no (kind_before c.symbols _ p.0 k.is k.at k.kind))

  -- or a type
  abbrev BecomesType : ℕ → Tree → Type 0
  BecomesType k ty = (n : ℕ) → IsTypeSymbol before' k n → IsTypeIn after' n ty

  typed_for : (p : ℕ × Tree) → Contains (types_replaced all t xs) p → BecomesType p.0 p.1
  typed_for p z n h =
      let k = kind_at all p.0 n h in
      let same : (symbol_or all p.0).vars ≡ n = ap (λ (s : SymbolTree). s.vars) (or_at all p.0 k.is k.at) ∙ sym k.vars in
      let sides : All (IsTypedSide before') xs = rights_typed (λ x. last_place c.symbols t x None t.own) es c typed right in
      let fits : IsTypeIn before' (symbol_or all p.0).vars p.1 = after_fits all t xs no_effects sides p z in
      type_more before' after' part n p.1 (subst (λ (i : ℕ). IsTypeIn before' i p.1) same fits)

  becomes : (k n : ℕ) (o : Option Tree) → IfSome o (BecomesType k) → IsTypeSymbol before' k n → Becomes k (m.symbols k) → TypeBecomes after' n (m.symbols k) o
  becomes k n None f h g = g n h
  becomes k n (Some ty) f h g = f n h

  rigid_stays : (k : ℕ) (o : Option SymbolTree) → slice_get all k ≡ o → IsTrue (before'.rigid k) → IsSomeAnd o (λ (e : SymbolTree). (e.kind ≡ Kind) × (e.vars ≡ 0)) → IsRigid after' k
  rigid_stays k None q r x = absurd x
  rigid_stays k (Some e) q r x = let z = part.entries k e q in (part.rigid k e q r, rw z x)

  pub maps_types : MapsTypes before' after' m
  maps_types = record {
    rigid = λ k h. rigid_stays k (slice_get all k) refl h.0 h.1;
    types = λ k n h. becomes k n (m.types k) (type_of (types_replaced all t xs) (symbols_replaced t xs) (length all) ks BecomesType typed_for k) h
        (symbol_of (types_replaced all t xs) (symbols_replaced t xs) (length all) ks Becomes stays anew replaced k);
  }
