-- What elements that are right replace: each pair of what they replace stands for one own declaration, which is replaced, and each declaration
-- that is replaced has its pair.
use Rattle.std.proofs.Common.{◌≡◌, ◌⊎◌, inl, inr, ℕ, ◌==◌, ◌&&◌, ◌||◌, not, if◌then◌else◌, Bool, true, false, List, [], ◌∷◌, ◌++◌, length, Contains, All, Option, Some, None, refl, sym, ap, subst, ◌∙◌}
use Rattle.std.specs.Option.{is_some, is_none}
use Rattle.std.proofs.lemmas.List.Elements.{All-head, All-tail, Contains-append_left, Contains-append_right, Contains-append_cases}
use Rattle.tasks.specs.trees.Tree.{Tree}
use Rattle.tasks.specs.Task.{SymbolTree, symbol_or, MakesType, Makes}
use Rattle.tasks.specs.Vocabulary.{Vocabulary}
use Rattle.tasks.specs.Valid.{IsTypeIn}
use Rattle.elaboration_laws.specs.clones.Mapped.{Map}
use Rattle.surface.specs.declared.declarations.SymbolWord.{SymbolWord}
use Rattle.surface.specs.declared.declarations.PropKind.{PropKind}
use Rattle.surface.specs.Declarations.{Element, type_element, symbol_element, prop_element, all_axioms}
use Rattle.elaboration_laws.proofs.Places.{none_here, here}
use Rattle.elaboration_laws.specs.clones.declared.clone_elements.replacements.Effect.{Effect}
use Rattle.elaboration_laws.specs.clones.declared.clone_elements.replacements.Effect.TheVariants.{Replaced, Becomes}
use Rattle.elaboration_laws.specs.clones.clone_elements.Left.{Origin, decl_or, abstract_symbol, symbol_at_place}
use Rattle.elaboration_laws.specs.clones.clone_elements.Rights.{RightTree, type_right, symbol_right, no_right}
use Rattle.elaboration_laws.specs.clones.clone_elements.Replacements.{SideTree, PlacedEffects, element_effect, with_effect, with_side, with_sides, is_replaced, type_with, type_for, replaced_types, symbol_for, symbols_replaced}
use Rattle.elaboration_laws.specs.clones.clone_elements.Elements.{has_vars, is_wrong, is_kind_of_word, IsSameSignature, IsRightSide, SideTold, SidesTold}
use Rattle.elaboration_laws.specs.Sides.{IsTypedRight, IsTypedSide}
use Rattle.theories.proofs.Lefts.{IsKindOf, IsLeftType, IsLeftSymbol, IsLeft, IsFormed, IsRead}
use Rattle.std.proofs.lemmas.Bool.{or_parts as right_both}
use Rattle.elaboration_laws.proofs.open_types.Walking.{not_not as not_false}
use Rattle.elaboration_laws.proofs.Mapped.{only_here}
use Rattle.tasks.proofs.plain_laws.Bools.{same_number}
use Rattle.elaboration_laws.proofs.Widths.{same_width as itself}

pub is_replaced_as : (o : Option Effect) → is_replaced o ≡ true → o ≡ Some Replaced
is_replaced_as (Some Replaced) q = refl
is_replaced_as (Some (Becomes k)) q = absurd (cc)
is_replaced_as None q = absurd (cc)

none_of : {X : Type 0} (o : Option X) → is_some o ≡ false → is_none o ≡ true
none_of None q = refl
none_of (Some x) q = absurd (cc)

no_some : {X : Type 0} (o : Option X) (x : X) → o ≡ Some x → is_some o ≡ false → ⊥
no_some None x e q = cc
no_some (Some y) x e q = cc

-- ---- pairs
-- a type symbol of an own declaration that is replaced
pub record IsTypeReplaced (o : Origin) (effects : PlacedEffects) (k : ℕ) : Type 0 where
  pub place : ℕ
  pub own : Contains o.own place
  pub body : (decl_or o.decls place).body ≡ MakesType k
  pub effect : effects place ≡ Some Replaced

-- another symbol, which is replaced by one of the same kind, whose signature is its own under a map
pub record IsSymbolReplaced (table symbols : List SymbolTree) (o : Origin) (m : Map) (effects : PlacedEffects) (k j : ℕ) : Type 0 where
  pub place : ℕ
  pub own : Contains o.own place
  pub body : (decl_or o.decls place).body ≡ Makes k
  pub effect : effects place ≡ Some Replaced
  pub word : SymbolWord
  pub kind : IsKindOf word (symbol_or table k).kind
  pub by : is_kind_of_word (symbol_or symbols j).kind word ≡ true
  pub vars : (symbol_or symbols k).vars ≡ (symbol_or symbols j).vars
  pub signature : IsSameSignature m (symbol_or symbols k) (symbol_or symbols j)

-- what replaces the declaration at a place
pub record HasType (o : Origin) (ps : List (ℕ × Tree)) (place : ℕ) : Type 0 where
  pub symbol : ℕ
  pub type : Tree
  pub body : (decl_or o.decls place).body ≡ MakesType symbol
  pub there : Contains ps (symbol, type)

pub record HasSymbol (o : Origin) (ps : List (ℕ × ℕ)) (place : ℕ) : Type 0 where
  pub symbol : ℕ
  pub by : ℕ
  pub body : (decl_or o.decls place).body ≡ Makes symbol
  pub there : Contains ps (symbol, by)

module _ (table symbols : List SymbolTree) (o : Origin) (m : Map) where
  told_first : (y : SideTree) (ys : List SideTree) (effects : PlacedEffects) → SidesTold symbols o m effects (y ∷ ys) None → SideTold symbols o m effects y None × SidesTold symbols o m (with_side y effects) ys None
  told_first y ys effects h = of h
    where
      of : SideTold symbols o m effects y None × SidesTold symbols o m (with_side y effects) ys None ⊎ (token : ℕ) × (None ≡ Some token) × SideTold symbols o m effects y (Some token)
          → SideTold symbols o m effects y None × SidesTold symbols o m (with_side y effects) ys None
      of (inl z) = z
      of (inr z) = absurd (let e : None ≡ Some z.0 = z.1 in cc)

  -- ---- what becomes of a declaration stays said
  not_again : (k p : ℕ) (effects : PlacedEffects) (g f : Effect) (b : Bool) → effects p ≡ Some f → (is_some (effects k) || b) ≡ false → (if k == p then Some g else effects p) ≡ Some f
  not_again k p effects g f b q w = of (k == p) refl
    where
      of : (c : Bool) → (k == p) ≡ c → (if c then Some g else effects p) ≡ Some f
      of true z = absurd (no_some (effects k) f (ap effects (same_number k p z) ∙ q) (right_both (is_some (effects k)) b w).0)
      of false z = q

  one_stays : (e : Element) (left : Option ℕ) (r : RightTree) (effects : PlacedEffects) (p : ℕ) (f : Effect) → effects p ≡ Some f → is_wrong symbols o effects e r left ≡ false → with_effect left (element_effect e) effects p ≡ Some f
  one_stays e None r effects p f q w = q
  one_stays (type_element i c vs t) (Some k) r effects p f q w = not_again k p effects Replaced f (not (has_vars symbols (symbol_at_place o.decls k) (type_element i c vs t) r)) q w
  one_stays (symbol_element i s c d) (Some k) r effects p f q w = not_again k p effects Replaced f (not (has_vars symbols (symbol_at_place o.decls k) (symbol_element i s c d) r)) q w
  one_stays (prop_element i a c) (Some k) r effects p f q w = not_again k p effects (Becomes a) f (not (has_vars symbols (symbol_at_place o.decls k) (prop_element i a c) r)) q w
  one_stays (all_axioms i) (Some k) r effects p f q w = q

  effect_stays : (ys : List SideTree) (effects : PlacedEffects) (p : ℕ) (f : Effect) → effects p ≡ Some f → SidesTold symbols o m effects ys None → with_sides ys effects p ≡ Some f
  effect_stays [] effects p f q h = q
  effect_stays (y ∷ ys) effects p f q h =
      let z = told_first y ys effects h in
      effect_stays ys (with_side y effects) p f (one_stays y.element y.left y.right effects p f q z.0.0) z.1

  -- it is said of a place by the element that names it
  said_here : (place : ℕ) (f : Effect) (effects : PlacedEffects) → (if place == place then Some f else effects place) ≡ Some f
  said_here place f effects = ap (λ (b : Bool). if b then Some f else effects place) (itself place)

  -- ---- pairs of types
  type_pair : (e : Element) (left : Option ℕ) (r : RightTree) (effects : PlacedEffects) (q : ℕ × Tree) → IsLeft table o e left → Contains (type_for symbols o effects e left r) q → IsTypeReplaced o (with_effect left (element_effect e) effects) q.0
  type_pair (type_element i c vs f) (Some place) (type_right t) effects q l h = of (is_none (effects place) && ((symbol_or symbols (symbol_at_place o.decls place)).vars == length vs)) h
    where
      of : (b : Bool) → Contains (if b then (symbol_at_place o.decls place, t) ∷ [] else []) q → IsTypeReplaced o (with_effect (Some place) (Some Replaced) effects) q.0
      of true z =
          let e : (symbol_at_place o.decls place, t) ≡ q = only_here (symbol_at_place o.decls place, t) q z in
          let a : symbol_at_place o.decls place ≡ q.0 = ap (λ (x : ℕ × Tree). x.0) e in
          let b : symbol_at_place o.decls place ≡ l.body.symbol = ap abstract_symbol l.body.is in
          record { place = place; own = l.own; body = l.body.is ∙ ap MakesType (sym b ∙ a); effect = said_here place Replaced effects }
      of false z = absurd (none_here q z)
  type_pair (type_element i c vs f) (Some place) (symbol_right k) effects q l h = absurd (none_here q h)
  type_pair (type_element i c vs f) (Some place) no_right effects q l h = absurd (none_here q h)
  type_pair (type_element i c vs f) None r effects q l h = absurd (none_here q h)
  type_pair (symbol_element i w c d) left r effects q l h = absurd (none_here q h)
  type_pair (prop_element i k c) left r effects q l h = absurd (none_here q h)
  type_pair (all_axioms i) left r effects q l h = absurd (none_here q h)

  pub types_from : (ys : List SideTree) (effects : PlacedEffects) → All (IsRead table o) ys → SidesTold symbols o m effects ys None → (q : ℕ × Tree) → Contains (replaced_types symbols o effects ys) q → IsTypeReplaced o (with_sides ys effects) q.0
  types_from [] effects r h q c = absurd (none_here q c)
  types_from (y ∷ ys) effects r h q c = of (told_first y ys effects h) (Contains-append_cases (type_for symbols o effects y.element y.left y.right) (replaced_types symbols o (with_side y effects) ys) q c) (λ t z. types_from ys (with_side y effects) (All-tail (IsRead table o) y ys r) t q z)
    where
      of : SideTold symbols o m effects y None × SidesTold symbols o m (with_side y effects) ys None → Contains (type_for symbols o effects y.element y.left y.right) q ⊎ Contains (replaced_types symbols o (with_side y effects) ys) q
          → (SidesTold symbols o m (with_side y effects) ys None → Contains (replaced_types symbols o (with_side y effects) ys) q → IsTypeReplaced o (with_sides (y ∷ ys) effects) q.0) → IsTypeReplaced o (with_sides (y ∷ ys) effects) q.0
      of t (inl z) f =
          let x = type_pair y.element y.left y.right effects q (All-head (IsRead table o) y ys r).left z in
          record { place = x.place; own = x.own; body = x.body; effect = effect_stays ys (with_side y effects) x.place Replaced x.effect t.1 }
      of t (inr z) f = f t.1 z

  -- ---- pairs of symbols
  symbol_pair : (e : Element) (left : Option ℕ) (r : RightTree) (effects after : PlacedEffects) (q : ℕ × ℕ) → IsLeft table o e left → IsFormed e r → is_wrong symbols o effects e r left ≡ false → IsRightSide symbols o m e left r
      → ((place : ℕ) → with_effect left (element_effect e) effects place ≡ Some Replaced → after place ≡ Some Replaced) → Contains (symbol_for o left r) q → IsSymbolReplaced table symbols o m after q.0 q.1
  symbol_pair (symbol_element i w c d) (Some place) (symbol_right j) effects after q l f b r stays h =
      let e : (symbol_at_place o.decls place, j) ≡ q = only_here (symbol_at_place o.decls place, j) q h in
      let a : symbol_at_place o.decls place ≡ l.body.symbol = ap abstract_symbol l.body.is in
      let n : (symbol_or symbols (symbol_at_place o.decls place)).vars ≡ (symbol_or symbols j).vars =
      same_number (symbol_or symbols (symbol_at_place o.decls place)).vars (symbol_or symbols j).vars (not_false ((symbol_or symbols (symbol_at_place o.decls place)).vars == (symbol_or symbols j).vars) (right_both (is_some (effects place)) (not ((symbol_or symbols (symbol_at_place o.decls place)).vars == (symbol_or symbols j).vars)) b).1) in
      subst (λ (p : ℕ × ℕ). IsSymbolReplaced table symbols o m after p.0 p.1) e (record {
        place = place;
        own = l.own;
        body = l.body.is ∙ ap Makes (sym a);
        effect = stays place (said_here place Replaced effects);
        word = w;
        kind = subst (λ (k : ℕ). IsKindOf w (symbol_or table k).kind) (sym a) l.body.kind;
        by = r.kind;
        vars = n;
        signature = r.signature;
      })
  symbol_pair (symbol_element i w c d) (Some place) (type_right t) effects after q l f b r stays h = absurd f
  symbol_pair (symbol_element i w c d) (Some place) no_right effects after q l f b r stays h = absurd f
  symbol_pair (type_element i c vs t) (Some place) (symbol_right j) effects after q l f b r stays h = absurd f
  symbol_pair (type_element i c vs t) (Some place) (type_right u) effects after q l f b r stays h = absurd (none_here q h)
  symbol_pair (type_element i c vs t) (Some place) no_right effects after q l f b r stays h = absurd f
  symbol_pair (prop_element i k c) (Some place) (symbol_right j) effects after q l f b r stays h = absurd f
  symbol_pair (prop_element i k c) (Some place) (type_right u) effects after q l f b r stays h = absurd f
  symbol_pair (prop_element i k c) (Some place) no_right effects after q l f b r stays h = absurd (none_here q h)
  symbol_pair (all_axioms i) (Some place) (symbol_right j) effects after q l f b r stays h = absurd f
  symbol_pair (all_axioms i) (Some place) (type_right u) effects after q l f b r stays h = absurd f
  symbol_pair (all_axioms i) (Some place) no_right effects after q l f b r stays h = absurd (none_here q h)
  symbol_pair e None r effects after q l f b r2 stays h = absurd (none_here q h)

  pub symbols_from : (ys : List SideTree) (effects : PlacedEffects) → All (IsRead table o) ys → SidesTold symbols o m effects ys None → (q : ℕ × ℕ) → Contains (symbols_replaced o ys) q → IsSymbolReplaced table symbols o m (with_sides ys effects) q.0 q.1
  symbols_from [] effects r h q c = absurd (none_here q c)
  symbols_from (y ∷ ys) effects r h q c = of (told_first y ys effects h) (Contains-append_cases (symbol_for o y.left y.right) (symbols_replaced o ys) q c) (λ t z. symbols_from ys (with_side y effects) (All-tail (IsRead table o) y ys r) t q z)
    where
      of : SideTold symbols o m effects y None × SidesTold symbols o m (with_side y effects) ys None → Contains (symbol_for o y.left y.right) q ⊎ Contains (symbols_replaced o ys) q
          → (SidesTold symbols o m (with_side y effects) ys None → Contains (symbols_replaced o ys) q → IsSymbolReplaced table symbols o m (with_sides (y ∷ ys) effects) q.0 q.1) → IsSymbolReplaced table symbols o m (with_sides (y ∷ ys) effects) q.0 q.1
      of t (inl z) f =
          let x = All-head (IsRead table o) y ys r in
          symbol_pair y.element y.left y.right effects (with_sides ys (with_side y effects)) q x.left x.formed t.0.0 t.0.1 (λ place e. effect_stays ys (with_side y effects) place Replaced e t.1) z
      of t (inr z) f = f t.1 z

  -- ---- each declaration that is replaced has its pair
  abbrev HasPair : List (ℕ × Tree) → List (ℕ × ℕ) → ℕ → Type 0
  HasPair ps qs p = HasType o ps p ⊎ HasSymbol o qs p

  now_or_before : (k p : ℕ) (effects : PlacedEffects) (P : Type 0) → (if k == p then Some Replaced else effects p) ≡ Some Replaced → (k ≡ p → P) → (effects p ≡ Some Replaced) ⊎ P
  now_or_before k p effects P q f = of (k == p) refl q
    where
      of : (b : Bool) → (k == p) ≡ b → (if b then Some Replaced else effects p) ≡ Some Replaced → (effects p ≡ Some Replaced) ⊎ P
      of true z e = inr (f (same_number k p z))
      of false z e = inl e

  becomes_before : (k p : ℕ) (effects : PlacedEffects) (a : PropKind) → (if k == p then Some (Becomes a) else effects p) ≡ Some Replaced → effects p ≡ Some Replaced
  becomes_before k p effects a q = of (k == p) q
    where
      of : (b : Bool) → (if b then Some (Becomes a) else effects p) ≡ Some Replaced → effects p ≡ Some Replaced
      of true e = absurd (cc)
      of false e = e

  type_there : (effects : PlacedEffects) (place n : ℕ) (t : Tree) → IsLeftType o place → (is_some (effects place) || not ((symbol_or symbols (symbol_at_place o.decls place)).vars == n)) ≡ false → HasType o (type_with symbols o effects place n t) place
  type_there effects place n t l w =
      let x = right_both (is_some (effects place)) (not ((symbol_or symbols (symbol_at_place o.decls place)).vars == n)) w in
      of (is_none (effects place)) ((symbol_or symbols (symbol_at_place o.decls place)).vars == n) (none_of (effects place) x.0) (not_false ((symbol_or symbols (symbol_at_place o.decls place)).vars == n) x.1)
    where
      of : (a b : Bool) → a ≡ true → b ≡ true → HasType o (if a && b then (symbol_at_place o.decls place, t) ∷ [] else []) place
      of true true p q = record { symbol = symbol_at_place o.decls place; type = t; body = l.body.is ∙ ap MakesType (sym (ap abstract_symbol l.body.is)); there = here (symbol_at_place o.decls place, t) [] }
      of true false p q = absurd (cc)
      of false b p q = absurd (cc)

  symbol_there : (place j : ℕ) (w : SymbolWord) → IsLeftSymbol table o w place → HasSymbol o ((symbol_at_place o.decls place, j) ∷ []) place
  symbol_there place j w l = record { symbol = symbol_at_place o.decls place; by = j; body = l.body.is ∙ ap Makes (sym (ap abstract_symbol l.body.is)); there = here (symbol_at_place o.decls place, j) [] }

  one_there : (e : Element) (left : Option ℕ) (r : RightTree) (effects : PlacedEffects) (p : ℕ) → IsLeft table o e left → IsFormed e r → is_wrong symbols o effects e r left ≡ false → with_effect left (element_effect e) effects p ≡ Some Replaced
      → (effects p ≡ Some Replaced) ⊎ HasPair (type_for symbols o effects e left r) (symbol_for o left r) p
  one_there e None r effects p l f w q = inl q
  one_there (type_element i c vs t) (Some k) (type_right u) effects p l f w q =
      now_or_before k p effects (HasPair (type_for symbols o effects (type_element i c vs t) (Some k) (type_right u)) (symbol_for o (Some k) (type_right u)) p) q
      (λ z. inl (subst (HasType o (type_with symbols o effects k (length vs) u)) z (type_there effects k (length vs) u l w)))
  one_there (type_element i c vs t) (Some k) (symbol_right j) effects p l f w q = absurd f
  one_there (type_element i c vs t) (Some k) no_right effects p l f w q = absurd f
  one_there (symbol_element i s c d) (Some k) (symbol_right j) effects p l f w q =
      now_or_before k p effects (HasPair (type_for symbols o effects (symbol_element i s c d) (Some k) (symbol_right j)) (symbol_for o (Some k) (symbol_right j)) p) q
      (λ z. inr (subst (HasSymbol o ((symbol_at_place o.decls k, j) ∷ [])) z (symbol_there k j s l)))
  one_there (symbol_element i s c d) (Some k) (type_right u) effects p l f w q = absurd f
  one_there (symbol_element i s c d) (Some k) no_right effects p l f w q = absurd f
  one_there (prop_element i a c) (Some k) r effects p l f w q = inl (becomes_before k p effects a q)
  one_there (all_axioms i) (Some k) r effects p l f w q = inl q

  in_front : (ps ps2 : List (ℕ × Tree)) (qs qs2 : List (ℕ × ℕ)) (p : ℕ) → HasPair ps qs p → HasPair (ps ++ ps2) (qs ++ qs2) p
  in_front ps ps2 qs qs2 p (inl h) = inl (record { symbol = h.symbol; type = h.type; body = h.body; there = Contains-append_left ps ps2 (h.symbol, h.type) h.there })
  in_front ps ps2 qs qs2 p (inr h) = inr (record { symbol = h.symbol; by = h.by; body = h.body; there = Contains-append_left qs qs2 (h.symbol, h.by) h.there })

  in_back : (ps ps2 : List (ℕ × Tree)) (qs qs2 : List (ℕ × ℕ)) (p : ℕ) → HasPair ps2 qs2 p → HasPair (ps ++ ps2) (qs ++ qs2) p
  in_back ps ps2 qs qs2 p (inl h) = inl (record { symbol = h.symbol; type = h.type; body = h.body; there = Contains-append_right ps ps2 (h.symbol, h.type) h.there })
  in_back ps ps2 qs qs2 p (inr h) = inr (record { symbol = h.symbol; by = h.by; body = h.body; there = Contains-append_right qs qs2 (h.symbol, h.by) h.there })

  pub pair_there : (ys : List SideTree) (effects : PlacedEffects) → All (IsRead table o) ys → SidesTold symbols o m effects ys None → (p : ℕ) → with_sides ys effects p ≡ Some Replaced
      → (effects p ≡ Some Replaced) ⊎ HasPair (replaced_types symbols o effects ys) (symbols_replaced o ys) p
  pair_there [] effects r h p q = inl q
  pair_there (y ∷ ys) effects r h p q = of (told_first y ys effects h) (λ t. pair_there ys (with_side y effects) (All-tail (IsRead table o) y ys r) t p q)
    where
      ps : List (ℕ × Tree)
      ps = type_for symbols o effects y.element y.left y.right

      ps2 : List (ℕ × Tree)
      ps2 = replaced_types symbols o (with_side y effects) ys

      by : SideTold symbols o m effects y None → (with_side y effects p ≡ Some Replaced) ⊎ HasPair ps2 (symbols_replaced o ys) p → (effects p ≡ Some Replaced) ⊎ HasPair (ps ++ ps2) (symbol_for o y.left y.right ++ symbols_replaced o ys) p
      by t (inr z) = inr (in_back ps ps2 (symbol_for o y.left y.right) (symbols_replaced o ys) p z)
      by t (inl z) = first (one_there y.element y.left y.right effects p (All-head (IsRead table o) y ys r).left (All-head (IsRead table o) y ys r).formed t.0 z)
        where
          first : (effects p ≡ Some Replaced) ⊎ HasPair ps (symbol_for o y.left y.right) p → (effects p ≡ Some Replaced) ⊎ HasPair (ps ++ ps2) (symbol_for o y.left y.right ++ symbols_replaced o ys) p
          first (inl x) = inl x
          first (inr x) = inr (in_front ps ps2 (symbol_for o y.left y.right) (symbols_replaced o ys) p x)

      of : SideTold symbols o m effects y None × SidesTold symbols o m (with_side y effects) ys None → (SidesTold symbols o m (with_side y effects) ys None → (with_side y effects p ≡ Some Replaced) ⊎ HasPair ps2 (symbols_replaced o ys) p)
          → (effects p ≡ Some Replaced) ⊎ HasPair (ps ++ ps2) (symbol_for o y.left y.right ++ symbols_replaced o ys) p
      of t f = by t.0 (f t.1)

-- ---- types of pairs
module _ (symbols : List SymbolTree) (o : Origin) (u : Vocabulary) where
  abbrev Fits : ℕ × Tree → Type 0
  Fits q = IsTypeIn u (symbol_or symbols q.0).vars q.1

  both_of : (a b : Bool) → (a && b) ≡ true → b ≡ true
  both_of true b q = q
  both_of false b q = absurd (cc)

  with_fits : (effects : PlacedEffects) (place n : ℕ) (t : Tree) (q : ℕ × Tree) → IsTypeIn u n t → Contains (type_with symbols o effects place n t) q → Fits q
  with_fits effects place n t q h c = of (is_none (effects place) && ((symbol_or symbols (symbol_at_place o.decls place)).vars == n)) refl c
    where
      k : ℕ
      k = symbol_at_place o.decls place

      of : (b : Bool) → (is_none (effects place) && ((symbol_or symbols k).vars == n)) ≡ b → Contains (if b then (k, t) ∷ [] else []) q → Fits q
      of true e z =
          let i : (k, t) ≡ q = only_here (k, t) q z in
          let same : (symbol_or symbols k).vars ≡ n = same_number (symbol_or symbols k).vars n (both_of (is_none (effects place)) ((symbol_or symbols k).vars == n) e) in
          subst Fits i (subst (λ (j : ℕ). IsTypeIn u j t) (sym same) h)
      of false e z = absurd (none_here q z)

  for_fits : (effects : PlacedEffects) (e : Element) (left : Option ℕ) (r : RightTree) (q : ℕ × Tree) → IsTypedRight u e r → Contains (type_for symbols o effects e left r) q → Fits q
  for_fits effects (type_element i c vs f) (Some place) (type_right t) q h z = with_fits effects place (length vs) t q h z
  for_fits effects (type_element i c vs f) (Some place) (symbol_right k) q h z = absurd (none_here q z)
  for_fits effects (type_element i c vs f) (Some place) no_right q h z = absurd (none_here q z)
  for_fits effects (type_element i c vs f) None r q h z = absurd (none_here q z)
  for_fits effects (symbol_element i w c d) left r q h z = absurd (none_here q z)
  for_fits effects (prop_element i k c) left r q h z = absurd (none_here q z)
  for_fits effects (all_axioms i) left r q h z = absurd (none_here q z)

  pub types_fit : (ys : List SideTree) (effects : PlacedEffects) → All (IsTypedSide u) ys → (q : ℕ × Tree) → Contains (replaced_types symbols o effects ys) q → Fits q
  types_fit [] effects h q c = absurd (none_here q c)
  types_fit (y ∷ ys) effects h q c = of (Contains-append_cases (type_for symbols o effects y.element y.left y.right) (replaced_types symbols o (with_side y effects) ys) q c) (λ z. types_fit ys (with_side y effects) (All-tail (IsTypedSide u) y ys h) q z)
    where
      of : Contains (type_for symbols o effects y.element y.left y.right) q ⊎ Contains (replaced_types symbols o (with_side y effects) ys) q → (Contains (replaced_types symbols o (with_side y effects) ys) q → Fits q) → Fits q
      of (inl z) f = for_fits effects y.element y.left y.right q (All-head (IsTypedSide u) y ys h) z
      of (inr z) f = f z
