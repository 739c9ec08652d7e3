-- The map of a clone by what the theory's own declarations make: what isn't made by them stays, what is copied becomes new, each
-- another, and what is replaced becomes what replaces it.
use Rattle.std.proofs.Common.{◌≡◌, ◌⊎◌, inl, inr, ℕ, ◌+◌, ◌<◌, true, false, List, [], length, slice_get, Contains, All, Some, None, refl, sym, ap, subst, ◌∙◌, arith}
use Rattle.tasks.specs.trees.Tree.{Tree}
use Rattle.tasks.specs.Task.{SymbolTree, BodyTree, MakesType, Makes, DeclarationTree, made_by}
use Rattle.elaboration_laws.specs.clones.Mapped.{Map}
use Rattle.elaboration_laws.specs.Tasks.{AreSound}
use Rattle.theory_states.specs.States.{KnownTree, at_places}
use Rattle.elaboration_laws.proofs.Places.{none_here, here}
use Rattle.elaboration_laws.specs.Cloning.{IsFixed}
use Rattle.elaboration_laws.specs.Trials.{AgreeOn}
use Rattle.elaboration_laws.specs.clones.declared.clone_elements.replacements.Effect.TheVariants.{Replaced}
use Rattle.elaboration_laws.specs.clones.clone_elements.Left.{Origin, decl_or}
use Rattle.elaboration_laws.specs.clones.clone_elements.Replacements.{SideTree, PlacedEffects, no_effects, effects_of, is_replaced, types_replaced, symbols_replaced, kept, clone_map, tried_map}
use Rattle.elaboration_laws.specs.clones.clone_elements.Elements.{SidesTold}
use Rattle.elaboration_laws.specs.clones.clone_copies.Origins.{origin_of}
use Rattle.theories.proofs.Numbers.{IsAt, contained, IsReplacedBy, IsOther, symbol_cases, type_cases, types_alike}
use Rattle.theories.proofs.Lefts.{IsRead}
use Rattle.theories.proofs.Elements.{IsTypeReplaced, IsSymbolReplaced, HasType, HasSymbol, is_replaced_as, types_from, symbols_from, pair_there}
use Rattle.theories.proofs.Owned.{kept_in, kept_there, own_visible, one_place}

-- an own declaration makes it
pub record IsMadeOwn (o : Origin) (k : ℕ) : Type 0 where
  pub place : ℕ
  pub own : Contains o.own place
  pub makes : Contains (made_by (decl_or o.decls place).body) k

pub type_makes : (b : BodyTree) (k : ℕ) → b ≡ MakesType k → Contains (made_by b) k
type_makes b k q = subst (λ (x : BodyTree). Contains (made_by x) k) (sym q) (here k [])

pub symbol_makes : (b : BodyTree) (k : ℕ) → b ≡ Makes k → Contains (made_by b) k
symbol_makes b k q = subst (λ (x : BodyTree). Contains (made_by x) k) (sym q) (here k [])

module _ (table xs : List SymbolTree) (ds : List DeclarationTree) (t : KnownTree) (sides : List SideTree) (sound : AreSound xs (at_places ds t.visible))
    (read : All (IsRead table (origin_of ds t)) sides) (told : SidesTold xs (origin_of ds t) (tried_map xs (origin_of ds t) sides) no_effects sides None)
    (below : (q : ℕ × ℕ) → Contains (symbols_replaced (origin_of ds t) sides) q → q.1 < length xs) where
  abbrev o : Origin
  o = origin_of ds t

  abbrev m : Map
  m = clone_map xs o sides

  abbrev tried : Map
  tried = tried_map xs o sides

  abbrev final : PlacedEffects
  final = effects_of sides

  abbrev types : List (ℕ × Tree)
  types = types_replaced xs o sides

  abbrev symbols : List (ℕ × ℕ)
  symbols = symbols_replaced o sides

  abbrev MakesAt : ℕ → ℕ → Type 0
  MakesAt p k = Contains (made_by (decl_or ds p).body) k

  pub type_from : (k : ℕ) (e : Tree) → Contains types (k, e) → IsTypeReplaced o final k
  type_from k e c = types_from table xs o tried sides no_effects read told (k, e) c

  pub symbol_from : (k j : ℕ) → Contains symbols (k, j) → IsSymbolReplaced table xs o tried final k j
  symbol_from k j c = symbols_from table xs o tried sides no_effects read told (k, j) c

  type_own : (k : ℕ) (e : Tree) → Contains types (k, e) → IsMadeOwn o k
  type_own k e c = let x = type_from k e c in record { place = x.place; own = x.own; makes = type_makes (decl_or ds x.place).body k x.body }

  symbol_own : (k j : ℕ) → Contains symbols (k, j) → IsMadeOwn o k
  symbol_own k j c = let x = symbol_from k j c in record { place = x.place; own = x.own; makes = symbol_makes (decl_or ds x.place).body k x.body }

  kept_own : (effects : PlacedEffects) (k : ℕ) → Contains (kept o effects) k → IsMadeOwn o k
  kept_own effects k c = let x = kept_in o effects o.own k c in record { place = x.place; own = x.among; makes = x.makes }

  -- ---- what no own declaration makes stays
  pub fixed : (k : ℕ) → (IsMadeOwn o k → ⊥) → IsFixed m k
  fixed k n = record { symbol = by_symbol (symbol_cases types symbols (length xs) (kept o final) k); type = by_type (type_cases types symbols (length xs) (kept o final) k) }
    where
      by_symbol : Contains symbols (k, m.symbols k) ⊎ IsOther symbols (length xs) (kept o final) k (m.symbols k) → m.symbols k ≡ k
      by_symbol (inl c) = absurd (n (symbol_own k (m.symbols k) c))
      by_symbol (inr z) = other z.1
        where
          other : IsAt (length xs) (kept o final) k (m.symbols k) ⊎ ((Contains (kept o final) k → ⊥) × (m.symbols k ≡ k)) → m.symbols k ≡ k
          other (inl a) = absurd (n (kept_own final k (contained (kept o final) a.place k a.at)))
          other (inr a) = a.1

      by_type : IsReplacedBy types k (m.types k) ⊎ (((e : Tree) → Contains types (k, e) → ⊥) × (m.types k ≡ None)) → m.types k ≡ None
      by_type (inl r) = absurd (n (type_own k r.type r.there))
      by_type (inr z) = z.1

  -- ---- what is made at a place that isn't replaced is copied
  not_both : (p q : ℕ) → p ≡ q → final p ≡ Some Replaced → is_replaced (final q) ≡ false → ⊥
  not_both p q e r f = let z : is_replaced (final q) ≡ true = ap is_replaced (sym (ap final e) ∙ r) in let y : true ≡ false = sym z ∙ f in cc

  module _ (p k : ℕ) (own : Contains o.own p) (free : is_replaced (final p) ≡ false) (makes : MakesAt p k) where
    no_type : (e : Tree) → Contains types (k, e) → ⊥
    no_type e c =
        let x = type_from k e c in
        not_both x.place p (one_place xs ds t sound x.place p k (own_visible xs ds t sound x.place x.own) (own_visible xs ds t sound p own) (type_makes (decl_or ds x.place).body k x.body) makes) x.effect free

    no_symbol : (j : ℕ) → Contains symbols (k, j) → ⊥
    no_symbol j c =
        let x = symbol_from k j c in
        not_both x.place p (one_place xs ds t sound x.place p k (own_visible xs ds t sound x.place x.own) (own_visible xs ds t sound p own) (symbol_makes (decl_or ds x.place).body k x.body) makes) x.effect free

    pub copied_type : m.types k ≡ None
    copied_type = of (type_cases types symbols (length xs) (kept o final) k)
      where
        of : IsReplacedBy types k (m.types k) ⊎ (((e : Tree) → Contains types (k, e) → ⊥) × (m.types k ≡ None)) → m.types k ≡ None
        of (inl r) = absurd (no_type r.type r.there)
        of (inr z) = z.1

    pub copied_at : IsAt (length xs) (kept o final) k (m.symbols k)
    copied_at = of (symbol_cases types symbols (length xs) (kept o final) k)
      where
        other : IsAt (length xs) (kept o final) k (m.symbols k) ⊎ ((Contains (kept o final) k → ⊥) × (m.symbols k ≡ k)) → IsAt (length xs) (kept o final) k (m.symbols k)
        other (inl a) = a
        other (inr a) = absurd (a.0 (kept_there o final o.own p k own free makes))

        of : Contains symbols (k, m.symbols k) ⊎ IsOther symbols (length xs) (kept o final) k (m.symbols k) → IsAt (length xs) (kept o final) k (m.symbols k)
        of (inl c) = absurd (no_symbol (m.symbols k) c)
        of (inr z) = other z.1

    pub copied_alone : (j : ℕ) → j < length xs → m.symbols j ≡ m.symbols k → j ≡ k
    copied_alone j l e = of (symbol_cases types symbols (length xs) (kept o final) j)
      where
        here_is : m.symbols k ≡ length xs + copied_at.place
        here_is = copied_at.is

        other : IsAt (length xs) (kept o final) j (m.symbols j) ⊎ ((Contains (kept o final) j → ⊥) × (m.symbols j ≡ j)) → j ≡ k
        other (inl a) =
            let s : a.place ≡ copied_at.place = let x = a.is in let y = here_is in omega (arith, x, y, e) in
            let z : Some j ≡ Some k = sym a.at ∙ (ap (slice_get (kept o final)) s ∙ copied_at.at) in
            cc
        other (inr a) = absurd (let x = a.1 in let y = here_is in omega (arith, x, y, e, l))

        of : Contains symbols (j, m.symbols j) ⊎ IsOther symbols (length xs) (kept o final) j (m.symbols j) → j ≡ k
        of (inl c) = absurd (let b = below (j, m.symbols j) c in let y = here_is in omega (arith, b, y, e))
        of (inr z) = other z.1

  -- ---- what is replaced
  pub pair_of : (p : ℕ) → is_replaced (final p) ≡ true → HasType o types p ⊎ HasSymbol o symbols p
  pair_of p r = of (pair_there table xs o tried sides no_effects read told p (is_replaced_as (final p) r))
    where
      of : (no_effects p ≡ Some Replaced) ⊎ (HasType o types p ⊎ HasSymbol o symbols p) → HasType o types p ⊎ HasSymbol o symbols p
      of (inl z) = absurd (cc)
      of (inr z) = z

  -- a type has one of its types
  pub replaced_type : (k : ℕ) (e : Tree) → Contains types (k, e) → IsReplacedBy types k (m.types k)
  replaced_type k e c = of (type_cases types symbols (length xs) (kept o final) k)
    where
      of : IsReplacedBy types k (m.types k) ⊎ (((x : Tree) → Contains types (k, x) → ⊥) × (m.types k ≡ None)) → IsReplacedBy types k (m.types k)
      of (inl r) = r
      of (inr z) = absurd (z.0 e c)

  -- a symbol has one of its symbols, and no type
  pub replaced_symbol : (k j : ℕ) → Contains symbols (k, j) → Contains symbols (k, m.symbols k)
  replaced_symbol k j c = of (symbol_cases types symbols (length xs) (kept o final) k)
    where
      of : Contains symbols (k, m.symbols k) ⊎ IsOther symbols (length xs) (kept o final) k (m.symbols k) → Contains symbols (k, m.symbols k)
      of (inl z) = z
      of (inr z) = absurd (z.0 j c)

  -- ---- the map by which signatures were compared
  free_made : (k : ℕ) → IsMadeOwn o k → Contains (kept o no_effects) k
  free_made k x = kept_there o no_effects o.own x.place k x.own refl x.makes

  pub agrees : AgreeOn (length xs) tried m
  agrees = record {
    types = λ k. types_alike types [] symbols (length xs) (length xs) (kept o no_effects) (kept o final) k;
    symbols = λ k n l. of k l (symbol_cases types [] (length xs) (kept o no_effects) k);
  }
    where
      other : (k : ℕ) → tried.symbols k < length xs → IsAt (length xs) (kept o no_effects) k (tried.symbols k) ⊎ ((Contains (kept o no_effects) k → ⊥) × (tried.symbols k ≡ k)) → tried.symbols k ≡ m.symbols k
      other k l (inl a) = absurd (let x = a.is in omega (arith, x, l))
      other k l (inr a) = a.1 ∙ sym (fixed k (λ x. a.0 (free_made k x))).symbol

      of : (k : ℕ) → tried.symbols k < length xs → Contains {X = ℕ × ℕ} [] (k, tried.symbols k) ⊎ IsOther [] (length xs) (kept o no_effects) k (tried.symbols k) → tried.symbols k ≡ m.symbols k
      of k l (inl c) = absurd (none_here (k, tried.symbols k) c)
      of k l (inr z) = other k l z.1
