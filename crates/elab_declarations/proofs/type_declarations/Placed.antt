-- What names mean where the names of a group are there, among them those of entries that aren't made yet.
use Rattle.std.proofs.Common.{◌≡◌, Option, None, Some, ℕ, suc, ◌+◌, ◌<◌, ◌≤◌, true, List, [], ◌∷◌, ◌++◌, length, length-append, IfSome, refl, sym, ap, subst, ◌∙◌, arith}
use Rattle.std.proofs.Math.ListN.{length-map}
use Rattle.trees.specs.Tree.{Tree}
use Rattle.trees.specs.Node.{Grows}
use Rattle.trees.proofs.Nodes.{Grows_refl}
use Rattle.tasks.specs.declared.signature.SymbolInfo.{SymbolInfo}
use Rattle.tasks.specs.declared.signature.Signature.{Signature}
use Rattle.tasks.specs.Task.{SymbolTree}
use Rattle.tasks.specs.Meaning.{symbols_at}
use Rattle.scopes.specs.Names.{NamesOf, ScopeNames, with_entry, names_with}
use Rattle.scopes.specs.declared.Table.TheVariants.{Types, Symbols}
use Rattle.scopes.specs.declared.Referent.TheVariants as stands
use Rattle.surface.specs.Lexeme.{Word}
use Rattle.name_resolution.specs.Naming.{type_named, scope_at}
use Rattle.name_resolution.specs.Where.{NamesTree}
use Rattle.name_resolution.specs.declared.world.World.{World}
use Rattle.open_types.specs.Drafts.{MeaningHeld, WorldHeld}
use Rattle.open_types.specs.Scoped.{IsScoped}
use Rattle.elab_groups.specs.parts.Declarations.{TokenName, Parameter, AlgebraicConstructor, AlgebraicType, called_names}
use Rattle.elab_groups.specs.members.Members.{parameter_words, words_of_parameters}
use Rattle.elab_groups.specs.parts.Entries.{IsSignature, IsExtended, AreScopes}
use Rattle.elab_groups.specs.parts.Outcomes.{over}
use Rattle.elab_groups.proofs.parts.AtScope.{entered_with}
use Rattle.elab_groups.proofs.parts.Overs.{scope_stays}
use Rattle.elab_groups.proofs.parts.Entering.{entries_stay, extended_none, extended_both}
use Rattle.elab_groups.proofs.parts.Scopes.{type_thing, meaning_held, scoped_at, tuples_below, scopes_grow, scopes_more}
use Rattle.elab_declarations.specs.type_declarations.Algebraics.{NumberedName, count_fields, entry_count, group_count, numbered_names, numbered_fields, numbered_constructors, with_numbered, with_constructors, with_types}
use Rattle.elab_declarations.specs.type_declarations.Held.{HaveThings}

-- ---- names of entries below a number
abbrev pub AreNumbered : (ℕ → Type 0) → List NumberedName → Type 0
AreNumbered P [] = Unit {0}
AreNumbered P (x ∷ xs) = P x.number × AreNumbered P xs

pub both_numbered : (P : ℕ → Type 0) (xs ys : List NumberedName) → AreNumbered P xs → AreNumbered P ys → AreNumbered P (xs ++ ys)
both_numbered P [] ys h k = k
both_numbered P (x ∷ xs) ys h k = (h.0, both_numbered P xs ys h.1 k)

-- of fields from a number on: a field without a name has an entry too
module _ (P : ℕ → Type 0) where
  names_numbered : (n : ℕ) (cs : List TokenName) → ((i : ℕ) → i < length cs → P (n + i)) → AreNumbered P (numbered_names n cs)
  names_numbered n [] h = tt
  names_numbered n (c ∷ cs) h =
      (subst P (search (arith)) (h 0 (omega arith)), names_numbered (n + 1) cs (λ i l. subst P (search (arith)) (h (suc i) (omega arith))))

  names_within : (cs : List TokenName) → length cs ≤ length (parameter_words cs)
  names_within [] = omega arith
  names_within (c ∷ cs) = let l = length-map (c ∷ cs) (λ (x : TokenName). x.name) in omega (arith, l)

  pub fields_numbered : (n : ℕ) (ps : List Parameter) → ((i : ℕ) → i < count_fields ps → P (n + i)) → AreNumbered P (numbered_fields n ps)
  fields_numbered n [] h = tt
  fields_numbered n (p ∷ ps) h =
      let m = length (parameter_words p.names) in
      let w = names_within p.names in
      let l : count_fields (p ∷ ps) ≡ m + count_fields ps = length-append (parameter_words p.names) (words_of_parameters ps) in
      both_numbered P (numbered_names n p.names) (numbered_fields (n + m) ps)
      (names_numbered n p.names (λ i e. h i (omega (arith, e, w, l))))
      (fields_numbered (n + m) ps (λ i e. subst P (search (arith)) (h (m + i) (omega (arith, e, l)))))

  called_numbered : (n : ℕ) (o : Option TokenName) → P n → AreNumbered P (numbered_names n (called_names o))
  called_numbered n None h = tt
  called_numbered n (Some c) h = (h, tt)

  pub constructors_numbered : (n : ℕ) (ks : List AlgebraicConstructor) → ((i : ℕ) → i < entry_count ks → P (n + i)) → AreNumbered P (numbered_constructors n ks)
  constructors_numbered n [] h = tt
  constructors_numbered n (k ∷ ks) h =
      let m = count_fields k.fields + 1 in
      both_numbered P (numbered_names n (called_names k.called)) (numbered_fields (n + 1) k.fields ++ numbered_constructors (n + m) ks)
      (called_numbered n k.called (subst P (search (arith)) (h 0 (omega arith))))
      (both_numbered P (numbered_fields (n + 1) k.fields) (numbered_constructors (n + m) ks)
      (fields_numbered (n + 1) k.fields (λ i e. subst P (search (arith)) (h (suc i) (omega arith))))
      (constructors_numbered (n + m) ks (λ i e. subst P (search (arith)) (h (m + i) (omega arith)))))

scopes_numbered : (s : List Tree) (m : ℕ) (xs : List NumberedName) (names : ScopeNames) → AreNumbered (λ (i : ℕ). i < m) xs → AreScopes s m names → AreScopes s m (with_numbered xs names)
scopes_numbered s m [] names h k = k
scopes_numbered s m (x ∷ xs) names h k = scopes_numbered s m xs (with_entry Symbols x.name x.number true names) h.1 (scopes_more s m names Symbols x.name (stands.Entry x.number) true h.0 k)

pub scopes_constructors : (s : List Tree) (m n : ℕ) (ks : List AlgebraicConstructor) (names : ScopeNames) → n + entry_count ks ≤ m → AreScopes s m names → AreScopes s m (with_constructors n ks names)
scopes_constructors s m n ks names h k = scopes_numbered s m (numbered_constructors n ks) names (constructors_numbered (λ (i : ℕ). i < m) n ks (λ i e. omega (arith, e, h))) k

pub scopes_types : (s : List Tree) (m i n : ℕ) (ts : List AlgebraicType) (names : ScopeNames) → i + length ts ≤ m → n + group_count ts ≤ m → AreScopes s m names → AreScopes s m (with_types i n ts names)
scopes_types s m i n [] names h l k = k
scopes_types s m i n (a ∷ ts) names h l k =
    let named = with_entry Types a.called.name i true names in
    let one : AreScopes s m named = scopes_more s m names Types a.called.name (stands.Entry i) true (omega arith) k in
    scopes_types s m (i + 1) (n + entry_count a.constructors) ts (with_constructors n a.constructors named) (omega arith) (omega arith) (scopes_constructors s m n a.constructors named (omega arith) one)

-- ---- the names of a group in the scopes of definitions
module _ {A B : Type 0} (f : A → B) where
  numbered_with : (xs : List NumberedName) (names : NamesOf A) → names_with f (with_numbered xs names) ≡ with_numbered xs (names_with f names)
  numbered_with [] names = refl
  numbered_with (x ∷ xs) names = numbered_with xs (with_entry Symbols x.name x.number true names) ∙ ap (with_numbered xs) (entered_with f Symbols x.name x.number names)

  pub types_with : (i n : ℕ) (ts : List AlgebraicType) (names : NamesOf A) → names_with f (with_types i n ts names) ≡ with_types i n ts (names_with f names)
  types_with i n [] names = refl
  types_with i n (a ∷ ts) names =
      let m = n + entry_count a.constructors in
      let named = with_entry Types a.called.name i true names in
      types_with (i + 1) m ts (with_constructors n a.constructors named)
      ∙ ap (with_types (i + 1) m ts) (numbered_with (numbered_constructors n a.constructors) named ∙ ap (with_constructors n a.constructors) (entered_with f Types a.called.name i names))

-- ---- names of entries below any number
module _ (s : List Tree) (n : ℕ) (names : ScopeNames) (h : AreScopes s n names) where
  further : AreScopes s (n + 1) names
  further = scopes_grow s s (Grows_refl s) n (n + 1) (omega arith) names h

  pub placed_held : (is : List SymbolInfo) (w : World) → IsSignature s is → w.symbols.now ≡ is → w.scope.now ≡ names → WorldHeld s w
  placed_held is w sig symbols scope = record {
    symbols = rw symbols sig.typed;
    types = subst (λ (ns : ScopeNames). (qs : List Word) (x : Word) → IfSome (type_named ns qs x) (MeaningHeld s)) (sym scope) (λ qs x. meaning_held s (n + 1) (type_named names qs x) (type_thing s (n + 1) names further (omega arith) qs x));
  }

  pub placed_scoped : (is : List SymbolInfo) (vars : List Word) → IsSignature s is → IsScoped (over (symbols_at s is) (scope_at s names) vars)
  placed_scoped is vars sig = record {
    symbols = sig.scoped;
    types = λ qs x. scoped_at s (n + 1) names further (omega arith) qs x;
    tuples = tuples_below (symbols_at s is) sig.int;
  }

-- where the store grows
module _ (s s' : List Tree) (g : Grows s s') where
  pub things_grow : (names : ScopeNames) → HaveThings s names → HaveThings s' names
  things_grow names h = (h.0, scopes_grow s s' g h.0 h.0 (omega arith) names h.1)

  pub over_grows : (is : List SymbolInfo) (names : ScopeNames) (vars : List Word) → IsSignature s is → HaveThings s names → over (symbols_at s' is) (scope_at s' names) vars ≡ over (symbols_at s is) (scope_at s names) vars
  over_grows is names vars sig h = ap (λ (es : List SymbolTree). over es (scope_at s' names) vars) (entries_stay s s' g is sig) ∙ ap (λ (ns : NamesTree). over (symbols_at s is) ns vars) (scope_stays s s' g h.0 names h.1)

  pub extended_over : (a b : Signature) (more : List SymbolTree) → IsSignature s a.symbols → IsExtended s' a s' b more → IsExtended s a s' b more
  extended_over a b more sig h = extended_both [] more (extended_none s s' g a sig) h
