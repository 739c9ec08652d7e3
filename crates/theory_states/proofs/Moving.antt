-- Names that come into scopes by moves: whatever their types are, held, and as the store grows.
use Rattle.std.proofs.Common.{◌≡◌, ℕ, zero, suc, Bool, true, false, cond, nat_lt, List, [], ◌∷◌, map, length, get_or, Option, Some, None, All, refl, ap, ◌∙◌}
use Rattle.std.proofs.lemmas.List.Elements.{All-nil, All-cons, All-head, All-tail, All-set, All-push}
use Rattle.trees.specs.Tree.{Tree}
use Rattle.trees.specs.Node.{Grows}
use Rattle.tasks.proofs.Growth.{map_agree}
use Rattle.scopes.specs.declared.Table.{Table}
use Rattle.scopes.specs.declared.Table.TheVariants.{Scopes}
use Rattle.scopes.specs.declared.Referent.TheVariants as stands
use Rattle.scopes.specs.Names.{EntryOf, NamesOf, ScopeEntry, ScopeNames, TypeName, entries_of, innermost, with_name, with_scope, closed, entry_with, names_with}
use Rattle.scopes.proofs.Mapped.{named_with, opened_with}
use Rattle.surface.specs.declared.declarations.Link.{Link}
use Rattle.surface.specs.declared.declarations.Link.TheVariants.{Bare, Import, Export}
use Rattle.elab_groups.specs.name_resolution.Naming.{type_tree_at, meaning_at, scope_at}
use Rattle.elab_groups.specs.name_resolution.Where.{MeaningTree, NamesTree}
use Rattle.elab_groups.specs.open_types.Drafts.{MeaningHeld}
use Rattle.elab_groups.proofs.open_types.Growing.{type_grows, type_stays}
use Rattle.theory_states.specs.declared.moves.Move.{Move}
use Rattle.theory_states.specs.declared.moves.Move.TheVariants.{Brings, Opens, Closes}
use Rattle.theory_states.specs.Moves.{MoveTree, move_with, left, moved, replayed, name_or, in_scope, brought, handed}
use Rattle.theory_states.specs.Meaning.{move_at, NamesHeld, MoveHeld}

-- ---- moves commute with a map of types
module _ {A B : Type 0} (f : A → B) where
  pub left_with : (names : NamesOf A) → names_with f (left names) ≡ left (names_with f names)
  left_with names = of (nat_lt 1 (length names.nested))
    where
      of : (b : Bool) → names_with f (cond b (closed names) names) ≡ cond b (closed (names_with f names)) (names_with f names)
      of true = refl
      of false = refl

  pub moved_with : (m : Move A) (names : NamesOf A) → names_with f (moved m names) ≡ moved (move_with f m) (names_with f names)
  moved_with (Brings table x t) names = named_with f table x t false names
  moved_with (Opens x) names = opened_with f x false names
  moved_with Closes names = left_with names

  pub replayed_with : (ms : List (Move A)) (names : NamesOf A) → names_with f (replayed ms names) ≡ replayed (map (move_with f) ms) (names_with f names)
  replayed_with [] names = refl
  replayed_with (m ∷ ms) names = replayed_with ms (moved m names) ∙ ap (replayed (map (move_with f) ms)) (moved_with m names)

  pub in_scope_with : (x : List ℕ) (ms : List (Move A)) (names : NamesOf A) → names_with f (in_scope x ms names) ≡ in_scope x (map (move_with f) ms) (names_with f names)
  in_scope_with x ms names = left_with (replayed ms (with_scope x false names)) ∙ ap left (replayed_with ms (with_scope x false names) ∙ ap (replayed (map (move_with f) ms)) (opened_with f x false names))

  in_both_with : (x : List ℕ) (ms : List (Move A)) (names : NamesOf A) → names_with f (replayed ms (in_scope x ms names)) ≡ replayed (map (move_with f) ms) (in_scope x (map (move_with f) ms) (names_with f names))
  in_both_with x ms names = replayed_with ms (in_scope x ms names) ∙ ap (replayed (map (move_with f) ms)) (in_scope_with x ms names)

  pub brought_with : (link : Link) (last : List ℕ) (alias : Option (List ℕ)) (ms : List (Move A)) (names : NamesOf A)
      → names_with f (brought link last alias ms names) ≡ brought link last alias (map (move_with f) ms) (names_with f names)
  brought_with Export last alias ms names = replayed_with ms names
  brought_with Import last alias ms names = in_both_with (name_or last alias) ms names
  brought_with Bare last (Some x) ms names = in_scope_with x ms names
  brought_with Bare last None ms names = in_both_with last ms names

  pub handed_with : (link : Link) (ms : List (Move A)) → map (move_with f) (handed link ms) ≡ handed link (map (move_with f) ms)
  handed_with Export ms = refl
  handed_with Import ms = refl
  handed_with Bare ms = refl

-- ---- names and moves that are held
module _ (s : List Tree) where
  abbrev EntryHeld : ScopeEntry → Type 0
  EntryHeld e = MeaningHeld s e.thing

  entries_held : (ess : List (List ScopeEntry)) (k : ℕ) → All (All EntryHeld) ess → All EntryHeld (get_or ess k [])
  entries_held [] k h = All-nil EntryHeld
  entries_held (es ∷ ess) zero h = All-head (All EntryHeld) es ess h
  entries_held (es ∷ ess) (suc k) h = entries_held ess k (All-tail (All EntryHeld) es ess h)

  pub named_held : (table : Table) (x : List ℕ) (t : TypeName) (d : Bool) (names : ScopeNames) → MeaningHeld s t → NamesHeld s names → NamesHeld s (with_name table x t d names)
  named_held table x t d names k h =
      let old : List ScopeEntry = entries_of names (innermost names) in
      let e : ScopeEntry = record { table = table; name = x; thing = t; declared = d } in
      All-set (All EntryHeld) names.entries (innermost names) (e ∷ old) (All-cons EntryHeld e old k (entries_held names.entries (innermost names) h)) h

  pub opened_held : (x : List ℕ) (d : Bool) (names : ScopeNames) → NamesHeld s names → NamesHeld s (with_scope x d names)
  opened_held x d names h =
      let it : ScopeNames = with_name Scopes x (stands.Entry (length names.entries)) d names in
      All-push (All EntryHeld) it.entries [] (named_held Scopes x (stands.Entry (length names.entries)) d names tt h) (All-nil EntryHeld)

  pub left_held : (names : ScopeNames) → NamesHeld s names → NamesHeld s (left names)
  left_held names h = of (nat_lt 1 (length names.nested))
    where
      of : (b : Bool) → NamesHeld s (cond b (closed names) names)
      of true = h
      of false = h

  moved_held : (m : Move ℕ) (names : ScopeNames) → MoveHeld s m → NamesHeld s names → NamesHeld s (moved m names)
  moved_held (Brings table x t) names k h = named_held table x t false names k h
  moved_held (Opens x) names k h = opened_held x false names h
  moved_held Closes names k h = left_held names h

  pub replayed_held : (ms : List (Move ℕ)) (names : ScopeNames) → All (MoveHeld s) ms → NamesHeld s names → NamesHeld s (replayed ms names)
  replayed_held [] names k h = h
  replayed_held (m ∷ ms) names k h = replayed_held ms (moved m names) (All-tail (MoveHeld s) m ms k) (moved_held m names (All-head (MoveHeld s) m ms k) h)

  pub in_scope_held : (x : List ℕ) (ms : List (Move ℕ)) (names : ScopeNames) → All (MoveHeld s) ms → NamesHeld s names → NamesHeld s (in_scope x ms names)
  in_scope_held x ms names k h = left_held (replayed ms (with_scope x false names)) (replayed_held ms (with_scope x false names) k (opened_held x false names h))

  pub brought_held : (link : Link) (last : List ℕ) (alias : Option (List ℕ)) (ms : List (Move ℕ)) (names : ScopeNames) → All (MoveHeld s) ms → NamesHeld s names → NamesHeld s (brought link last alias ms names)
  brought_held Export last alias ms names k h = replayed_held ms names k h
  brought_held Import last alias ms names k h = replayed_held ms (in_scope (name_or last alias) ms names) k (in_scope_held (name_or last alias) ms names k h)
  brought_held Bare last (Some x) ms names k h = in_scope_held x ms names k h
  brought_held Bare last None ms names k h = replayed_held ms (in_scope last ms names) k (in_scope_held last ms names k h)

  pub handed_held : (link : Link) (ms : List (Move ℕ)) → All (MoveHeld s) ms → All (MoveHeld s) (handed link ms)
  handed_held Export ms k = k
  handed_held Import ms k = All-nil (MoveHeld s)
  handed_held Bare ms k = All-nil (MoveHeld s)

-- ---- over a store that grew
module _ (s s' : List Tree) (g : Grows s s') where
  meaning_stays : (t : TypeName) → MeaningHeld s t → meaning_at s' t ≡ meaning_at s t
  meaning_stays (stands.Entry k) h = refl
  meaning_stays (stands.Alias vars ty) h = ap (stands.Alias vars) (type_stays s s' g (record { 0 = ty }) h)

  meaning_grows : (t : TypeName) → MeaningHeld s t → MeaningHeld s' t
  meaning_grows (stands.Entry k) h = tt
  meaning_grows (stands.Alias vars ty) h = type_grows s s' g (record { 0 = ty }) h

  entry_stays : (e : ScopeEntry) → MeaningHeld s e.thing → entry_with (type_tree_at s') e ≡ entry_with (type_tree_at s) e
  entry_stays e h = ap (λ (t : MeaningTree). let it : EntryOf Tree = record { table = e.table; name = e.name; thing = t; declared = e.declared } in it) (meaning_stays e.thing h)

  pub names_stay : (names : ScopeNames) → NamesHeld s names → scope_at s' names ≡ scope_at s names
  names_stay names h =
      ap (λ (ess : List (List (EntryOf Tree))). let it : NamesTree = record { entries = ess; nested = names.nested } in it)
      (map_agree (map (entry_with (type_tree_at s'))) (map (entry_with (type_tree_at s))) names.entries
      (λ k es l. map_agree (entry_with (type_tree_at s')) (entry_with (type_tree_at s)) (get_or names.entries k es) (λ j e i. entry_stays (get_or (get_or names.entries k es) j e) (h k es l j e i))))

  pub names_grow : (names : ScopeNames) → NamesHeld s names → NamesHeld s' names
  names_grow names h = λ k es l. λ j e i. meaning_grows (get_or (get_or names.entries k es) j e).thing (h k es l j e i)

  pub move_stays : (m : Move ℕ) → MoveHeld s m → move_at s' m ≡ move_at s m
  move_stays (Brings table x t) h = ap (λ (z : MeaningTree). let it : MoveTree = Brings table x z in it) (meaning_stays t h)
  move_stays (Opens x) h = refl
  move_stays Closes h = refl

  pub move_grows : (m : Move ℕ) → MoveHeld s m → MoveHeld s' m
  move_grows (Brings table x t) h = meaning_grows t h
  move_grows (Opens x) h = tt
  move_grows Closes h = tt

  pub moves_stay : (ms : List (Move ℕ)) → All (MoveHeld s) ms → map (move_at s') ms ≡ map (move_at s) ms
  moves_stay ms a = map_agree (move_at s') (move_at s) ms (λ k m h. move_stays (get_or ms k m) (a k m h))

  pub moves_grow : (ms : List (Move ℕ)) → All (MoveHeld s) ms → All (MoveHeld s') ms
  moves_grow ms a = λ k m h. move_grows (get_or ms k m) (a k m h)
