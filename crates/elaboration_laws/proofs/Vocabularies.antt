-- What sound declarations make has types over what they make.
use Rattle.std.proofs.Common.{◌≡◌, ◌⊎◌, inl, inr, ℕ, ◌<◌, ◌||◌, Bool, true, false, List, [], length, slice_get, Contains, Option, Some, IsTrue, refl, subst}
use Rattle.std.specs.Option.{is_some}
use Rattle.std.proofs.lemmas.List.Elements.{All-contains}
use Rattle.elab_groups.specs.tasks.Task.{SymbolTree, DeclarationTree, made}
use Rattle.elab_groups.specs.tasks.Roles.{maker}
use Rattle.elab_groups.specs.tasks.Vocabulary.{Vocabulary, passes}
use Rattle.elab_groups.specs.tasks.Typing.{entry}
use Rattle.elab_groups.specs.tasks.Valid.{HasTypes}
use Rattle.elab_groups.proofs.tasks.Declared.{maker_made}
use Rattle.elab_groups.proofs.tasks.MadeEntries.{made_entry}
use Rattle.elaboration_laws.specs.Scopes.{IsTypedEntry}
use Rattle.elaboration_laws.proofs.Extended.{entry_more}
use Rattle.elaboration_laws.specs.Lists.{is_built, after}
use Rattle.elaboration_laws.proofs.Lists.{list_part, list_valid}
use Rattle.elaboration_laws.specs.Tasks.{IsOwnSymbol, AreSound}
use Rattle.elaboration_laws.proofs.Grown.{own_below}
use Rattle.elaboration_laws.proofs.Joined.{matched_usable}
use Rattle.elaboration_laws.specs.Morphisms.{AreTyped}
use Rattle.elaboration_laws.proofs.Begun.{entry_built, slice_or}

pub either : (a b : Bool) → IsTrue (a || b) → IsTrue a ⊎ IsTrue b
either true b h = inl refl
either false b h = inr h

module _ (xs : List SymbolTree) (ds : List DeclarationTree) where
  abbrev v : Vocabulary
  v = after xs [] ds

  pub usable_cases : (k : ℕ) → IsTrue (v.usable k) → IsTrue (passes is_built (slice_get xs k)) ⊎ Contains (made ds) k
  usable_cases k h = of (either (passes is_built (slice_get xs k)) (is_some (maker ds k)) h)
    where
      of : IsTrue (passes is_built (slice_get xs k)) ⊎ IsTrue (is_some (maker ds k)) → IsTrue (passes is_built (slice_get xs k)) ⊎ Contains (made ds) k
      of (inl z) = inl z
      of (inr z) = inr (maker_made k ds z)

  module _ (sound : AreSound xs ds) where
    pub made_below : (k : ℕ) → Contains (made ds) k → k < length xs
    made_below k c = own_below xs [] k (All-contains (IsOwnSymbol xs) (made ds) k sound.own c)

    types_of : (k : ℕ) (e : SymbolTree) → entry v k ≡ Some e → IsTrue (passes is_built (slice_get xs k)) ⊎ Contains (made ds) k → HasTypes v e
    types_of k e q (inl h) =
        let b : is_built e ≡ true = subst (λ (o : Option SymbolTree). IsTrue (passes is_built o)) q h in
        let t : IsTypedEntry (after xs [] []) e = entry_built xs sound.built k e q (sound.built.alone k e q b) in
        (entry_more (after xs [] []) v (list_part xs [] [] ds) e t).types
    types_of k e q (inr c) = subst (HasTypes v) (slice_or xs k e q) (made_entry v k ds (list_valid xs [] ds sound.valid) c).types

    pub typed_list : AreTyped v
    typed_list k e q (inl u) nk = types_of k e q (usable_cases k u)
    typed_list k e q (inr u) nk = types_of k e q (usable_cases k (matched_usable xs ds k u))
