-- A declaration that stays as it is, or is replaced: what it makes may be named where its symbols have images.
use Rattle.std.proofs.Common.{◌≡◌, ℕ, List, [], ◌∷◌, ◌++◌, All, Contains, sym, ap, subst, ◌∙◌, append-nil}
use Rattle.std.proofs.lemmas.List.Elements.{All-nil, All-cons, All-append}
use Rattle.elab_groups.specs.tasks.Task.{SymbolTree, symbol_or, DeclarationTree, made, made_by}
use Rattle.elab_groups.specs.tasks.Roles.{is_constructor, role_in}
use Rattle.elab_groups.specs.tasks.Valid.{IsValidDecl}
use Rattle.clones.specs.Mapped.{Map}
use Rattle.elaboration_laws.specs.Lists.{after}
use Rattle.elaboration_laws.proofs.Lists.{list_part}
use Rattle.elaboration_laws.specs.Built.{IsBuiltRight}
use Rattle.elaboration_laws.specs.Tasks.{IsOwnSymbol, IsOfTheory, AreSound, HasRecords}
use Rattle.elaboration_laws.proofs.Distinct.{IsDistinct, distinct_pairs, pairs_distinct, distinct_both}
use Rattle.elaboration_laws.proofs.TupleDecls.{made_both}
use Rattle.elaboration_laws.proofs.Grown.{then_valid, more_part, sound_more}
use Rattle.elaboration_laws.specs.Cloning.{IsImage, IsCloning}
use Rattle.elaboration_laws.proofs.Extending.{morphism_more, morphism_next}

module _ (xs : List SymbolTree) (pre : List DeclarationTree) (m : Map) (symbols : List SymbolTree) (now : List DeclarationTree) (h : IsCloning xs pre m symbols now) (d : DeclarationTree) (whole : AreSound xs (pre ++ d ∷ [])) where
  -- it leaves nothing: each of its symbols has an image already
  pub cloning_left : ((k : ℕ) → Contains (made_by d.body) k → IsImage (after symbols [] now) m (symbol_or xs k) k (is_constructor (role_in k d.body))) → IsCloning xs (pre ++ d ∷ []) m symbols now
  cloning_left images = record { source = whole; sound = h.sound; morphism = morphism_next xs pre d (after symbols [] now) m h.morphism images }

  abbrev HasTheirs : DeclarationTree → Type 0
  HasTheirs b = HasRecords symbols (made_by b.body)

  -- it stays as it is
  pub cloning_taken : IsValidDecl (after symbols [] (now ++ d ∷ [])) d → All (IsOwnSymbol symbols) (made_by d.body) → IsOfTheory symbols d → HasRecords symbols (made_by d.body) → IsDistinct (made_by d.body) → ((k : ℕ) → Contains (made now) k → Contains (made_by d.body) k → ⊥)
      → ((k : ℕ) → Contains (made_by d.body) k → IsImage (after symbols [] (now ++ d ∷ [])) m (symbol_or xs k) k (is_constructor (role_in k d.body))) → IsCloning xs (pre ++ d ∷ []) m symbols (now ++ d ∷ [])
  cloning_taken valid own theory records distinct apart images = record {
    source = whole;
    sound = record {
      built = h.sound.built;
      valid = then_valid symbols [] now (d ∷ []) h.sound.valid (valid, tt);
      once = distinct_pairs (made (now ++ d ∷ [])) (subst IsDistinct (sym all_made) (distinct_both (made now) (made_by d.body) (pairs_distinct (made now) h.sound.once) distinct apart));
      own = subst (All (IsOwnSymbol symbols)) (sym all_made) (All-append (IsOwnSymbol symbols) (made now) (made_by d.body) h.sound.own own);
      theories = All-append (IsOfTheory symbols) now (d ∷ []) h.sound.theories (All-cons (IsOfTheory symbols) d [] theory (All-nil (IsOfTheory symbols)));
      records = All-append HasTheirs now (d ∷ []) h.sound.records (All-cons HasTheirs d [] records (All-nil HasTheirs));
    };
    morphism = morphism_next xs pre d (after symbols [] (now ++ d ∷ [])) m (morphism_more (after symbols [] now) (after symbols [] (now ++ d ∷ [])) (list_part symbols [] now (d ∷ [])) (after xs [] pre) m h.morphism) images;
  }
    where
      all_made : made (now ++ d ∷ []) ≡ made now ++ made_by d.body
      all_made = made_both now (d ∷ []) ∙ ap (λ (ks : List ℕ). made now ++ ks) (append-nil (made_by d.body))

-- with more entries
pub cloning_entries : (xs : List SymbolTree) (pre : List DeclarationTree) (m : Map) (symbols more : List SymbolTree) (now : List DeclarationTree) → IsCloning xs pre m symbols now → IsBuiltRight (symbols ++ more) → IsCloning xs pre m (symbols ++ more) now
cloning_entries xs pre m symbols more now h b = record {
  source = h.source;
  sound = sound_more symbols more now h.sound b;
  morphism = morphism_more (after symbols [] now) (after (symbols ++ more) [] now) (more_part symbols more [] now) (after xs [] pre) m h.morphism;
}
