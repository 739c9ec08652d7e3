-- The steps of a clone by places: their declarations are those at the places, and those that are joined are the ones of other theories.
use Rattle.std.proofs.Common.{◌≡◌, ℕ, ◌<◌, not, if◌then◌else◌, cond, Bool, true, false, List, [], ◌∷◌, ◌++◌, length, get_or, slice_get, All, Option, Some, None, option_to_list, append_assoc, refl, sym, ap, ◌∙◌}
use Rattle.std.proofs.lemmas.List.Elements.{All-head, All-tail, All-append, Contains-get_or}
use Rattle.tasks.specs.Task.{SymbolTree, DeclarationTree, made_by}
use Rattle.elaboration_laws.specs.clones.Mapped.{Map}
use Rattle.surface.specs.Lexeme.{Word}
use Rattle.surface.specs.declared.declarations.PropKind.{PropKind}
use Rattle.surface.specs.declared.declarations.PropKind.TheVariants as kind
use Rattle.theory_states.specs.States.{at_places}
use Rattle.elaboration_laws.specs.Sound.{others}
use Rattle.elaboration_laws.specs.Cloning.{IsMadeRight, AreMadeRight}
use Rattle.elaboration_laws.specs.Steps.{CopyStep, leaves, joins, declaration_of, declarations_of, taken_of, made_of, made_from, IsClone}
use Rattle.elaboration_laws.proofs.Vocabularies.{made_below}
use Rattle.elaboration_laws.proofs.ClonedGoals.{right_more}
use Rattle.elaboration_laws.proofs.StateOthers.{made_right_of}
use Rattle.elaboration_laws.specs.clones.clone_elements.Left.{no_declaration, decl_or}
use Rattle.elaboration_laws.specs.clones.clone_elements.Replacements.{is_replaced, kind_or}
use Rattle.elaboration_laws.specs.clones.clone_copies.Origins.{is_own}
use Rattle.elaboration_laws.specs.clones.clone_copies.Places.{Copying}
use Rattle.elaboration_laws.specs.PlaceSteps.{step_as, step_of, copy_step_at, copy_steps_at}
use Rattle.std.proofs.lemmas.Option.{slice_get-get_or as some_at}
use Rattle.elaboration_laws.proofs.Joined.{into_made}

module _ (x : Copying) (ds : List DeclarationTree) where
  of_kind : (k : PropKind) (d : DeclarationTree) → declaration_of (step_as k d) ≡ d
  of_kind kind.Goal d = refl
  of_kind kind.Axiom d = refl
  of_kind kind.Lemma d = refl

  of_axiom : (k : ℕ) (a : Option (List Word)) (d : DeclarationTree) → declaration_of (step_of x k a d) ≡ d
  of_axiom k None d = refl
  of_axiom k (Some vars) d = of_kind (kind_or (x.effects k) x.all) d

  pub step_is : (k : ℕ) → declaration_of (copy_step_at x ds k) ≡ decl_or ds k
  step_is k = of (is_own ds x.path k) (is_replaced (x.effects k))
    where
      of : (a r : Bool) → declaration_of (if a then (if r then leaves (decl_or ds k) else step_of x k (x.axioms k) (decl_or ds k)) else joins (decl_or ds k)) ≡ decl_or ds k
      of true true = refl
      of true false = of_axiom k (x.axioms k) (decl_or ds k)
      of false r = refl

  one_at : (k : ℕ) → k < length ds → option_to_list (slice_get ds k) ≡ decl_or ds k ∷ []
  one_at k l = ap option_to_list (some_at ds k no_declaration l)

  cell : (k : ℕ) (ks : List ℕ) → k < length ds → at_places ds (k ∷ ks) ≡ decl_or ds k ∷ at_places ds ks
  cell k ks l = ap (λ (es : List DeclarationTree). es ++ at_places ds ks) (one_at k l)

  pub steps_declarations : (ks : List ℕ) → All (λ (k : ℕ). k < length ds) ks → declarations_of (copy_steps_at x ds ks) ≡ at_places ds ks
  steps_declarations [] low = refl
  steps_declarations (k ∷ ks) low =
      ap (λ (d : DeclarationTree). d ∷ declarations_of (copy_steps_at x ds ks)) (step_is k)
      ∙ (ap (λ (es : List DeclarationTree). decl_or ds k ∷ es) (steps_declarations ks (All-tail (λ (i : ℕ). i < length ds) k ks low))
      ∙ sym (cell k ks (All-head (λ (i : ℕ). i < length ds) k ks low)))

  -- ---- those that are joined
  taken_kind : (k : PropKind) (d : DeclarationTree) (ss : List CopyStep) → taken_of (step_as k d ∷ ss) ≡ taken_of ss
  taken_kind kind.Goal d ss = refl
  taken_kind kind.Axiom d ss = refl
  taken_kind kind.Lemma d ss = refl

  taken_axiom : (k : ℕ) (a : Option (List Word)) (d : DeclarationTree) (ss : List CopyStep) → taken_of (step_of x k a d ∷ ss) ≡ taken_of ss
  taken_axiom k None d ss = refl
  taken_axiom k (Some vars) d ss = taken_kind (kind_or (x.effects k) x.all) d ss

  taken_step : (k : ℕ) (ss : List CopyStep) → taken_of (copy_step_at x ds k ∷ ss) ≡ cond (not (is_own ds x.path k)) (decl_or ds k ∷ taken_of ss) (taken_of ss)
  taken_step k ss = of (is_own ds x.path k) (is_replaced (x.effects k))
    where
      of : (a r : Bool) → taken_of ((if a then (if r then leaves (decl_or ds k) else step_of x k (x.axioms k) (decl_or ds k)) else joins (decl_or ds k)) ∷ ss) ≡ cond (not a) (decl_or ds k ∷ taken_of ss) (taken_of ss)
      of true true = refl
      of true false = taken_axiom k (x.axioms k) (decl_or ds k) ss
      of false r = refl

  pub steps_taken : (ks : List ℕ) → All (λ (k : ℕ). k < length ds) ks → taken_of (copy_steps_at x ds ks) ≡ others x.path (at_places ds ks)
  steps_taken [] low = refl
  steps_taken (k ∷ ks) low =
      taken_step k (copy_steps_at x ds ks)
      ∙ (ap (λ (es : List DeclarationTree). cond (not (is_own ds x.path k)) (decl_or ds k ∷ es) es) (steps_taken ks (All-tail (λ (i : ℕ). i < length ds) k ks low))
      ∙ sym (ap (others x.path) (cell k ks (All-head (λ (i : ℕ). i < length ds) k ks low))))

  pub steps_both : (ks more : List ℕ) → copy_steps_at x ds (ks ++ more) ≡ copy_steps_at x ds ks ++ copy_steps_at x ds more
  steps_both [] more = refl
  steps_both (k ∷ ks) more = ap (λ (ss : List CopyStep). copy_step_at x ds k ∷ ss) (steps_both ks more)

-- ---- what they make is made right
pub right_after : (xs more : List SymbolTree) (m : Map) (theory within : List ℕ) (first : List DeclarationTree) (ss : List CopyStep) → IsClone xs more m theory within first ss → AreMadeRight xs (declarations_of ss) → AreMadeRight (xs ++ more) first
    → AreMadeRight (xs ++ more) (first ++ made_from m theory within first ss)
right_after xs more m theory within first ss h there here =
    All-append (λ (d : DeclarationTree). All (IsMadeRight (xs ++ more) d) (made_by d.body)) first (made_from m theory within first ss) here
    (made_right_of m theory within first xs (xs ++ more) ss there (right_more xs more (declarations_of ss) h.source there)
    (λ i d l k z. made_below xs (declarations_of ss) h.source k (into_made (declarations_of ss) (get_or (declarations_of ss) i d) k (Contains-get_or (declarations_of ss) i d l) z)) h.fit)

pub made_both : (m : Map) (theory within : List ℕ) (first : List DeclarationTree) (ss us : List CopyStep) → made_from m theory within first (ss ++ us) ≡ made_from m theory within first ss ++ made_from m theory within first us
made_both m theory within first [] us = refl
made_both m theory within first (s ∷ ss) us = ap (λ (es : List DeclarationTree). made_of m theory within first s ++ es) (made_both m theory within first ss us) ∙ sym (append_assoc (made_of m theory within first s) (made_from m theory within first ss) (made_from m theory within first us))
