-- The copies of declarations leave the number of the next declaration.
use Rattle.std.proofs.Common.{◌≡◌, ℕ, if◌then◌else◌, Bool, true, false, List, [], ◌∷◌, Option, Some, None, refl, ◌∙◌}
use Rattle.tasks.specs.Task.{BodyTree, MakesType, Makes, Defines, Induces, Constructs, Says, DeclarationTree}
use Rattle.surface.specs.Lexeme.{Word}
use Rattle.surface.specs.declared.declarations.PropKind.{PropKind}
use Rattle.surface.specs.declared.declarations.PropKind.TheVariants as kind
use Rattle.theory_states.specs.States.{StateTree}
use Rattle.clones.specs.clone_elements.Replacements.{is_replaced, kind_or}
use Rattle.clones.specs.clone_copies.Origins.{is_own}
use Rattle.clones.specs.clone_copies.Places.{Copying, goal_with, with_kind, with_copy, copy_of, with_own, with_joined, with_place, with_places}

goal_number : (vars : List Word) (name : Word) (b : BodyTree) (c : StateTree) → (goal_with vars name b c).number ≡ c.number
goal_number vars name (Says e) c = refl
goal_number vars name (MakesType k) c = refl
goal_number vars name (Makes k) c = refl
goal_number vars name (Defines ds) c = refl
goal_number vars name (Induces ds) c = refl
goal_number vars name (Constructs ds) c = refl

kind_number : (k : PropKind) (vars : List Word) (d : DeclarationTree) (c : StateTree) → (with_kind k vars d c).number ≡ c.number
kind_number kind.Axiom vars d c = refl
kind_number kind.Lemma vars d c = goal_number vars d.name d.body c
kind_number kind.Goal vars d c = goal_number vars d.name d.body c

module _ (x : Copying) where
  copy_number : (k : ℕ) (o : Option (List Word)) (d : DeclarationTree) (c : StateTree) → (with_copy x k o d c).number ≡ c.number
  copy_number k None d c = refl
  copy_number k (Some vars) d c = kind_number (kind_or (x.effects k) x.all) vars d c

  either : (b : Bool) (y z c : StateTree) → y.number ≡ c.number → z.number ≡ c.number → (if b then y else z).number ≡ c.number
  either true y z c p q = p
  either false y z c p q = q

  place_number : (k : ℕ) (c : StateTree) → (with_place x k c).number ≡ c.number
  place_number k c =
      either (is_own c.decls x.path k) (with_own x k c) (with_joined k c) c
      (either (is_replaced (x.effects k)) c (with_copy x k (x.axioms k) (copy_of x c k) c) c refl (copy_number k (x.axioms k) (copy_of x c k) c)) refl

  pub number_stays : (ks : List ℕ) (c : StateTree) → (with_places x ks c).number ≡ c.number
  number_stays [] c = refl
  number_stays (k ∷ ks) c = number_stays ks (with_place x k c) ∙ place_number k c
