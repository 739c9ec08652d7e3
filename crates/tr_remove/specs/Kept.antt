-- A task without some of its propositions declares the same, and is valid.
use Rattle.std.specs.Prelude.{◌≡◌, Bool, true, false, ◌==◌, if◌then◌else◌, ℕ, List, [], ◌∷◌, All, refl}
use Rattle.std.specs.List.{list_any}
use Rattle.std.proofs.Common.{inr, sym, ap, ◌∙◌}
use Rattle.std.proofs.lemmas.List.Elements.{All-cons, All-nil}
use Rattle.plain_laws.proofs.Bools.{and_first}
use Rattle.tasks.specs.Task.{TaskTree, DeclarationTree, BodyTree, MakesType, Makes, Defines, Induces, Constructs, Says, made, made_by}
use Rattle.tasks.specs.Roles.{maker, role_by, role_in, is_made_by, is_constructor}
use Rattle.tasks.specs.Vocabulary.{Vocabulary}
use Rattle.tasks.specs.Valid.{IsValid, IsValidDecl}
use Rattle.evidence.specs.Stages.{Gives, Keeps, limited_gives}
use Rattle.declarations.specs.Rewritten.{KeepsMade, KeepsConstructors}
use Rattle.declarations.specs.lemmas.Rewritten.{alone_made, alone_role, rewritten_kept}
use Rattle.evidence.specs.task_parts.Kept.{one_keeps}
use Rattle.tr_remove.specs.Remove.{is_proposition, is_removed, removal_rule, removed_task, remove_equation}

-- a proposition makes nothing
makes_none : (b : BodyTree) → is_proposition b ≡ true → made_by b ≡ []
makes_none (Says a) e = refl
makes_none (MakesType k) e = absurd (cc)
makes_none (Makes k) e = absurd (cc)
makes_none (Defines ds) e = absurd (cc)
makes_none (Induces is) e = absurd (cc)
makes_none (Constructs ts) e = absurd (cc)

module _ (props : List (List ℕ × List ℕ)) (d : DeclarationTree) where
  none_made : is_removed props d ≡ true → made_by d.body ≡ []
  none_made e = makes_none d.body (and_first (is_proposition d.body) (list_any _ props) e)

  made_left : (r : Bool) → is_removed props d ≡ r → made (if r then [] else d ∷ []) ≡ made_by d.body
  made_left true e = sym (none_made e)
  made_left false e = alone_made d

  role_left : (k : ℕ) (r : Bool) → is_removed props d ≡ r → is_made_by k d.body ≡ true
      → role_by k (maker (if r then [] else d ∷ []) k) ≡ role_in k d.body
  role_left k true e m =
      absurd (let f : true ≡ false = sym m ∙ ap (list_any (λ j. j == k)) (none_made e) in cc)
  role_left k false e m = alone_role k d m

  valid_left : (v : Vocabulary) (r : Bool) → IsValidDecl v d
      → All (IsValidDecl v) (if r then [] else d ∷ [])
  valid_left v true a = All-nil (IsValidDecl v)
  valid_left v false a = All-cons (IsValidDecl v) d [] a (All-nil (IsValidDecl v))

pub removal_keeps : (props : List (List ℕ × List ℕ)) → KeepsMade (removal_rule props)
removal_keeps props = record {
  made = λ symbols d. made_left props d (is_removed props d) refl;
  roles = λ symbols d k m. inr (role_left props d k (is_removed props d) refl m);
}

removal_constructors : (props : List (List ℕ × List ℕ)) → KeepsConstructors (removal_rule props)
removal_constructors props =
    λ symbols d k m. ap is_constructor (role_left props d k (is_removed props d) refl m)

pub remove_keeps : (props : List (List ℕ × List ℕ)) (t : TaskTree) (ts : List TaskTree) → IsValid t
    → Gives (remove_equation props) t ts → All (Keeps t) ts
remove_keeps props t ts valid gives =
    one_keeps t (removed_task props t) ts (limited_gives (removed_task props t ∷ []) ts gives)
    (rewritten_kept (removal_rule props) (removal_keeps props) t (removal_constructors props)
    (λ d. Unit {0}) (λ d u n a. valid_left props d _ (is_removed props d) a) valid
    (λ k d l. tt))
