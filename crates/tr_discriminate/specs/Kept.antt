-- The task in which polymorphic propositions are replaced by their wanted instances declares the
-- same, and is valid.
use Rattle.std.specs.Prelude.{◌≡◌, Bool, true, false, if◌then◌else◌, ℕ, List, [], ◌∷◌, map, All, Option, Some, None, Ok, refl}
use Rattle.std.proofs.Common.{inr, sym, ap, ◌∙◌}
use Rattle.tasks.specs.trees.Tree.{Tree}
use Rattle.tasks.specs.Task.{BodyTree, MakesType, Makes, Defines, Induces, Constructs, Says, DeclarationTree, TaskTree, made, made_by}
use Rattle.tasks.specs.Roles.{maker, role_by, role_in, is_made_by, is_constructor}
use Rattle.tasks.specs.Valid.{IsValid}
use Rattle.evidence.specs.Stages.{Gives, Keeps, stage_answer, limited_gives}
use Rattle.evidence.specs.task_parts.Kept.{one_keeps}
use Rattle.name_tables.specs.Occurrences.{Occurrence}
use Rattle.tr_discriminate.specs.wanted_instances.Wanted.{wanted_formulas}
use Rattle.tr_discriminate.specs.wanted_instances.Discriminated.{is_monomorphic, said_at, proposition_of, put_in_place, last_set, discriminated_task, misplaced_from}
use Rattle.tr_discriminate.specs.wanted_instances.lemmas.Kept.{last_good, body_valid}
use Rattle.declarations.specs.Rewritten.{KeepsMade, KeepsConstructors}
use Rattle.declarations.specs.lemmas.Rewritten.{alone_made, alone_role, rewritten_kept}
use Rattle.tr_discriminate.specs.Equation.{discriminate_rule, unless_misplaced, discriminate_equation}

said_made : (d : DeclarationTree) (es : List Tree) → made (map (said_at d) es) ≡ []
said_made d [] = refl
said_made d (e ∷ es) = said_made d es

module _ (s : List Occurrence) (d : DeclarationTree) where
  -- a proposition makes nothing, and what stays makes what it made
  made_kept : (b : BodyTree) → d.body ≡ b → made (put_in_place s d b) ≡ made_by d.body
  made_kept (Says a) q = by (is_monomorphic a)
    where
      by : (m : Bool) → made (if m then d
          ∷ [] else map (said_at d) (wanted_formulas s (proposition_of d.vars a))) ≡ made_by d.body
      by true = alone_made d
      by false = said_made d (wanted_formulas s (proposition_of d.vars a)) ∙ sym (ap made_by q)
  made_kept (MakesType k) q = alone_made d
  made_kept (Makes k) q = alone_made d
  made_kept (Defines ds) q = alone_made d
  made_kept (Induces is) q = alone_made d
  made_kept (Constructs ts) q = alone_made d

  role_kept : (k : ℕ) (b : BodyTree) → d.body ≡ b → is_made_by k d.body ≡ true
      → role_by k (maker (put_in_place s d b) k) ≡ role_in k d.body
  role_kept k (Says a) q m = absurd (let e : true ≡ false = sym m ∙ ap (is_made_by k) q in cc)
  role_kept k (MakesType j) q m = alone_role k d m
  role_kept k (Makes j) q m = alone_role k d m
  role_kept k (Defines ds) q m = alone_role k d m
  role_kept k (Induces is) q m = alone_role k d m
  role_kept k (Constructs ts) q m = alone_role k d m

pub discriminate_rule_keeps : (s : List Occurrence) → KeepsMade (discriminate_rule s)
discriminate_rule_keeps s = record {
  made = λ symbols d. made_kept s d d.body refl;
  roles = λ symbols d k m. inr (role_kept s d k d.body refl m);
}

discriminate_rule_constructors : (s : List Occurrence) → KeepsConstructors (discriminate_rule s)
discriminate_rule_constructors s =
    λ symbols d k m. ap is_constructor (role_kept s d k d.body refl m)

none_misplaced : (o : Option ℕ) (u : TaskTree) (ts : List TaskTree)
    → stage_answer (unless_misplaced o u) ≡ Ok ts → ts ≡ u ∷ []
none_misplaced None u ts e = limited_gives (u ∷ []) ts e
none_misplaced (Some decl) u ts e = absurd (cc)

pub discriminated_one : (t : TaskTree) (ts : List TaskTree) → Gives discriminate_equation t ts
    → ts ≡ discriminated_task t ∷ []
discriminated_one t ts e = none_misplaced (misplaced_from 0 t.decls) (discriminated_task t) ts e

pub discriminate_keeps : (t : TaskTree) (ts : List TaskTree) → IsValid t
    → Gives discriminate_equation t ts → All (Keeps t) ts
discriminate_keeps t ts valid gives =
    one_keeps t (discriminated_task t) ts (discriminated_one t ts gives)
    (rewritten_kept (discriminate_rule (last_set t)) (discriminate_rule_keeps (last_set t)) t
    (discriminate_rule_constructors (last_set t)) (λ d. Unit {0})
    (λ d u n a. body_valid t valid (last_set t) (last_good t valid) d d.body refl a) valid
    (λ k d l. tt))
