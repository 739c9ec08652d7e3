-- Facts of a task with laws other than propositions are facts of the old task.
use Rattle.std.specs.Option.{option_map, option_and_then}
use Rattle.std.proofs.Common.{inl, inr, ◌≡◌, ℕ, slice_get, Option, Some, None, List, refl, sym, ap, ◌∙◌}
use Rattle.tasks.specs.trees.Tree.{Tree}
use Rattle.tasks.specs.declared.facts.Fact.{Fact}
use Rattle.tasks.specs.declared.facts.Fact.TheVariants as fact
use Rattle.tasks.specs.Task.{TaskTree, PropositionTree, symbol_or}
use Rattle.tasks.specs.Roles.{RoleTree, PlainRole, role}
use Rattle.tasks.specs.Inversion.{inversion}
use Rattle.evidence.specs.Facts.{at_symbol, IsFact}
use Rattle.kernel.specs.rules.Rows.{equation, clauses}
use Rattle.evidence.specs.changed_tasks.Changed.{changed_task}
use Rattle.evidence.proofs.ChangedTasks.{role_changed}
use Rattle.declarations.specs.Names.{IsOldName}
use Rattle.declarations.specs.lemmas.Rewritten.{roles_rewritten}
use Rattle.declarations.proofs.Names.{fact_there}
use Rattle.tr_algebraic.specs.algebraic_forms.Groups.{algebraic_rule}
use Rattle.tr_algebraic.specs.algebraic_forms.lemmas.Kept.{algebraic_keeps}
use Rattle.tr_algebraic.specs.algebraic_tasks.Plain.{task_with_laws}

module _ (t : TaskTree) (g : Tree → Tree) where
  abbrev new : TaskTree
  new = task_with_laws (changed_task g t)

  -- what a symbol's role says of the new task, it says of the old one
  by_role_before : (k : ℕ) (of : RoleTree → Option PropositionTree) → of PlainRole ≡ None → (p : PropositionTree) → of (role new k) ≡ Some p → of (role t k) ≡ Some p
  by_role_before k of none p e = elim (roles_rewritten algebraic_rule algebraic_keeps (changed_task g t) k) [
    | inl q ↦ absurd (let both : None ≡ Some p = sym none ∙ sym (ap of q) ∙ e in cc)
    | inr q ↦ ap of (sym (role_changed g t k)) ∙ sym (ap of q) ∙ e
  ]

  named_before : (name : Fact) → ((k : ℕ) → name ≡ fact.Proposition k → ⊥) → IsOldName t new name name
  named_before (fact.Proposition k) n p e = absurd (n k refl)
  named_before (fact.Equation k) n p e = by_role_before k (λ r. option_map (at_symbol t k) (equation r)) refl p e
  named_before (fact.Clause k c) n p e = by_role_before k (λ r. option_map (at_symbol t k) (option_and_then (λ cs. slice_get cs c) (clauses r))) refl p e
  named_before (fact.Inversion k) n p e = by_role_before k (λ r. option_map (λ cs. at_symbol t k (inversion k (symbol_or t.symbols k) cs)) (clauses r)) refl p e

  pub fact_before : (name : Fact) (types : List Tree) (formula : Tree) → ((k : ℕ) → name ≡ fact.Proposition k → ⊥) → IsFact t new name types formula → IsFact t t name types formula
  fact_before name types formula n f = fact_there t new name name types formula (named_before name n) f
