-- Full bodies made of definitions one after the other.
use Rattle.std.proofs.Common.{◌≡◌, ℕ, ◌+◌, ◌<◌, ◌≤◌, inl, inr, arith, List, [], ◌∷◌, map, length, get_or, drop, All, subst, refl, sym, ap, ◌∙◌}
use Rattle.std.proofs.lemmas.List.{at_drop_more, at_drop_all, length-map, get_or-map}
use Rattle.trees.specs.Tree.{Tree}
use Rattle.trees.specs.Node.{tree_at, Holds, Grows}
use Rattle.tasks.specs.declared.declaration.Def.{Def}
use Rattle.tasks.specs.declared.task.Task.{Task}
use Rattle.tasks.specs.Task.{DefinitionTree, TaskTree}
use Rattle.tasks.specs.Meaning.{definition_at, definitions_at, task_at, TaskHeld}
use Rattle.tasks.specs.Vocabulary.{of_task}
use Rattle.tasks.specs.Valid.{IsDefinition}
use Rattle.tasks.proofs.Growth.{task_later}
use Rattle.inlining.specs.FullBodies.{next_rule, full_rule_from}
use Rattle.tr_inline.specs.declared.full_bodies.fault.InlineFault.{InlineFault}
use Rattle.tr_inline.specs.declared.full_bodies.fault.InlineFault.TheVariants as fault
use Rattle.tr_inline.specs.full_bodies.Faults.{IsFaultOf}
use Rattle.tr_inline.specs.full_bodies.Listed.{AreDefsHeld}
use Rattle.tr_inline.specs.full_bodies.Made.{IsFormulaFault}
use Rattle.tr_inline.proofs.full_bodies.Least.{size_least, height_least}

-- ---- a definition of the list, later
module _ (s s1 : List Tree) (w : Grows s s1) (task : Task) (held : TaskHeld s task) (defs : List Def) (a : AreDefsHeld s defs) (i : ℕ) (d : Def) (l : i < length defs) (q : d ≡ get_or defs i d) where
  held_now : Holds s d.equation
  held_now = subst (λ (z : Def). Holds s z.equation) (sym q) (a i d l)

  pub def_held : Holds s1 d.equation
  def_held = omega (arith, held_now, w.longer)

  same_def : definition_at s1 d ≡ definition_at s d
  same_def = ap (λ (z : Tree). record { symbol = d.symbol; equation = z }) (w.same d.equation.0 held_now)

  pub def_defined : All (IsDefinition (of_task (task_at s task))) (definitions_at s defs) → IsDefinition (of_task (task_at s1 task)) (definition_at s1 d)
  def_defined h =
      let m = length-map defs (definition_at s) in
      let e : get_or (definitions_at s defs) i (definition_at s d) ≡ definition_at s d = get_or-map (definition_at s) defs i d (definition_at s d) l ∙ ap (definition_at s) (sym q) in
      let here : IsDefinition (of_task (task_at s task)) (definition_at s d) = subst (IsDefinition (of_task (task_at s task))) e (h i (definition_at s d) (omega (arith, l, m))) in
      subst (λ (z : TaskTree). IsDefinition (of_task z) (definition_at s1 d)) (sym (task_later s s1 w task held)) (subst (IsDefinition (of_task (task_at s task))) (sym same_def) here)

  pub rule_more : (f g all : Tree → Tree) → full_rule_from f (definitions_at s (drop i defs)) ≡ all → g ≡ next_rule f (definition_at s1 d) → full_rule_from g (definitions_at s (drop (i + 1) defs)) ≡ all
  rule_more f g all k e =
      let rest = definitions_at s (drop (i + 1) defs) in
      ap (λ (z : Tree → Tree). full_rule_from z rest) (e ∙ ap (next_rule f) (same_def ∙ ap (definition_at s) q)) ∙ sym (at_drop_more (λ (zs : List Def). full_rule_from f (definitions_at s zs)) defs i d l) ∙ k

pub rule_all : (s : List Tree) (defs : List Def) (i : ℕ) (f all : Tree → Tree) → length defs ≤ i → full_rule_from f (definitions_at s (drop i defs)) ≡ all → f ≡ all
rule_all s defs i f all l k = sym (at_drop_all (λ (zs : List Def). full_rule_from f (definitions_at s zs)) defs i l) ∙ k

-- ---- formulas
pub formula_fault : (e : Tree) (f : InlineFault) → IsFaultOf e f → IsFormulaFault e f
formula_fault e fault.Memory h = tt
formula_fault e fault.Large (inl p) = inl (omega (arith, p, size_least e))
formula_fault e fault.Large (inr p) = inr (omega (arith, p, height_least e))
