-- What formulas become by inlining.
use Rattle.std.specs.Prelude.{◌≡◌, List, [], ◌∷◌, Option, Some, None}
use Rattle.std.specs.Borrow.{Bor}
use Rattle.trees.specs.Tree.{Tree}
use Rattle.std.proofs.Common.{◌∙◌}
use Rattle.trees.specs.Node.{tree_at, Grows}
use Rattle.tasks.specs.Task.{TaskTree, neg}
use Rattle.tasks.specs.Vocabulary.{of_task}
use Rattle.evidence.specs.Drafts.{DraftTree, Refutes, IsFormulaAt}
use Rattle.walking.specs.declared.rewriting.formulas.FormulaImage.{FormulaImage}
use Rattle.walking.specs.declared.rewriting.formulas.FormulaScope.{FormulaScope}
use Rattle.walking.specs.declared.rewriting.formulas.FormulaScope.TheVariants as scope
use Rattle.inlining.specs.declared.modes.InlineMode.{InlineMode}
use Rattle.inlining.specs.declared.modes.InlineMode.TheVariants as mode
use Rattle.inlining.specs.Inlining.{inlined, inlined_definitions}
use Rattle.inlining.specs.FullBodies.{full_rule}
use Rattle.tr_inline.specs.declared.full_bodies.uses.FullBody.{FullBody}
use Rattle.tr_inline.specs.full_bodies.FullBodies.{rule_after, AreFullBodies}
use Rattle.tr_inline.specs.full_bodies.lemmas.Later.{bodies_later as full_bodies_later, after_later}

-- a formula of a task with the definitions of the mode inlined
abbrev pub inline_formula : InlineMode → TaskTree → Tree → Tree
inline_formula m t e = inlined (inlined_definitions m t.decls) e

abbrev pub mode_scope : InlineMode → FormulaScope
mode_scope mode.Trivial = scope.Everywhere
mode_scope mode.Goal = scope.Goal
mode_scope mode.All = scope.Everywhere

-- what a formula becomes, with a step for each half of their equivalence
pub record IsImageOf (d : DraftTree) (e image : Tree) (m : FormulaImage) : Type 0 where
  pub formula : IsFormulaAt d m.image
  pub is : tree_at d.trees m.image ≡ image
  pub there : Refutes d m.there (e ∷ neg image ∷ [])
  pub back : Refutes d m.back (image ∷ neg e ∷ [])

-- the full bodies, where they are made, are those of the definitions of the mode
pub record AreBodiesOf (m : InlineMode) (t : TaskTree) (s : List Tree)
    (bodies : List FullBody) : Type 0 where
  pub are : AreFullBodies s (of_task t) (λ e. e) bodies
  pub rule : rule_after s (λ e. e) bodies ≡ full_rule (inlined_definitions m t.decls)

-- the same, where there are any
abbrev pub AreReadyBodies : InlineMode → TaskTree → List Tree
    → Option (Bor (List FullBody)) → Type 0
AreReadyBodies m t s None = Unit {0}
AreReadyBodies m t s (Some bodies) = AreBodiesOf m t s bodies.now

pub bodies_later : (m : InlineMode) (t : TaskTree) (s s1 : List Tree)
    (bodies : Option (Bor (List FullBody))) → Grows s s1 → AreReadyBodies m t s bodies
    → AreReadyBodies m t s1 bodies
bodies_later m t s s1 None w r = tt
bodies_later m t s s1 (Some bodies) w r = record {
  are = full_bodies_later s s1 (of_task t) (λ e. e) bodies.now w r.are;
  rule = after_later s s1 (of_task t) (λ e. e) bodies.now w r.are ∙ r.rule;
}
