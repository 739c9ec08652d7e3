-- What a tree in a store becomes by the rule of the full bodies, and what is asked for and promised
-- where it is made.
use Rattle.std.specs.Prelude.{ℕ, List}
use Rattle.indexmap.specs.IndexMap.{IndexMap}
use Rattle.trees.specs.declared.TermId.{TermId}
use Rattle.trees.specs.Tree.{Tree}
use Rattle.trees.specs.Node.{tree_at}
use Rattle.inlining.specs.images.Images.{image}
use Rattle.inlining.specs.images.image_trees.Imaged.{RuleOver, CanImage, IsImaged}
use Rattle.tr_inline.specs.declared.full_bodies.uses.Inlining.{Inlining}
use Rattle.tr_inline.specs.full_bodies.FullBodies.{rule_over_bodies, AreReady}

abbrev pub rule_of : List Tree → Inlining → RuleOver
rule_of s x = rule_over_bodies s x.task.now x.bodies.now

abbrev pub inlined_at : List Tree → Inlining → TermId → Tree
inlined_at s x e = image (rule_of s x).rule (tree_at s e)

abbrev pub CanInline : {S : Type 0} → List Tree → Inlining → IndexMap ℕ TermId S → TermId → Type 0
CanInline s x m e = CanImage (rule_of s x) (AreReady s x.task.now x.bodies.now) s m e

abbrev pub IsInlined : {S : Type 0} → List Tree → Inlining → TermId → List Tree
    → IndexMap ℕ TermId S → TermId → Type 0
IsInlined s x e t m id = IsImaged (rule_of s x) (tree_at s e) t m id
