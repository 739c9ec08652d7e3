-- A formula in which some of the definitions are inlined, from the last one on.
use Rattle.std.specs.Prelude.{◌≡◌, ℕ, List, [], ◌++◌}
use Rattle.trees.specs.declared.TermId.{TermId}
use Rattle.trees.specs.Node.{tree_at}
use Rattle.tasks.specs.declared.declaration.Def.{Def}
use Rattle.tasks.specs.Meaning.{definitions_at}
use Rattle.evidence.specs.Drafts.{DraftTree, Extends}
use Rattle.walking.specs.declared.linked.Linked.{Linked}
use Rattle.walking.specs.Places.{IsLinkOf}
use Rattle.inlining.specs.Inlining.{inlined}

-- those that are left are the first ones, and the others are inlined
pub record IsPartlyInlined (d d1 : DraftTree) (formula : TermId) (n : ℕ) (defs left : List Def)
    (made : Linked) : Type 0 where
  pub grows : Extends d d1
  pub done : List Def
  pub are : defs ≡ left ++ done
  pub link : IsLinkOf d1 [] formula n
      (inlined (definitions_at d.trees done) (tree_at d.trees formula)) made
