use Rattle.std.proofs.Common.{[], ◌∷◌, ◌++◌, List, sym, ap, subst, ◌∙◌, arith}
use Rattle.std.proofs.lemmas.List.{map-append}
use Rattle.tasks.specs.trees.Tree.{Tree}
use Rattle.tasks.specs.trees.Sorts.{sort_of, int_type}
use Rattle.tasks.specs.trees.Node.{tree_at}
use Rattle.tasks.specs.Meaning.{trees_at}
use Rattle.trees.specs.binders.Visits.{HoldTypes}
use Rattle.tr_discriminate.proofs.Searching.{hold_push, ints_more}
use Rattle.tr_discriminate.proofs.types.ints.Goals as goal

pub loop-i-preserved : goal.loop-i-preserved
loop-i-preserved c =
    let s = c.args.store.now in
    let id = c.int_type-int.result in
    record {
      held = subst (HoldTypes s) (sym c.in_ok-push.ensures.items) (hold_push s c.loop-i.types.items id c.int_type-int.ensures.held (ap sort_of c.int_type-int.ensures.tree) c.loop-i.invariant.held);
      trees = ap (trees_at s) c.in_ok-push.ensures.items ∙ map-append (tree_at s) c.loop-i.types.items (id ∷ []) ∙ ap (λ (z : Tree). trees_at s c.loop-i.types.items ++ z ∷ []) c.int_type-int.ensures.tree
          ∙ ap (λ (z : List Tree). z ++ int_type ∷ []) c.loop-i.invariant.trees ∙ ints_more _ _ (omega arith);
    }
