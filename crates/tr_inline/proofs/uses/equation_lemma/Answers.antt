use Rattle.std.proofs.Common.{◌≡◌, List, subst, sym, ap, ◌∙◌}
use Rattle.trees.specs.declared.TermId.{TermId}
use Rattle.trees.specs.declared.Sort.TheVariants.{Kind}
use Rattle.trees.specs.Tree.{Tree}
use Rattle.trees.specs.Node.{tree_at, trees_at}
use Rattle.trees.specs.Sorts.{IsList}
use Rattle.tasks.specs.Typing.{members}
use Rattle.trees.specs.binders.Visits.{HoldTypes}
use Rattle.tr_inline.proofs.uses.equation_lemma.Goals as goal

pub list_members-requires-clause-list : goal.list_members-requires-clause-list
list_members-requires-clause-list c = subst (λ (z : List Tree). IsList Kind (tree_at z c.args.at.types)) (sym c.store.ensures) c.requires.closed.types_list

pub equation_at-requires-clause-types_held : goal.equation_at-requires-clause-types_held
equation_at-requires-clause-types_held c =
    let d = c.args.draft.now in
    let h : HoldTypes d.trees c.in_ok-types.types.items = subst (λ (z : List Tree). HoldTypes z c.in_ok-types.types.items) c.store.ensures c.in_ok-types.ensures.held in
    subst (HoldTypes d.trees) (sym c.deref.ensures.value) h

pub equation_at-requires-clause-types : goal.equation_at-requires-clause-types
equation_at-requires-clause-types c =
    let d = c.args.draft.now in
    ap (trees_at d.trees) c.deref.ensures.value ∙ subst (λ (z : List Tree). trees_at z c.in_ok-types.types.items ≡ members (tree_at z c.args.at.types)) c.store.ensures c.in_ok-types.ensures.are
