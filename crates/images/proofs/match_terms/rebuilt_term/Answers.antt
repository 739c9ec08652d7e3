use Rattle.std.proofs.Common.{List, subst, sym}
use Rattle.trees.specs.declared.Sort.TheVariants.{Kind}
use Rattle.trees.specs.Node.{tree_at, Holds}
use Rattle.trees.specs.Tree.{Tree}
use Rattle.trees.specs.Sorts.{IsList}
use Rattle.trees.specs.binders.Visits.{HoldTypes}
use Rattle.tasks.proofs.outside.Passed.{no_value}
use Rattle.images.proofs.match_terms.Growing.{members_held}
use Rattle.images.proofs.match_terms.rebuilt_term.Goals as goal

pub push_members-requires-clause-held : goal.push_members-requires-clause-held
push_members-requires-clause-held g c = subst (λ (z : List Tree). Holds z c.args.types) (sym c.store.ensures) c.requires.types_held

pub push_members-requires-clause-types : goal.push_members-requires-clause-types
push_members-requires-clause-types g c = subst (λ (z : List Tree). IsList Kind (tree_at z c.args.types)) (sym c.store.ensures) c.requires.types

pub push_members-requires-clause-out_held : goal.push_members-requires-clause-out_held
push_members-requires-clause-out_held g c = subst (HoldTypes c.store.result.now) (sym c.new-members.ensures.items) tt

pub rebuild-requires-clause-at : goal.rebuild-requires-clause-at
rebuild-requires-clause-at g c =
    let s = g.G.Grow.trees c.args.g.now in
    let m = members_held s c.store.result.now c.args.types c.new-members.result.items c.push_members.new.out.items c.as_slice.result.now c.store.ensures c.new-members.ensures.items c.as_slice.ensures.value c.in_ok-push_members.ensures.held c.in_ok-push_members.ensures.trees in
    record { look = c.requires.look; types = c.requires.types_held; kinds = c.requires.types; each = m.0; are = m.1 }

pub rebuild-requires-clause-results : goal.rebuild-requires-clause-results
rebuild-requires-clause-results g c = c.requires.results

pub rebuild-requires-clause-term : goal.rebuild-requires-clause-term
rebuild-requires-clause-term g c = (c.requires.term_held, c.requires.term)

pub returns-clause-held : goal.returns-clause-held
returns-clause-held g c = c.in_ok-made.ensures.term.0

pub returns-clause-tree : goal.returns-clause-tree
returns-clause-tree g c = c.in_ok-made.ensures.tree

pub returns-clause-grows : goal.returns-clause-grows
returns-clause-grows g c = c.in_ok-made.ensures.grows

pub returns-in_err-push_members-clause-held : goal.returns-in_err-push_members-clause-held
returns-in_err-push_members-clause-held g c = no_value _ _ c.from_residual.result c.from_residual.ensures.1

pub returns-in_err-push_members-clause-tree : goal.returns-in_err-push_members-clause-tree
returns-in_err-push_members-clause-tree g c = no_value _ _ c.from_residual.result c.from_residual.ensures.1

pub returns-in_err-push_members-clause-grows : goal.returns-in_err-push_members-clause-grows
returns-in_err-push_members-clause-grows g c = g.met.G.Grow.grows_refl _

pub returns-in_err-made-clause-held : goal.returns-in_err-made-clause-held
returns-in_err-made-clause-held g c = no_value _ _ c.from_residual-in_err-made.result c.from_residual-in_err-made.ensures.1

pub returns-in_err-made-clause-tree : goal.returns-in_err-made-clause-tree
returns-in_err-made-clause-tree g c = no_value _ _ c.from_residual-in_err-made.result c.from_residual-in_err-made.ensures.1

pub returns-in_err-made-clause-grows : goal.returns-in_err-made-clause-grows
returns-in_err-made-clause-grows g c = c.in_err-made.ensures.grows
