use Rattle.std.proofs.Common.{◌≡◌, List, sym, ap, ◌∙◌}
use Rattle.trees.specs.Tree.{Tree}
use Rattle.trees.specs.Node.{tree_at, trees_at}
use Rattle.trees.proofs.Nodes.{Grows_trans}
use Rattle.tasks.specs.Equations.{for_all}
use Rattle.tasks.specs.Meaning.{con_at}
use Rattle.declarations.proofs.spelled_groups.Making.{kinds_later, kind_trees}
use Rattle.tr_algebraic.specs.algebraic_forms.Formulas.{different}
use Rattle.tr_algebraic.proofs.algebraic_forms.Making.{for_all_append}
use Rattle.tr_algebraic.proofs.algebraic_forms.distinct.distinctness_law.Goals as goal

pub quantify-requires-clause-types : goal.quantify-requires-clause-types
quantify-requires-clause-types c = rw c.as_slice.ensures (kinds_later c.args.store.now c.different.new.store c.in_ok-inner.ensures.grows c.args.second.now.fields c.requires.second)

pub quantify-requires-2-clause-types : goal.quantify-requires-2-clause-types
quantify-requires-2-clause-types c =
    rw c.as_slice-2.ensures (kinds_later c.args.store.now c.quantify.new.store (Grows_trans c.args.store.now c.different.new.store c.quantify.new.store c.in_ok-inner.ensures.grows c.in_ok-under.ensures.grows) c.args.first.now.fields c.requires.first)

pub returns-clause-tree : goal.returns-clause-tree
returns-clause-tree c =
    let s = c.args.store.now in
    let s1 = c.different.new.store in
    let s2 = c.quantify.new.store in
    let a = c.args.first.now.fields in
    let b = c.args.second.now.fields in
    let e : Tree = different c.args.own.symbol c.args.own.vars (con_at s c.args.first.now) (con_at s c.args.second.now) in
    let under : tree_at s2 c.in_ok-under.under ≡ for_all (trees_at s b) e =
    (rw c.as_slice.ensures at c.in_ok-under.ensures.tree) ∙ ap (λ (z : List Tree). for_all z (tree_at s1 c.in_ok-inner.inner)) (kind_trees s s1 c.in_ok-inner.ensures.grows b c.requires.second) ∙ ap (for_all (trees_at s b)) c.in_ok-inner.ensures.tree in
    (rw c.as_slice-2.ensures at c.in_ok-made.ensures.tree) ∙ ap (λ (z : List Tree). for_all z (tree_at s2 c.in_ok-under.under)) (kind_trees s s2 (Grows_trans s s1 s2 c.in_ok-inner.ensures.grows c.in_ok-under.ensures.grows) a c.requires.first)
    ∙ ap (for_all (trees_at s a)) under ∙ sym (for_all_append (trees_at s a) (trees_at s b) e)
