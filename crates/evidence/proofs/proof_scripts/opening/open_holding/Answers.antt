use Rattle.std.proofs.Common.{rules, ◌+◌, ◌≤◌, ◌≡◌, ◌<◌, length, slice_get, Some, ap, ◌∙◌, arith}
use Rattle.std.proofs.lemmas.List.{length-map}
use Rattle.trees.specs.Tree.{Tree}
use Rattle.trees.specs.Node.{tree_at}
use Rattle.tasks.specs.Meaning.{trees_at}
use Rattle.rules.specs.Forms.{join}
use Rattle.evidence.proofs.proof_scripts.Connectives.{place_tree, formula_at, join_formulas, holding_opened}
use Rattle.evidence.proofs.proof_scripts.Placed.{joined_place}
use Rattle.evidence.proofs.proof_scripts.opening.open_holding.Goals as goal
use Rattle.tasks.proofs.outside.Passed.{no_value}

pub bounds-tail-place : goal.bounds-tail-place
bounds-tail-place c =
    let d = c.args.draft.now in
    let s = d.trees in
    let T = c.args.tail.now in
    omega (arith, joined_place (trees_at s T) c.args.place _ c.requires.opens.follows, length-map T (tree_at s))

pub node-requires : goal.node-requires
node-requires c =
    let d = c.args.draft.now in
    let s = d.trees in
    let T = c.args.tail.now in
    let l : c.args.place < length T = omega (arith, joined_place (trees_at s T) c.args.place _ c.requires.opens.follows, length-map T (tree_at s)) in
    rw c.store.ensures (formula_at d T c.args.place _ l c.requires.tail).held

pub negate_both-requires-clause-left : goal.negate_both-requires-clause-left
negate_both-requires-clause-left c =
    let d = c.args.draft.now in
    let s = d.trees in
    let T = c.args.tail.now in
    let l : c.args.place < length T = omega (arith, joined_place (trees_at s T) c.args.place _ c.requires.opens.follows, length-map T (tree_at s)) in
    let e = rw c.store.ensures at c.in-Join.ensures.tree in
    (join_formulas d _ c.in-Join.field-0 c.in-Join.a c.in-Join.b (formula_at d T c.args.place _ l c.requires.tail) e c.in-Join.ensures.below.0 c.in-Join.ensures.below.1).0

pub negate_both-requires-clause-right : goal.negate_both-requires-clause-right
negate_both-requires-clause-right c =
    let d = c.args.draft.now in
    let s = d.trees in
    let T = c.args.tail.now in
    let l : c.args.place < length T = omega (arith, joined_place (trees_at s T) c.args.place _ c.requires.opens.follows, length-map T (tree_at s)) in
    let e = rw c.store.ensures at c.in-Join.ensures.tree in
    (join_formulas d _ c.in-Join.field-0 c.in-Join.a c.in-Join.b (formula_at d T c.args.place _ l c.requires.tail) e c.in-Join.ensures.below.0 c.in-Join.ensures.below.1).1

pub returns-in_err-both-in-Join-clause-opened : goal.returns-in_err-both-in-Join-clause-opened
returns-in_err-both-in-Join-clause-opened c = no_value _ _ c.from_residual.result c.from_residual.ensures.1

pub returns-in_err-both-in-Join-clause-grows : goal.returns-in_err-both-in-Join-clause-grows
returns-in_err-both-in-Join-clause-grows c = c.negate_both.ensures.grows

pub returns-clause-opened : goal.returns-clause-opened
returns-clause-opened c =
    let d = c.args.draft.now in
    let s = d.trees in
    let F = c.args.front.now in
    let T = c.args.tail.now in
    let l : c.args.place < length T = omega (arith, joined_place (trees_at s T) c.args.place _ c.requires.opens.follows, length-map T (tree_at s)) in
    let small : length F + length T ≤ 18446744073709551615 = search rules in
    let e = rw c.store.ensures at c.in-Join.ensures.tree in
    let at : slice_get (trees_at s T) c.args.place ≡ Some (join c.in-Join.field-0 (tree_at s c.in-Join.a) (tree_at s c.in-Join.b)) = place_tree s T c.args.place _ l ∙ ap (λ (z : Tree). Some z) e in
    let a = c.where_true.ensures c.negate_both.new.draft _ _ c.in_ok-both-in-Join.ensures.both in
    holding_opened d c.negate_both.new.draft (trees_at s F) (trees_at s T) (length F) c.args.place (length-map F (tree_at s)) (omega (arith, small, l)) c.args.op c.in-Join.field-0 (tree_at s c.in-Join.a) (tree_at s c.in-Join.b) c.where_true.result at c.requires.opens a

pub returns-clause-grows : goal.returns-clause-grows
returns-clause-grows c = c.in_ok-both-in-Join.ensures.grows
