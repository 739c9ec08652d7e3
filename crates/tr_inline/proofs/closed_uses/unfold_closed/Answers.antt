use Rattle.std.proofs.Common.{[], List, subst, ◌∙◌}
use Rattle.trees.specs.declared.TermId.{TermId}
use Rattle.trees.specs.Tree.{Tree}
use Rattle.trees.specs.Node.{tree_at, Holds}
use Rattle.trees.specs.Sorts.{WellSorted}
use Rattle.tasks.specs.Vocabulary.{of_task}
use Rattle.tasks.proofs.Closing.{typed_sorted}
use Rattle.evidence.specs.Laws.{Extends_trans, AddsTrees_extends}
use Rattle.congruence.proofs.Later.{tree_later, pair_later}
use Rattle.tr_inline.specs.Definitions.{defined_later}
use Rattle.tr_inline.proofs.Claims.{none_found}
use Rattle.tr_inline.proofs.ClosedUses.{left_used, whole_is, unfolded_pair, shows_between}
use Rattle.tr_inline.proofs.closed_uses.unfold_closed.Goals as goal

pub unreachable-requires : goal.unreachable-requires
unreachable-requires c =
    let d = c.args.draft.now in
    none_found d c.args.def.symbol c.args.left c.find_use.result c.in_default.not-Some c.find_use.ensures c.requires.used.0 c.requires.used.1.0 c.requires.used.1.1

pub unfolded_use-requires-clause-sorted : goal.unfolded_use-requires-clause-sorted
unfolded_use-requires-clause-sorted c = let d = c.args.draft.now in typed_sorted (of_task d.task) [] (tree_at d.trees c.args.left) c.requires.left.ground.typed

pub alike_unfolded-requires-clause-defined : goal.alike_unfolded-requires-clause-defined
alike_unfolded-requires-clause-defined c = defined_later c.args.draft.now c.unfolded_use.new.draft (AddsTrees_extends _ _ c.in_ok-whole.ensures.grows) c.args.def c.requires.defined

pub alike_unfolded-requires-clause-pair : goal.alike_unfolded-requires-clause-pair
alike_unfolded-requires-clause-pair c =
    let d1 = c.unfolded_use.new.draft in
    let w = c.in_ok-whole in
    let sorted : WellSorted (tree_at d1.trees w.whole) = subst (λ (z : List Tree). (id : TermId) → Holds z id → WellSorted (tree_at z id)) c.store.ensures c.laws.ensures.sorted w.whole w.ensures.held in
    unfolded_pair c.args.draft.now d1 (AddsTrees_extends _ _ w.ensures.grows) c.args.def c.requires.defined c.args.left c.requires.left w.whole w.ensures.held w.ensures.tree sorted

pub alike_unfolded-requires-clause-left_is : goal.alike_unfolded-requires-clause-left_is
alike_unfolded-requires-clause-left_is c = left_used c.args.draft.now c.unfolded_use.new.draft (AddsTrees_extends _ _ c.in_ok-whole.ensures.grows) c.args.def c.requires.defined c.args.left c.requires.left c.requires.used

pub alike_unfolded-requires-clause-right_is : goal.alike_unfolded-requires-clause-right_is
alike_unfolded-requires-clause-right_is c =
    let w = c.in_ok-whole in
    whole_is c.args.draft.now c.unfolded_use.new.draft (AddsTrees_extends _ _ w.ensures.grows) c.args.def c.requires.defined c.args.left c.requires.left w.whole w.ensures.held w.ensures.tree

pub returns-in_err-whole-clause-grows : goal.returns-in_err-whole-clause-grows
returns-in_err-whole-clause-grows c = AddsTrees_extends _ _ c.unfolded_use.ensures.grows

pub returns-in_err-alike-clause-grows : goal.returns-in_err-alike-clause-grows
returns-in_err-alike-clause-grows c = Extends_trans _ _ _ (AddsTrees_extends _ _ c.in_ok-whole.ensures.grows) c.in_err-alike.ensures.grows

pub returns-clause-grows : goal.returns-clause-grows
returns-clause-grows c = Extends_trans _ _ _ (AddsTrees_extends _ _ c.in_ok-whole.ensures.grows) c.in_ok-alike.ensures.grows

pub returns-clause-pair : goal.returns-clause-pair
returns-clause-pair c =
    let d1 = c.unfolded_use.new.draft in
    let w = c.in_ok-whole in
    let sorted : WellSorted (tree_at d1.trees w.whole) = subst (λ (z : List Tree). (id : TermId) → Holds z id → WellSorted (tree_at z id)) c.store.ensures c.laws.ensures.sorted w.whole w.ensures.held in
    pair_later d1 c.alike_unfolded.new.draft c.in_ok-alike.ensures.grows c.args.left w.whole
    (unfolded_pair c.args.draft.now d1 (AddsTrees_extends _ _ w.ensures.grows) c.args.def c.requires.defined c.args.left c.requires.left w.whole w.ensures.held w.ensures.tree sorted)

pub returns-clause-whole : goal.returns-clause-whole
returns-clause-whole c = let w = c.in_ok-whole in tree_later c.unfolded_use.new.draft c.alike_unfolded.new.draft c.in_ok-alike.ensures.grows w.whole w.ensures.held ∙ w.ensures.tree

pub returns-clause-shows : goal.returns-clause-shows
returns-clause-shows c =
    let w = c.in_ok-whole in
    shows_between c.args.draft.now c.unfolded_use.new.draft c.alike_unfolded.new.draft (AddsTrees_extends _ _ w.ensures.grows) c.in_ok-alike.ensures.grows c.in_ok-alike.alike c.args.left w.whole c.requires.left.held w.ensures.held c.in_ok-alike.ensures.shows
