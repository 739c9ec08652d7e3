use Rattle.std.proofs.Common.{◌≡◌, ◌≤◌, ◌++◌, length, sym, ap, subst, ◌∙◌, arith}
use Rattle.trees.specs.declared.Sort.TheVariants.{Branch}
use Rattle.trees.specs.Tree.{Tree, Leaf, Two, HCase, HCell, HArm, HEnd, above_params}
use Rattle.trees.specs.Node.{tree_at, trees_at}
use Rattle.trees.specs.Binding.{inst_many}
use Rattle.trees.specs.Sorts.{type_of, IsList}
use Rattle.tasks.specs.Typing.{BranchesFit}
use Rattle.evidence.specs.Laws.{Extends_trans, AddsTrees_extends}
use Rattle.congruence.proofs.Later.{pair_later, shows_at}
use Rattle.walking.proofs.Binders.{made_link}
use Rattle.congruence.proofs.CaseParts.{pair_turned, pair_through}
use Rattle.walking.proofs.ArgumentPlaces.{one_pair}
use Rattle.walking.proofs.RestPlaces.{whole_at, rest_is, made_open, made_last, made_pair, made_instance, last_later, opened_last, task_moved}
use Rattle.walking.proofs.matching.link_last.Goals as goal

pub branch_trees-requires-clause-open : goal.branch_trees-requires-clause-open
branch_trees-requires-clause-open c =
    let d = c.args.draft.now in
    let env = c.args.env.now in
    let n = c.args.fresh in
    let o = c.args.open in
    let w = c.args.opened.now in
    let r = c.requires in
    let v = c.task-task.ensures.valid in
    let pair = r.opened.pair in
    let part = c.args.part in
    let T = tree_at d.trees c.args.scrutinee in
    let R = tree_at d.trees o.others in
    let B = tree_at d.trees part.image in
    let k = whole_at d env c.args.e c.args.left n r.place v c.args.scrutinee o.pattern o.body o.others w.by w.under w.others r.node r.opened.left_is in
    let s = rest_is d env c.args.e c.args.left n r.place v c.args.scrutinee o.pattern o.body o.others w.by w.under w.others r.node r.opened.left_is in
    let lo : IsList Branch R = k.shape.typed.3.0.0.1 in
    let fo : BranchesFit (type_of T) B R = subst (BranchesFit (type_of T) B) (sym r.last) tt in
    made_open d env c.args.e c.args.left n r.place v c.args.scrutinee o.pattern o.body o.others w.by w.under w.others r.node r.opened.left_is w.terms.items r.opened.terms w.inner pair part r.part R lo s.shape fo

pub branch_trees-requires-clause-own : goal.branch_trees-requires-clause-own
branch_trees-requires-clause-own c =
    let d = c.args.draft.now in
    let env = c.args.env.now in
    let n = c.args.fresh in
    let o = c.args.open in
    let w = c.args.opened.now in
    let r = c.requires in
    let v = c.task-task.ensures.valid in
    let pair = r.opened.pair in
    let part = c.args.part in
    let q : above_params (Two HCase (tree_at d.trees c.args.scrutinee) (Two HCell (Two HArm (tree_at d.trees o.pattern) (tree_at d.trees o.body)) (tree_at d.trees o.others))) ≤ length d.task.params = subst (λ (z : Tree). above_params z ≤ length d.task.params) r.node r.place.own in
    omega (arith, q, r.part.place.own)

pub alike_lasts-requires-clause-left : goal.alike_lasts-requires-clause-left
alike_lasts-requires-clause-left c = pair_later c.args.draft.now c.branch_trees.new.draft (AddsTrees_extends c.args.draft.now c.branch_trees.new.draft c.in_ok-m.ensures.grows) c.args.left c.args.opened.now.inner c.requires.opened.pair

pub alike_lasts-requires-clause-middle : goal.alike_lasts-requires-clause-middle
alike_lasts-requires-clause-middle c =
    let d = c.args.draft.now in
    let env = c.args.env.now in
    let n = c.args.fresh in
    let w = c.args.opened.now in
    let r = c.requires in
    let pair = r.opened.pair in
    let part = c.args.part in
    pair_later d c.branch_trees.new.draft (AddsTrees_extends d c.branch_trees.new.draft c.in_ok-m.ensures.grows) w.inner part.right (one_pair d (env ++ w.terms.items) w.inner n part pair.right r.part)

pub alike_lasts-requires-clause-right : goal.alike_lasts-requires-clause-right
alike_lasts-requires-clause-right c =
    let d = c.args.draft.now in
    let env = c.args.env.now in
    let n = c.args.fresh in
    let o = c.args.open in
    let w = c.args.opened.now in
    let r = c.requires in
    let v = c.task-task.ensures.valid in
    let pair = r.opened.pair in
    let part = c.args.part in
    made_pair d env c.args.e c.args.left n r.place v c.args.scrutinee o.pattern o.body o.others w.by w.under w.others r.node r.opened.left_is w.terms.items r.opened.terms w.inner pair part r.part c.branch_trees.new.draft (AddsTrees_extends d c.branch_trees.new.draft c.in_ok-m.ensures.grows) (tree_at d.trees o.others) c.in_ok-m.m.e c.in_ok-m.m.left c.in_ok-m.ensures.place c.in_ok-m.ensures.node

pub alike_lasts-requires-clause-left_is : goal.alike_lasts-requires-clause-left_is
alike_lasts-requires-clause-left_is c =
    let d = c.args.draft.now in
    let env = c.args.env.now in
    let n = c.args.fresh in
    let o = c.args.open in
    let w = c.args.opened.now in
    let r = c.requires in
    let v = c.task-task.ensures.valid in
    let pair = r.opened.pair in
    let E = trees_at d.trees env in
    let s = rest_is d env c.args.e c.args.left n r.place v c.args.scrutinee o.pattern o.body o.others w.by w.under w.others r.node r.opened.left_is in
    let q : tree_at d.trees w.others ≡ Leaf HEnd = s.is ∙ ap (λ (z : Tree). inst_many z E) r.last in
    last_later d c.branch_trees.new.draft (AddsTrees_extends d c.branch_trees.new.draft c.in_ok-m.ensures.grows) c.args.left w.inner pair.left.held pair.right.held (opened_last d env c.args.left o.pattern o.body n w r.opened q)

pub alike_lasts-requires-clause-right_is : goal.alike_lasts-requires-clause-right_is
alike_lasts-requires-clause-right_is c =
    let d = c.args.draft.now in
    let env = c.args.env.now in
    let n = c.args.fresh in
    let o = c.args.open in
    let w = c.args.opened.now in
    let r = c.requires in
    let v = c.task-task.ensures.valid in
    let pair = r.opened.pair in
    let part = c.args.part in
    let T = tree_at d.trees c.args.scrutinee in
    let R = tree_at d.trees o.others in
    let B = tree_at d.trees part.image in
    let k = whole_at d env c.args.e c.args.left n r.place v c.args.scrutinee o.pattern o.body o.others w.by w.under w.others r.node r.opened.left_is in
    let s = rest_is d env c.args.e c.args.left n r.place v c.args.scrutinee o.pattern o.body o.others w.by w.under w.others r.node r.opened.left_is in
    let lo : IsList Branch R = k.shape.typed.3.0.0.1 in
    let fo : BranchesFit (type_of T) B R = subst (BranchesFit (type_of T) B) (sym r.last) tt in
    let d1 = c.branch_trees.new.draft in
    let x = AddsTrees_extends d d1 c.in_ok-m.ensures.grows in
    let m = c.in_ok-m.m in
    let er = made_instance d d1 x env n _ m.e m.left r.place.env_held c.in_ok-m.ensures.place c.in_ok-m.ensures.node in
    let q = made_last d env c.args.e c.args.left n r.place v c.args.scrutinee o.pattern o.body o.others w.by w.under w.others r.node r.opened.left_is w.terms.items r.opened.terms w.inner pair part r.part R lo s.shape fo (tree_at d1.trees m.left) er r.last in
    task_moved d d1 x (tree_at d1.trees m.left) part.right r.part.place.left_held q

pub alike_lasts-requires-clause-shows : goal.alike_lasts-requires-clause-shows
alike_lasts-requires-clause-shows c =
    let d = c.args.draft.now in
    let w = c.args.opened.now in
    let r = c.requires in
    let pair = r.opened.pair in
    let part = c.args.part in
    shows_at d c.branch_trees.new.draft (AddsTrees_extends d c.branch_trees.new.draft c.in_ok-m.ensures.grows) part.alike w.inner part.right pair.right.held r.part.place.left_held r.part.shows

pub returns-in_err-alike-clause-grows : goal.returns-in_err-alike-clause-grows
returns-in_err-alike-clause-grows c = Extends_trans _ _ _ (AddsTrees_extends _ _ c.in_ok-m.ensures.grows) c.in_err-alike.ensures.grows

pub returns-clause-grows : goal.returns-clause-grows
returns-clause-grows c = Extends_trans _ _ _ (AddsTrees_extends _ _ c.in_ok-m.ensures.grows) c.in_ok-alike.ensures.grows

pub returns-clause-link : goal.returns-clause-link
returns-clause-link c =
    let d = c.args.draft.now in
    let env = c.args.env.now in
    let n = c.args.fresh in
    let o = c.args.open in
    let w = c.args.opened.now in
    let r = c.requires in
    let v = c.task-task.ensures.valid in
    let pair = r.opened.pair in
    let part = c.args.part in
    let d1 = c.branch_trees.new.draft in
    let d2 = c.alike_lasts.new.draft in
    let x = AddsTrees_extends d d1 c.in_ok-m.ensures.grows in
    let m = c.in_ok-m.m in
    let p1 = pair_later d d1 x c.args.left part.right (pair_through d c.args.left w.inner part.right pair (one_pair d (env ++ w.terms.items) w.inner n part pair.right r.part)) in
    let p2 = made_pair d env c.args.e c.args.left n r.place v c.args.scrutinee o.pattern o.body o.others w.by w.under w.others r.node r.opened.left_is w.terms.items r.opened.terms w.inner pair part r.part d1 x (tree_at d.trees o.others) m.e m.left c.in_ok-m.ensures.place c.in_ok-m.ensures.node in
    made_link d1 d2 c.in_ok-alike.ensures.grows env c.args.left n _ (record { image = m.e; right = m.left; alike = c.in_ok-alike.alike }) c.in_ok-m.ensures.place c.in_ok-m.ensures.node (pair_through d1 c.args.left part.right m.left p1 (pair_turned d1 m.left part.right p2)) c.in_ok-alike.ensures.shows
