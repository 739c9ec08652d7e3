use Rattle.std.proofs.Common.{◌≡◌, ◌≤◌, ◌++◌, length, refl, ap, subst, ◌∙◌, arith}
use Rattle.trees.specs.Tree.{Tree, Two, HCase, HCell, HArm, above_params}
use Rattle.trees.specs.Node.{tree_at, trees_at}
use Rattle.trees.specs.Binding.{inst_many}
use Rattle.evidence.specs.Laws.{Extends_trans, AddsTrees_extends}
use Rattle.evidence.proofs.Formulas.{formula_later}
use Rattle.images.specs.Open.{IsOpenUnder}
use Rattle.congruence.proofs.Later.{closed_later, pair_later, shows_at}
use Rattle.walking.specs.Places.{types_for, IsLinkOf}
use Rattle.walking.proofs.Places.{place_closed}
use Rattle.walking.proofs.Binders.{made_link}
use Rattle.congruence.proofs.CaseParts.{pair_turned, pair_through}
use Rattle.walking.proofs.ArgumentPlaces.{one_pair}
use Rattle.walking.proofs.OpenedBranches.{case_named}
use Rattle.walking.proofs.RestPlaces.{made_open, made_more, made_pair, made_instance, others_fit, arms_open, opened_more, cases_later, cases_moved, case_as}
use Rattle.walking.proofs.matching.link_more.Goals as goal

pub branch_trees-requires-clause-open : goal.branch_trees-requires-clause-open
branch_trees-requires-clause-open c =
    let d = c.args.draft.now in
    let env = c.args.env.now in
    let n = c.args.fresh in
    let o = c.args.open in
    let w = c.args.opened.now in
    let r = c.requires in
    let v = c.task-task.ensures.valid in
    let pair = r.opened.pair in
    let part = c.args.part in
    let more = c.args.more in
    let arms = c.case_parts-parts.result.arms in
    let T = tree_at d.trees c.args.scrutinee in
    let O = tree_at d.trees arms in
    let em : tree_at d.trees more.image ≡ Two HCase T O = case_as _ _ _ _ _ c.case_parts-parts.ensures.tree r.more_is.1 in
    let f = others_fit d env c.args.e c.args.left n r.place v c.args.scrutinee o.pattern o.body o.others w.by w.under w.others r.node r.opened.left_is w.terms.items r.opened.terms w.inner pair part r.part c.args.rest more O r.rest r.more em in
    let oo = arms_open d.task (types_for (trees_at d.trees env)) n T O (subst (λ (z : Tree). IsOpenUnder d.task (types_for (trees_at d.trees env)) z n) em r.more.place.at.shape) in
    made_open d env c.args.e c.args.left n r.place v c.args.scrutinee o.pattern o.body o.others w.by w.under w.others r.node r.opened.left_is w.terms.items r.opened.terms w.inner pair part r.part O f.1 oo f.0

pub branch_trees-requires-clause-own : goal.branch_trees-requires-clause-own
branch_trees-requires-clause-own c =
    let d = c.args.draft.now in
    let env = c.args.env.now in
    let n = c.args.fresh in
    let o = c.args.open in
    let w = c.args.opened.now in
    let r = c.requires in
    let v = c.task-task.ensures.valid in
    let pair = r.opened.pair in
    let part = c.args.part in
    let more = c.args.more in
    let arms = c.case_parts-parts.result.arms in
    let T = tree_at d.trees c.args.scrutinee in
    let O = tree_at d.trees arms in
    let em : tree_at d.trees more.image ≡ Two HCase T O = case_as _ _ _ _ _ c.case_parts-parts.ensures.tree r.more_is.1 in
    let q : above_params (Two HCase T (Two HCell (Two HArm (tree_at d.trees o.pattern) (tree_at d.trees o.body)) (tree_at d.trees o.others))) ≤ length d.task.params = subst (λ (z : Tree). above_params z ≤ length d.task.params) r.node r.place.own in
    let k : above_params (Two HCase T O) ≤ length d.task.params = subst (λ (z : Tree). above_params z ≤ length d.task.params) em r.more.place.own in
    omega (arith, q, k, r.part.place.own)

pub alike_matches-requires-clause-left : goal.alike_matches-requires-clause-left
alike_matches-requires-clause-left c =
    let d = c.args.draft.now in
    let w = c.args.opened.now in
    let r = c.requires in
    let pair = r.opened.pair in
    let d1 = c.branch_trees.new.draft in
    let x = AddsTrees_extends d d1 c.in_ok-m.ensures.grows in
    record {
      whole = closed_later d d1 x c.args.left pair.left;
      condition = formula_later d d1 x w.test r.opened.test;
      then_part = pair_later d d1 x c.args.left w.inner pair;
      else_part = pair_later d d1 x c.args.left c.args.rest r.rest;
    }

pub alike_matches-requires-clause-right : goal.alike_matches-requires-clause-right
alike_matches-requires-clause-right c =
    let d = c.args.draft.now in
    let env = c.args.env.now in
    let n = c.args.fresh in
    let o = c.args.open in
    let w = c.args.opened.now in
    let r = c.requires in
    let v = c.task-task.ensures.valid in
    let pair = r.opened.pair in
    let part = c.args.part in
    let more = c.args.more in
    let arms = c.case_parts-parts.result.arms in
    let O = tree_at d.trees arms in
    let d1 = c.branch_trees.new.draft in
    let x = AddsTrees_extends d d1 c.in_ok-m.ensures.grows in
    let m = c.in_ok-m.m in
    let p1 = pair_later d d1 x c.args.left part.right (pair_through d c.args.left w.inner part.right pair (one_pair d (env ++ w.terms.items) w.inner n part pair.right r.part)) in
    let p2 = made_pair d env c.args.e c.args.left n r.place v c.args.scrutinee o.pattern o.body o.others w.by w.under w.others r.node r.opened.left_is w.terms.items r.opened.terms w.inner pair part r.part d1 x O m.e m.left c.in_ok-m.ensures.place c.in_ok-m.ensures.node in
    let sides = pair_through d1 c.args.left part.right m.left p1 (pair_turned d1 m.left part.right p2) in
    let rest = pair_later d d1 x c.args.left more.right (pair_through d c.args.left c.args.rest more.right r.rest (one_pair d env c.args.rest n more r.rest.right r.more)) in
    record {
      whole = place_closed d1 env m.e m.left n c.in_ok-m.ensures.place;
      condition = formula_later d d1 x w.test r.opened.test;
      then_part = p2;
      else_part = pair_through d1 m.left c.args.left more.right (pair_turned d1 c.args.left m.left sides) rest;
    }

pub alike_matches-requires-clause-sides : goal.alike_matches-requires-clause-sides
alike_matches-requires-clause-sides c =
    let d = c.args.draft.now in
    let env = c.args.env.now in
    let n = c.args.fresh in
    let o = c.args.open in
    let w = c.args.opened.now in
    let r = c.requires in
    let v = c.task-task.ensures.valid in
    let pair = r.opened.pair in
    let part = c.args.part in
    let arms = c.case_parts-parts.result.arms in
    let O = tree_at d.trees arms in
    let d1 = c.branch_trees.new.draft in
    let x = AddsTrees_extends d d1 c.in_ok-m.ensures.grows in
    let m = c.in_ok-m.m in
    let p1 = pair_later d d1 x c.args.left part.right (pair_through d c.args.left w.inner part.right pair (one_pair d (env ++ w.terms.items) w.inner n part pair.right r.part)) in
    let p2 = made_pair d env c.args.e c.args.left n r.place v c.args.scrutinee o.pattern o.body o.others w.by w.under w.others r.node r.opened.left_is w.terms.items r.opened.terms w.inner pair part r.part d1 x O m.e m.left c.in_ok-m.ensures.place c.in_ok-m.ensures.node in
    let sides = pair_through d1 c.args.left part.right m.left p1 (pair_turned d1 m.left part.right p2) in
    sides

pub alike_matches-requires-clause-left_is : goal.alike_matches-requires-clause-left_is
alike_matches-requires-clause-left_is c =
    let d = c.args.draft.now in
    let env = c.args.env.now in
    let n = c.args.fresh in
    let o = c.args.open in
    let w = c.args.opened.now in
    let r = c.requires in
    let pair = r.opened.pair in
    let d1 = c.branch_trees.new.draft in
    let x = AddsTrees_extends d d1 c.in_ok-m.ensures.grows in
    cases_later d d1 x c.args.left w.test w.inner c.args.rest pair.left.held r.opened.test.held pair.right.held r.rest.right.held (opened_more d env c.args.left o.pattern o.body n w c.args.rest r.opened r.branches r.rest_is)

pub alike_matches-requires-clause-right_is : goal.alike_matches-requires-clause-right_is
alike_matches-requires-clause-right_is c =
    let d = c.args.draft.now in
    let env = c.args.env.now in
    let n = c.args.fresh in
    let o = c.args.open in
    let w = c.args.opened.now in
    let r = c.requires in
    let v = c.task-task.ensures.valid in
    let pair = r.opened.pair in
    let part = c.args.part in
    let more = c.args.more in
    let arms = c.case_parts-parts.result.arms in
    let T = tree_at d.trees c.args.scrutinee in
    let O = tree_at d.trees arms in
    let em : tree_at d.trees more.image ≡ Two HCase T O = case_as _ _ _ _ _ c.case_parts-parts.ensures.tree r.more_is.1 in
    let f = others_fit d env c.args.e c.args.left n r.place v c.args.scrutinee o.pattern o.body o.others w.by w.under w.others r.node r.opened.left_is w.terms.items r.opened.terms w.inner pair part r.part c.args.rest more O r.rest r.more em in
    let oo = arms_open d.task (types_for (trees_at d.trees env)) n T O (subst (λ (z : Tree). IsOpenUnder d.task (types_for (trees_at d.trees env)) z n) em r.more.place.at.shape) in
    let d1 = c.branch_trees.new.draft in
    let x = AddsTrees_extends d d1 c.in_ok-m.ensures.grows in
    let m = c.in_ok-m.m in
    let er = made_instance d d1 x env n _ m.e m.left r.place.env_held c.in_ok-m.ensures.place c.in_ok-m.ensures.node in
    let q = made_more d env c.args.e c.args.left n r.place v c.args.scrutinee o.pattern o.body o.others w.by w.under w.others r.node r.opened.left_is w.terms.items r.opened.terms w.inner pair part r.part O f.1 oo f.0 (tree_at d1.trees m.left) (tree_at d.trees w.test) (tree_at d.trees more.right) er r.opened.test_is f.2 (r.more.place.at.is ∙ ap (λ (z : Tree). inst_many z (trees_at d.trees env)) em) in
    cases_moved d d1 x (tree_at d1.trees m.left) w.test part.right more.right r.opened.test.held r.part.place.left_held r.more.place.left_held q

pub alike_matches-requires-clause-links : goal.alike_matches-requires-clause-links
alike_matches-requires-clause-links c =
    let d = c.args.draft.now in
    let w = c.args.opened.now in
    let r = c.requires in
    let pair = r.opened.pair in
    let part = c.args.part in
    let more = c.args.more in
    let d1 = c.branch_trees.new.draft in
    let x = AddsTrees_extends d d1 c.in_ok-m.ensures.grows in
    record {
      condition = refl;
      then_part = shows_at d d1 x part.alike w.inner part.right pair.right.held r.part.place.left_held r.part.shows;
      else_part = shows_at d d1 x more.alike c.args.rest more.right r.rest.right.held r.more.place.left_held r.more.shows;
    }

pub returns-in_err-alike-clause-grows : goal.returns-in_err-alike-clause-grows
returns-in_err-alike-clause-grows c = Extends_trans _ _ _ (AddsTrees_extends _ _ c.in_ok-m.ensures.grows) c.in_err-alike.ensures.grows

pub returns-clause-grows : goal.returns-clause-grows
returns-clause-grows c = Extends_trans _ _ _ (AddsTrees_extends _ _ c.in_ok-m.ensures.grows) c.in_ok-alike.ensures.grows

pub returns-clause-link : goal.returns-clause-link
returns-clause-link c =
    let d = c.args.draft.now in
    let env = c.args.env.now in
    let n = c.args.fresh in
    let o = c.args.open in
    let w = c.args.opened.now in
    let r = c.requires in
    let v = c.task-task.ensures.valid in
    let pair = r.opened.pair in
    let part = c.args.part in
    let more = c.args.more in
    let arms = c.case_parts-parts.result.arms in
    let T = tree_at d.trees c.args.scrutinee in
    let O = tree_at d.trees arms in
    let em : tree_at d.trees more.image ≡ Two HCase T O = case_as _ _ _ _ _ c.case_parts-parts.ensures.tree r.more_is.1 in
    let d1 = c.branch_trees.new.draft in
    let x = AddsTrees_extends d d1 c.in_ok-m.ensures.grows in
    let m = c.in_ok-m.m in
    let p1 = pair_later d d1 x c.args.left part.right (pair_through d c.args.left w.inner part.right pair (one_pair d (env ++ w.terms.items) w.inner n part pair.right r.part)) in
    let p2 = made_pair d env c.args.e c.args.left n r.place v c.args.scrutinee o.pattern o.body o.others w.by w.under w.others r.node r.opened.left_is w.terms.items r.opened.terms w.inner pair part r.part d1 x O m.e m.left c.in_ok-m.ensures.place c.in_ok-m.ensures.node in
    let sides = pair_through d1 c.args.left part.right m.left p1 (pair_turned d1 m.left part.right p2) in
    let d2 = c.alike_matches.new.draft in
    let k = made_link d1 d2 c.in_ok-alike.ensures.grows env c.args.left n _ (record { image = m.e; right = m.left; alike = c.in_ok-alike.alike }) c.in_ok-m.ensures.place c.in_ok-m.ensures.node sides c.in_ok-alike.ensures.shows in
    λ others q. subst (λ (z : Tree). IsLinkOf d2 env c.args.left n (Two HCase T (Two HCell (Two HArm (tree_at d.trees o.pattern) (tree_at d.trees part.image)) z)) (record { image = m.e; right = m.left; alike = c.in_ok-alike.alike })) (case_named _ _ _ _ _ em q) k
