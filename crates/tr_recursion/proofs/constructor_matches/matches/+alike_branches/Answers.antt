use Rattle.std.proofs.Common.{refl, sym, subst, ◌∙◌, arith}
use Rattle.trees.specs.Node.{tree_at}
use Rattle.tasks.specs.Valid.{IsValid}
use Rattle.evidence.specs.Laws.{Extends_trans, AddsTrees_extends, AddsTrees_trans}
use Rattle.congruence.specs.declared.conditionals.Conditional.{Conditional}
use Rattle.congruence.proofs.Later.{held_later, tree_later, pair_later}
use Rattle.congruence.proofs.CaseParts.{parts_later, pair_turned, pair_through}
use Rattle.tr_recursion.proofs.constructor_matches.Moved.{shows_on, shows_there, shows_before}
use Rattle.tr_recursion.proofs.constructor_matches.Asked.{opened_later, fits, rest_pair, conditional_parts, conditional_match}
use Rattle.tr_recursion.proofs.constructor_matches.FirstBranches.{asked_here, has_arms, chosen_asked_later, others_listed, others_arm, here_last, here_on, later_on, other_on, chosen_moved}
use Rattle.tr_recursion.proofs.constructor_matches.matches.+alike_branches.Goals as goal

pub first_branch-first-requires-clause-branches : goal.first_branch-first-requires-clause-branches
first_branch-first-requires-clause-branches t c = has_arms _ _ _ c.requires.chosen

pub open_branch-requires : goal.open_branch-requires
open_branch-requires t c =
    let b = c.first_branch-first in
    record { asked = (asked_here c.args.draft.now c.args.whole c.args.scrutinee c.args.arms c.args.right c.requires.pair c.requires.scrutinee_held c.requires.is c.requires.chosen b.result b.ensures.pattern_held b.ensures.body_held b.ensures.others_held b.ensures.tree).asked }

pub cells_of-requires-clause-held : goal.cells_of-requires-clause-held
cells_of-requires-clause-held t c = held_later c.args.draft.now c.open_branch.new.draft (AddsTrees_extends _ _ c.in_ok-opened.ensures.grows) c.first_branch-first.result.others c.first_branch-first.ensures.others_held

pub cells_of-requires-clause-sort : goal.cells_of-requires-clause-sort
cells_of-requires-clause-sort t c =
    let d = c.args.draft.now in
    let d1 = c.open_branch.new.draft in
    let b = c.first_branch-first in
    let x = AddsTrees_extends d d1 c.in_ok-opened.ensures.grows in
    let a0 = asked_here d c.args.whole c.args.scrutinee c.args.arms c.args.right c.requires.pair c.requires.scrutinee_held c.requires.is c.requires.chosen b.result b.ensures.pattern_held b.ensures.body_held b.ensures.others_held b.ensures.tree in
    others_listed d1 c.args.whole c.args.scrutinee b.result c.args.right (chosen_asked_later d d1 x c.args.whole c.args.scrutinee b.result c.args.right a0)

pub alike_last-requires-clause-pair : goal.alike_last-requires-clause-pair
alike_last-requires-clause-pair t c = pair_later c.args.draft.now c.open_branch.new.draft (AddsTrees_extends _ _ c.in_ok-opened.ensures.grows) c.args.whole c.args.right c.requires.pair

pub alike_last-requires-clause-here : goal.alike_last-requires-clause-here
alike_last-requires-clause-here t c =
    let d = c.args.draft.now in
    let d1 = c.open_branch.new.draft in
    let b = c.first_branch-first in
    let x = AddsTrees_extends d d1 c.in_ok-opened.ensures.grows in
    let a0 = asked_here d c.args.whole c.args.scrutinee c.args.arms c.args.right c.requires.pair c.requires.scrutinee_held c.requires.is c.requires.chosen b.result b.ensures.pattern_held b.ensures.body_held b.ensures.others_held b.ensures.tree in
    here_last d1 c.args.whole c.args.scrutinee b.result c.args.right (chosen_asked_later d d1 x c.args.whole c.args.scrutinee b.result c.args.right a0) (c.in-None.ensures.none refl)

pub alike_last-requires-clause-last : goal.alike_last-requires-clause-last
alike_last-requires-clause-last t c = c.in-None.ensures.none refl

pub returns-in_ok-last-in-None-clause-shows : goal.returns-in_ok-last-in-None-clause-shows
returns-in_ok-last-in-None-clause-shows t c =
    let x = AddsTrees_extends _ _ c.in_ok-opened.ensures.grows in
    let m = c.in_ok-last-in-None in
    shows_before c.args.draft.now c.open_branch.new.draft c.alike_last.new.draft x m.last c.args.whole c.args.right c.requires.pair.left.held c.requires.pair.right.held m.ensures.shows

pub returns-in_err-opened-clause-grows : goal.returns-in_err-opened-clause-grows
returns-in_err-opened-clause-grows t c = AddsTrees_extends _ _ c.open_branch.ensures.grows

pub returns-in_err-last-in-None-clause-grows : goal.returns-in_err-last-in-None-clause-grows
returns-in_err-last-in-None-clause-grows t c = Extends_trans _ _ _ (AddsTrees_extends _ _ c.in_ok-opened.ensures.grows) c.alike_last.ensures.grows

pub returns-in_ok-last-in-None-clause-grows : goal.returns-in_ok-last-in-None-clause-grows
returns-in_ok-last-in-None-clause-grows t c = Extends_trans _ _ _ (AddsTrees_extends _ _ c.in_ok-opened.ensures.grows) c.in_ok-last-in-None.ensures.grows

pub add-requires-clause-fits : goal.add-requires-clause-fits
add-requires-clause-fits t c =
    let d = c.args.draft.now in
    let d1 = c.open_branch.new.draft in
    let b = c.first_branch-first in
    let o = c.in_ok-opened in
    let x = AddsTrees_extends d d1 o.ensures.grows in
    let a1 = chosen_asked_later d d1 x c.args.whole c.args.scrutinee b.result c.args.right (asked_here d c.args.whole c.args.scrutinee c.args.arms c.args.right c.requires.pair c.requires.scrutinee_held c.requires.is c.requires.chosen b.result b.ensures.pattern_held b.ensures.body_held b.ensures.others_held b.ensures.tree) in
    let valid1 = subst IsValid (sym x.task) c.task-task.ensures.valid in
    let e1 = others_arm d1 c.args.whole c.args.scrutinee b.result c.args.right a1 _ _ c.in-Some.ensures.some in
    fits d1 valid1 c.args.whole c.args.scrutinee b.result o.ensures.opened.asked e1.pattern e1.body e1.rest e1.is

pub match_values-requires-clause-parts : goal.match_values-requires-clause-parts
match_values-requires-clause-parts t c =
    let d = c.args.draft.now in
    let d1 = c.open_branch.new.draft in
    let b = c.first_branch-first in
    let o = c.in_ok-opened in
    let x = AddsTrees_extends d d1 o.ensures.grows in
    let a1 = chosen_asked_later d d1 x c.args.whole c.args.scrutinee b.result c.args.right (asked_here d c.args.whole c.args.scrutinee c.args.arms c.args.right c.requires.pair c.requires.scrutinee_held c.requires.is c.requires.chosen b.result b.ensures.pattern_held b.ensures.body_held b.ensures.others_held b.ensures.tree) in
    let valid1 = subst IsValid (sym x.task) c.task-task.ensures.valid in
    let e1 = others_arm d1 c.args.whole c.args.scrutinee b.result c.args.right a1 _ _ c.in-Some.ensures.some in
    let r = c.in_ok-rest-in-Some in
    let d2 = c.add.new.self in
    let u = AddsTrees_extends d1 d2 r.ensures.grows in
    conditional_parts d1 valid1 c.args.whole c.args.scrutinee b.result o.ensures.opened.asked e1.pattern e1.body e1.rest e1.is d2 u r.rest r.ensures.held r.ensures.tree o.opened o.ensures.opened

pub match_values-requires-clause-is : goal.match_values-requires-clause-is
match_values-requires-clause-is t c =
    let d = c.args.draft.now in
    let d1 = c.open_branch.new.draft in
    let b = c.first_branch-first in
    let o = c.in_ok-opened in
    let x = AddsTrees_extends d d1 o.ensures.grows in
    let a1 = chosen_asked_later d d1 x c.args.whole c.args.scrutinee b.result c.args.right (asked_here d c.args.whole c.args.scrutinee c.args.arms c.args.right c.requires.pair c.requires.scrutinee_held c.requires.is c.requires.chosen b.result b.ensures.pattern_held b.ensures.body_held b.ensures.others_held b.ensures.tree) in
    let valid1 = subst IsValid (sym x.task) c.task-task.ensures.valid in
    let e1 = others_arm d1 c.args.whole c.args.scrutinee b.result c.args.right a1 _ _ c.in-Some.ensures.some in
    let r = c.in_ok-rest-in-Some in
    let d2 = c.add.new.self in
    let u = AddsTrees_extends d1 d2 r.ensures.grows in
    conditional_match d1 valid1 c.args.whole c.args.scrutinee b.result o.ensures.opened.asked e1.pattern e1.body e1.rest e1.is d2 u r.rest r.ensures.held r.ensures.tree o.opened o.ensures.opened

pub is_on-requires-clause-held : goal.is_on-requires-clause-held
is_on-requires-clause-held t c =
    let d = c.args.draft.now in
    let d1 = c.open_branch.new.draft in
    let b = c.first_branch-first in
    let o = c.in_ok-opened in
    let x = AddsTrees_extends d d1 o.ensures.grows in
    let a1 = chosen_asked_later d d1 x c.args.whole c.args.scrutinee b.result c.args.right (asked_here d c.args.whole c.args.scrutinee c.args.arms c.args.right c.requires.pair c.requires.scrutinee_held c.requires.is c.requires.chosen b.result b.ensures.pattern_held b.ensures.body_held b.ensures.others_held b.ensures.tree) in
    let r = c.in_ok-rest-in-Some in
    let d2 = c.add.new.self in
    let u = AddsTrees_extends d1 d2 r.ensures.grows in
    let d3 = c.match_values.new.draft in
    let w = c.in_ok-values-in-Some.ensures.grows in
    let z = Extends_trans d1 d2 d3 u w in
    let a3 = chosen_asked_later d1 d3 z c.args.whole c.args.scrutinee b.result c.args.right a1 in
    a3.asked.scrutinee_held

pub is_on-requires-clause-pattern_held : goal.is_on-requires-clause-pattern_held
is_on-requires-clause-pattern_held t c =
    let d = c.args.draft.now in
    let d1 = c.open_branch.new.draft in
    let b = c.first_branch-first in
    let o = c.in_ok-opened in
    let x = AddsTrees_extends d d1 o.ensures.grows in
    let a1 = chosen_asked_later d d1 x c.args.whole c.args.scrutinee b.result c.args.right (asked_here d c.args.whole c.args.scrutinee c.args.arms c.args.right c.requires.pair c.requires.scrutinee_held c.requires.is c.requires.chosen b.result b.ensures.pattern_held b.ensures.body_held b.ensures.others_held b.ensures.tree) in
    let r = c.in_ok-rest-in-Some in
    let d2 = c.add.new.self in
    let u = AddsTrees_extends d1 d2 r.ensures.grows in
    let d3 = c.match_values.new.draft in
    let w = c.in_ok-values-in-Some.ensures.grows in
    let z = Extends_trans d1 d2 d3 u w in
    let a3 = chosen_asked_later d1 d3 z c.args.whole c.args.scrutinee b.result c.args.right a1 in
    a3.asked.pattern_held

pub alike_first-requires-clause-pair : goal.alike_first-requires-clause-pair
alike_first-requires-clause-pair t c =
    let d = c.args.draft.now in
    let d1 = c.open_branch.new.draft in
    let b = c.first_branch-first in
    let o = c.in_ok-opened in
    let x = AddsTrees_extends d d1 o.ensures.grows in
    let a1 = chosen_asked_later d d1 x c.args.whole c.args.scrutinee b.result c.args.right (asked_here d c.args.whole c.args.scrutinee c.args.arms c.args.right c.requires.pair c.requires.scrutinee_held c.requires.is c.requires.chosen b.result b.ensures.pattern_held b.ensures.body_held b.ensures.others_held b.ensures.tree) in
    let r = c.in_ok-rest-in-Some in
    let d2 = c.add.new.self in
    let u = AddsTrees_extends d1 d2 r.ensures.grows in
    let d3 = c.match_values.new.draft in
    let w = c.in_ok-values-in-Some.ensures.grows in
    pair_later d d3 (Extends_trans d d1 d3 x (Extends_trans d1 d2 d3 u w)) c.args.whole c.args.right c.requires.pair

pub alike_first-requires-clause-opened : goal.alike_first-requires-clause-opened
alike_first-requires-clause-opened t c =
    let d = c.args.draft.now in
    let d1 = c.open_branch.new.draft in
    let b = c.first_branch-first in
    let o = c.in_ok-opened in
    let x = AddsTrees_extends d d1 o.ensures.grows in
    let a1 = chosen_asked_later d d1 x c.args.whole c.args.scrutinee b.result c.args.right (asked_here d c.args.whole c.args.scrutinee c.args.arms c.args.right c.requires.pair c.requires.scrutinee_held c.requires.is c.requires.chosen b.result b.ensures.pattern_held b.ensures.body_held b.ensures.others_held b.ensures.tree) in
    let r = c.in_ok-rest-in-Some in
    let d2 = c.add.new.self in
    let u = AddsTrees_extends d1 d2 r.ensures.grows in
    let d3 = c.match_values.new.draft in
    let w = c.in_ok-values-in-Some.ensures.grows in
    opened_later d1 d3 (Extends_trans d1 d2 d3 u w) c.args.whole c.args.scrutinee b.result o.opened o.ensures.opened

pub alike_first-requires-clause-here : goal.alike_first-requires-clause-here
alike_first-requires-clause-here t c =
    let d = c.args.draft.now in
    let d1 = c.open_branch.new.draft in
    let b = c.first_branch-first in
    let o = c.in_ok-opened in
    let x = AddsTrees_extends d d1 o.ensures.grows in
    let a1 = chosen_asked_later d d1 x c.args.whole c.args.scrutinee b.result c.args.right (asked_here d c.args.whole c.args.scrutinee c.args.arms c.args.right c.requires.pair c.requires.scrutinee_held c.requires.is c.requires.chosen b.result b.ensures.pattern_held b.ensures.body_held b.ensures.others_held b.ensures.tree) in
    let r = c.in_ok-rest-in-Some in
    let d2 = c.add.new.self in
    let u = AddsTrees_extends d1 d2 r.ensures.grows in
    let d3 = c.match_values.new.draft in
    let w = c.in_ok-values-in-Some.ensures.grows in
    let z = Extends_trans d1 d2 d3 u w in
    let a3 = chosen_asked_later d1 d3 z c.args.whole c.args.scrutinee b.result c.args.right a1 in
    here_on d3 c.args.whole c.args.scrutinee b.result c.args.right a3 c.is_on.result c.is_on.ensures c.if-is_on.true

pub alike_first-requires-clause-value : goal.alike_first-requires-clause-value
alike_first-requires-clause-value t c =
    c.in_ok-values-in-Some.ensures.values.then_value

pub alike_rest-requires-clause-parts : goal.alike_rest-requires-clause-parts
alike_rest-requires-clause-parts t c =
    let d = c.args.draft.now in
    let d1 = c.open_branch.new.draft in
    let b = c.first_branch-first in
    let o = c.in_ok-opened in
    let x = AddsTrees_extends d d1 o.ensures.grows in
    let a1 = chosen_asked_later d d1 x c.args.whole c.args.scrutinee b.result c.args.right (asked_here d c.args.whole c.args.scrutinee c.args.arms c.args.right c.requires.pair c.requires.scrutinee_held c.requires.is c.requires.chosen b.result b.ensures.pattern_held b.ensures.body_held b.ensures.others_held b.ensures.tree) in
    let valid1 = subst IsValid (sym x.task) c.task-task.ensures.valid in
    let e1 = others_arm d1 c.args.whole c.args.scrutinee b.result c.args.right a1 _ _ c.in-Some.ensures.some in
    let r = c.in_ok-rest-in-Some in
    let d2 = c.add.new.self in
    let u = AddsTrees_extends d1 d2 r.ensures.grows in
    let d3 = c.match_values.new.draft in
    let w = c.in_ok-values-in-Some.ensures.grows in
    let k : Conditional = record { whole = c.args.whole; condition = o.opened.test; then_part = o.opened.inner; else_part = r.rest } in
    parts_later d2 d3 w k (conditional_parts d1 valid1 c.args.whole c.args.scrutinee b.result o.ensures.opened.asked e1.pattern e1.body e1.rest e1.is d2 u r.rest r.ensures.held r.ensures.tree o.opened o.ensures.opened)

pub alike_rest-requires-clause-value : goal.alike_rest-requires-clause-value
alike_rest-requires-clause-value t c =
    c.in_ok-values-in-Some.ensures.values.else_value

pub alike_rest-requires-clause-other : goal.alike_rest-requires-clause-other
alike_rest-requires-clause-other t c =
    let d = c.args.draft.now in
    let d1 = c.open_branch.new.draft in
    let b = c.first_branch-first in
    let o = c.in_ok-opened in
    let x = AddsTrees_extends d d1 o.ensures.grows in
    let a1 = chosen_asked_later d d1 x c.args.whole c.args.scrutinee b.result c.args.right (asked_here d c.args.whole c.args.scrutinee c.args.arms c.args.right c.requires.pair c.requires.scrutinee_held c.requires.is c.requires.chosen b.result b.ensures.pattern_held b.ensures.body_held b.ensures.others_held b.ensures.tree) in
    let r = c.in_ok-rest-in-Some in
    let d2 = c.add.new.self in
    let u = AddsTrees_extends d1 d2 r.ensures.grows in
    let d3 = c.match_values.new.draft in
    let w = c.in_ok-values-in-Some.ensures.grows in
    let z = Extends_trans d1 d2 d3 u w in
    let a3 = chosen_asked_later d1 d3 z c.args.whole c.args.scrutinee b.result c.args.right a1 in
    let valid3 = subst IsValid (sym (Extends_trans d d1 d3 x z).task) c.task-task.ensures.valid in
    other_on d3 c.args.whole c.args.scrutinee b.result c.args.right a3 c.is_on.result c.is_on.ensures valid3 (tree_at d3.trees o.opened.test) (opened_later d1 d3 z c.args.whole c.args.scrutinee b.result o.opened o.ensures.opened).test_is c.if-is_on.false

pub alike_branches-requires : goal.alike_branches-requires
alike_branches-requires t c =
    let d = c.args.draft.now in
    let d1 = c.open_branch.new.draft in
    let b = c.first_branch-first in
    let o = c.in_ok-opened in
    let x = AddsTrees_extends d d1 o.ensures.grows in
    let a1 = chosen_asked_later d d1 x c.args.whole c.args.scrutinee b.result c.args.right (asked_here d c.args.whole c.args.scrutinee c.args.arms c.args.right c.requires.pair c.requires.scrutinee_held c.requires.is c.requires.chosen b.result b.ensures.pattern_held b.ensures.body_held b.ensures.others_held b.ensures.tree) in
    let valid1 = subst IsValid (sym x.task) c.task-task.ensures.valid in
    let e1 = others_arm d1 c.args.whole c.args.scrutinee b.result c.args.right a1 _ _ c.in-Some.ensures.some in
    let r = c.in_ok-rest-in-Some in
    let d2 = c.add.new.self in
    let u = AddsTrees_extends d1 d2 r.ensures.grows in
    let d3 = c.match_values.new.draft in
    let w = c.in_ok-values-in-Some.ensures.grows in
    let z = Extends_trans d1 d2 d3 u w in
    let a3 = chosen_asked_later d1 d3 z c.args.whole c.args.scrutinee b.result c.args.right a1 in
    let d4 = c.alike_rest.new.draft in
    let v = c.in_ok-one-in-Some.ensures.grows in
    let y = Extends_trans d1 d3 d4 z v in
    let p1 = rest_pair d1 valid1 c.args.whole c.args.scrutinee b.result o.ensures.opened.asked e1.pattern e1.body e1.rest e1.is d2 u r.rest r.ensures.held r.ensures.tree in
    let p4 = pair_later d2 d4 (Extends_trans d2 d3 d4 w v) c.args.whole r.rest p1 in
    let s4 = tree_later d1 d4 y c.args.scrutinee a1.asked.scrutinee_held in
    let o4 = tree_later d1 d4 y b.result.others a1.asked.others_held in (
      omega (arith, b.ensures.others_below),
      (
        pair_through d4 r.rest c.args.whole c.args.right (pair_turned d4 c.args.whole r.rest p4) (pair_later d d4 (Extends_trans d d1 d4 x y) c.args.whole c.args.right c.requires.pair),
        (held_later d1 d4 y c.args.scrutinee a1.asked.scrutinee_held, (held_later d1 d4 y b.result.others a1.asked.others_held, (tree_later d2 d4 (Extends_trans d2 d3 d4 w v) r.rest r.ensures.held ∙ r.ensures.tree ∙ cc (sym s4, sym o4), chosen_moved _ _ _ _ _ _ (tree_later d3 d4 v c.args.scrutinee a3.asked.scrutinee_held) (tree_later d3 d4 v b.result.others a3.asked.others_held) (tree_later d3 d4 v c.args.right a3.right_held) (later_on d3 c.args.whole c.args.scrutinee b.result c.args.right a3 c.is_on.result c.is_on.ensures c.if-is_on.false)))),
      ),
    )

pub chain-requires-clause-left : goal.chain-requires-clause-left
chain-requires-clause-left t c =
    let d = c.args.draft.now in
    let d1 = c.open_branch.new.draft in
    let b = c.first_branch-first in
    let o = c.in_ok-opened in
    let x = AddsTrees_extends d d1 o.ensures.grows in
    let a1 = chosen_asked_later d d1 x c.args.whole c.args.scrutinee b.result c.args.right (asked_here d c.args.whole c.args.scrutinee c.args.arms c.args.right c.requires.pair c.requires.scrutinee_held c.requires.is c.requires.chosen b.result b.ensures.pattern_held b.ensures.body_held b.ensures.others_held b.ensures.tree) in
    let valid1 = subst IsValid (sym x.task) c.task-task.ensures.valid in
    let e1 = others_arm d1 c.args.whole c.args.scrutinee b.result c.args.right a1 _ _ c.in-Some.ensures.some in
    let r = c.in_ok-rest-in-Some in
    let d2 = c.add.new.self in
    let u = AddsTrees_extends d1 d2 r.ensures.grows in
    let d3 = c.match_values.new.draft in
    let w = c.in_ok-values-in-Some.ensures.grows in
    let z = Extends_trans d1 d2 d3 u w in
    let a3 = chosen_asked_later d1 d3 z c.args.whole c.args.scrutinee b.result c.args.right a1 in
    let d4 = c.alike_rest.new.draft in
    let v = c.in_ok-one-in-Some.ensures.grows in
    let d5 = c.alike_branches.new.draft in
    let g = c.in_ok-two-in-Some.ensures.grows in
    let y = Extends_trans d1 d3 d4 z v in
    let p2 = rest_pair d1 valid1 c.args.whole c.args.scrutinee b.result o.ensures.opened.asked e1.pattern e1.body e1.rest e1.is d2 u r.rest r.ensures.held r.ensures.tree in
    let p3 = pair_later d2 d3 w c.args.whole r.rest p2 in
    let q4 = pair_later d d4 (Extends_trans d d1 d4 x y) c.args.whole c.args.right c.requires.pair in
    pair_later d3 d5 (Extends_trans d3 d4 d5 v g) c.args.whole r.rest p3

pub chain-requires-clause-right : goal.chain-requires-clause-right
chain-requires-clause-right t c =
    let d = c.args.draft.now in
    let d1 = c.open_branch.new.draft in
    let b = c.first_branch-first in
    let o = c.in_ok-opened in
    let x = AddsTrees_extends d d1 o.ensures.grows in
    let a1 = chosen_asked_later d d1 x c.args.whole c.args.scrutinee b.result c.args.right (asked_here d c.args.whole c.args.scrutinee c.args.arms c.args.right c.requires.pair c.requires.scrutinee_held c.requires.is c.requires.chosen b.result b.ensures.pattern_held b.ensures.body_held b.ensures.others_held b.ensures.tree) in
    let valid1 = subst IsValid (sym x.task) c.task-task.ensures.valid in
    let e1 = others_arm d1 c.args.whole c.args.scrutinee b.result c.args.right a1 _ _ c.in-Some.ensures.some in
    let r = c.in_ok-rest-in-Some in
    let d2 = c.add.new.self in
    let u = AddsTrees_extends d1 d2 r.ensures.grows in
    let d3 = c.match_values.new.draft in
    let w = c.in_ok-values-in-Some.ensures.grows in
    let z = Extends_trans d1 d2 d3 u w in
    let a3 = chosen_asked_later d1 d3 z c.args.whole c.args.scrutinee b.result c.args.right a1 in
    let d4 = c.alike_rest.new.draft in
    let v = c.in_ok-one-in-Some.ensures.grows in
    let d5 = c.alike_branches.new.draft in
    let g = c.in_ok-two-in-Some.ensures.grows in
    let y = Extends_trans d1 d3 d4 z v in
    let p2 = rest_pair d1 valid1 c.args.whole c.args.scrutinee b.result o.ensures.opened.asked e1.pattern e1.body e1.rest e1.is d2 u r.rest r.ensures.held r.ensures.tree in
    let p3 = pair_later d2 d3 w c.args.whole r.rest p2 in
    let q4 = pair_later d d4 (Extends_trans d d1 d4 x y) c.args.whole c.args.right c.requires.pair in
    pair_later d4 d5 g r.rest c.args.right (pair_through d4 r.rest c.args.whole c.args.right (pair_turned d4 c.args.whole r.rest (pair_later d3 d4 v c.args.whole r.rest p3)) q4)

pub chain-requires-clause-first : goal.chain-requires-clause-first
chain-requires-clause-first t c =
    let d = c.args.draft.now in
    let d1 = c.open_branch.new.draft in
    let b = c.first_branch-first in
    let o = c.in_ok-opened in
    let x = AddsTrees_extends d d1 o.ensures.grows in
    let a1 = chosen_asked_later d d1 x c.args.whole c.args.scrutinee b.result c.args.right (asked_here d c.args.whole c.args.scrutinee c.args.arms c.args.right c.requires.pair c.requires.scrutinee_held c.requires.is c.requires.chosen b.result b.ensures.pattern_held b.ensures.body_held b.ensures.others_held b.ensures.tree) in
    let valid1 = subst IsValid (sym x.task) c.task-task.ensures.valid in
    let e1 = others_arm d1 c.args.whole c.args.scrutinee b.result c.args.right a1 _ _ c.in-Some.ensures.some in
    let r = c.in_ok-rest-in-Some in
    let d2 = c.add.new.self in
    let u = AddsTrees_extends d1 d2 r.ensures.grows in
    let d3 = c.match_values.new.draft in
    let w = c.in_ok-values-in-Some.ensures.grows in
    let z = Extends_trans d1 d2 d3 u w in
    let a3 = chosen_asked_later d1 d3 z c.args.whole c.args.scrutinee b.result c.args.right a1 in
    let d4 = c.alike_rest.new.draft in
    let v = c.in_ok-one-in-Some.ensures.grows in
    let d5 = c.alike_branches.new.draft in
    let g = c.in_ok-two-in-Some.ensures.grows in
    let y = Extends_trans d1 d3 d4 z v in
    let p2 = rest_pair d1 valid1 c.args.whole c.args.scrutinee b.result o.ensures.opened.asked e1.pattern e1.body e1.rest e1.is d2 u r.rest r.ensures.held r.ensures.tree in
    let p3 = pair_later d2 d3 w c.args.whole r.rest p2 in
    let q4 = pair_later d d4 (Extends_trans d d1 d4 x y) c.args.whole c.args.right c.requires.pair in
    shows_on d3 d4 d5 (Extends_trans d3 d4 d5 v g) g c.in_ok-one-in-Some.one c.args.whole r.rest p3.left.held p3.right.held c.in_ok-one-in-Some.ensures.shows

pub chain-requires-clause-second : goal.chain-requires-clause-second
chain-requires-clause-second t c =
    let d = c.args.draft.now in
    let d1 = c.open_branch.new.draft in
    let b = c.first_branch-first in
    let o = c.in_ok-opened in
    let x = AddsTrees_extends d d1 o.ensures.grows in
    let a1 = chosen_asked_later d d1 x c.args.whole c.args.scrutinee b.result c.args.right (asked_here d c.args.whole c.args.scrutinee c.args.arms c.args.right c.requires.pair c.requires.scrutinee_held c.requires.is c.requires.chosen b.result b.ensures.pattern_held b.ensures.body_held b.ensures.others_held b.ensures.tree) in
    let valid1 = subst IsValid (sym x.task) c.task-task.ensures.valid in
    let e1 = others_arm d1 c.args.whole c.args.scrutinee b.result c.args.right a1 _ _ c.in-Some.ensures.some in
    let r = c.in_ok-rest-in-Some in
    let d2 = c.add.new.self in
    let u = AddsTrees_extends d1 d2 r.ensures.grows in
    let d3 = c.match_values.new.draft in
    let w = c.in_ok-values-in-Some.ensures.grows in
    let z = Extends_trans d1 d2 d3 u w in
    let a3 = chosen_asked_later d1 d3 z c.args.whole c.args.scrutinee b.result c.args.right a1 in
    let d4 = c.alike_rest.new.draft in
    let v = c.in_ok-one-in-Some.ensures.grows in
    let d5 = c.alike_branches.new.draft in
    let g = c.in_ok-two-in-Some.ensures.grows in
    let y = Extends_trans d1 d3 d4 z v in
    let p2 = rest_pair d1 valid1 c.args.whole c.args.scrutinee b.result o.ensures.opened.asked e1.pattern e1.body e1.rest e1.is d2 u r.rest r.ensures.held r.ensures.tree in
    let p3 = pair_later d2 d3 w c.args.whole r.rest p2 in
    let q4 = pair_later d d4 (Extends_trans d d1 d4 x y) c.args.whole c.args.right c.requires.pair in
    shows_there d4 d5 d5 g c.in_ok-two-in-Some.two r.rest c.args.right (pair_later d3 d4 v c.args.whole r.rest p3).right.held q4.right.held c.in_ok-two-in-Some.ensures.shows

pub returns-in_ok-own-in-Some-clause-shows : goal.returns-in_ok-own-in-Some-clause-shows
returns-in_ok-own-in-Some-clause-shows t c =
    let d = c.args.draft.now in
    let d1 = c.open_branch.new.draft in
    let d2 = c.add.new.self in
    let d3 = c.match_values.new.draft in
    let x = Extends_trans d d2 d3 (AddsTrees_extends d d2 (AddsTrees_trans d d1 d2 c.in_ok-opened.ensures.grows c.in_ok-rest-in-Some.ensures.grows)) c.in_ok-values-in-Some.ensures.grows in
    shows_before d d3 c.alike_first.new.draft x c.in_ok-own-in-Some.own c.args.whole c.args.right c.requires.pair.left.held c.requires.pair.right.held c.in_ok-own-in-Some.ensures.shows

pub returns-in_ok-joined-in-Some-clause-shows : goal.returns-in_ok-joined-in-Some-clause-shows
returns-in_ok-joined-in-Some-clause-shows t c =
    let d = c.args.draft.now in
    let d1 = c.open_branch.new.draft in
    let d2 = c.add.new.self in
    let d3 = c.match_values.new.draft in
    let x = Extends_trans d d2 d3 (AddsTrees_extends d d2 (AddsTrees_trans d d1 d2 c.in_ok-opened.ensures.grows c.in_ok-rest-in-Some.ensures.grows)) c.in_ok-values-in-Some.ensures.grows in
    let d4 = c.alike_rest.new.draft in
    let d5 = c.alike_branches.new.draft in
    let y = Extends_trans d d4 d5 (Extends_trans d d3 d4 x c.in_ok-one-in-Some.ensures.grows) c.in_ok-two-in-Some.ensures.grows in
    shows_before d d5 c.chain.new.draft y c.in_ok-joined-in-Some.joined c.args.whole c.args.right c.requires.pair.left.held c.requires.pair.right.held c.in_ok-joined-in-Some.ensures.shows

pub returns-in_err-rest-in-Some-clause-grows : goal.returns-in_err-rest-in-Some-clause-grows
returns-in_err-rest-in-Some-clause-grows t c =
    AddsTrees_extends _ _ (AddsTrees_trans _ _ _ c.in_ok-opened.ensures.grows c.add.ensures.grows)

pub returns-in_err-values-in-Some-clause-grows : goal.returns-in_err-values-in-Some-clause-grows
returns-in_err-values-in-Some-clause-grows t c =
    Extends_trans _ _ _ (AddsTrees_extends _ _ (AddsTrees_trans _ _ _ c.in_ok-opened.ensures.grows c.in_ok-rest-in-Some.ensures.grows)) c.match_values.ensures.grows

pub returns-in_err-own-in-Some-clause-grows : goal.returns-in_err-own-in-Some-clause-grows
returns-in_err-own-in-Some-clause-grows t c =
    let d = c.args.draft.now in
    let d1 = c.open_branch.new.draft in
    let d2 = c.add.new.self in
    let d3 = c.match_values.new.draft in
    let x = Extends_trans d d2 d3 (AddsTrees_extends d d2 (AddsTrees_trans d d1 d2 c.in_ok-opened.ensures.grows c.in_ok-rest-in-Some.ensures.grows)) c.in_ok-values-in-Some.ensures.grows in
    Extends_trans d d3 _ x c.alike_first.ensures.grows

pub returns-in_ok-own-in-Some-clause-grows : goal.returns-in_ok-own-in-Some-clause-grows
returns-in_ok-own-in-Some-clause-grows t c =
    let d = c.args.draft.now in
    let d1 = c.open_branch.new.draft in
    let d2 = c.add.new.self in
    let d3 = c.match_values.new.draft in
    let x = Extends_trans d d2 d3 (AddsTrees_extends d d2 (AddsTrees_trans d d1 d2 c.in_ok-opened.ensures.grows c.in_ok-rest-in-Some.ensures.grows)) c.in_ok-values-in-Some.ensures.grows in
    Extends_trans d d3 _ x c.in_ok-own-in-Some.ensures.grows

pub returns-in_err-one-in-Some-clause-grows : goal.returns-in_err-one-in-Some-clause-grows
returns-in_err-one-in-Some-clause-grows t c =
    let d = c.args.draft.now in
    let d1 = c.open_branch.new.draft in
    let d2 = c.add.new.self in
    let d3 = c.match_values.new.draft in
    let x = Extends_trans d d2 d3 (AddsTrees_extends d d2 (AddsTrees_trans d d1 d2 c.in_ok-opened.ensures.grows c.in_ok-rest-in-Some.ensures.grows)) c.in_ok-values-in-Some.ensures.grows in
    Extends_trans d d3 _ x c.alike_rest.ensures.grows

pub returns-in_err-two-in-Some-clause-grows : goal.returns-in_err-two-in-Some-clause-grows
returns-in_err-two-in-Some-clause-grows t c =
    let d = c.args.draft.now in
    let d1 = c.open_branch.new.draft in
    let d2 = c.add.new.self in
    let d3 = c.match_values.new.draft in
    let x = Extends_trans d d2 d3 (AddsTrees_extends d d2 (AddsTrees_trans d d1 d2 c.in_ok-opened.ensures.grows c.in_ok-rest-in-Some.ensures.grows)) c.in_ok-values-in-Some.ensures.grows in
    Extends_trans d _ _ (Extends_trans d d3 _ x c.in_ok-one-in-Some.ensures.grows) c.alike_branches.ensures.grows

pub returns-in_err-joined-in-Some-clause-grows : goal.returns-in_err-joined-in-Some-clause-grows
returns-in_err-joined-in-Some-clause-grows t c =
    let d = c.args.draft.now in
    let d1 = c.open_branch.new.draft in
    let d2 = c.add.new.self in
    let d3 = c.match_values.new.draft in
    let x = Extends_trans d d2 d3 (AddsTrees_extends d d2 (AddsTrees_trans d d1 d2 c.in_ok-opened.ensures.grows c.in_ok-rest-in-Some.ensures.grows)) c.in_ok-values-in-Some.ensures.grows in
    let d4 = c.alike_rest.new.draft in
    let d5 = c.alike_branches.new.draft in
    let y = Extends_trans d d4 d5 (Extends_trans d d3 d4 x c.in_ok-one-in-Some.ensures.grows) c.in_ok-two-in-Some.ensures.grows in
    Extends_trans d d5 _ y c.chain.ensures.grows

pub returns-in_ok-joined-in-Some-clause-grows : goal.returns-in_ok-joined-in-Some-clause-grows
returns-in_ok-joined-in-Some-clause-grows t c =
    let d = c.args.draft.now in
    let d1 = c.open_branch.new.draft in
    let d2 = c.add.new.self in
    let d3 = c.match_values.new.draft in
    let x = Extends_trans d d2 d3 (AddsTrees_extends d d2 (AddsTrees_trans d d1 d2 c.in_ok-opened.ensures.grows c.in_ok-rest-in-Some.ensures.grows)) c.in_ok-values-in-Some.ensures.grows in
    let d4 = c.alike_rest.new.draft in
    let d5 = c.alike_branches.new.draft in
    let y = Extends_trans d d4 d5 (Extends_trans d d3 d4 x c.in_ok-one-in-Some.ensures.grows) c.in_ok-two-in-Some.ensures.grows in
    Extends_trans d d5 _ y c.in_ok-joined-in-Some.ensures.grows
