use Rattle.std.proofs.lemmas.Result.{IfOk-weaker}
use Rattle.evidence.specs.Laws.{AddsTrees_extends}
use Rattle.tr_if.proofs.PlacedTerms.{value_lines_follow, value_moved}
use Rattle.tr_if.proofs.values.value_in_place.Goals as goal

pub derive-requires-clause-follow : goal.derive-requires-clause-follow
derive-requires-clause-follow c =
    let d = c.args.draft.now in
    let d1 = c.equation_of.new.draft in
    let d2 = c.denial_of.new.draft in
    let d3 = c.add.new.self in
    let l = c.in_ok-link in
    let g = c.in_ok-goal in
    let t = c.in_ok-template in
    let r = c.requires in
    value_lines_follow d d1 d2 d3 (AddsTrees_extends d d1 l.ensures.grows) (AddsTrees_extends d1 d2 g.ensures.grows) (AddsTrees_extends d2 d3 t.ensures.grows) c.args.hypothesis c.args.k c.args.value r.hypothesis r.placed r.value l.link g.goal t.template l.ensures.formula.held l.ensures.tree
    g.ensures.formula.held g.ensures.tree t.ensures.tree

pub returns-clause-refutes : goal.returns-clause-refutes
returns-clause-refutes c =
    let d = c.args.draft.now in
    let d1 = c.equation_of.new.draft in
    let d2 = c.denial_of.new.draft in
    let d3 = c.add.new.self in
    let l = c.in_ok-link in
    let g = c.in_ok-goal in
    let t = c.in_ok-template in
    let r = c.requires in
    IfOk-weaker c.derive.result _ _
    (value_moved d d1 d2 d3 (AddsTrees_extends d d1 l.ensures.grows) (AddsTrees_extends d1 d2 g.ensures.grows) (AddsTrees_extends d2 d3 t.ensures.grows) c.args.hypothesis c.args.k c.args.value r.hypothesis r.placed r.value l.link g.goal t.template l.ensures.formula.held l.ensures.tree
    g.ensures.formula.held g.ensures.tree t.ensures.tree c.derive.new.draft)
    c.derive.ensures.refutes
