use Rattle.std.proofs.Common.{ap, ◌∙◌}
use Rattle.std.proofs.lemmas.Result.{IfOk-weaker}
use Rattle.trees.specs.Tree.{HEq}
use Rattle.trees.specs.Sorts.{sort_of}
use Rattle.evidence.specs.Laws.{Extends_trans, AddsTrees_extends}
use Rattle.evidence.proofs.Formulas.{formula_later}
use Rattle.congruence.proofs.Later.{held_later, tree_later, closed_later, pair_later, node_later, shows_at, shows_before}
use Rattle.congruence.proofs.CaseParts.{formula_pair}
use Rattle.congruence.proofs.Scripts.{equal_at}
use Rattle.congruence.proofs.equations.alike_equal.Goals as goal

pub equal_first-requires : goal.equal_first-requires
equal_first-requires c =
    let d = c.args.draft.now in
    let d1 = c.middle_equation.new.draft in
    let n = c.in_ok-middle in
    let x = AddsTrees_extends d d1 n.ensures.grows in
    let r = c.requires in
    let k = c.args in
    let p = r.first_pair in
    let q = r.second_pair in
    let l = formula_later d d1 x k.left r.left in
    record {
      left = l;
      sides = formula_pair d1 k.left n.middle l n.ensures.formula;
      pair = pair_later d d1 x k.a k.b p;
      term = ap sort_of (tree_later d d1 x k.a p.left.held) ∙ r.first_term;
      c = closed_later d d1 x k.c q.left;
      left_is = node_later d d1 x HEq k.left k.a k.c r.left.held p.left.held q.left.held r.left_is;
      middle_is = n.ensures.tree ∙ equal_at d d1 x k.b k.c p.right.held q.left.held;
      shows = shows_at d d1 x k.first k.a k.b p.left.held p.right.held r.first;
    }

pub equal_second-requires : goal.equal_second-requires
equal_second-requires c =
    let d = c.args.draft.now in
    let d1 = c.middle_equation.new.draft in
    let d2 = c.equal_first.new.draft in
    let n = c.in_ok-middle in
    let x1 = AddsTrees_extends d d1 n.ensures.grows in
    let y = c.in_ok-one.ensures.grows in
    let x = Extends_trans d d1 d2 x1 y in
    let r = c.requires in
    let k = c.args in
    let p = r.first_pair in
    let q = r.second_pair in
    let m = formula_later d1 d2 y n.middle n.ensures.formula in
    record {
      middle = m;
      sides = formula_pair d2 n.middle k.right m (formula_later d d2 x k.right r.right);
      pair = pair_later d d2 x k.c k.e q;
      term = ap sort_of (tree_later d d2 x k.c q.left.held) ∙ r.second_term;
      b = closed_later d d2 x k.b p.right;
      middle_is = tree_later d1 d2 y n.middle n.ensures.formula.held ∙ n.ensures.tree ∙ equal_at d d2 x k.b k.c p.right.held q.left.held;
      right_is = node_later d d2 x HEq k.right k.b k.e r.right.held p.right.held q.right.held r.right_is;
      shows = shows_at d d2 x k.second k.c k.e q.left.held q.right.held r.second;
    }

pub chain-requires : goal.chain-requires
chain-requires c =
    let d = c.args.draft.now in
    let d1 = c.middle_equation.new.draft in
    let d2 = c.equal_first.new.draft in
    let d3 = c.equal_second.new.draft in
    let n = c.in_ok-middle in
    let x1 = AddsTrees_extends d d1 n.ensures.grows in
    let y = c.in_ok-one.ensures.grows in
    let z = c.in_ok-two.ensures.grows in
    let x2 = Extends_trans d d1 d2 x1 y in
    let x = Extends_trans d d2 d3 x2 z in
    let k = c.args in
    let r = c.requires in
    let l = formula_later d d3 x k.left r.left in
    let m = formula_later d1 d3 (Extends_trans d1 d2 d3 y z) n.middle n.ensures.formula in
    record {
      left = formula_pair d3 k.left n.middle l m;
      right = formula_pair d3 n.middle k.right m (formula_later d d3 x k.right r.right);
      first = shows_at d2 d3 z c.in_ok-one.one k.left n.middle (held_later d d2 x2 k.left r.left.held) (held_later d1 d2 y n.middle n.ensures.formula.held) c.in_ok-one.ensures.shows;
      second = c.in_ok-two.ensures.shows;
    }

pub returns-in_err-one-clause-grows : goal.returns-in_err-one-clause-grows
returns-in_err-one-clause-grows c = Extends_trans _ _ _ (AddsTrees_extends _ _ c.in_ok-middle.ensures.grows) c.in_err-one.ensures.grows

pub returns-in_err-two-clause-grows : goal.returns-in_err-two-clause-grows
returns-in_err-two-clause-grows c = Extends_trans _ _ _ (Extends_trans _ _ _ (AddsTrees_extends _ _ c.in_ok-middle.ensures.grows) c.in_ok-one.ensures.grows) c.in_err-two.ensures.grows

pub returns : goal.returns
returns c =
    let d = c.args.draft.now in
    let d1 = c.middle_equation.new.draft in
    let d2 = c.equal_first.new.draft in
    let d3 = c.equal_second.new.draft in
    let x = Extends_trans d d2 d3 (Extends_trans d d1 d2 (AddsTrees_extends d d1 c.in_ok-middle.ensures.grows) c.in_ok-one.ensures.grows) c.in_ok-two.ensures.grows in
    let r = c.requires in
    record {
      shows = IfOk-weaker c.chain.result _ _ (λ w h. shows_before d d3 x c.chain.new.draft w c.args.left c.args.right r.left.held r.right.held h) c.chain.ensures.shows;
      grows = Extends_trans d d3 c.chain.new.draft x c.chain.ensures.grows;
    }
