use Rattle.trees.specs.Node.{Grows}
use Rattle.trees.proofs.Nodes.{Grows_trans}
use Rattle.tr_if.specs.conditionals.Held.{IsFormulaNumber}
use Rattle.tr_if.proofs.conditionals.ByFirst.{formula_later}
use Rattle.tr_if.proofs.conditionals.Implied.{formula_made, joined_made, implied_made}
use Rattle.tr_if.proofs.conditionals.atoms.implications.Goals as goal

pub add-requires-clause-held : goal.add-requires-clause-held
add-requires-clause-held g c = c.requires.condition.held

pub add-requires-clause-fits : goal.add-requires-clause-fits
add-requires-clause-fits g c = c.requires.condition.sort

pub add-requires-2-clause-held : goal.add-requires-2-clause-held
add-requires-2-clause-held g c =
    let s = g.G.Grow.trees c.args.g.now in
    let s1 = g.G.Grow.trees c.add.new.self in
    let w1 : Grows s s1 = g.met.G.Grow.keeps_trees _ _ c.in_ok-negated.ensures.grows in
    ((formula_later s s1 w1 c.args.condition c.requires.condition).held, (formula_later s s1 w1 c.args.a c.requires.a).held)

pub add-requires-2-clause-fits : goal.add-requires-2-clause-fits
add-requires-2-clause-fits g c =
    let s = g.G.Grow.trees c.args.g.now in
    let s1 = g.G.Grow.trees c.add.new.self in
    let w1 : Grows s s1 = g.met.G.Grow.keeps_trees _ _ c.in_ok-negated.ensures.grows in
    (((formula_later s s1 w1 c.args.condition c.requires.condition).sort, (formula_later s s1 w1 c.args.a c.requires.a).sort), tt)

pub add-requires-3-clause-held : goal.add-requires-3-clause-held
add-requires-3-clause-held g c =
    let s = g.G.Grow.trees c.args.g.now in
    let s1 = g.G.Grow.trees c.add.new.self in
    let s2 = g.G.Grow.trees c.add-2.new.self in
    let w1 : Grows s s1 = g.met.G.Grow.keeps_trees _ _ c.in_ok-negated.ensures.grows in
    let w2 : Grows s1 s2 = g.met.G.Grow.keeps_trees _ _ c.in_ok-then_claim.ensures.grows in
    let n = c.in_ok-negated in
    let m : IsFormulaNumber s1 n.negated = formula_made s1 n.negated _ n.ensures.held n.ensures.tree in
    ((formula_later s1 s2 w2 n.negated m).held, (formula_later s s2 (Grows_trans s s1 s2 w1 w2) c.args.b c.requires.b).held)

pub add-requires-3-clause-fits : goal.add-requires-3-clause-fits
add-requires-3-clause-fits g c =
    let s = g.G.Grow.trees c.args.g.now in
    let s1 = g.G.Grow.trees c.add.new.self in
    let s2 = g.G.Grow.trees c.add-2.new.self in
    let w1 : Grows s s1 = g.met.G.Grow.keeps_trees _ _ c.in_ok-negated.ensures.grows in
    let w2 : Grows s1 s2 = g.met.G.Grow.keeps_trees _ _ c.in_ok-then_claim.ensures.grows in
    let n = c.in_ok-negated in
    let m : IsFormulaNumber s1 n.negated = formula_made s1 n.negated _ n.ensures.held n.ensures.tree in
    (((formula_later s1 s2 w2 n.negated m).sort, (formula_later s s2 (Grows_trans s s1 s2 w1 w2) c.args.b c.requires.b).sort), tt)

pub add-requires-4-clause-held : goal.add-requires-4-clause-held
add-requires-4-clause-held g c =
    let s2 = g.G.Grow.trees c.add-2.new.self in
    let s3 = g.G.Grow.trees c.add-3.new.self in
    let w3 : Grows s2 s3 = g.met.G.Grow.keeps_trees _ _ c.in_ok-else_claim.ensures.grows in
    let t = c.in_ok-then_claim in
    ((formula_later s2 s3 w3 t.then_claim (joined_made s2 t.then_claim _ _ _ t.ensures.held t.ensures.tree)).held, c.in_ok-else_claim.ensures.held)

pub add-requires-4-clause-fits : goal.add-requires-4-clause-fits
add-requires-4-clause-fits g c =
    let s2 = g.G.Grow.trees c.add-2.new.self in
    let s3 = g.G.Grow.trees c.add-3.new.self in
    let w3 : Grows s2 s3 = g.met.G.Grow.keeps_trees _ _ c.in_ok-else_claim.ensures.grows in
    let t = c.in_ok-then_claim in
    let e = c.in_ok-else_claim in
    (((formula_later s2 s3 w3 t.then_claim (joined_made s2 t.then_claim _ _ _ t.ensures.held t.ensures.tree)).sort, (joined_made s3 e.else_claim _ _ _ e.ensures.held e.ensures.tree).sort), tt)

pub returns-clause-formula : goal.returns-clause-formula
returns-clause-formula g c = let m = c.in_ok-made in joined_made (g.G.Grow.trees c.add-4.new.self) m.made _ _ _ m.ensures.held m.ensures.tree

pub returns-clause-tree : goal.returns-clause-tree
returns-clause-tree g c =
    let s = g.G.Grow.trees c.args.g.now in
    let s1 = g.G.Grow.trees c.add.new.self in
    let s2 = g.G.Grow.trees c.add-2.new.self in
    let s3 = g.G.Grow.trees c.add-3.new.self in
    let s4 = g.G.Grow.trees c.add-4.new.self in
    let w1 : Grows s s1 = g.met.G.Grow.keeps_trees _ _ c.in_ok-negated.ensures.grows in
    let w2 : Grows s1 s2 = g.met.G.Grow.keeps_trees _ _ c.in_ok-then_claim.ensures.grows in
    let w3 : Grows s2 s3 = g.met.G.Grow.keeps_trees _ _ c.in_ok-else_claim.ensures.grows in
    let r = c.requires in
    let n = c.in_ok-negated in
    let t = c.in_ok-then_claim in
    let e = c.in_ok-else_claim in
    let m = c.in_ok-made in
    implied_made s s1 s2 s3 s4 w1 w2 w3 c.args.condition c.args.a c.args.b n.negated t.then_claim e.else_claim m.made r.condition r.a r.b n.ensures.held n.ensures.tree t.ensures.held t.ensures.tree e.ensures.tree m.ensures.tree

pub returns-in_err-then_claim-clause-grows : goal.returns-in_err-then_claim-clause-grows
returns-in_err-then_claim-clause-grows g c = g.met.G.Grow.grows_trans _ _ _ c.in_ok-negated.ensures.grows c.in_err-then_claim.ensures.grows

pub returns-in_err-else_claim-clause-grows : goal.returns-in_err-else_claim-clause-grows
returns-in_err-else_claim-clause-grows g c = g.met.G.Grow.grows_trans _ _ _ (g.met.G.Grow.grows_trans _ _ _ c.in_ok-negated.ensures.grows c.in_ok-then_claim.ensures.grows) c.in_err-else_claim.ensures.grows

pub returns-in_err-made-clause-grows : goal.returns-in_err-made-clause-grows
returns-in_err-made-clause-grows g c =
    g.met.G.Grow.grows_trans _ _ _ (g.met.G.Grow.grows_trans _ _ _ (g.met.G.Grow.grows_trans _ _ _ c.in_ok-negated.ensures.grows c.in_ok-then_claim.ensures.grows) c.in_ok-else_claim.ensures.grows) c.in_err-made.ensures.grows

pub returns-clause-grows : goal.returns-clause-grows
returns-clause-grows g c =
    g.met.G.Grow.grows_trans _ _ _ (g.met.G.Grow.grows_trans _ _ _ (g.met.G.Grow.grows_trans _ _ _ c.in_ok-negated.ensures.grows c.in_ok-then_claim.ensures.grows) c.in_ok-else_claim.ensures.grows) c.in_ok-made.ensures.grows
