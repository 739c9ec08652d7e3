use Rattle.std.proofs.Common.{sym, ap, subst, ◌∙◌}
use Rattle.trees.specs.Tree.{Tree}
use Rattle.trees.specs.Node.{tree_at, trees_at, Grows}
use Rattle.trees.specs.Binding.{inst_many}
use Rattle.trees.specs.binders.Visits.{HoldTerms}
use Rattle.tr_match.proofs.match_forms.Opening.{held_after}
use Rattle.tr_match.proofs.match_forms.forms.open_branch.Goals as goal

pub ask-requires-clause-look : goal.ask-requires-clause-look
ask-requires-clause-look g c = c.requires.look_held

pub ask-requires-clause-valid : goal.ask-requires-clause-valid
ask-requires-clause-valid g c = c.requires.valid

pub ask-requires-clause-pattern_held : goal.ask-requires-clause-pattern_held
ask-requires-clause-pattern_held g c = c.requires.pattern_held

pub ask-requires-clause-pattern : goal.ask-requires-clause-pattern
ask-requires-clause-pattern g c = (c.requires.types, c.requires.pattern)

pub ask-requires-clause-term_held : goal.ask-requires-clause-term_held
ask-requires-clause-term_held g c = c.requires.scrutinee_held

pub ask-requires-clause-term : goal.ask-requires-clause-term
ask-requires-clause-term g c = c.requires.term

pub put_terms-requires-clause-body_held : goal.put_terms-requires-clause-body_held
put_terms-requires-clause-body_held g c =
    let s = g.G.Grow.trees c.args.g.now in
    let s1 = g.G.Grow.trees c.ask.new.g in
    let w : Grows s s1 = g.met.G.Grow.keeps_trees _ _ c.in_ok-asked.ensures.grows in
    held_after s s1 w c.args.look c.args.branch.body c.requires.body_held

pub put_terms-requires-clause-terms : goal.put_terms-requires-clause-terms
put_terms-requires-clause-terms g c = subst (HoldTerms (g.G.Grow.trees c.ask.new.g)) (sym c.deref.ensures.value) c.in_ok-asked.ensures.held.terms

pub returns-in_err-body-clause-grows : goal.returns-in_err-body-clause-grows
returns-in_err-body-clause-grows g c = g.met.G.Grow.grows_trans _ _ _ c.in_ok-asked.ensures.grows c.in_err-body.ensures.grows

pub returns-clause-grows : goal.returns-clause-grows
returns-clause-grows g c = g.met.G.Grow.grows_trans _ _ _ c.in_ok-asked.ensures.grows c.in_ok-body.ensures.grows

pub returns-clause-test_held : goal.returns-clause-test_held
returns-clause-test_held g c =
    let s1 = g.G.Grow.trees c.ask.new.g in
    let s2 = g.G.Grow.trees c.put_terms.new.g in
    let w : Grows s1 s2 = g.met.G.Grow.keeps_trees _ _ c.in_ok-body.ensures.grows in
    held_after s1 s2 w c.args.look c.in_ok-asked.asked.test c.in_ok-asked.ensures.held.test

pub returns-clause-test : goal.returns-clause-test
returns-clause-test g c =
    let s1 = g.G.Grow.trees c.ask.new.g in
    let s2 = g.G.Grow.trees c.put_terms.new.g in
    let w : Grows s1 s2 = g.met.G.Grow.keeps_trees _ _ c.in_ok-body.ensures.grows in
    w.same c.in_ok-asked.asked.test.0 c.in_ok-asked.ensures.held.test ∙ c.in_ok-asked.ensures.test

pub returns-clause-body_held : goal.returns-clause-body_held
returns-clause-body_held g c = c.in_ok-body.ensures.held

pub returns-clause-body : goal.returns-clause-body
returns-clause-body g c =
    let s = g.G.Grow.trees c.args.g.now in
    let s1 = g.G.Grow.trees c.ask.new.g in
    let w : Grows s s1 = g.met.G.Grow.keeps_trees _ _ c.in_ok-asked.ensures.grows in
    c.in_ok-body.ensures.tree ∙ ap (λ (z : Tree). inst_many z (trees_at s1 c.deref.result.now)) (w.same c.args.branch.body.0 c.requires.body_held)
    ∙ ap (inst_many (tree_at s c.args.branch.body)) (ap (trees_at s1) c.deref.ensures.value ∙ c.in_ok-asked.ensures.terms)
