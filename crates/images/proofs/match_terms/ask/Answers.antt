use Rattle.std.proofs.Common.{[], ◌∷◌, ◌++◌, inl, subst, sym, ap, ◌∙◌}
use Rattle.trees.specs.declared.Sort.TheVariants.{Term, Formula}
use Rattle.trees.specs.Node.{tree_at, trees_at, Grows}
use Rattle.trees.specs.binders.Visits.{AreHeldOfSort, HoldTerms, held_stays, trees_stay}
use Rattle.tasks.specs.Conjunctions.{conjunction}
use Rattle.tasks.specs.MatchTests.{tests, bind}
use Rattle.tasks.proofs.outside.Passed.{no_value}
use Rattle.images.specs.match_terms.Asking.{task_under}
use Rattle.images.proofs.match_terms.Growing.{count_one}
use Rattle.images.proofs.match_terms.ask.Goals as goal

pub returns-clause-held : goal.returns-clause-held
returns-clause-held g c =
    let s1 = g.G.Grow.trees c.ask_all.new.g in
    let s2 = g.G.Grow.trees c.conjunction.new.g in
    let k : Grows s1 s2 = g.met.G.Grow.keeps_trees _ _ c.in_ok-test.ensures.grows in
    let r = c.in_ok-ask_all.ensures.held in
    record { tests = held_stays Formula s1 s2 c.ask_all.new.made.items k r.tests; test = c.in_ok-test.ensures.held; terms = held_stays Term s1 s2 c.ask_all.new.bound.items k r.terms }

pub returns-clause-tests : goal.returns-clause-tests
returns-clause-tests g c =
    let s = g.G.Grow.trees c.args.g.now in
    let s1 = g.G.Grow.trees c.ask_all.new.g in
    let s2 = g.G.Grow.trees c.conjunction.new.g in
    let k : Grows s1 s2 = g.met.G.Grow.keeps_trees _ _ c.in_ok-test.ensures.grows in
    let r = c.in_ok-ask_all.ensures in
    trees_stay Formula s1 s2 c.ask_all.new.made.items k r.held.tests ∙ r.tests ∙ ap (λ ids. trees_at s ids ++ tests (task_under s c.args.look) (tree_at s c.args.pattern) (tree_at s c.args.term ∷ [])) c.new-tests.ensures.items

pub returns-clause-terms : goal.returns-clause-terms
returns-clause-terms g c =
    let s = g.G.Grow.trees c.args.g.now in
    let s1 = g.G.Grow.trees c.ask_all.new.g in
    let s2 = g.G.Grow.trees c.conjunction.new.g in
    let k : Grows s1 s2 = g.met.G.Grow.keeps_trees _ _ c.in_ok-test.ensures.grows in
    let r = c.in_ok-ask_all.ensures in
    trees_stay Term s1 s2 c.ask_all.new.bound.items k r.held.terms ∙ r.terms ∙ ap (λ ids. trees_at s ids ++ bind (task_under s c.args.look) (tree_at s c.args.pattern) (tree_at s c.args.term)) c.new-terms.ensures.items

pub ask_all-requires-clause-ready : goal.ask_all-requires-clause-ready
ask_all-requires-clause-ready g c =
    record { look_held = c.requires.look; valid = c.requires.valid; pattern_held = c.requires.pattern_held; sort = inl c.requires.pattern.1.sort; types = c.requires.pattern.0; typed = c.requires.pattern.1.typed; terms_held = ((c.requires.term_held, c.requires.term), tt); count = count_one (tree_at (g.G.Grow.trees c.args.g.now) c.args.pattern) c.requires.pattern.1.sort }

pub ask_all-requires-clause-held : goal.ask_all-requires-clause-held
ask_all-requires-clause-held g c =
    let s = g.G.Grow.trees c.args.g.now in
    record { tests = subst (AreHeldOfSort Formula s) (sym c.new-tests.ensures.items) tt; terms = subst (HoldTerms s) (sym c.new-terms.ensures.items) tt }

pub conjunction-requires : goal.conjunction-requires
conjunction-requires g c = subst (AreHeldOfSort Formula (g.G.Grow.trees c.ask_all.new.g)) (sym c.as_slice.ensures.value) c.in_ok-ask_all.ensures.held.tests

pub returns-clause-test : goal.returns-clause-test
returns-clause-test g c =
    let s = g.G.Grow.trees c.args.g.now in
    let s1 = g.G.Grow.trees c.ask_all.new.g in
    c.in_ok-test.ensures.tree ∙ ap (λ ids. conjunction (trees_at s1 ids)) c.as_slice.ensures.value
    ∙ ap conjunction (c.in_ok-ask_all.ensures.tests ∙ ap (λ ids. trees_at s ids ++ tests (task_under s c.args.look) (tree_at s c.args.pattern) (tree_at s c.args.term ∷ [])) c.new-tests.ensures.items)

pub returns-clause-grows : goal.returns-clause-grows
returns-clause-grows g c = g.met.G.Grow.grows_trans _ _ _ c.in_ok-ask_all.ensures.grows c.in_ok-test.ensures.grows

pub returns-in_err-ask_all-clause-held : goal.returns-in_err-ask_all-clause-held
returns-in_err-ask_all-clause-held g c = no_value _ _ c.from_residual.result c.from_residual.ensures.1

pub returns-in_err-ask_all-clause-tests : goal.returns-in_err-ask_all-clause-tests
returns-in_err-ask_all-clause-tests g c = no_value _ _ c.from_residual.result c.from_residual.ensures.1

pub returns-in_err-ask_all-clause-test : goal.returns-in_err-ask_all-clause-test
returns-in_err-ask_all-clause-test g c = no_value _ _ c.from_residual.result c.from_residual.ensures.1

pub returns-in_err-ask_all-clause-terms : goal.returns-in_err-ask_all-clause-terms
returns-in_err-ask_all-clause-terms g c = no_value _ _ c.from_residual.result c.from_residual.ensures.1

pub returns-in_err-ask_all-clause-grows : goal.returns-in_err-ask_all-clause-grows
returns-in_err-ask_all-clause-grows g c = c.in_err-ask_all.ensures.grows

pub returns-in_err-test-clause-held : goal.returns-in_err-test-clause-held
returns-in_err-test-clause-held g c = no_value _ _ c.from_residual-in_err-test.result c.from_residual-in_err-test.ensures.1

pub returns-in_err-test-clause-tests : goal.returns-in_err-test-clause-tests
returns-in_err-test-clause-tests g c = no_value _ _ c.from_residual-in_err-test.result c.from_residual-in_err-test.ensures.1

pub returns-in_err-test-clause-test : goal.returns-in_err-test-clause-test
returns-in_err-test-clause-test g c = no_value _ _ c.from_residual-in_err-test.result c.from_residual-in_err-test.ensures.1

pub returns-in_err-test-clause-terms : goal.returns-in_err-test-clause-terms
returns-in_err-test-clause-terms g c = no_value _ _ c.from_residual-in_err-test.result c.from_residual-in_err-test.ensures.1

pub returns-in_err-test-clause-grows : goal.returns-in_err-test-clause-grows
returns-in_err-test-clause-grows g c = g.met.G.Grow.grows_trans _ _ _ c.in_ok-ask_all.ensures.grows c.in_err-test.ensures.grows
