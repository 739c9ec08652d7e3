use Rattle.std.proofs.Common.{◌≡◌, Some, None, refl, sym, ap, ◌∙◌}
use Rattle.std.specs.Option.{option_map}
use Rattle.trees.specs.Node.{tree_at}
use Rattle.tasks.specs.MatchTests.{constructor_projections, other_terms, tests}
use Rattle.rules.specs.Meaning.{task_of}
use Rattle.rules.specs.term_rules.Asked.{list_at}
use Rattle.rules.specs.term_rules.Asked as asked
use Rattle.rules.specs.term_rules.Conjuncts.{conjunction_before}
use Rattle.rules.proofs.term_rules.TestLemmas.{un_some, is_list, from_list, inner, is_here, from_here}
use Rattle.rules.proofs.term_rules.pattern_tests.+after_tests.Goals as goal
use Rattle.tasks.proofs.plain_laws.Options.{if_some}

pub returns-in-Some-after_equation-clause-is : goal.returns-in-Some-after_equation-clause-is
returns-in-Some-after_equation-clause-is t c =
    let x = c.args.x.now in
    let s = x.store.now in
    let g = task_of x in
    let q = c.in-PatCon in
    let a = asked.asked_at g s c.first_asked-asked-in-Some-made.result in
    let made = ap (option_map (tree_at s)) c.in-Some-made.is in
    if_some _ _ _
    (λ r h. is_here g q.constructor (tree_at s q.types) (tree_at s q.parts) (tree_at s q.field-3) (tree_at s c.args.pattern) a (list_at g s c.args.list) c.projections.result.now
    q.ensures.tree c.first_asked-asked-in-Some-made.ensures.tree c.projections.ensures _ _ (option_map (tree_at s) r) (made ∙ c.in-Some-after_equation.ensures.is) h)
    c.after_tests-in-Some-after_equation.ensures.is

pub returns-in-Some-after_equation-clause-can : goal.returns-in-Some-after_equation-clause-can
returns-in-Some-after_equation-clause-can t c following h =
    let x = c.args.x.now in
    let s = x.store.now in
    let g = task_of x in
    let q = c.in-PatCon in
    let a = asked.asked_at g s c.first_asked-asked-in-Some-made.result in
    let made = ap (option_map (tree_at s)) c.in-Some-made.is in
    let rest = inner g q.constructor (tree_at s q.types) (tree_at s q.parts) (tree_at s q.field-3) (tree_at s c.args.pattern) a (list_at g s c.args.list) c.projections.result.now
    q.ensures.tree c.first_asked-asked-in-Some-made.ensures.tree c.projections.ensures following in
    let there = from_here g q.constructor (tree_at s q.types) (tree_at s q.parts) (tree_at s q.field-3) (tree_at s c.args.pattern) a (list_at g s c.args.list) c.projections.result.now
    q.ensures.tree c.first_asked-asked-in-Some-made.ensures.tree c.projections.ensures _ following h in
    let found : Some (option_map (tree_at s) c.in-Some-after_equation.inner) ≡ Some rest = c.in-Some-after_equation.ensures.can rest (sym made ∙ there) in
    c.after_tests-in-Some-after_equation.ensures.can following (un_some _ _ found)

pub returns-in-None-after_equation-clause-can : goal.returns-in-None-after_equation-clause-can
returns-in-None-after_equation-clause-can t c following h =
    let x = c.args.x.now in
    let s = x.store.now in
    let g = task_of x in
    let q = c.in-PatCon in
    let a = asked.asked_at g s c.first_asked-asked-in-Some-made.result in
    let made = ap (option_map (tree_at s)) c.in-Some-made.is in
    let rest = inner g q.constructor (tree_at s q.types) (tree_at s q.parts) (tree_at s q.field-3) (tree_at s c.args.pattern) a (list_at g s c.args.list) (constructor_projections g q.constructor)
    q.ensures.tree c.first_asked-asked-in-Some-made.ensures.tree refl following in
    let there = from_here g q.constructor (tree_at s q.types) (tree_at s q.parts) (tree_at s q.field-3) (tree_at s c.args.pattern) a (list_at g s c.args.list) (constructor_projections g q.constructor)
    q.ensures.tree c.first_asked-asked-in-Some-made.ensures.tree refl _ following h in
    let found : None ≡ Some rest = c.in-None-after_equation.ensures.can rest (sym made ∙ there) in
    absurd (cc found)

pub returns-in-Some-clause-is : goal.returns-in-Some-clause-is
returns-in-Some-clause-is t c =
    let x = c.args.x.now in
    let s = x.store.now in
    let g = task_of x in
    let q = c.in-Cell in
    if_some _ _ _
    (λ r h. is_list g (tree_at s c.args.pattern) (tree_at s q.first) (tree_at s q.more) (asked.asked_at g s c.first_asked-asked.result) (list_at g s c.args.list) (list_at g s c.other_asked.result)
    q.ensures.tree c.first_asked-asked.ensures.tree c.other_asked.ensures.trees _ (option_map (tree_at s) c.in-Some.rest) (option_map (tree_at s) r) c.in-Some.ensures.is h)
    c.after_tests-in-Some.ensures.is

pub returns-in-Some-clause-can : goal.returns-in-Some-clause-can
returns-in-Some-clause-can t c left h =
    let x = c.args.x.now in
    let s = x.store.now in
    let g = task_of x in
    let q = c.in-Cell in
    let there = from_list g (tree_at s c.args.pattern) (tree_at s q.first) (tree_at s q.more) (asked.asked_at g s c.first_asked-asked.result) (list_at g s c.args.list) (list_at g s c.other_asked.result)
    q.ensures.tree c.first_asked-asked.ensures.tree c.other_asked.ensures.trees _ left h in
    let rest = conjunction_before (tests g (tree_at s q.more) (list_at g s c.other_asked.result)) left in
    let found : Some (option_map (tree_at s) c.in-Some.rest) ≡ Some rest = c.in-Some.ensures.can rest there in
    c.after_tests-in-Some.ensures.can left (un_some _ _ found)

pub returns-in-None-clause-can : goal.returns-in-None-clause-can
returns-in-None-clause-can t c left h =
    let x = c.args.x.now in
    let s = x.store.now in
    let g = task_of x in
    let q = c.in-Cell in
    let others = other_terms (list_at g s c.args.list) in
    let there = from_list g (tree_at s c.args.pattern) (tree_at s q.first) (tree_at s q.more) (asked.asked_at g s c.first_asked-asked.result) (list_at g s c.args.list) others
    q.ensures.tree c.first_asked-asked.ensures.tree refl _ left h in
    let rest = conjunction_before (tests g (tree_at s q.more) others) left in
    let found : None ≡ Some rest = c.in-None.ensures.can rest there in
    absurd (cc found)
