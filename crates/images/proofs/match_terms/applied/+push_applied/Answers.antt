use Rattle.std.proofs.Common.{◌++◌, subst, sym, ap, ◌∙◌, arith}
use Rattle.std.proofs.lemmas.List.{append-nil, nil_from_length}
use Rattle.std.proofs.lemmas.Result.{on_ok_weaker}
use Rattle.trees.specs.declared.Sort.TheVariants.{Term}
use Rattle.trees.specs.Node.{trees_at, Grows}
use Rattle.trees.specs.Sorts.{IsList}
use Rattle.trees.specs.binders.Visits.{HoldTerms, held_stays}
use Rattle.tasks.proofs.Lists.{split_all}
use Rattle.images.specs.PatternTerms.{HasClosedResult}
use Rattle.tasks.proofs.outside.Passed.{no_ok}
use Rattle.images.specs.match_terms.Asking.{task_under}
use Rattle.images.proofs.match_terms.Growing.{at_later, results_later, held_after, applied_at, applied_step}
use Rattle.images.proofs.match_terms.applied.+push_applied.Goals as goal

pub push_applied-requires : goal.push_applied-requires
push_applied-requires g t c κs within =
    let s = g.G.Grow.trees c.args.g.now in
    let s1 = g.G.Grow.trees c.apply.new.g in
    let m = c.in_ok-made-in-Some.ensures in
    let k : Grows s s1 = g.met.G.Grow.keeps_trees _ _ m.grows in
    let r = c.requires in
    let cases = c.in-Some.ensures.cases in
    let more = (split_all (HasClosedResult (task_under s c.args.at.look)) c.args.projections.now c.in-Some.first.now c.in-Some.rest.now cases.0 r.results).1 in
    let out : HoldTerms s1 c.push.new.self.items = subst (HoldTerms s1) (sym c.in_ok-push-in-Some.ensures.items) (held_after Term s1 c.args.out.now.items c.in_ok-made-in-Some.made (held_stays Term s s1 c.args.out.now.items k r.out_held) m.term.0 m.term.1) in (
      omega (arith, cases.1),
      (within, (at_later s s1 k c.args.at r.at, (results_later s s1 k c.args.at.look c.in-Some.rest.now r.at.look more, (omega (arith, r.args_held, k.longer), (subst (IsList Term) (sym (k.same c.args.args.0 r.args_held)) r.args, out))))),
    )

pub returns-in_ok-push-in-Some-clause-trees : goal.returns-in_ok-push-in-Some-clause-trees
returns-in_ok-push-in-Some-clause-trees g t c =
    let s = g.G.Grow.trees c.args.g.now in
    let s1 = g.G.Grow.trees c.apply.new.g in
    let s2 = g.G.Grow.trees c.push_applied.new.g in
    let m = c.in_ok-made-in-Some.ensures in
    let k : Grows s s1 = g.met.G.Grow.keeps_trees _ _ m.grows in
    let r = c.requires in
    on_ok_weaker c.push_applied.result (λ h.
    applied_step s s1 s2 k c.args.at c.args.args c.in-Some.first.now c.in-Some.rest.now c.args.out.now.items c.push.new.self.items c.push_applied.new.out.items c.in_ok-made-in-Some.made r.at r.args_held r.out_held m.tree c.in_ok-push-in-Some.ensures.items h
    ∙ ap (λ js. trees_at s c.args.out.now.items ++ applied_at s c.args.at c.args.args js) (sym c.in-Some.ensures.cases.0)) c.push_applied.ensures.trees

pub returns-in_ok-push-in-Some-clause-grows : goal.returns-in_ok-push-in-Some-clause-grows
returns-in_ok-push-in-Some-clause-grows g t c = g.met.G.Grow.grows_trans _ _ _ c.in_ok-made-in-Some.ensures.grows c.push_applied.ensures.grows

pub apply-requires-clause-at : goal.apply-requires-clause-at
apply-requires-clause-at g t c = c.requires.at

pub apply-requires-clause-result : goal.apply-requires-clause-result
apply-requires-clause-result g t c =
    let s = g.G.Grow.trees c.args.g.now in
    (split_all (HasClosedResult (task_under s c.args.at.look)) c.args.projections.now c.in-Some.first.now c.in-Some.rest.now c.in-Some.ensures.cases.0 c.requires.results).0

pub apply-requires-clause-args_held : goal.apply-requires-clause-args_held
apply-requires-clause-args_held g t c = c.requires.args_held

pub apply-requires-clause-args : goal.apply-requires-clause-args
apply-requires-clause-args g t c = c.requires.args

pub returns-in_err-made-in-Some-clause-held : goal.returns-in_err-made-in-Some-clause-held
returns-in_err-made-in-Some-clause-held g t c = no_ok _ _ c.from_residual.result c.from_residual.ensures.1

pub returns-in_err-made-in-Some-clause-trees : goal.returns-in_err-made-in-Some-clause-trees
returns-in_err-made-in-Some-clause-trees g t c = no_ok _ _ c.from_residual.result c.from_residual.ensures.1

pub returns-in_err-made-in-Some-clause-grows : goal.returns-in_err-made-in-Some-clause-grows
returns-in_err-made-in-Some-clause-grows g t c = c.in_err-made-in-Some.ensures.grows

pub returns-in_err-push-in-Some-clause-held : goal.returns-in_err-push-in-Some-clause-held
returns-in_err-push-in-Some-clause-held g t c = no_ok _ _ c.from_residual-in_err-push-in-Some.result c.from_residual-in_err-push-in-Some.ensures.1

pub returns-in_err-push-in-Some-clause-trees : goal.returns-in_err-push-in-Some-clause-trees
returns-in_err-push-in-Some-clause-trees g t c = no_ok _ _ c.from_residual-in_err-push-in-Some.result c.from_residual-in_err-push-in-Some.ensures.1

pub returns-in_err-push-in-Some-clause-grows : goal.returns-in_err-push-in-Some-clause-grows
returns-in_err-push-in-Some-clause-grows g t c = c.in_ok-made-in-Some.ensures.grows

pub returns-in_ok-push-in-Some-clause-held : goal.returns-in_ok-push-in-Some-clause-held
returns-in_ok-push-in-Some-clause-held g t c = c.push_applied.ensures.held

pub returns-in-None-clause-held : goal.returns-in-None-clause-held
returns-in-None-clause-held g t c = c.requires.out_held

pub returns-in-None-clause-trees : goal.returns-in-None-clause-trees
returns-in-None-clause-trees g t c =
    let s = g.G.Grow.trees c.args.g.now in
    sym (append-nil (trees_at s c.args.out.now.items)) ∙ ap (λ js. trees_at s c.args.out.now.items ++ applied_at s c.args.at c.args.args js) (sym (nil_from_length c.args.projections.now c.in-None.ensures.cases))

pub returns-in-None-clause-grows : goal.returns-in-None-clause-grows
returns-in-None-clause-grows g t c = g.met.G.Grow.grows_refl _
