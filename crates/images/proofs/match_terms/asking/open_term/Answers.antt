use Rattle.std.proofs.Common.{◌≡◌, List, ◌∷◌, All, refl, subst, sym, ap, ◌∙◌, arith}
use Rattle.trees.specs.declared.Sort.TheVariants.{Kind}
use Rattle.trees.specs.Node.{tree_at, Holds, Grows}
use Rattle.trees.specs.Tree.{Tree}
use Rattle.trees.specs.Sorts.{sort_of, IsList}
use Rattle.trees.specs.binders.Visits.{HoldTypes}
use Rattle.tasks.specs.Looking.{LookupHeld}
use Rattle.tasks.specs.MatchTests.{constructor_projections, fields}
use Rattle.tasks.proofs.Lists.{split_all}
use Rattle.images.specs.PatternTerms.{HasClosedResult}
use Rattle.tasks.proofs.outside.Passed.{no_value}
use Rattle.images.specs.declared.match_terms.applied.At.{At}
use Rattle.images.specs.match_terms.Asking.{task_under}
use Rattle.images.proofs.match_terms.Growing.{at_later, results_later, fields_stay, equation_is, members_held}
use Rattle.images.proofs.match_terms.asking.open_term.Goals as goal

pub fields-requires-clause-at : goal.fields-requires-clause-at
fields-requires-clause-at g c =
    let s = g.G.Grow.trees c.args.g.now in
    let s2 = g.G.Grow.trees c.add.new.self in
    let k : Grows s s2 = g.met.G.Grow.keeps_trees _ _ (g.met.G.Grow.grows_trans _ _ _ c.in_ok-made.ensures.grows c.in_ok-equation.ensures.grows) in
    let m = members_held s c.store-2.result.now c.args.types c.new-members.result.items c.push_members.new.out.items c.as_slice.result.now c.store-2.ensures c.new-members.ensures.items c.as_slice.ensures.value c.in_ok-push_members.ensures.held c.in_ok-push_members.ensures.trees in
    let x : At = record { look = c.args.look; types = c.args.types; members = c.as_slice.result } in
    at_later s s2 k x (record { look = c.requires.look; types = c.requires.types_held; kinds = c.requires.types; each = m.0; are = m.1 })

pub fields-requires-clause-results : goal.fields-requires-clause-results
fields-requires-clause-results g c =
    let s = g.G.Grow.trees c.args.g.now in
    let s2 = g.G.Grow.trees c.add.new.self in
    let k : Grows s s2 = g.met.G.Grow.keeps_trees _ _ (g.met.G.Grow.grows_trans _ _ _ c.in_ok-made.ensures.grows c.in_ok-equation.ensures.grows) in
    let js : c.projections-own.result.now ≡ constructor_projections (task_under s c.args.look) c.args.constructor = c.projections-own.ensures ∙ ap (λ z. constructor_projections (task_under z c.args.look) c.args.constructor) c.store.ensures in
    let all = (split_all (HasClosedResult (task_under s c.args.look)) _ c.args.constructor (constructor_projections (task_under s c.args.look) c.args.constructor) refl c.requires.results).1 in
    results_later s s2 k c.args.look c.projections-own.result.now c.requires.look (subst (All (HasClosedResult (task_under s c.args.look))) (sym js) all)

pub fields-requires-clause-term : goal.fields-requires-clause-term
fields-requires-clause-term g c =
    let s = g.G.Grow.trees c.args.g.now in
    let s2 = g.G.Grow.trees c.add.new.self in
    let k : Grows s s2 = g.met.G.Grow.keeps_trees _ _ (g.met.G.Grow.grows_trans _ _ _ c.in_ok-made.ensures.grows c.in_ok-equation.ensures.grows) in
    (omega (arith, c.requires.term.0, k.longer), ap sort_of (k.same c.args.term.0 c.requires.term.0) ∙ c.requires.term.1)

pub returns-clause-equation_held : goal.returns-clause-equation_held
returns-clause-equation_held g c =
    let s2 = g.G.Grow.trees c.add.new.self in
    let s3 = g.G.Grow.trees c.fields.new.g in
    let k : Grows s2 s3 = g.met.G.Grow.keeps_trees _ _ c.in_ok-fields.ensures.grows in
    let e = c.in_ok-equation.ensures in
    ((omega (arith, e.held, k.longer), ap sort_of (k.same c.in_ok-equation.equation.0 e.held ∙ e.tree)), tt)

pub returns-clause-equation : goal.returns-clause-equation
returns-clause-equation g c =
    let s = g.G.Grow.trees c.args.g.now in
    let s1 = g.G.Grow.trees c.rebuild.new.g in
    let s2 = g.G.Grow.trees c.add.new.self in
    let s3 = g.G.Grow.trees c.fields.new.g in
    let k1 : Grows s s1 = g.met.G.Grow.keeps_trees _ _ c.in_ok-made.ensures.grows in
    let k3 : Grows s2 s3 = g.met.G.Grow.keeps_trees _ _ c.in_ok-fields.ensures.grows in
    let e = c.in_ok-equation.ensures in
    let js : c.projections-own.result.now ≡ constructor_projections (task_under s c.args.look) c.args.constructor = c.projections-own.ensures ∙ ap (λ z. constructor_projections (task_under z c.args.look) c.args.constructor) c.store.ensures in
    equation_is (task_under s c.args.look) c.args.constructor c.projections-own.result.now (tree_at s3 c.in_ok-equation.equation) (tree_at s1 c.args.term) (tree_at s1 c.in_ok-made.made) (tree_at s c.args.types) (tree_at s c.args.term)
    (k3.same c.in_ok-equation.equation.0 e.held ∙ e.tree) (k1.same c.args.term.0 c.requires.term.0) c.in_ok-made.ensures.tree js

pub returns-clause-fields : goal.returns-clause-fields
returns-clause-fields g c =
    let s = g.G.Grow.trees c.args.g.now in
    let s2 = g.G.Grow.trees c.add.new.self in
    let k : Grows s s2 = g.met.G.Grow.keeps_trees _ _ (g.met.G.Grow.grows_trans _ _ _ c.in_ok-made.ensures.grows c.in_ok-equation.ensures.grows) in
    let js : c.projections-own.result.now ≡ constructor_projections (task_under s c.args.look) c.args.constructor = c.projections-own.ensures ∙ ap (λ z. constructor_projections (task_under z c.args.look) c.args.constructor) c.store.ensures in
    c.in_ok-fields.ensures.trees ∙ fields_stay s s2 k c.args.look c.args.types c.args.term c.projections-own.result.now c.requires.look c.requires.types_held c.requires.term.0
    ∙ ap (λ is. fields (task_under s c.args.look) is (tree_at s c.args.types) (tree_at s c.args.term)) js

pub projections-own-requires : goal.projections-own-requires
projections-own-requires g c = subst (λ (z : List Tree). LookupHeld z c.args.look) (sym c.store.ensures) c.requires.look

pub push_members-requires-clause-held : goal.push_members-requires-clause-held
push_members-requires-clause-held g c = subst (λ (z : List Tree). Holds z c.args.types) (sym c.store-2.ensures) c.requires.types_held

pub push_members-requires-clause-types : goal.push_members-requires-clause-types
push_members-requires-clause-types g c = subst (λ (z : List Tree). IsList Kind (tree_at z c.args.types)) (sym c.store-2.ensures) c.requires.types

pub push_members-requires-clause-out_held : goal.push_members-requires-clause-out_held
push_members-requires-clause-out_held g c = subst (HoldTypes c.store-2.result.now) (sym c.new-members.ensures.items) tt

pub rebuild-requires-clause-at : goal.rebuild-requires-clause-at
rebuild-requires-clause-at g c =
    let s = g.G.Grow.trees c.args.g.now in
    let m = members_held s c.store-2.result.now c.args.types c.new-members.result.items c.push_members.new.out.items c.as_slice.result.now c.store-2.ensures c.new-members.ensures.items c.as_slice.ensures.value c.in_ok-push_members.ensures.held c.in_ok-push_members.ensures.trees in
    record { look = c.requires.look; types = c.requires.types_held; kinds = c.requires.types; each = m.0; are = m.1 }

pub rebuild-requires-clause-results : goal.rebuild-requires-clause-results
rebuild-requires-clause-results g c =
    let s = g.G.Grow.trees c.args.g.now in
    let js : c.projections-own.result.now ≡ constructor_projections (task_under s c.args.look) c.args.constructor = c.projections-own.ensures ∙ ap (λ z. constructor_projections (task_under z c.args.look) c.args.constructor) c.store.ensures in
    subst (λ is. All (HasClosedResult (task_under s c.args.look)) (c.args.constructor ∷ is)) (sym js) c.requires.results

pub rebuild-requires-clause-term : goal.rebuild-requires-clause-term
rebuild-requires-clause-term g c = c.requires.term

pub add-requires-clause-held : goal.add-requires-clause-held
add-requires-clause-held g c =
    let s = g.G.Grow.trees c.args.g.now in
    let s1 = g.G.Grow.trees c.rebuild.new.g in
    let k : Grows s s1 = g.met.G.Grow.keeps_trees _ _ c.in_ok-made.ensures.grows in
    (omega (arith, c.requires.term.0, k.longer), c.in_ok-made.ensures.term.0)

pub add-requires-clause-fits : goal.add-requires-clause-fits
add-requires-clause-fits g c =
    let s = g.G.Grow.trees c.args.g.now in
    let s1 = g.G.Grow.trees c.rebuild.new.g in
    let k : Grows s s1 = g.met.G.Grow.keeps_trees _ _ c.in_ok-made.ensures.grows in
    ((ap sort_of (k.same c.args.term.0 c.requires.term.0) ∙ c.requires.term.1, c.in_ok-made.ensures.term.1), tt)

pub returns-clause-fields_held : goal.returns-clause-fields_held
returns-clause-fields_held g c = c.in_ok-fields.ensures.held

pub returns-clause-grows : goal.returns-clause-grows
returns-clause-grows g c = g.met.G.Grow.grows_trans _ _ _ (g.met.G.Grow.grows_trans _ _ _ c.in_ok-made.ensures.grows c.in_ok-equation.ensures.grows) c.in_ok-fields.ensures.grows

pub returns-in_err-push_members-clause-equation_held : goal.returns-in_err-push_members-clause-equation_held
returns-in_err-push_members-clause-equation_held g c = no_value _ _ c.from_residual.result c.from_residual.ensures.1

pub returns-in_err-push_members-clause-equation : goal.returns-in_err-push_members-clause-equation
returns-in_err-push_members-clause-equation g c = no_value _ _ c.from_residual.result c.from_residual.ensures.1

pub returns-in_err-push_members-clause-fields_held : goal.returns-in_err-push_members-clause-fields_held
returns-in_err-push_members-clause-fields_held g c = no_value _ _ c.from_residual.result c.from_residual.ensures.1

pub returns-in_err-push_members-clause-fields : goal.returns-in_err-push_members-clause-fields
returns-in_err-push_members-clause-fields g c = no_value _ _ c.from_residual.result c.from_residual.ensures.1

pub returns-in_err-push_members-clause-grows : goal.returns-in_err-push_members-clause-grows
returns-in_err-push_members-clause-grows g c = g.met.G.Grow.grows_refl _

pub returns-in_err-made-clause-equation_held : goal.returns-in_err-made-clause-equation_held
returns-in_err-made-clause-equation_held g c = no_value _ _ c.from_residual-in_err-made.result c.from_residual-in_err-made.ensures.1

pub returns-in_err-made-clause-equation : goal.returns-in_err-made-clause-equation
returns-in_err-made-clause-equation g c = no_value _ _ c.from_residual-in_err-made.result c.from_residual-in_err-made.ensures.1

pub returns-in_err-made-clause-fields_held : goal.returns-in_err-made-clause-fields_held
returns-in_err-made-clause-fields_held g c = no_value _ _ c.from_residual-in_err-made.result c.from_residual-in_err-made.ensures.1

pub returns-in_err-made-clause-fields : goal.returns-in_err-made-clause-fields
returns-in_err-made-clause-fields g c = no_value _ _ c.from_residual-in_err-made.result c.from_residual-in_err-made.ensures.1

pub returns-in_err-made-clause-grows : goal.returns-in_err-made-clause-grows
returns-in_err-made-clause-grows g c = c.in_err-made.ensures.grows

pub returns-in_err-equation-clause-equation_held : goal.returns-in_err-equation-clause-equation_held
returns-in_err-equation-clause-equation_held g c = no_value _ _ c.from_residual-in_err-equation.result c.from_residual-in_err-equation.ensures.1

pub returns-in_err-equation-clause-equation : goal.returns-in_err-equation-clause-equation
returns-in_err-equation-clause-equation g c = no_value _ _ c.from_residual-in_err-equation.result c.from_residual-in_err-equation.ensures.1

pub returns-in_err-equation-clause-fields_held : goal.returns-in_err-equation-clause-fields_held
returns-in_err-equation-clause-fields_held g c = no_value _ _ c.from_residual-in_err-equation.result c.from_residual-in_err-equation.ensures.1

pub returns-in_err-equation-clause-fields : goal.returns-in_err-equation-clause-fields
returns-in_err-equation-clause-fields g c = no_value _ _ c.from_residual-in_err-equation.result c.from_residual-in_err-equation.ensures.1

pub returns-in_err-equation-clause-grows : goal.returns-in_err-equation-clause-grows
returns-in_err-equation-clause-grows g c = g.met.G.Grow.grows_trans _ _ _ c.in_ok-made.ensures.grows c.in_err-equation.ensures.grows

pub returns-in_err-fields-clause-equation_held : goal.returns-in_err-fields-clause-equation_held
returns-in_err-fields-clause-equation_held g c = no_value _ _ c.from_residual-in_err-fields.result c.from_residual-in_err-fields.ensures.1

pub returns-in_err-fields-clause-equation : goal.returns-in_err-fields-clause-equation
returns-in_err-fields-clause-equation g c = no_value _ _ c.from_residual-in_err-fields.result c.from_residual-in_err-fields.ensures.1

pub returns-in_err-fields-clause-fields_held : goal.returns-in_err-fields-clause-fields_held
returns-in_err-fields-clause-fields_held g c = no_value _ _ c.from_residual-in_err-fields.result c.from_residual-in_err-fields.ensures.1

pub returns-in_err-fields-clause-fields : goal.returns-in_err-fields-clause-fields
returns-in_err-fields-clause-fields g c = no_value _ _ c.from_residual-in_err-fields.result c.from_residual-in_err-fields.ensures.1

pub returns-in_err-fields-clause-grows : goal.returns-in_err-fields-clause-grows
returns-in_err-fields-clause-grows g c = g.met.G.Grow.grows_trans _ _ _ (g.met.G.Grow.grows_trans _ _ _ c.in_ok-made.ensures.grows c.in_ok-equation.ensures.grows) c.in_err-fields.ensures.grows
