use Rattle.std.proofs.Common.{◌≡◌, ◌++◌, List, sym, ap, subst, ◌∙◌, arith}
use Rattle.std.proofs.lemmas.Result.{IfOk-weaker}
use Rattle.trees.proofs.Nodes.{Grows_trans}
use Rattle.trees.specs.declared.Sort.TheVariants.{Kind, Term}
use Rattle.trees.specs.Tree.{Tree}
use Rattle.trees.specs.Node.{tree_at, trees_at, Grows}
use Rattle.trees.specs.Sorts.{sort_of}
use Rattle.trees.specs.binders.Visits.{HoldTerms, held_stays, trees_stay}
use Rattle.tasks.specs.Typing.{members}
use Rattle.tr_inline.specs.inlining.branch_equations.Branches.{ConstructorBranch, bound_fields, pattern_fields, HasSides}
use Rattle.tr_recursion.specs.recursion_forms.Read.{constructor_branch_at}
use Rattle.tr_recursion.specs.recursion_forms.Made.{parameters_with, sides_with}
use Rattle.tr_recursion.proofs.recursion_forms.Numbers.{branch_same, branch_held_later}
use Rattle.tr_recursion.proofs.recursion_forms.Making.{sides_made}
use Rattle.tr_recursion.proofs.recursion_forms.equations.branch_sides.Goals as goal

pub parameters_with-requires-clause-args : goal.parameters_with-requires-clause-args
parameters_with-requires-clause-args c = held_stays Kind c.args.store.now c.field_variables.new.store c.args.args.now c.in_ok-fields.ensures.grows c.requires.args

pub parameters_with-requires-clause-branch : goal.parameters_with-requires-clause-branch
parameters_with-requires-clause-branch c = branch_held_later c.args.store.now c.field_variables.new.store c.in_ok-fields.ensures.grows c.args.branch c.requires.branch

pub push_bound-requires-clause-fields : goal.push_bound-requires-clause-fields
push_bound-requires-clause-fields c = omega (arith, c.requires.branch.fields, c.in_ok-fields.ensures.grows.longer, c.in_ok-left.ensures.grows.longer)

pub push_bound-requires-clause-own : goal.push_bound-requires-clause-own
push_bound-requires-clause-own c =
    rw c.as_slice-3.ensures.value (held_stays Term c.field_variables.new.store c.parameters_with.new.store c.in_ok-fields.fields.items c.in_ok-left.ensures.grows c.in_ok-fields.ensures.held)

pub push_bound-requires-clause-terms : goal.push_bound-requires-clause-terms
push_bound-requires-clause-terms c = subst (HoldTerms c.parameters_with.new.store) (sym (c.in_ok-right.ensures.items ∙ c.as_slice-2.ensures.value)) c.in_ok-left.ensures.held

pub put_in_sides-requires-clause-sides : goal.put_in_sides-requires-clause-sides
put_in_sides-requires-clause-sides c = omega (arith, c.requires.sides, c.in_ok-fields.ensures.grows.longer, c.in_ok-left.ensures.grows.longer)

pub put_in_sides-requires-clause-body : goal.put_in_sides-requires-clause-body
put_in_sides-requires-clause-body c = omega (arith, c.requires.branch.body, c.in_ok-fields.ensures.grows.longer, c.in_ok-left.ensures.grows.longer)

pub put_in_sides-requires-clause-fit : goal.put_in_sides-requires-clause-fit
put_in_sides-requires-clause-fit c =
    let s = c.args.store.now in
    let s2 = c.parameters_with.new.store in
    let g : Grows s s2 = Grows_trans s c.field_variables.new.store s2 c.in_ok-fields.ensures.grows c.in_ok-left.ensures.grows in
    subst (HasSides (sort_of (tree_at s2 c.args.branch.body))) (sym (g.same c.args.sides.0 c.requires.sides)) (subst (λ (e : Tree). HasSides (sort_of e) (tree_at s c.args.sides)) (sym (g.same c.args.branch.body.0 c.requires.branch.body)) c.requires.fit)

pub returns-clause-tree : goal.returns-clause-tree
returns-clause-tree c =
    let s = c.args.store.now in
    let s1 = c.field_variables.new.store in
    let s2 = c.parameters_with.new.store in
    let args = c.args.args.now in
    let b = c.args.branch in
    let i = c.args.index in
    let f = c.in_ok-fields.ensures in
    let l = c.in_ok-left.ensures in
    let g : Grows s s2 = Grows_trans s s1 s2 f.grows l.grows in
    let own = c.in_ok-fields.fields.items in
    let zs = trees_at s1 own in
    let ps = trees_at s2 c.in_ok-left.left.items in
    let us = trees_at s2 c.push_bound.new.terms.items in
    let p : ps ≡ parameters_with (trees_at s args) i (constructor_branch_at s b) zs =
    (rw c.as_slice.ensures.value at l.trees) ∙ ap (λ (z : List Tree). parameters_with z i (constructor_branch_at s1 b) zs) (trees_stay Kind s s1 args f.grows c.requires.args)
    ∙ ap (λ (x : ConstructorBranch). parameters_with (trees_at s args) i x zs) (branch_same s s1 f.grows b c.requires.branch) in
    let bound : us ≡ trees_at s2 c.in_ok-right.right.items ++ bound_fields (members (tree_at s2 b.fields)) (trees_at s2 own) = rw c.as_slice-3.ensures.value at c.in_ok-push_bound.ensures.trees in
    let u : us ≡ ps ++ pattern_fields (trees_at s args) i (constructor_branch_at s b) =
    bound ∙ ap (λ ids. trees_at s2 ids ++ bound_fields (members (tree_at s2 b.fields)) (trees_at s2 own)) (c.in_ok-right.ensures.items ∙ c.as_slice-2.ensures.value)
    ∙ ap (λ (e : Tree). ps ++ bound_fields (members e) (trees_at s2 own)) (g.same b.fields.0 c.requires.branch.fields)
    ∙ ap (λ (z : List Tree). ps ++ bound_fields (members (tree_at s b.fields)) z) (trees_stay Term s1 s2 own l.grows f.held ∙ f.trees) in
    sides_made (trees_at s args) i (constructor_branch_at s b) (tree_at s c.args.sides) _ zs ps us f.trees p u
    (rw (c.as_slice-4.ensures.value, c.as_slice-5.ensures.value) at c.in_ok-made.ensures.tree ∙ ap (λ (e : Tree). sides_with e (tree_at s2 b.body) ps us) (g.same c.args.sides.0 c.requires.sides) ∙ ap (λ (e : Tree). sides_with (tree_at s c.args.sides) e ps us) (g.same b.body.0 c.requires.branch.body))
