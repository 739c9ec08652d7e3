use Rattle.std.proofs.Common.{◌≡◌, ◌+◌, ◌-◌, ◌++◌, List, [], ◌∷◌, take, drop, length, sym, ap, subst, ◌∙◌, arith}
use Rattle.std.proofs.lemmas.List.{length-map}
use Rattle.trees.proofs.Nodes.{Grows_trans}
use Rattle.trees.specs.declared.TermId.{TermId}
use Rattle.trees.specs.declared.Sort.TheVariants.{Kind, Term}
use Rattle.trees.specs.Tree.{Tree}
use Rattle.trees.specs.Node.{tree_at, trees_at}
use Rattle.trees.specs.binders.Visits.{HoldTypes, HoldTerms, held_stays}
use Rattle.tr_inline.specs.inlining.branch_equations.Branches.{variables_above}
use Rattle.tr_recursion.specs.recursion_forms.Read.{constructor_branch_at}
use Rattle.tr_recursion.proofs.recursion_forms.Numbers.{held_append, held_take, held_drop, branch_held_later}
use Rattle.tr_recursion.proofs.recursion_forms.Making.{parameters_made, built_later}
use Rattle.tr_recursion.proofs.recursion_forms.equations.parameters_with.Goals as goal

pub push_variables-requires-clause-types : goal.push_variables-requires-clause-types
push_variables-requires-clause-types c =
    let s = c.args.store.now in
    let args = c.args.args.now in
    subst (HoldTypes s) (sym c.before-2.ensures) (held_take Kind s (length args - 1 - c.args.index) args c.requires.args)

pub built_term-requires-clause-branch : goal.built_term-requires-clause-branch
built_term-requires-clause-branch c = branch_held_later c.args.store.now c.push_variables.new.store c.in_ok-push_variables.ensures.grows c.args.branch c.requires.branch

pub built_term-requires-clause-fields : goal.built_term-requires-clause-fields
built_term-requires-clause-fields c = held_stays Term c.args.store.now c.push_variables.new.store c.args.fields.now c.in_ok-push_variables.ensures.grows c.requires.fields

pub push_variables-requires-2-clause-types : goal.push_variables-requires-2-clause-types
push_variables-requires-2-clause-types c =
    let s = c.args.store.now in
    let s1 = c.push_variables.new.store in
    let s2 = c.built_term.new.store in
    let args = c.args.args.now in
    subst (HoldTypes s2) (sym c.after-last.ensures) (held_drop Kind s2 (length args - c.args.index) args (held_stays Kind s s2 args (Grows_trans s s1 s2 c.in_ok-push_variables.ensures.grows c.in_ok-built.ensures.grows) c.requires.args))

pub push_variables-requires-2-clause-terms : goal.push_variables-requires-2-clause-terms
push_variables-requires-2-clause-terms c =
    let s1 = c.push_variables.new.store in
    let s2 = c.built_term.new.store in
    let first = c.push_variables.new.terms.items in
    subst (HoldTerms s2) (sym c.in_ok-push.ensures.items) (held_append Term s2 first (c.in_ok-built.built ∷ []) (held_stays Term s1 s2 first c.in_ok-built.ensures.grows c.in_ok-push_variables.ensures.held) (c.in_ok-built.ensures.held, tt))

pub returns-clause-trees : goal.returns-clause-trees
returns-clause-trees c =
    let s = c.args.store.now in
    let s1 = c.push_variables.new.store in
    let s2 = c.built_term.new.store in
    let g1 = c.in_ok-push_variables.ensures.grows in
    let h = c.in_ok-built.ensures.grows in
    let args = c.args.args.now in
    let i = c.args.index in
    let b = c.args.branch in
    let fields = c.args.fields.now in
    let last = drop (length args - i) args in
    let n : c.in-Some.below ≡ length (trees_at s fields) + length last = omega (arith, c.in-Some.ensures, ap length c.after-last.ensures, length-map fields (tree_at s)) in
    parameters_made s s1 s2 (Grows_trans s s1 s2 g1 h) h args i (constructor_branch_at s b) (trees_at s fields) c.push_variables.new.terms.items c.push.new.self.items c.in_ok-built.built c.in-Some.below _ c.requires.args c.in_ok-push_variables.ensures.held n
    ((rw c.new-made.ensures.items at c.in_ok-push_variables.ensures.trees) ∙ ap (λ (ids : List TermId). variables_above c.in-Some.below (trees_at s ids)) c.before-2.ensures) c.in_ok-push.ensures.items (built_later s s1 g1 b c.requires.branch fields c.requires.fields _ c.in_ok-built.ensures.tree)
    (c.in_ok-push_variables-2.ensures.trees ∙ ap (λ (ids : List TermId). trees_at s2 c.push.new.self.items ++ variables_above 0 (trees_at s2 ids)) c.after-last.ensures)
