use Rattle.std.proofs.Common.{◌∷◌, [], ◌++◌, List, sym, ap, ◌∙◌, arith}
use Rattle.std.proofs.lemmas.List.{map-append, append_assoc, append-nil}
use Rattle.std.proofs.lemmas.Result.{on_ok_weaker}
use Rattle.trees.specs.declared.Sort.TheVariants.{Term}
use Rattle.trees.specs.Tree.{Tree}
use Rattle.trees.specs.Node.{tree_at, trees_at}
use Rattle.trees.specs.binders.Visits.{HoldTerms}
use Rattle.tasks.specs.Typing.{members}
use Rattle.tasks.proofs.outside.Passed.{no_ok}
use Rattle.images.proofs.match_terms.Growing.{list_cell, held_after, no_members}
use Rattle.step_reading.proofs.quick_steps.asking.+push_terms.Goals as goal

pub push_terms-requires : goal.push_terms-requires
push_terms-requires t c =
    let s = c.args.store.now in
    let n = c.in-Cell.ensures in
    let h = c.requires.held in
    let k = list_cell Term (tree_at s c.args.list) (tree_at s c.in-Cell.first) (tree_at s c.in-Cell.rest) n.tree n.fits c.requires.terms in
    let out : HoldTerms s c.push.new.self.items = rw c.in_ok-push-in-Cell.ensures.items (held_after Term s c.args.out.now.items c.in-Cell.first c.requires.out_held (omega (arith, n.below.0, h)) k.0) in
    (omega (arith, n.below.1), (omega (arith, n.below.1, h), (k.1, out)))

pub returns-in_err-push-in-Cell-clause-trees : goal.returns-in_err-push-in-Cell-clause-trees
returns-in_err-push-in-Cell-clause-trees t c = no_ok _ _ c.from_residual.result c.from_residual.ensures.1

pub returns-in_err-push-in-Cell-clause-held : goal.returns-in_err-push-in-Cell-clause-held
returns-in_err-push-in-Cell-clause-held t c = no_ok _ _ c.from_residual.result c.from_residual.ensures.1

pub returns-in_ok-push-in-Cell-clause-trees : goal.returns-in_ok-push-in-Cell-clause-trees
returns-in_ok-push-in-Cell-clause-trees t c =
    let s = c.args.store.now in
    let out = c.args.out.now.items in
    let first = c.in-Cell.first in
    let rest : List Tree = members (tree_at s c.in-Cell.rest) in
    on_ok_weaker c.push_terms.result (λ h.
    h ∙ ap (λ (es : List Tree). es ++ rest) (ap (trees_at s) c.in_ok-push-in-Cell.ensures.items ∙ map-append (tree_at s) out (first ∷ []))
    ∙ append_assoc (trees_at s out) (tree_at s first ∷ []) rest ∙ ap (λ (z : Tree). trees_at s out ++ members z) (sym c.in-Cell.ensures.tree)) c.push_terms.ensures.trees

pub returns-in_ok-push-in-Cell-clause-held : goal.returns-in_ok-push-in-Cell-clause-held
returns-in_ok-push-in-Cell-clause-held t c = c.push_terms.ensures.held

pub returns-in_default-clause-trees : goal.returns-in_default-clause-trees
returns-in_default-clause-trees t c =
    let s = c.args.store.now in
    let out = c.args.out.now.items in
    sym (append-nil (trees_at s out)) ∙ ap (λ (es : List Tree). trees_at s out ++ es) (sym (ap members c.node.ensures.tree ∙ no_members s c.node.result c.in_default.not-Cell))

pub returns-in_default-clause-held : goal.returns-in_default-clause-held
returns-in_default-clause-held t c = c.requires.out_held
