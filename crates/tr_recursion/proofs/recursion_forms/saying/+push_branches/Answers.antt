use Rattle.std.proofs.Common.{arith}
use Rattle.std.proofs.lemmas.Result.{on_ok_weaker}
use Rattle.trees.proofs.Nodes.{Grows_refl}
use Rattle.trees.specs.Node.{Holds}
use Rattle.tr_recursion.proofs.recursion_forms.Definitions.{no_branch, first_sided, member_later, others_sided, branches_more}
use Rattle.tr_recursion.proofs.recursion_forms.saying.+push_branches.Goals as goal

pub push_branch-requires-clause-fit : goal.push_branch-requires-clause-fit
push_branch-requires-clause-fit t c =
    let s = c.args.store.now in
    let n = c.in-Cell.ensures in
    first_sided s s (Grows_refl s) c.args.member c.requires.member c.args.arms c.in-Cell.first c.in-Cell.rest n.tree (omega (arith, n.below.1, c.requires.arms)) c.requires.branches c.in-Some.branch c.in-Some.ensures.is

pub push_branches-requires : goal.push_branches-requires
push_branches-requires t c =
    let s = c.args.store.now in
    let n = c.in-Cell.ensures in
    let r = c.in_ok-push_branch-in-Cell.ensures in
    let k : Holds s c.in-Cell.rest = omega (arith, n.below.1, c.requires.arms) in (
      omega (arith, n.below.1),
      (
        member_later s c.push_branch.new.store r.grows c.args.member c.requires.member,
        (omega (arith, n.below.1, c.requires.arms, r.grows.longer), (others_sided s c.push_branch.new.store r.grows c.args.member c.requires.member c.args.arms c.in-Cell.first c.in-Cell.rest n.tree k c.requires.branches, r.held)),
      ),
    )

pub returns-in_ok-push_branch-in-Cell-clause-said : goal.returns-in_ok-push_branch-in-Cell-clause-said
returns-in_ok-push_branch-in-Cell-clause-said t c =
    let s = c.args.store.now in
    let n = c.in-Cell.ensures in
    let r = c.in_ok-push_branch-in-Cell.ensures in
    on_ok_weaker c.push_branches.result (λ h.
    branches_more s c.push_branch.new.store r.grows c.args.member c.requires.member c.args.arms c.in-Cell.first c.in-Cell.rest n.tree (omega (arith, n.below.1, c.requires.arms)) c.push_branches.new.store c.in-Some.branch c.args.said.now.items c.push_branch.new.said.items
    c.push_branches.new.said.items c.in-Some.ensures.is r.said h) c.push_branches.ensures.said
