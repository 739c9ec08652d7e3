use Rattle.std.proofs.Common.{sym, ◌∙◌}
use Rattle.open_types.proofs.unify_types.Unified.{eliminated_same, eliminated_fails, eliminated_bound}
use Rattle.open_types.proofs.unify_types.solving.eliminate.Goals as goal

pub returns-then-same-clause-solved : goal.returns-then-same-clause-solved
returns-then-same-clause-solved c = λ _.
    eliminated_same c.args.rigid c.args.store.now c.args.bindings.now c.args.unknown c.args.e c.build.new.store c.in_ok-ty.ty
    c.requires.equation c.requires.above c.requires.unknown c.requires.unbound c.requires.bound c.requires.triangular c.in_ok-ty.ensures.grows c.in_ok-ty.ensures.held c.in_ok-ty.ensures.tree
    (c.same.ensures.trees.0 c.if-same.true)

pub returns-then-branch-clause-failed : goal.returns-then-branch-clause-failed
returns-then-branch-clause-failed c = λ _.
    eliminated_fails c.args.rigid c.args.store.now c.args.bindings.now c.args.unknown c.args.e c.build.new.store c.in_ok-ty.ty
    c.requires.equation c.requires.above c.requires.unknown c.requires.unbound c.requires.bound c.requires.triangular c.in_ok-ty.ensures.grows c.in_ok-ty.ensures.held c.in_ok-ty.ensures.tree
    (λ q. let yes = c.same.ensures.trees.1 q in cc) (sym c.in_ok-has_sought.ensures.answer ∙ c.if-branch.true)

pub returns-clause-solved : goal.returns-clause-solved
returns-clause-solved c = λ _.
    eliminated_bound c.args.rigid c.args.store.now c.args.bindings.now c.args.unknown c.args.e c.build.new.store c.in_ok-ty.ty
    c.requires.equation c.requires.above c.requires.unknown c.requires.unbound c.requires.bound c.requires.triangular c.in_ok-ty.ensures.grows c.in_ok-ty.ensures.held c.in_ok-ty.ensures.tree
    c.add_binding.new.self (sym c.in_ok-has_sought.ensures.answer ∙ c.if-branch.false) c.in_ok-add_binding.ensures
