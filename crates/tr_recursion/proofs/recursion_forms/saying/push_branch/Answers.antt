use Rattle.std.proofs.Common.{ap}
use Rattle.trees.specs.Tree.{Tree}
use Rattle.tasks.specs.declared.facts.Fact.TheVariants.{Equation}
use Rattle.declarations.proofs.spelled_groups.Saying.{one_said}
use Rattle.tr_recursion.specs.recursion_forms.Read.{constructor_branch_at}
use Rattle.tr_recursion.specs.recursion_forms.Members.{member_branch_fact}
use Rattle.tr_recursion.proofs.recursion_forms.saying.push_branch.Goals as goal

pub returns-clause-said : goal.returns-clause-said
returns-clause-said c =
    let s = c.args.store.now in
    let m = c.args.member in
    one_said s c.branch_equation.new.store c.in_ok-formula.ensures.grows c.args.said.now.items c.push.new.self.items _ (member_branch_fact s m (constructor_branch_at s c.args.branch)) c.requires.said c.in_ok-push.ensures.items
    (ap (λ (z : Tree). record { name = Equation m.symbol; vars = m.vars; formula = z }) c.in_ok-formula.ensures.tree)
