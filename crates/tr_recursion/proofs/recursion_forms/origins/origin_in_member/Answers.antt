use Rattle.std.proofs.Common.{ℕ, List, map, Option, None, subst}
use Rattle.trees.specs.Node.{tree_at}
use Rattle.tasks.specs.declared.facts.Fact.TheVariants.{Equation}
use Rattle.tasks.specs.Looking.{fact_name}
use Rattle.tasks.specs.Meaning.{definition_at}
use Rattle.declarations.specs.Said.{IsFactSearch}
use Rattle.declarations.proofs.spelled_groups.SoughtClauses.{after_one}
use Rattle.tr_inline.specs.inlining.branch_equations.Branches.{ConstructorBranch, constructor_branches, facts_by}
use Rattle.tr_recursion.specs.recursion_forms.Read.{branches_or_none}
use Rattle.tr_recursion.proofs.recursion_forms.origins.origin_in_member.Goals as goal

pub returns-in-Some : goal.returns-in-Some
returns-in-Some c = λ symbols.
    let s = c.args.store.now in
    let d = c.args.def.now in
    let m = c.in-Some.matched in
    subst (λ (o : Option (ℕ × List ConstructorBranch)). IsFactSearch (map fact_name (facts_by symbols (definition_at s d) o)) c.args.k c.origin_in_branches.result) c.in-Some.ensures.is
    (c.origin_in_branches.ensures symbols (tree_at s d.equation) m.index (branches_or_none (constructor_branches (tree_at s m.arms))) c.in-Some.ensures.branches)
