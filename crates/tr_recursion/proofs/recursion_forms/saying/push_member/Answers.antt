use Rattle.std.proofs.Common.{List, ◌++◌, refl, sym, ap, ◌∙◌}
use Rattle.std.proofs.lemmas.Result.{on_ok_weaker}
use Rattle.trees.proofs.Nodes.{Grows_refl}
use Rattle.trees.specs.Node.{tree_at}
use Rattle.tasks.specs.declared.facts.Fact.TheVariants.{Equation}
use Rattle.tasks.specs.Facts.{FactTree}
use Rattle.declarations.specs.spelled_groups.Stored.{facts_at}
use Rattle.declarations.proofs.spelled_groups.Saying.{one_said}
use Rattle.tr_inline.specs.inlining.branch_equations.Branches.{constructor_branches}
use Rattle.tr_recursion.specs.declared.recursion_forms.saying.Member.{Member}
use Rattle.tr_recursion.specs.recursion_forms.Read.{branches_or_none}
use Rattle.tr_recursion.proofs.recursion_forms.Definitions.{member_held, matched_sided, branches_said, whole_said}
use Rattle.tr_recursion.proofs.recursion_forms.saying.push_member.Goals as goal

pub push_branches-requires-clause-member : goal.push_branches-requires-clause-member
push_branches-requires-clause-member c =
    member_held c.args.store.now c.args.sig.now.symbols c.args.def.now c.in-Some.info.now (sym c.in-Some.ensures.value) c.requires.fit _ c.as_slice.ensures refl

pub push_branches-requires-clause-branches : goal.push_branches-requires-clause-branches
push_branches-requires-clause-branches c =
    matched_sided c.args.store.now c.args.sig.now.symbols c.args.def.now c.in-Some.info.now (sym c.in-Some.ensures.value) c.requires.fit _ c.in-Some-matched_parameter.matched c.in-Some-matched_parameter.ensures.is refl c.in-Some-matched_parameter.ensures.branches

pub returns-in-Some-matched_parameter-clause-said : goal.returns-in-Some-matched_parameter-clause-said
returns-in-Some-matched_parameter-clause-said c =
    let s = c.args.store.now in
    let m = c.in-Some-matched_parameter.matched in
    let d = c.args.def.now in
    let member : Member = record { symbol = d.symbol; vars = c.in-Some.info.now.vars; args = c.as_slice.result; equation = d.equation; index = m.index } in
    on_ok_weaker c.push_branches.result (λ h.
    h (branches_or_none (constructor_branches (tree_at s m.arms))) c.in-Some-matched_parameter.ensures.branches
    ∙ ap (λ (z : List FactTree). facts_at s c.args.said.now.items ++ z) (branches_said s c.args.sig.now.symbols c.args.def.now c.in-Some.info.now (sym c.in-Some.ensures.value) c.requires.fit member m c.in-Some-matched_parameter.ensures.is refl refl c.as_slice.ensures refl refl)) c.push_branches.ensures.said

pub returns-in_ok-push-in-None-clause-said : goal.returns-in_ok-push-in-None-clause-said
returns-in_ok-push-in-None-clause-said c =
    let s = c.args.store.now in
    let d = c.args.def.now in
    one_said s s (Grows_refl s) c.args.said.now.items c.push.new.self.items _ (record { name = Equation d.symbol; vars = c.in-Some.info.now.vars; formula = tree_at s d.equation }) c.requires.said c.in_ok-push-in-None.ensures.items refl
    ∙ ap (λ (z : List FactTree). facts_at s c.args.said.now.items ++ z) (whole_said s c.args.sig.now.symbols d c.in-Some.info.now (sym c.in-Some.ensures.value) c.requires.fit c.in-None.ensures.is)
