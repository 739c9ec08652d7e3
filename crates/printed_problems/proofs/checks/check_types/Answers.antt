use Rattle.std.proofs.Common.{◌≡◌, [], sym, ap, ◌∙◌, arith}
use Rattle.std.proofs.lemmas.Bool.Decides.{nat_tests}
use Rattle.std.proofs.lemmas.List.{nil_from_length, drop_all}
use Rattle.tasks.specs.Meaning.{trees_at}
use Rattle.printed_problems.specs.Faults.{printed_type_fault}
use Rattle.printed_problems.specs.Checks.{the_task}
use Rattle.printed_problems.proofs.Finding.{seen_meets, types_none}
use Rattle.printed_problems.proofs.First.{faults_from, fault_later, fault_here, meets_fault, same_fault}
use Rattle.printed_problems.proofs.checks.check_types.Goals as goal

pub returns-then-is_empty : goal.returns-then-is_empty
returns-then-is_empty c =
    let none : c.args.c.now.bare.now ≡ [] = nil_from_length c.args.c.now.bare.now (grind (arith, nat_tests)) in
    types_none c.args.c.now c.requires.can none (trees_at c.args.c.now.store.now c.args.types.now)

pub returns-in_err-check_seen : goal.returns-in_err-check_seen
returns-in_err-check_seen c =
    let checker = c.args.c.now in
    let s = checker.store.now in
    let F = printed_type_fault checker.driver.now (the_task checker) in
    let types = c.args.types.now in
    let r = c.from_residual in
    meets_fault r.result _ _ r.ensures.1
    (same_fault _ _ (faults_from F s types) (λ g e. fault_here F s types c.loop-ty.ty-index _ _ g c.loop-ty-test.true e c.loop-ty.invariant)
    (seen_meets checker c.requires.can c.of_type.result _ _ c.of_type.ensures.things c.in_err-check_seen.ensures))

pub loop-ty-preserved : goal.loop-ty-preserved
loop-ty-preserved c =
    let checker = c.args.c.now in
    fault_later (printed_type_fault checker.driver.now (the_task checker)) checker.store.now c.args.types.now c.loop-ty.ty-index _ _ c.loop-ty-test.true
    (seen_meets checker c.requires.can c.of_type.result _ _ c.of_type.ensures.things c.in_ok-check_seen.ensures) c.loop-ty.invariant

pub returns : goal.returns
returns c =
    let checker = c.args.c.now in
    sym c.loop-ty.invariant ∙ ap (faults_from (printed_type_fault checker.driver.now (the_task checker)) checker.store.now) (drop_all c.loop-ty.ty-index c.args.types.now c.loop-ty-test.false)
