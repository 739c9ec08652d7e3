use Rattle.std.proofs.Common.{◌≡◌, IfErr, subst, sym, ap, ◌∙◌, arith}
use Rattle.std.proofs.lemmas.Result.{IfOk-weaker}
use Rattle.trees.specs.Tree.{size}
use Rattle.trees.specs.Node.{tree_at}
use Rattle.tr_if.specs.conditionals.Conditionals.{cases_over}
use Rattle.tr_if.specs.conditionals.Held.{IsByCases, IsGrowthFault}
use Rattle.tr_if.specs.conditionals.lemmas.Cases.{no_first}
use Rattle.tr_if.proofs.conditionals.Placing.{first_is_if}
use Rattle.tr_if.proofs.conditionals.ByFirst.{growth_passed, first_formula, second_formula, formula_later, first_less, second_again_less, then_large, else_large, by_first_is}
use Rattle.tr_if.proofs.conditionals.atoms.+cases.Goals as goal

pub atom_by_cases-returns-in-None-clause-cases : goal.atom_by_cases-returns-in-None-clause-cases
atom_by_cases-returns-in-None-clause-cases t c = record { formula = c.requires; is = sym (no_first (tree_at c.args.store.now c.args.e) (λ u. u) c.in-None.ensures) }

pub by_first-if_parts-parts-requires-clause-head : goal.by_first-if_parts-parts-requires-clause-head
by_first-if_parts-parts-requires-clause-head t c = first_is_if (tree_at c.args.store.now c.args.e) (tree_at c.args.store.now c.args.whole) c.requires.first

pub by_first-atom_by_cases-requires : goal.by_first-atom_by_cases-requires
by_first-atom_by_cases-requires t c =
    let s = c.args.store.now in
    let e = c.args.e in
    let k = c.if_parts-parts.result in
    let r = c.requires in
    let p = c.if_parts-parts.ensures in
    let s1 = c.replace_first.new.g in
    let s2 = c.replace_first-2.new.g in
    let w1 = c.in_ok-first.ensures.grows in
    let w2 = c.in_ok-second.ensures.grows in
    let first = c.in_ok-first.first in
    let second = c.in_ok-second.second in
    let pf = c.in_ok-first.ensures.placed in
    let ps = c.in_ok-second.ensures.placed in
    let l = first_less s e c.args.whole k r.formula r.first p s1 s2 w1 w2 first second pf ps in
    (omega (arith, l), first_formula s e c.args.whole k r.formula r.first p s1 s2 w1 w2 first second pf ps)

pub by_first-returns-in_err-then_part-clause-fault : goal.by_first-returns-in_err-then_part-clause-fault
by_first-returns-in_err-then_part-clause-fault t c =
    let s = c.args.store.now in
    let e = c.args.e in
    let k = c.if_parts-parts.result in
    let r = c.requires in
    let p = c.if_parts-parts.ensures in
    let s1 = c.replace_first.new.g in
    let s2 = c.replace_first-2.new.g in
    let w1 = c.in_ok-first.ensures.grows in
    let w2 = c.in_ok-second.ensures.grows in
    let first = c.in_ok-first.first in
    let second = c.in_ok-second.second in
    let pf = c.in_ok-first.ensures.placed in
    let ps = c.in_ok-second.ensures.placed in
    growth_passed c.from_residual-in_err-then_part.result _ _ c.from_residual-in_err-then_part.ensures.1 (then_large s e c.args.whole k r.formula r.first p s1 s2 w1 w2 first second pf ps _ c.in_err-then_part.ensures.fault)

pub by_first-atom_by_cases-requires-2 : goal.by_first-atom_by_cases-requires-2
by_first-atom_by_cases-requires-2 t c =
    let s = c.args.store.now in
    let e = c.args.e in
    let k = c.if_parts-parts.result in
    let r = c.requires in
    let p = c.if_parts-parts.ensures in
    let s1 = c.replace_first.new.g in
    let s2 = c.replace_first-2.new.g in
    let w1 = c.in_ok-first.ensures.grows in
    let w2 = c.in_ok-second.ensures.grows in
    let first = c.in_ok-first.first in
    let second = c.in_ok-second.second in
    let pf = c.in_ok-first.ensures.placed in
    let ps = c.in_ok-second.ensures.placed in
    let s3 = c.atom_by_cases.new.store in
    let w3 = c.in_ok-then_part.ensures.grows in
    let l = second_again_less s e c.args.whole k r.formula r.first p s1 s2 w1 w2 first second pf ps s3 w3 in
    (omega (arith, l), formula_later s2 s3 w3 second (second_formula s e c.args.whole k r.formula r.first p s1 s2 w1 w2 first second pf ps))

pub by_first-returns-in_err-else_part-clause-fault : goal.by_first-returns-in_err-else_part-clause-fault
by_first-returns-in_err-else_part-clause-fault t c =
    let s = c.args.store.now in
    let e = c.args.e in
    let k = c.if_parts-parts.result in
    let r = c.requires in
    let p = c.if_parts-parts.ensures in
    let s1 = c.replace_first.new.g in
    let s2 = c.replace_first-2.new.g in
    let w1 = c.in_ok-first.ensures.grows in
    let w2 = c.in_ok-second.ensures.grows in
    let first = c.in_ok-first.first in
    let second = c.in_ok-second.second in
    let pf = c.in_ok-first.ensures.placed in
    let ps = c.in_ok-second.ensures.placed in
    let s3 = c.atom_by_cases.new.store in
    let w3 = c.in_ok-then_part.ensures.grows in
    growth_passed c.from_residual-in_err-else_part.result _ _ c.from_residual-in_err-else_part.ensures.1 (else_large s e c.args.whole k r.formula r.first p s1 s2 w1 w2 first second pf ps s3 w3 _ c.in_err-else_part.ensures.fault)

pub by_first-returns-clause-cases : goal.by_first-returns-clause-cases
by_first-returns-clause-cases t c =
    let s = c.args.store.now in
    let e = c.args.e in
    let k = c.if_parts-parts.result in
    let r = c.requires in
    let p = c.if_parts-parts.ensures in
    let s1 = c.replace_first.new.g in
    let s2 = c.replace_first-2.new.g in
    let w1 = c.in_ok-first.ensures.grows in
    let w2 = c.in_ok-second.ensures.grows in
    let first = c.in_ok-first.first in
    let second = c.in_ok-second.second in
    let pf = c.in_ok-first.ensures.placed in
    let ps = c.in_ok-second.ensures.placed in
    let s3 = c.atom_by_cases.new.store in
    let w3 = c.in_ok-then_part.ensures.grows in
    let s4 = c.atom_by_cases-2.new.store in
    let w4 = c.in_ok-else_part.ensures.grows in
    let x = c.in_ok-then_part.then_part in
    let y = c.in_ok-else_part.else_part in
    let m : tree_at c.implications.new.g c.in_ok-made.made ≡ cases_over (tree_at s e) (λ u. u) = c.in_ok-made.ensures.tree ∙ by_first_is s e c.args.whole k r.formula r.first p s1 s2 w1 w2 first second pf ps s3 w3 s4 w4 x y c.in_ok-then_part.ensures.cases c.in_ok-else_part.ensures.cases in
    IfOk-weaker c.bounded.result _ _ (λ id q. subst (IsByCases (tree_at s e) c.implications.new.g) (sym q) (record { formula = c.in_ok-made.ensures.formula; is = m })) c.bounded.ensures.ok

pub by_first-returns-clause-fault : goal.by_first-returns-clause-fault
by_first-returns-clause-fault t c =
    let s = c.args.store.now in
    let e = c.args.e in
    let k = c.if_parts-parts.result in
    let r = c.requires in
    let p = c.if_parts-parts.ensures in
    let s1 = c.replace_first.new.g in
    let s2 = c.replace_first-2.new.g in
    let w1 = c.in_ok-first.ensures.grows in
    let w2 = c.in_ok-second.ensures.grows in
    let first = c.in_ok-first.first in
    let second = c.in_ok-second.second in
    let pf = c.in_ok-first.ensures.placed in
    let ps = c.in_ok-second.ensures.placed in
    let s3 = c.atom_by_cases.new.store in
    let w3 = c.in_ok-then_part.ensures.grows in
    let s4 = c.atom_by_cases-2.new.store in
    let w4 = c.in_ok-else_part.ensures.grows in
    let x = c.in_ok-then_part.then_part in
    let y = c.in_ok-else_part.else_part in
    let m : tree_at c.implications.new.g c.in_ok-made.made ≡ cases_over (tree_at s e) (λ u. u) = c.in_ok-made.ensures.tree ∙ by_first_is s e c.args.whole k r.formula r.first p s1 s2 w1 w2 first second pf ps s3 w3 s4 w4 x y c.in_ok-then_part.ensures.cases c.in_ok-else_part.ensures.cases in
    subst (λ n. IfErr c.bounded.result (IsGrowthFault n)) (ap size m) c.bounded.ensures.fault
