use Rattle.std.proofs.Common.{◌++◌, ◌∷◌, [], ℕ, List, take, sym, ap, ◌∙◌}
use Rattle.std.proofs.lemmas.List.{take_more, take_all}
use Rattle.clones.proofs.clone_copies.origins.copy_names.Goals as goal
use Rattle.tasks.proofs.outside.Passed.{no_value}

pub returns-in_err-copy : goal.returns-in_err-copy
returns-in_err-copy c = no_value _ _ c.from_residual.result c.from_residual.ensures.1

pub returns-in_err-push : goal.returns-in_err-push
returns-in_err-push c = no_value _ _ c.from_residual-in_err-push.result c.from_residual-in_err-push.ensures.1

pub loop-name-preserved : goal.loop-name-preserved
loop-name-preserved c =
    let xs = c.args.names.now in
    let i = c.loop-name.name-index in
    let copy = c.in_ok-copy.copy in
    c.in_ok-push.ensures.items ∙ (ap (λ (z : List (List ℕ)). z ++ copy ∷ []) c.loop-name.invariant
    ∙ (ap (λ (v : List ℕ). take i xs ++ v ∷ []) (c.in_ok-copy.ensures.cases ∙ c.name-item.is) ∙ sym (take_more xs i c.name-item.result c.loop-name-test.true)))

pub returns : goal.returns
returns c = c.from_vec.ensures ∙ (c.loop-name.invariant ∙ take_all c.loop-name.name-index c.args.names.now c.loop-name-test.false)
