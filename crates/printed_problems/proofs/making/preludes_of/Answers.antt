use Rattle.std.proofs.Common.{◌≡◌, List, ℕ, [], ◌++◌, ap, ◌∙◌, rules}
use Rattle.tasks.specs.Meaning.{declarations_at}
use Rattle.printed_problems.specs.Problems.{general, of_theories, texts_where}
use Rattle.printed_problems.proofs.making.preludes_of.Goals as goal
use Rattle.tasks.proofs.outside.Passed.{no_value}

pub returns : goal.returns
returns c s =
    let from = c.as_slice-from.result.now in
    let ds = c.as_slice-decls.result.now in
    let none : c.new-made.result.items ≡ [] = search rules in
    let first : c.push_preludes.new.made.items ≡ texts_where general from = c.in_ok-push_preludes.ensures s ∙ ap (λ (z : List (List ℕ)). z ++ texts_where general from) none in
    c.from_vec.ensures ∙ c.in_ok-push_preludes-2.ensures s ∙ ap (λ (z : List (List ℕ)). z ++ texts_where (of_theories (declarations_at s ds)) from) first
    ∙ (λ i. texts_where general (c.as_slice-from.ensures i) ++ texts_where (of_theories (declarations_at s (c.as_slice-decls.ensures i))) (c.as_slice-from.ensures i))

pub returns-in_err-push_preludes : goal.returns-in_err-push_preludes
returns-in_err-push_preludes c = no_value _ _ c.from_residual.result c.from_residual.ensures.1

pub returns-in_err-push_preludes-2 : goal.returns-in_err-push_preludes-2
returns-in_err-push_preludes-2 c = no_value _ _ c.from_residual-in_err-push_preludes-2.result c.from_residual-in_err-push_preludes-2.ensures.1
