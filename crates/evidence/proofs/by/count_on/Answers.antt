use Rattle.std.proofs.Common.{◌∙◌, ◌++◌, ◌∷◌, [], ◌+◌, ℕ, List, sym, ap, append_assoc}
use Rattle.evidence.specs.Rules.{counted}
use Rattle.evidence.proofs.Formulas.{counted_more}
use Rattle.evidence.proofs.by.count_on.Goals as goal

pub loop-i-preserved : goal.loop-i-preserved
loop-i-preserved c =
    let old = c.args.places.now.items in
    let n = c.args.from + c.loop-i.i in
    c.in_ok-push.ensures.items ∙ ap (λ (z : List ℕ). z ++ n ∷ []) c.loop-i.invariant ∙ append_assoc old (counted c.args.from c.loop-i.i) (n ∷ [])
    ∙ ap (λ (z : List ℕ). old ++ z) (sym (counted_more c.args.from c.loop-i.i))
