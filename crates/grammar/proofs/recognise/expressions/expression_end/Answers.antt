use Rattle.grammar.proofs.recognise.Common.{◌≡◌, [], ◌∷◌, Some, None, drop, length, ◌∙◌, subst, OtherWord, Expr, IsFault, IsLongest, terminals_of}
use Rattle.grammar.proofs.recognise.Answering.{ends_at, fault_at}
use Rattle.grammar.proofs.recognise.expressions.expression_end.Goals as goal

pub returns-in-Some-clause-ends : goal.returns-in-Some-clause-ends
returns-in-Some-clause-ends c = λ text.
    let found = c.deref.result.now in
    let same : found ≡ terminals_of (drop c.args.from c.args.tokens.now) = c.deref.ensures.value ∙ c.in_ok-terminals.ensures in
    ends_at text c.args.tokens.now c.args.from c.in-Some.count
    (subst (λ v. IsLongest (Expr 0 ∷ []) v (length v) (Some c.in-Some.count)) same (subst (IsLongest (Expr 0 ∷ []) found (length found)) c.in-Some.is c.in_ok-count.ensures))

pub returns-clause-refused : goal.returns-clause-refused
returns-clause-refused c = λ text.
    let found = c.deref.result.now in
    let same : found ≡ terminals_of (drop c.args.from c.args.tokens.now) = c.deref.ensures.value ∙ c.in_ok-terminals.ensures in
    let last : c.deref-in-None.result.now ≡ terminals_of (drop c.args.from c.args.tokens.now) = c.deref-in-None.ensures.value ∙ c.in_ok-terminals.ensures in
    fault_at text c.args.tokens.now c.args.from c.in_ok-fault-in-None.fault.place c.in_ok-fault-in-None.fault.other_stands
    (subst (λ v. IsLongest (Expr 0 ∷ []) v (length v) None) same (subst (IsLongest (Expr 0 ∷ []) found (length found)) c.in-None.is c.in_ok-count.ensures))
    (subst (λ v. IsFault (Expr 0 ∷ []) v OtherWord c.in_ok-fault-in-None.fault.place c.in_ok-fault-in-None.fault.other_stands) last c.in_ok-fault-in-None.ensures)
