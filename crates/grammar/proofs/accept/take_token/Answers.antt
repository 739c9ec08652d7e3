use Rattle.grammar.proofs.Common.{true, false, reverse, sym, ap, ◌∙◌, subst, takes, step, IsPut, IsStep}
use Rattle.grammar.proofs.Steps.{popped, put_step, stuck_step, passed_step, kept, shorter}
use Rattle.grammar.proofs.accept.take_token.Goals as goal

pub returns-then-branch : goal.returns-then-branch
returns-then-branch c = subst (λ t. IsStep t true (reverse c.put.new.stack.items)) (sym (c.loop-symbol.invariant ∙ ap (λ v. step c.loop-symbol.after_seal v c.args.x) (popped c.loop-symbol.stack.items c.pop.new.self.items c.in-Some.symbol c.in-Some.ensures.items)))
    (put_step c.loop-symbol.after_seal c.in-Some.symbol (reverse c.pop.new.self.items) (reverse c.put.new.stack.items) c.args.x (sym c.is_silent.ensures ∙ c.if-is_silent.false)
    (subst (λ v. IsPut (takes c.in-Some.symbol c.args.x) v (reverse c.pop.new.self.items) (reverse c.put.new.stack.items)) c.if-branch.true c.in_ok-put.ensures))

pub returns-then-not-may_be_empty : goal.returns-then-not-may_be_empty
returns-then-not-may_be_empty c = subst (λ t. IsStep t false (reverse c.put.new.stack.items)) (sym (c.loop-symbol.invariant ∙ ap (λ v. step c.loop-symbol.after_seal v c.args.x) (popped c.loop-symbol.stack.items c.pop.new.self.items c.in-Some.symbol c.in-Some.ensures.items)))
    (stuck_step c.loop-symbol.after_seal c.in-Some.symbol (reverse c.pop.new.self.items) (reverse c.put.new.stack.items) c.args.x (sym c.is_silent.ensures ∙ c.if-is_silent.false)
    (subst (λ v. IsPut (takes c.in-Some.symbol c.args.x) v (reverse c.pop.new.self.items) (reverse c.put.new.stack.items)) c.if-branch.false c.in_ok-put.ensures) (sym c.may_be_empty.ensures ∙ c.if-not-may_be_empty.true))

pub loop-symbol-preserved : goal.loop-symbol-preserved
loop-symbol-preserved c = c.loop-symbol.invariant ∙ ap (λ v. step c.loop-symbol.after_seal v c.args.x) (popped c.loop-symbol.stack.items c.pop.new.self.items c.in-Some.symbol c.in-Some.ensures.items)
    ∙ passed_step c.loop-symbol.after_seal c.in-Some.symbol (reverse c.pop.new.self.items) (reverse c.put.new.stack.items) c.args.x (sym c.is_silent.ensures ∙ c.if-is_silent.false)
    (subst (λ v. IsPut (takes c.in-Some.symbol c.args.x) v (reverse c.pop.new.self.items) (reverse c.put.new.stack.items)) c.if-branch.false c.in_ok-put.ensures) (sym c.may_be_empty.ensures ∙ c.if-not-may_be_empty.false)
    ∙ ap (λ v. step v (reverse c.put.new.stack.items) c.args.x) (sym c.is_seal_symbol-after_seal.ensures)

pub loop-symbol-smaller : goal.loop-symbol-smaller
loop-symbol-smaller c = shorter c.loop-symbol.stack.items c.pop.new.self.items c.put.new.stack.items c.in-Some.symbol c.in-Some.ensures.items
    (kept (takes c.in-Some.symbol c.args.x) (reverse c.pop.new.self.items) (reverse c.put.new.stack.items) (subst (λ v. IsPut (takes c.in-Some.symbol c.args.x) v (reverse c.pop.new.self.items) (reverse c.put.new.stack.items)) c.if-branch.false c.in_ok-put.ensures))
