use Rattle.grammar.proofs.Common.{◌≡◌, ◌+◌, false, cond, [], ◌∷◌, Some, take, reverse, get_or, sym, ap, ◌∙◌, subst, step, run, may_end, IsStep, IsLongest}
use Rattle.tokens_why.specs.declared.terminal.Terminal.TheVariants as t
use Rattle.grammar.proofs.Steps.{after, stepped, not_stepped}
use Rattle.grammar.proofs.EndLemmas.{longest_more, longest_stuck}
use Rattle.grammar.proofs.ends.longest_length.Goals as goal

pub returns-then-not-branch : goal.returns-then-not-branch
returns-then-not-branch c = longest_stuck (c.args.start ∷ []) c.args.tokens.now c.loop-i.i c.loop-i.best c.loop-i-test.true
    (after c.args.tokens.now c.loop-i.i t.Lident (c.args.start ∷ []) (reverse c.loop-i.stack.items) c.loop-i-test.true c.loop-i.invariant.0
    ∙ not_stepped (step false (reverse c.loop-i.stack.items) (get_or c.args.tokens.now c.loop-i.i t.Lident)) (reverse c.take_token.new.stack.items) (subst (λ v. IsStep (step false (reverse c.loop-i.stack.items) (get_or c.args.tokens.now c.loop-i.i t.Lident)) v (reverse c.take_token.new.stack.items)) c.if-not-branch.true c.in_ok-take_token.ensures))
    c.loop-i.invariant.1

pub loop-i-preserved : goal.loop-i-preserved
loop-i-preserved c = let e : run (c.args.start ∷ []) (take (c.loop-i.i + 1) c.args.tokens.now) ≡ Some (reverse c.take_token.new.stack.items) = after c.args.tokens.now c.loop-i.i t.Lident (c.args.start ∷ []) (reverse c.loop-i.stack.items) c.loop-i-test.true c.loop-i.invariant.0
    ∙ stepped (step false (reverse c.loop-i.stack.items) (get_or c.args.tokens.now c.loop-i.i t.Lident)) (reverse c.take_token.new.stack.items) (subst (λ v. IsStep (step false (reverse c.loop-i.stack.items) (get_or c.args.tokens.now c.loop-i.i t.Lident)) v (reverse c.take_token.new.stack.items)) c.if-not-branch.false c.in_ok-take_token.ensures) in (
      e,
      subst (λ r. IsLongest (c.args.start ∷ []) c.args.tokens.now (c.loop-i.i + 1) r) (sym (c.later_end-best-in-loop-i.ensures ∙ ap (λ v. cond (may_end (reverse v)) (Some (c.loop-i.i + 1)) c.loop-i.best) c.deref-in-loop-i.ensures.value))
          (longest_more (c.args.start ∷ []) c.args.tokens.now c.loop-i.i c.loop-i.best (reverse c.take_token.new.stack.items) e c.loop-i.invariant.1),
    )
