use Rattle.grammar.proofs.Common.{◌≡◌, false, [], ◌∷◌, Some, length, take, reverse, get_or, ◌∙◌, subst, arith, step, run, IsStep}
use Rattle.tokens_why.specs.declared.terminal.Terminal.TheVariants as t
use Rattle.grammar.proofs.Steps.{after, stepped, not_stepped}
use Rattle.grammar.proofs.accept.count_taken.Goals as goal

pub returns-then-not-branch : goal.returns-then-not-branch
returns-then-not-branch c = record {
  stack = reverse c.loop-i.stack.items;
  within = omega arith;
  taken = c.loop-i.invariant;
  stuck = λ h. after c.args.tokens.now c.loop-i.i t.Lident (c.args.start ∷ []) (reverse c.loop-i.stack.items) h c.loop-i.invariant
      ∙ not_stepped (step false (reverse c.loop-i.stack.items) (get_or c.args.tokens.now c.loop-i.i t.Lident)) (reverse c.take_token.new.stack.items) (subst (λ v. IsStep (step false (reverse c.loop-i.stack.items) (get_or c.args.tokens.now c.loop-i.i t.Lident)) v (reverse c.take_token.new.stack.items)) c.if-not-branch.true c.in_ok-take_token.ensures);
}

pub loop-i-preserved : goal.loop-i-preserved
loop-i-preserved c = after c.args.tokens.now c.loop-i.i t.Lident (c.args.start ∷ []) (reverse c.loop-i.stack.items) c.loop-i-test.true c.loop-i.invariant
    ∙ stepped (step false (reverse c.loop-i.stack.items) (get_or c.args.tokens.now c.loop-i.i t.Lident)) (reverse c.take_token.new.stack.items) (subst (λ v. IsStep (step false (reverse c.loop-i.stack.items) (get_or c.args.tokens.now c.loop-i.i t.Lident)) v (reverse c.take_token.new.stack.items)) c.if-not-branch.false c.in_ok-take_token.ensures)

pub returns : goal.returns
returns c = let e : c.loop-i.i ≡ length c.args.tokens.now = omega arith in record {
  stack = reverse c.loop-i.stack.items;
  within = omega arith;
  taken = subst (λ n. run (c.args.start ∷ []) (take n c.args.tokens.now) ≡ Some (reverse c.loop-i.stack.items)) e c.loop-i.invariant;
  stuck = λ h. absurd (omega arith);
}
