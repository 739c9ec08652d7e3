use Rattle.grammar.proofs.Common.{◌≤◌, false, [], ◌∷◌, length, reverse, get_or, sym, ap, ◌∙◌, subst, arith, take_all, step, run, IsStep}
use Rattle.tokens_why.specs.declared.terminal.Terminal.TheVariants as t
use Rattle.grammar.proofs.Steps.{after, stepped, not_stepped}
use Rattle.grammar.proofs.EndLemmas.{stuck_all}
use Rattle.grammar.proofs.ends.stack_after.Goals as goal

pub loop-x-preserved : goal.loop-x-preserved
loop-x-preserved c = after c.args.tokens.now c.loop-x.x-index t.Lident (c.args.start ∷ []) (reverse c.loop-x.stack.items) (omega arith) c.loop-x.invariant
    ∙ stepped (step false (reverse c.loop-x.stack.items) (get_or c.args.tokens.now c.loop-x.x-index t.Lident)) (reverse c.take_token.new.stack.items) (subst (λ v. IsStep (step false (reverse c.loop-x.stack.items) (get_or c.args.tokens.now c.loop-x.x-index t.Lident)) v (reverse c.take_token.new.stack.items)) c.if-not-branch.false c.in_ok-take_token.ensures)

pub returns-then-not-branch : goal.returns-then-not-branch
returns-then-not-branch c = sym (stuck_all (c.args.start ∷ []) c.args.tokens.now c.loop-x.x-index (omega arith)
    (after c.args.tokens.now c.loop-x.x-index t.Lident (c.args.start ∷ []) (reverse c.loop-x.stack.items) (omega arith) c.loop-x.invariant
    ∙ not_stepped (step false (reverse c.loop-x.stack.items) (get_or c.args.tokens.now c.loop-x.x-index t.Lident)) (reverse c.take_token.new.stack.items) (subst (λ v. IsStep (step false (reverse c.loop-x.stack.items) (get_or c.args.tokens.now c.loop-x.x-index t.Lident)) v (reverse c.take_token.new.stack.items)) c.if-not-branch.true c.in_ok-take_token.ensures)))

pub returns : goal.returns
returns c = let e : length c.args.tokens.now ≤ c.loop-x.x-index = omega arith in
    sym (ap (run (c.args.start ∷ [])) (sym (take_all c.loop-x.x-index c.args.tokens.now e)) ∙ c.loop-x.invariant)
