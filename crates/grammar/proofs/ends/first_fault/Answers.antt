use Rattle.grammar.proofs.Common.{◌≡◌, [], ◌∷◌, ◌++◌, Some, take, option_map, reverse, sym, ap, ◌∙◌, subst, run, may_end, IsStep}
use Rattle.grammar.proofs.EndLemmas.{unaccepted, step_after, whether}
use Rattle.grammar.proofs.ends.first_fault.Goals as goal
use Rattle.grammar.proofs.ends.first_fault.Goals.{else-place-tokens-via-then-place-tokens+else-may_stop, else-place-tokens-via-else-place-tokens}

pub returns : goal.returns
returns c = let e : run (c.args.start ∷ []) (take c.in_ok-place.place c.args.tokens.now) ≡ Some (reverse c.in-Some.stack.items) = sym c.in_ok-stack_after.ensures ∙ ap (option_map (λ v. reverse v.items)) c.in-Some.is in record {
  takes = c.in_ok-place.ensures;
  none = unaccepted (c.args.start ∷ []) (reverse c.in-Some.stack.items) c.args.tokens.now c.in_ok-place.place c.in_ok-place.ensures e
      (elim c.else-place-tokens.branch [
        | else-place-tokens-via-then-place-tokens+else-may_stop w ↦ λ h. ap (λ v. may_end (reverse v)) (sym w.deref.ensures.value) ∙ sym w.may_stop.ensures ∙ w.if-may_stop.false
        | else-place-tokens-via-else-place-tokens w ↦ λ h. absurd (w.if-place-tokens.false h)
      ]);
  other_stands = whether (run (c.args.start ∷ []) (take c.in_ok-place.place c.args.tokens.now ++ c.args.other ∷ [])) c.in_ok-other_stands-in-Some.other_stands (reverse c.take_token.new.stack.items)
      (subst (λ t. IsStep t c.in_ok-other_stands-in-Some.other_stands (reverse c.take_token.new.stack.items)) (sym (step_after (c.args.start ∷ []) (reverse c.in-Some.stack.items) (take c.in_ok-place.place c.args.tokens.now) c.args.other e)) c.in_ok-other_stands-in-Some.ensures);
}
