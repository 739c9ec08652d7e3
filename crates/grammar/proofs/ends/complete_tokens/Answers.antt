use Rattle.std.proofs.Common.{[], ◌∷◌, option_map, reverse, sym, ap, ◌∙◌}
use Rattle.grammar.proofs.EndLemmas.{never, completed}
use Rattle.grammar.proofs.ends.complete_tokens.Goals as goal

pub returns-in-None : goal.returns-in-None
returns-in-None c = never (c.args.start ∷ []) c.args.tokens.now (sym c.in_ok-stack_after.ensures ∙ ap (option_map (λ v. reverse v.items)) c.in-None.is)

pub returns-in_ok-missing-in-Some : goal.returns-in_ok-missing-in-Some
returns-in_ok-missing-in-Some c = completed (c.args.start ∷ []) (reverse c.in-Some.stack.items) c.args.tokens.now c.in_ok-missing-in-Some.missing.items c.requires
    (sym c.in_ok-stack_after.ensures ∙ ap (option_map (λ v. reverse v.items)) c.in-Some.is) c.in_ok-missing-in-Some.ensures
