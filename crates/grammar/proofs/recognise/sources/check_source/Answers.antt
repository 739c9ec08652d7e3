use Rattle.grammar.proofs.recognise.Common.{[], ◌∷◌, MatchOption, sym, ◌∙◌, subst, ScopeWord, File, IsFirstFault, IsShallow, IsTooDeep}
use Rattle.grammar.proofs.recognise.Answering.{is_source, is_too_deep}
use Rattle.grammar.proofs.recognise.sources.check_source.Goals as goal

pub returns-in-Some-clause-refused : goal.returns-in-Some-clause-refused
returns-in-Some-clause-refused c = λ text.
    let found = c.deref.result.now in
    is_too_deep text c.args.tokens.now found (sym (c.deref.ensures.value ∙ c.in_ok-found.ensures)) c.in-Some.token
    (subst (λ v. MatchOption v (IsShallow found) (IsTooDeep found)) c.in-Some.is c.in_ok-token.ensures)

pub returns-in-None-clause-source : goal.returns-in-None-clause-source
returns-in-None-clause-source c = λ text.
    let found = c.deref-2.result.now in
    is_source text c.args.tokens.now found (sym (c.deref-2.ensures.value ∙ c.in_ok-found.ensures))
    (subst (IsFirstFault (File ∷ []) found ScopeWord) c.in-None.is c.in_ok-first_fault.ensures)

pub returns-clause-refused : goal.returns-clause-refused
returns-clause-refused c = λ text. c.answer.ensures text c.args.tokens.now (sym (c.deref-in-Some-2.ensures.value ∙ c.in_ok-found.ensures))
