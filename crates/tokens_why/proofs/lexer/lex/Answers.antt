use Rattle.tokens_why.proofs.Common.{◌≡◌, length, refl, sym, subst, arith, next, TokenBegins, NoneBegins, LiteralFits, Exceeds, Stops, whole, lexical, big}
use Rattle.tokens_why.proofs.TurnLemmas.{Turn, first, turn, stopped, Reading}
use Rattle.tokens_why.proofs.ClauseLemmas.{tokens-whole, tokens-lexical, tokens-big, lexical-whole, big-whole, lexical-lexical, big-lexical, lexical-big, big-big}
use Rattle.tokens_why.proofs.lexer.lex.Goals as goal

pub tokens-init : goal.tokens-init
tokens-init c = record { high = omega arith; turn = subst (Turn c.args.text.now 0) (sym c.new-found.ensures.items) (first c.args.text.now) }

pub returns-then-start-text : goal.returns-then-start-text
returns-then-start-text c =
    let text = c.args.text.now in
    let found = c.tokens.found.items in
    let ends : next text c.tokens.at ≡ length text = omega (arith, c.skip-start.ensures.place, c.skip-start.ensures.within) in
    let r : Reading text whole found = stopped text c.tokens.at whole found ends c.tokens.invariant.turn in
    record { tokens = tokens-whole text found r; lexical = lexical-whole text found _ c.tokens.found refl r; big_literal = big-whole text found _ c.tokens.found refl r }

pub returns-in_default : goal.returns-in_default
returns-in_default c =
    let text = c.args.text.now in
    let found = c.tokens.found.items in
    let start = c.skip-start.result in
    let none : NoneBegins text start = c.in_default.ensures in
    let stops : Stops text (lexical start) (next text c.tokens.at) = record { here = sym c.skip-start.ensures.place; within = c.if-start-text.false; none = none } in
    let r : Reading text (lexical start) found = stopped text c.tokens.at (lexical start) found stops c.tokens.invariant.turn in
    record { tokens = tokens-lexical text start found r; lexical = lexical-lexical text found _ start refl r; big_literal = big-lexical text found _ start refl r }

pub returns-then-is_too_big : goal.returns-then-is_too_big
returns-then-is_too_big c =
    let text = c.args.text.now in
    let found = c.tokens.found.items in
    let start = c.skip-start.result in
    let token = c.in-Some.token in
    let begins : TokenBegins text start token = c.in-Some.ensures in
    let exceeds : Exceeds text token = c.if-is_too_big.ensures in
    let stops : Stops text (big start) (next text c.tokens.at) = record { here = sym c.skip-start.ensures.place; token = token; begins = begins; exceeds = exceeds } in
    let r : Reading text (big start) found = stopped text c.tokens.at (big start) found stops c.tokens.invariant.turn in
    record { tokens = tokens-big text start found r; lexical = lexical-big text found _ start refl r; big_literal = big-big text found _ start refl r }

pub tokens-preserved : goal.tokens-preserved
tokens-preserved c =
    let text = c.args.text.now in
    let token = c.in-Some.token in
    let begins : TokenBegins text c.skip-start.result token = c.in-Some.ensures in
    let fits : LiteralFits text token = c.if-is_too_big.ensures in
    let here : TokenBegins text (next text c.tokens.at) token = subst (λ v. TokenBegins text v token) c.skip-start.ensures.place begins in
    record {
      high = begins.1.within;
      turn = turn text c.tokens.at token c.tokens.found.items c.push.new.self.items here fits c.in_ok-push.ensures.items c.tokens.invariant.turn;
    }
