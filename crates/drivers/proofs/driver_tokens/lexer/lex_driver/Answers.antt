use Rattle.std.proofs.Common.{◌++◌, ◌∷◌, [], map, slice_range, sym, ap, ◌∙◌, arith, append_assoc, drop}
use Rattle.drivers.specs.driver_tokens.Tokens.{lexeme_in, driver_lexeme, lexed}
use Rattle.drivers.proofs.driver_tokens.Lexing.{gap-turn, token-turn, none-turn, found-turn}
use Rattle.drivers.proofs.driver_tokens.lexer.lex_driver.Goals as goal

pub loop-at-preserved-then-gap-gt0 : goal.loop-at-preserved-then-gap-gt0
loop-at-preserved-then-gap-gt0 c =
    let text = c.args.text.now in
    let n = c.piece_length-gap in
    record {
      high = n.ensures.within;
      same = ap (λ v. map (lexeme_in text) c.loop-at.found.items ++ v) (sym (gap-turn text c.loop-at.at n.result n.ensures.place (omega arith) n.ensures.within)) ∙ c.loop-at.invariant.same;
    }

pub returns-then-end-at : goal.returns-then-end-at
returns-then-end-at c =
    let text = c.args.text.now in
    let at = c.loop-at.at in
    let end = c.token_end-end in
    let turn = none-turn text at c.piece_length-gap.result end.result (omega arith) c.piece_length-gap.ensures.place (omega arith) end.ensures.place c.if-end-at.true in
    found-turn text c.loop-at.found.items c.push.new.self.items c.terminal_of-terminal.result at end.result c.in_ok-push.ensures.items c.terminal_of-terminal.ensures
    ∙ ap (λ v. map (lexeme_in text) c.loop-at.found.items ++ v) (sym turn)
    ∙ c.loop-at.invariant.same

pub loop-at-preserved : goal.loop-at-preserved
loop-at-preserved c =
    let text = c.args.text.now in
    let at = c.loop-at.at in
    let end = c.token_end-end in
    let turn = token-turn text at c.piece_length-gap.result end.result c.piece_length-gap.ensures.place (omega arith) end.ensures.place (omega (arith, c.if-end-at.false)) end.ensures.within.1 in
    let more = found-turn text c.loop-at.found.items c.push.new.self.items c.terminal_of-terminal.result at end.result c.in_ok-push.ensures.items c.terminal_of-terminal.ensures in
    record {
      high = end.ensures.within.1;
      same = ap (λ v. v ++ lexed (drop end.result text) end.result 0) more
          ∙ append_assoc (map (lexeme_in text) c.loop-at.found.items) (driver_lexeme at (slice_range text at end.result) ∷ []) (lexed (drop end.result text) end.result 0)
          ∙ ap (λ v. map (lexeme_in text) c.loop-at.found.items ++ v) (sym turn)
          ∙ c.loop-at.invariant.same;
    }
