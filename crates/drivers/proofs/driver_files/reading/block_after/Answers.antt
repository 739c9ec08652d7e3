use Rattle.std.proofs.Common.{◌∙◌, ℕ, List, Some, map, sym, ap, arith}
use Rattle.drivers.specs.declared.driver_tokens.token.DriverToken.{DriverToken}
use Rattle.drivers.specs.driver_tokens.Tokens.{lexeme_in}
use Rattle.drivers.specs.driver_items.Items.{written_name}
use Rattle.drivers.proofs.driver_files.Blocks.{following-theory, following-other}
use Rattle.drivers.proofs.driver_files.reading.block_after.Goals as goal

pub returns-then-is_theory : goal.returns-then-is_theory
returns-then-is_theory c =
    let is = following-theory c.args.block c.args.text.now c.args.line.now _ (omega arith) (sym c.is_theory.ensures ∙ c.if-is_theory.true) in
    ap (λ (v : List ℕ). Some v) (c.in_ok-path.ensures ∙ ap (λ (v : List DriverToken). written_name (map (lexeme_in c.args.text.now) v)) c.part.ensures) ∙ is

pub returns : goal.returns
returns c =
    following-other c.args.block c.args.text.now c.args.line.now _ (omega arith) (sym c.is_theory.ensures ∙ c.if-is_theory.false)
