use Rattle.parser.proofs.parse_terms.Common.{◌≡◌, Bool, true, false, ◌&&◌, nat_le, sym, ap, ◌∙◌, is_infix, prec, need, terminal_at, lexemes}
use Rattle.parser.proofs.parse_terms.operators.at_operator.Goals as goal
use Rattle.parser.proofs.parse_terms.operators.at_operator.Goals.{then-is_infix, else-is_infix}

all_true : (a b d v : Bool) → a ≡ true → b ≡ true → v ≡ d → v ≡ (a && (b && d))
all_true true true d v e f h = h
all_true true false d v e f h = cc
all_true false b d v e f h = cc

first_false : (a b v : Bool) → a ≡ false → v ≡ false → v ≡ (a && b)
first_false true b v e h = cc
first_false false b v e h = h

second_false : (a b d v : Bool) → b ≡ false → v ≡ false → v ≡ (a && (b && d))
second_false false b d v e h = h
second_false true true d v e h = cc
second_false true false d v e h = h

pub returns-then-m-prec_of : goal.returns-then-m-prec_of
returns-then-m-prec_of c = let x = terminal_at (lexemes c.args.source) c.args.i in
    elim c.if-is_infix.branch [
      | then-is_infix w ↦ all_true (is_infix x) (nat_le c.args.m (prec x)) (nat_le (need x) c.args.tight) (nat_le c.need_of.result c.args.tight)
          (ap is_infix (sym c.terminal-x.ensures) ∙ sym c.is_infix.ensures ∙ w.if-is_infix.true)
          (ap (λ v. nat_le c.args.m (prec v)) (sym c.terminal-x.ensures) ∙ ap (nat_le c.args.m) (sym w.prec_of.ensures) ∙ sym w.value-is ∙ c.if-m-prec_of.true)
          (ap (λ v. nat_le v c.args.tight) c.need_of.ensures ∙ ap (λ v. nat_le (need v) c.args.tight) c.terminal-x.ensures)
      | else-is_infix w ↦ cc
    ]

pub returns-else-m-prec_of : goal.returns-else-m-prec_of
returns-else-m-prec_of c = let x = terminal_at (lexemes c.args.source) c.args.i in
    elim c.if-is_infix.branch [
      | then-is_infix w ↦ second_false (is_infix x) (nat_le c.args.m (prec x)) (nat_le (need x) c.args.tight) c.if-is_infix.value
          (ap (λ v. nat_le c.args.m (prec v)) (sym c.terminal-x.ensures) ∙ ap (nat_le c.args.m) (sym w.prec_of.ensures) ∙ sym w.value-is ∙ c.if-m-prec_of.false) c.if-m-prec_of.false
      | else-is_infix w ↦ first_false (is_infix x) (nat_le c.args.m (prec x) && nat_le (need x) c.args.tight) c.if-is_infix.value
          (ap is_infix (sym c.terminal-x.ensures) ∙ sym c.is_infix.ensures ∙ w.if-is_infix.false) c.if-m-prec_of.false
    ]
