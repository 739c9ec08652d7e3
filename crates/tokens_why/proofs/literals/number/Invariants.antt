use Rattle.tokens_why.proofs.Common.{◌≡◌, ◌≤◌, drop, digits_value, greatest}
use Rattle.tokens_why.proofs.literals.number.Given as goal

abbrev pub invariant-loop-byte : goal.invariant-loop-byte
invariant-loop-byte l = record {
  small : l.number ≤ greatest;
  same : digits_value l.radix 0 l.digits ≡ digits_value l.radix l.number (drop l.byte-index l.digits);
}
