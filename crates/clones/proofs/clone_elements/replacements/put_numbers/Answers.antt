use Rattle.std.proofs.Common.{◌+◌, ℕ, List, drop, sym, ap, ◌∙◌, arith}
use Rattle.std.proofs.lemmas.List.{at_drop_more}
use Rattle.clones.specs.Meaning.{map_at}
use Rattle.clones.specs.clone_elements.Replacements.{with_numbers}
use Rattle.clones.proofs.clone_elements.replacements.put_numbers.Goals as goal
use Rattle.tasks.proofs.outside.Passed.{no_ok}

pub loop-symbol-preserved : goal.loop-symbol-preserved
loop-symbol-preserved c =
    let xs = c.args.others.now in
    let i = c.loop-symbol.symbol-index in
    let n = c.loop-symbol.number in
    let inv = c.loop-symbol.invariant in
    record {
      number = omega (arith, inv.number, c.in-Some.ensures.1);
      is = λ s. ap (λ (k : ℕ). with_numbers k (drop (i + 1) xs) (map_at s c.put_symbol.new.morphism)) c.in-Some.ensures.1 ∙ (ap (with_numbers (n + 1) (drop (i + 1) xs)) (c.in_ok-put_symbol.ensures.is s)
          ∙ (sym (at_drop_more (λ (ys : List ℕ). with_numbers n ys (map_at s c.loop-symbol.morphism)) xs i 0 c.loop-symbol-test.true) ∙ inv.is s));
      held = λ s h. c.put_symbol.ensures.held s (inv.held s h);
    }

pub returns-in_err-put_symbol-clause-is : goal.returns-in_err-put_symbol-clause-is
returns-in_err-put_symbol-clause-is c = no_ok _ _ c.from_residual.result c.from_residual.ensures.1

pub returns-in_err-put_symbol-clause-held : goal.returns-in_err-put_symbol-clause-held
returns-in_err-put_symbol-clause-held c = no_ok _ _ c.from_residual.result c.from_residual.ensures.1
