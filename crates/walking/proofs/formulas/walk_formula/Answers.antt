use Rattle.std.proofs.Common.{ℕ, [], sym, subst}
use Rattle.walking.specs.Places.{IsInstanceAt}
use Rattle.walking.proofs.Closed.{closed_place}
use Rattle.walking.proofs.formulas.walk_formula.Goals as goal

pub walk-requires-clause-place : goal.walk-requires-clause-place
walk-requires-clause-place g c =
    let d = c.args.draft.now in
    subst (λ (n : ℕ). IsInstanceAt d [] c.args.formula c.args.formula n) (sym c.parameter_count-number.ensures) (closed_place d c.args.formula c.requires.formula c.requires.own)
