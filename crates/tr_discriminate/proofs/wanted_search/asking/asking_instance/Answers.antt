use Rattle.std.proofs.Common.{ℕ, nat_eq, sym, subst}
use Rattle.std.proofs.lemmas.List.Elements.{All-filter}
use Rattle.name_tables.specs.Seen.{KeyHeld, KeysHeld}
use Rattle.tr_discriminate.proofs.wanted_search.asking.asking_instance.Goals as goal

pub returns-clause-instance : goal.returns-clause-instance
returns-clause-instance c =
    let s = c.args.store.now in
    record {
      held = c.requires.held;
      candidates_held = subst (KeysHeld s) (sym c.in_ok-candidates.ensures) (All-filter (λ (k : ℕ × ℕ). nat_eq c.args.key.0 k.0) (KeyHeld s) c.args.set.now c.requires.set_held);
      inside = c.in_ok-inside.ensures;
    }
