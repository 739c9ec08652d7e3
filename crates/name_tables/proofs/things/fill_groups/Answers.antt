use Rattle.std.proofs.Common.{◌≡◌, ℕ, List, [], ◌∷◌, ◌++◌, get_or, All, sym, ap, subst, ◌∙◌, arith, rules}
use Rattle.std.proofs.lemmas.List.Elements.{All-nil, All-push}
use Rattle.name_tables.specs.Seen.{KeyHeld, KeysHeld}
use Rattle.name_tables.proofs.Grouped.{filled_more}
use Rattle.name_tables.proofs.things.fill_groups.Goals as goal

pub filling-preserved : goal.filling-preserved
filling-preserved c =
    let old = c.filling.groups.items in
    let e : c.push.new.self.items ≡ old ++ [] ∷ [] = search rules in (
      λ s a. subst (λ (z : List (List (ℕ × ℕ))). All (KeysHeld s) z) (sym e) (All-push (KeysHeld s) old [] (c.filling.invariant.0 s a) (All-nil (KeyHeld s))),
      λ k. ap (λ (z : List (List (ℕ × ℕ))). get_or z k []) e ∙ filled_more old k ∙ c.filling.invariant.1 k,
    )

pub returns : goal.returns
returns c = record { within = omega arith; held = c.filling.invariant.0; same = c.filling.invariant.1 }
