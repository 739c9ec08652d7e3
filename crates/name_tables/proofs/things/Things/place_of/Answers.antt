use Rattle.std.proofs.Common.{◌≡◌, ℕ, List, ap, subst, ◌∙◌}
use Rattle.std.specs.List.{position_or_len}
use Rattle.name_tables.proofs.Keys.{same_key, key_place, place_found, place_missing}
use Rattle.name_tables.proofs.things.Things.place_of.Goals as goal

pub returns-in-Some : goal.returns-in-Some
returns-in-Some c =
    let key : ℕ × ℕ = (c.args.symbol, c.args.types.0) in
    let keys = c.self.inside.keys.keys in
    place_found (same_key key) keys c.in-Some.place c.in-Some.ensures.index ∙ ap (λ (z : List (ℕ × ℕ)). position_or_len (same_key key) z) c.self.view_is
    ∙ key_place c.args.store.now c.laws.ensures.apart c.args.self.now key c.requires.held c.requires.things_held

pub returns-in-None : goal.returns-in-None
returns-in-None c =
    let key : ℕ × ℕ = (c.args.symbol, c.args.types.0) in
    let keys = c.self.inside.keys.keys in
    c.len.ensures.len ∙ place_missing (same_key key) keys c.in-None.ensures.index ∙ ap (λ (z : List (ℕ × ℕ)). position_or_len (same_key key) z) c.self.view_is
    ∙ key_place c.args.store.now c.laws.ensures.apart c.args.self.now key c.requires.held c.requires.things_held
