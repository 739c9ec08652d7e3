-- Two maps that agree on what becomes of symbols below a number: a trial map, under which all types
-- that aren't replaced are new, and the map of a clone.
use Rattle.std.specs.Prelude.{◌≡◌, ℕ, ◌<◌, None}
use Rattle.clones.specs.Mapped.{Map}

-- they replace the same type symbols, and a symbol that stays one below the number becomes the same
pub record AgreeOn (n : ℕ) (m m' : Map) : Type 0 where
  pub types : (k : ℕ) → m.types k ≡ m'.types k
  pub symbols : (k : ℕ) → m.types k ≡ None → m.symbols k < n → m.symbols k ≡ m'.symbols k
