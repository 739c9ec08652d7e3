-- What is read of lists in code, in trees, and of a map without entries.
use Rattle.std.proofs.Common.{◌≡◌, ℕ, zero, suc, List, [], ◌∷◌, map, get_or, slice_get, Some, ap, nat_eq}
use Rattle.std.specs.Map.{lookup}
use Rattle.indexmap.specs.IndexMap.{IndexMap}
use Rattle.clones.specs.declared.clone_elements.replacements.Effect.{Effect}
use Rattle.clones.specs.clone_elements.Replacements.{no_effects}
use Rattle.clones.specs.clone_elements.Meaning.{effects_at}
pub use Rattle.open_types.proofs.Held.{symbol_held as typed_held}
pub use Rattle.open_types.proofs.Held.{result_held}

pub got_some : {X Y : Type 0} (f : X → Y) (xs : List X) (k : ℕ) (x : X) (z : Y) → slice_get xs k ≡ Some x → get_or (map f xs) k z ≡ f x
got_some f [] k x z h = absurd (cc)
got_some f (y ∷ ys) zero x z h = cc
got_some f (y ∷ ys) (suc k) x z h = got_some f ys k x z h

pub first_is : {X Y : Type 0} (f : X → Y) (xs : List X) (d : X) (y : Y) → slice_get (map f xs) 0 ≡ Some y → f (get_or xs 0 d) ≡ y
first_is f [] d y h = absurd (cc)
first_is f (x ∷ xs) d y h = cc

pub empty_effects : {S : Type 0} (m : IndexMap ℕ Effect S) → m.entries ≡ [] → effects_at m ≡ no_effects
empty_effects m e = λ i q. ap (lookup (nat_eq q)) e i
