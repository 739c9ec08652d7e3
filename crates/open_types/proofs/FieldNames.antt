-- The variables of a record's patterns are those that are written, each as often.
use Rattle.std.proofs.Common.{◌≡◌, ℕ, ◌+◌, ◌<◌, zero, suc, Bool, true, false, List, [], ◌∷◌, map, replicate, length, get_or, slice_set, refl, ap, ◌∙◌, arith}
use Rattle.trees.specs.Tree.{Tree}
use Rattle.surface.specs.Lexeme.{Word}
use Rattle.name_resolution.specs.Records.{put_at_places}
use Rattle.name_resolution.proofs.SameNames.{occurrences, occurs_both}
use Rattle.name_resolution.proofs.Fielded.{AreNewPlaces}
use Rattle.open_types.specs.Patterns.{LocalTree, PatternTree, side_by_side_trees, wildcard_tree, fields_tree}
use Rattle.open_types.specs.Pieces.{names}
use Rattle.open_types.proofs.Arguments.{names_both}

-- how often patterns side by side bind a name
abbrev pub bound_by : Word → List PatternTree → ℕ
bound_by x ps = occurrences x (names (side_by_side_trees ps).variables)

pub bound_beside : (x : Word) (p : PatternTree) (ps : List PatternTree) → bound_by x (p ∷ ps) ≡ occurrences x (names p.variables) + bound_by x ps
bound_beside x p ps = ap (occurrences x) (names_both p.variables (side_by_side_trees ps).variables) ∙ occurs_both x (names p.variables) (names (side_by_side_trees ps).variables)

-- where no field is named no variable is
abbrev pub AreFree : List Bool → List PatternTree → Type 0
AreFree [] [] = Unit {0}
AreFree (b ∷ bs) (p ∷ ps) = (b ≡ false → p.variables ≡ []) × AreFree bs ps
AreFree [] (p ∷ ps) = ⊥
AreFree (b ∷ bs) [] = ⊥

set_bound : (x : Word) (bs : List Bool) (slots : List PatternTree) (place : ℕ) (p : PatternTree) → AreFree bs slots → place < length bs → get_or bs place false ≡ false
    → bound_by x (slice_set slots place p) ≡ occurrences x (names p.variables) + bound_by x slots
set_bound x [] slots place p f l n = absurd (omega (arith, l))
set_bound x (b ∷ bs) [] place p f l n = absurd f
set_bound x (b ∷ bs) (s ∷ ss) zero p f l n =
    let e : occurrences x (names s.variables) ≡ 0 = ap (λ (v : List LocalTree). occurrences x (names v)) (f.0 n) in
    omega (arith, bound_beside x p ss, bound_beside x s ss, e)
set_bound x (b ∷ bs) (s ∷ ss) (suc place) p f l n =
    let k = set_bound x bs ss place p f.1 (omega (arith, l)) n in
    omega (arith, bound_beside x s (slice_set ss place p), bound_beside x s ss, k)

set_free : (bs : List Bool) (slots : List PatternTree) (place : ℕ) (p : PatternTree) → AreFree bs slots → AreFree (slice_set bs place true) (slice_set slots place p)
set_free [] [] place p f = tt
set_free [] (s ∷ ss) place p f = absurd f
set_free (b ∷ bs) [] place p f = absurd f
set_free (b ∷ bs) (s ∷ ss) zero p f = (λ e. absurd (cc (e)), f.1)
set_free (b ∷ bs) (s ∷ ss) (suc place) p f = (f.0, set_free bs ss place p f.1)

put_bound : (x : Word) (places : List ℕ) (bs : List Bool) (ps slots : List PatternTree) → AreFree bs slots → AreNewPlaces bs places → length places ≡ length ps → bound_by x (put_at_places places ps slots) ≡ bound_by x ps + bound_by x slots
put_bound x [] bs [] slots f n l = omega arith
put_bound x [] bs (p ∷ ps) slots f n l = absurd (cc (l))
put_bound x (i ∷ places) bs [] slots f n l = absurd (cc (l))
put_bound x (i ∷ places) bs (p ∷ ps) slots f n l =
    let k = put_bound x places (slice_set bs i true) ps (slice_set slots i p) (set_free bs slots i p f) n.2 (let m : length places ≡ length ps = omega (arith, l) in m) in
    let m = set_bound x bs slots i p f n.0 n.1 in
    omega (arith, k, m, bound_beside x p ps)

wildcards_bound : (x : Word) (ts : List Tree) → bound_by x (map wildcard_tree ts) ≡ 0
wildcards_bound x [] = refl
wildcards_bound x (t ∷ ts) = wildcards_bound x ts

wildcards_free : (ts : List Tree) → AreFree (replicate (length ts) false) (map wildcard_tree ts)
wildcards_free [] = tt
wildcards_free (t ∷ ts) = (λ e. refl, wildcards_free ts)

pub fields_bound : (x : Word) (places : List ℕ) (ts : List Tree) (ps : List PatternTree) → AreNewPlaces (replicate (length ts) false) places → length places ≡ length ps → occurrences x (names (fields_tree places ts ps).variables) ≡ bound_by x ps
fields_bound x places ts ps n l =
    let k = put_bound x places (replicate (length ts) false) ps (map wildcard_tree ts) (wildcards_free ts) n l in
    let z = wildcards_bound x ts in
    omega (arith, k, z)
