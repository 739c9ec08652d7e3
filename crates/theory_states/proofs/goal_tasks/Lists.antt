-- Lists that are gone through, one step on.
use Rattle.std.proofs.Common.{◌≡◌, ℕ, ◌<◌, ◌+◌, List, [], ◌∷◌, ◌++◌, map, length, get_or, take, ap, ◌∙◌}
use Rattle.std.specs.List.{flat_map}
use Rattle.std.proofs.lemmas.List.{append-nil, map-append, map_more, take_more}
use Rattle.std.proofs.lemmas.List.Concat.{flat_map-append}
use Rattle.trees.specs.Tree.{Tree}
use Rattle.theory_states.specs.goal_tasks.Gathered.{Walks}
use Rattle.theory_states.proofs.goal_tasks.Steps.{walks_then}
use Rattle.tasks.proofs.plain_laws.Lists.{flat_more}

pub walks_step : (s : List Tree) (a b c d e old one new : List ℕ) → new ≡ old ++ one → Walks s a b d old → Walks s b c e one → Walks s a c e new
walks_step s a b c d e old one new q h k = rw q (walks_then s a b c d e old one h k)

pub flat_more_each : {X Y Z A : Type 0} (f : Z → List A) (g : Y → Z) (h : X → Y) (xs : List X) (i : ℕ) (d : X) → i < length xs → flat_map f (map g (map h (take (i + 1) xs))) ≡ flat_map f (map g (map h (take i xs))) ++ f (g (h (get_or xs i d)))
flat_more_each f g h xs i d l =
    let y = h (get_or xs i d) in
    let ys = map h (take i xs) in
    ap (λ z. flat_map f (map g z)) (map_more h xs i d l) ∙ ap (flat_map f) (map-append g ys (y ∷ [])) ∙ flat_map-append f (map g ys) (g y ∷ []) ∙ ap (λ z. flat_map f (map g ys) ++ z) (append-nil (f (g y)))

pub flat_more_all : {X Y Z A : Type 0} (f : Z → List A) (g : Y → List Z) (h : X → Y) (xs : List X) (i : ℕ) (d : X) → i < length xs → flat_map f (flat_map g (map h (take (i + 1) xs))) ≡ flat_map f (flat_map g (map h (take i xs))) ++ flat_map f (g (h (get_or xs i d)))
flat_more_all f g h xs i d l = ap (flat_map f) (flat_more g h xs i d l) ∙ flat_map-append f (flat_map g (map h (take i xs))) (g (h (get_or xs i d)))
