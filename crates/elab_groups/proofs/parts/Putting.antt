-- Trees and matches at types, one after another.
use Rattle.std.proofs.Common.{◌≡◌, ℕ, suc, ◌<◌, List, [], ◌∷◌, ◌++◌, map, length, get_or, ap, subst, ◌∙◌, append_assoc, arith}
use Rattle.std.specs.List.{All}
use Rattle.std.proofs.lemmas.List.{map-append}
use Rattle.std.proofs.lemmas.List.Elements.{All-append, All-cons, All-nil}
use Rattle.tasks.specs.trees.declared.TermId.{TermId}
use Rattle.tasks.specs.trees.Tree.{Tree}
use Rattle.tasks.specs.trees.Node.{tree_at, Holds, Grows}
use Rattle.tasks.specs.trees.Binding.{inst_types}
use Rattle.tasks.proofs.trees.Nodes.{tree_at-grows}
use Rattle.tasks.specs.Meaning.{trees_at}
use Rattle.open_types.specs.declared.draft.MatchAt.{MatchAt}
use Rattle.open_types.specs.Drafts.{HoldsType, MatchHeld, match_at, instances}
use Rattle.open_types.proofs.Growing.{held_grows, types_stay}
use Rattle.elab_groups.specs.parts.Values.{match_instance}
use Rattle.tasks.proofs.Growth.{map_agree as map_same}

module _ (s s' : List Tree) (g : Grows s s') where
  pub trees_stay : (ids : List TermId) → All (Holds s) ids → trees_at s' ids ≡ trees_at s ids
  trees_stay ids h = map_same (tree_at s') (tree_at s) ids (λ k e l. tree_at-grows s s' _ g (h k e l))

  pub all_held : (ids : List TermId) → All (Holds s) ids → All (Holds s') ids
  all_held ids h = λ k e l. held_grows s s' g _ (h k e l)

  pub match_grows : (m : MatchAt) → MatchHeld s m → MatchHeld s' m
  match_grows m h = all_held m.patterns h

  pub matches_grow : (ms : List MatchAt) → All (MatchHeld s) ms → All (MatchHeld s') ms
  matches_grow ms h = λ k e l. match_grows (get_or ms k e) (h k e l)

  match_stays : (m : MatchAt) → MatchHeld s m → match_at s' m ≡ match_at s m
  match_stays m h = cc (trees_stay m.patterns h)

  pub matches_stay : (ms : List MatchAt) → All (MatchHeld s) ms → map (match_at s') ms ≡ map (match_at s) ms
  matches_stay ms h = map_same (match_at s') (match_at s) ms (λ k e l. match_stays _ (h k e l))

-- one more after those that are held
pub held_more : (s s' : List Tree) → Grows s s' → (ids : List TermId) (x : TermId) → All (Holds s) ids → Holds s' x → All (Holds s') (ids ++ x ∷ [])
held_more s s' g ids x h k = All-append (Holds s') ids (x ∷ []) (all_held s s' g ids h) (All-cons (Holds s') x [] k (All-nil (Holds s')))

pub matches_more : (s s' : List Tree) → Grows s s' → (ms : List MatchAt) (m : MatchAt) → All (MatchHeld s) ms → MatchHeld s' m → All (MatchHeld s') (ms ++ m ∷ [])
matches_more s s' g ms m h k = All-append (MatchHeld s') ms (m ∷ []) (matches_grow s s' g ms h) (All-cons (MatchHeld s') m [] k (All-nil (MatchHeld s')))

-- the first of those that are to be put in, and the others after it
pub put_step : (s s1 s2 : List Tree) → Grows s s1 → (them : List TermId) (x id : TermId) (rest types new : List TermId) → All (Holds s) them → All (Holds s) rest → All (HoldsType s) types
    → tree_at s1 id ≡ inst_types (tree_at s x) (trees_at s types)
    → trees_at s2 new ≡ trees_at s1 (them ++ id ∷ []) ++ instances (trees_at s1 types) (trees_at s1 rest)
    → trees_at s2 new ≡ trees_at s them ++ instances (trees_at s types) (trees_at s (x ∷ rest))
put_step s s1 s2 g them x id rest types new h k t e q =
    let a : trees_at s1 (them ++ id ∷ []) ≡ trees_at s them ++ tree_at s1 id ∷ [] = map-append (tree_at s1) them (id ∷ []) ∙ ap (λ (xs : List Tree). xs ++ tree_at s1 id ∷ []) (trees_stay s s1 g them h) in
    q ∙ (rw (a, types_stay s s1 g types t, trees_stay s s1 g rest k, e) (append_assoc (trees_at s them) (inst_types (tree_at s x) (trees_at s types) ∷ []) (instances (trees_at s types) (trees_at s rest))))

pub match_step : (s s1 s2 : List Tree) → Grows s s1 → (them : List MatchAt) (x one : MatchAt) (rest new : List MatchAt) (types : List TermId) → All (MatchHeld s) them → All (MatchHeld s) rest → All (HoldsType s) types
    → match_at s1 one ≡ match_instance (trees_at s types) (match_at s x)
    → map (match_at s2) new ≡ map (match_at s1) (them ++ one ∷ []) ++ map (match_instance (trees_at s1 types)) (map (match_at s1) rest)
    → map (match_at s2) new ≡ map (match_at s) them ++ map (match_instance (trees_at s types)) (map (match_at s) (x ∷ rest))
match_step s s1 s2 g them x one rest new types h k t e q =
    let a : map (match_at s1) (them ++ one ∷ []) ≡ map (match_at s) them ++ match_at s1 one ∷ [] = map-append (match_at s1) them (one ∷ []) ∙ ap (λ (xs : List (ℕ × List Tree)). xs ++ match_at s1 one ∷ []) (matches_stay s s1 g them h) in
    q ∙ (rw (a, types_stay s s1 g types t, matches_stay s s1 g rest k, e) (append_assoc (map (match_at s) them) (match_instance (trees_at s types) (match_at s x) ∷ []) (map (match_instance (trees_at s types)) (map (match_at s) rest))))

-- what holds of each of some holds of the first and of the others
pub all_first : {A : Type 0} (P : A → Type 0) (xs : List A) (y : A) (ys : List A) → xs ≡ y ∷ ys → All P xs → P y
all_first P xs y ys e h = (subst (All P) e h) 0 y (let m : 0 < length (y ∷ ys) = omega arith in m)

pub all_rest : {A : Type 0} (P : A → Type 0) (xs : List A) (y : A) (ys : List A) → xs ≡ y ∷ ys → All P xs → All P ys
all_rest P xs y ys e h = λ k d l. (subst (All P) e h) (suc k) d (let m : suc k < length (y ∷ ys) = omega arith in m)
