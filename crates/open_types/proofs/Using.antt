-- Uses of symbols at unknowns.
use Rattle.std.proofs.Common.{◌≡◌, ℕ, ◌+◌, ◌<◌, List, [], ◌∷◌, ◌++◌, take, replicate, length, get_or, Option, refl, sym, ap, ◌∙◌, append-nil}
use Rattle.std.specs.List.{All}
use Rattle.std.proofs.lemmas.List.{take_more}
use Rattle.trees.specs.declared.TermId.{TermId}
use Rattle.trees.specs.Tree.{Tree}
use Rattle.trees.specs.Node.{tree_at, Grows}
use Rattle.trees.specs.Binding.{inst_types}
use Rattle.tasks.specs.Task.{SymbolTree}
use Rattle.tasks.specs.Meaning.{trees_at}
use Rattle.open_types.specs.declared.draft.Constraints.{Constraints}
use Rattle.open_types.specs.Patterns.{noted, follow, at_unknowns, result_or_int}
use Rattle.open_types.specs.Pieces.{wanting}
use Rattle.open_types.specs.Drafts.{HoldsType, IsReady, IsMade, IsNoted, IsTaken, IsBegun, instances}
use Rattle.open_types.proofs.Growing.{type_stays, types_stay, types_grow, notes_stay}
use Rattle.open_types.proofs.Noting.{more_noted, noted_as, noted_before}
use Rattle.open_types.proofs.Taking.{mapped_more}

-- a node over a store that grew, told by what the draft was
pub made_after : {s s1 s2 : List Tree} {d : Constraints} {e : Tree} {id : TermId} → Grows s s1 → IsReady s d → IsMade s1 d s2 e id → (e' : Tree) → e ≡ e' → IsMade s d s2 e' id
made_after {s} {s1} {d = d} g r m e' q = record { held = m.held; tree = m.tree ∙ q; notes = m.notes ∙ notes_stay s s1 g d r; ready = m.ready }

pub begun_use : {s s1 s2 : List Tree} {d d1 d2 : Constraints} {token : ℕ} (e : SymbolTree) {ids : List TermId} (ty : TermId) (t t2 : Option Tree)
    → IsTaken s d s1 d1 token e.vars ids → Grows s1 s2 → IsNoted s2 d1 s2 d2 (noted (wanting (tree_at s2 ty) t2) [])
    → tree_at s2 ty ≡ at_unknowns (length d.takers) e (result_or_int e.result) → t2 ≡ t → IsBegun s d s2 d2 token e t ids
begun_use {s} {s1} {s2} {d} {d1} {token = token} e {ids} ty t t2 a g n h o =
    let whole = more_noted (noted_before a.noted g) n in
    let same : follow (noted [] (replicate e.vars token)) (noted (wanting (tree_at s2 ty) t2) []) ≡ noted (wanting (at_unknowns (length d.takers) e (result_or_int e.result)) t) (replicate e.vars token) = cc (h, o, append-nil (replicate e.vars token)) in
    record { held = types_grow s1 s2 g ids a.held; trees = types_stay s1 s2 g ids a.held ∙ a.trees; noted = noted_as whole _ same }

-- a type put in after others
pub put_more : (s s1 s2 : List Tree) → Grows s s1 → Grows s1 s2 → (types : List TermId) → All (HoldsType s) types → (args ids : List TermId) (i : ℕ) (d x : TermId)
    → All (HoldsType s) args → i < length args → All (HoldsType s1) ids → trees_at s1 ids ≡ instances (trees_at s types) (trees_at s (take i args))
    → tree_at s2 x ≡ inst_types (tree_at s1 (get_or args i d)) (trees_at s1 types) → trees_at s2 (ids ++ x ∷ []) ≡ instances (trees_at s types) (trees_at s (take (i + 1) args))
put_more s s1 s2 g h types ht args ids i d x ha l hi e q =
    let a : tree_at s1 (get_or args i d) ≡ tree_at s (get_or args i d) = type_stays s s1 g (get_or args i d) (ha i d l) in
    let b : tree_at s2 x ≡ inst_types (tree_at s (get_or args i d)) (trees_at s types) = q ∙ (rw (a, types_stay s s1 g types ht) refl) in
    let more : trees_at s (take (i + 1) args) ≡ trees_at s (take i args) ++ tree_at s (get_or args i d) ∷ [] = ap (trees_at s) (take_more args i d l) ∙ mapped_more s (take i args) (get_or args i d) in
    mapped_more s2 ids x ∙ (rw (types_stay s1 s2 h ids hi, e, b, more) (sym (put_last (trees_at s types) (trees_at s (take i args)) (tree_at s (get_or args i d)))))
  where
    put_last : (ts xs : List Tree) (y : Tree) → instances ts (xs ++ y ∷ []) ≡ instances ts xs ++ inst_types y ts ∷ []
    put_last ts [] y = refl
    put_last ts (z ∷ zs) y = ap (λ (r : List Tree). inst_types z ts ∷ r) (put_last ts zs y)
