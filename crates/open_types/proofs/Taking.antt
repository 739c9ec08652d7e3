-- Unknowns, one after another.
use Rattle.std.proofs.Common.{◌≡◌, ℕ, ◌+◌, List, [], ◌∷◌, ◌++◌, replicate, length, zero, suc, refl, sym, ap, ◌∙◌, arith, add-one}
use Rattle.std.proofs.lemmas.List.Elements.{All-nil}
use Rattle.trees.specs.declared.TermId.{TermId}
use Rattle.trees.specs.Tree.{Tree, Leaf, HTyVar}
use Rattle.trees.specs.Node.{tree_at, Grows}
use Rattle.tasks.specs.Meaning.{trees_at}
use Rattle.tasks.specs.Equations.{type_variables}
use Rattle.open_types.specs.declared.draft.Constraints.{Constraints}
use Rattle.open_types.specs.Patterns.{noted}
use Rattle.open_types.specs.Drafts.{HoldsType, IsReady, IsNoted, IsTaken}
use Rattle.open_types.proofs.Growing.{types_stay, types_more}
use Rattle.open_types.proofs.Noting.{nothing_noted, more_noted, noted_as, next, count_replicate}

pub variables_more : (n k : ℕ) → type_variables n (suc k) ≡ type_variables n k ++ Leaf (HTyVar (n + k)) ∷ []
variables_more n zero = ap (λ (m : ℕ). Leaf (HTyVar m) ∷ []) (let e : n ≡ n + 0 = omega arith in e)
variables_more n (suc k) =
    let e : n + 1 + k ≡ n + suc k = omega arith in
    ap (λ (ts : List Tree). Leaf (HTyVar n) ∷ ts) (variables_more (n + 1) k ∙ ap (λ (m : ℕ). type_variables (n + 1) k ++ Leaf (HTyVar m) ∷ []) e)

replicate_more : (k x : ℕ) → replicate k x ++ x ∷ [] ≡ replicate (suc k) x
replicate_more zero x = refl
replicate_more (suc k) x = ap (λ (xs : List ℕ). x ∷ xs) (replicate_more k x)

pub mapped_more : (s : List Tree) (ids : List TermId) (x : TermId) → trees_at s (ids ++ x ∷ []) ≡ trees_at s ids ++ tree_at s x ∷ []
mapped_more s [] x = refl
mapped_more s (id ∷ ids) x = ap (λ (ts : List Tree). tree_at s id ∷ ts) (mapped_more s ids x)

pub taken_none : (s : List Tree) (d : Constraints) (token : ℕ) → IsReady s d → IsTaken s d s d token 0 []
taken_none s d token r = record { held = All-nil (HoldsType s); trees = refl; noted = nothing_noted s d r }

pub taken_more : (s : List Tree) (d : Constraints) (s1 : List Tree) (d1 : Constraints) (token k : ℕ) (ids : List TermId) → IsTaken s d s1 d1 token k ids
    → (s2 : List Tree) (d2 : Constraints) (x : TermId) → Grows s1 s2 → HoldsType s2 x → tree_at s2 x ≡ Leaf (HTyVar (length d1.takers)) → IsNoted s1 d1 s2 d2 (noted [] (token ∷ []))
    → IsTaken s d s2 d2 token (k + 1) (ids ++ x ∷ [])
taken_more s d s1 d1 token k ids t s2 d2 x g h e n =
    let l : length d1.takers ≡ length d.takers + k = next t.noted ∙ ap (λ (m : ℕ). length d.takers + m) (count_replicate k token) in
    record {
      held = types_more s1 s2 g ids x t.held h;
      trees = mapped_more s2 ids x ∙ (rw (types_stay s1 s2 g ids t.held, t.trees, e, l, add-one) (sym (variables_more (length d.takers) k)));
      noted = rw (add-one) (noted_as (more_noted t.noted n) (noted [] (replicate (suc k) token)) (ap (noted []) (replicate_more k token)));
    }
