-- The types of type variables, one after another.
use Rattle.std.proofs.Common.{◌≡◌, ℕ, ◌+◌, ◌-◌, ◌<◌, ◌≤◌, List, [], ◌∷◌, ◌++◌, length, get_or, slice_get, Some, None, refl, ap, ◌∙◌, arith, below_more, length-append}
use Rattle.std.proofs.Math.ListN.{get_or-append}
use Rattle.std.proofs.lemmas.List.{get_or-append_right}
use Rattle.std.proofs.lemmas.List.Elements.{All-nil}
use Rattle.tasks.specs.trees.declared.TermId.{TermId}
use Rattle.tasks.specs.trees.Tree.{Tree}
use Rattle.tasks.specs.trees.Node.{Grows}
use Rattle.tasks.proofs.trees.Nodes.{tree_at-grows}
use Rattle.open_types.specs.unify_types.Value.{value_of}
use Rattle.open_types.specs.declared.unify_types.Solution.{Solution}
use Rattle.open_types.specs.Drafts.{HoldsType}
use Rattle.open_types.proofs.Growing.{types_more}
use Rattle.elab_groups.specs.declared.parts.solution.TypingFault.TheVariants.{Undetermined}
use Rattle.elab_groups.specs.parts.Values.{IsValueAt, AreSolutionValues, IsFirstOpen}

value_grows : (s s' : List Tree) → Grows s s' → (r : ℕ) (sol : Solution) (i : ℕ) (id : TermId) → HoldsType s id → IsValueAt s r sol i id → IsValueAt s' r sol i id
value_grows s s' g r sol i id h v = record { own = λ l. tree_at-grows s s' id g h.held ∙ v.own l; value = v.value }

pub values_none : (s : List Tree) (r : ℕ) (sol : Solution) → AreSolutionValues s r sol 0 []
values_none s r sol = record { count = refl; held = All-nil (HoldsType s); values = λ i d l. absurd (omega arith) }

old_value : (s s' : List Tree) → Grows s s' → (r : ℕ) (sol : Solution) (n : ℕ) (ids : List TermId) → AreSolutionValues s r sol n ids → (x : TermId) (i : ℕ) (d : TermId) → i < n → IsValueAt s' r sol i (get_or (ids ++ x ∷ []) i d)
old_value s s' g r sol n ids a x i d l =
    let m : i < length ids = omega (arith, a.count) in
    rw (get_or-append ids (x ∷ []) d i m) (value_grows s s' g r sol i (get_or ids i d) (a.held i d m) (a.values i d l))

new_value : (s' : List Tree) (r : ℕ) (sol : Solution) (n : ℕ) (ids : List TermId) → length ids ≡ n → (x : TermId) (d : TermId) → IsValueAt s' r sol n x → IsValueAt s' r sol n (get_or (ids ++ x ∷ []) n d)
new_value s' r sol n ids l x d v =
    let z : n ≤ n = omega arith in
    let e : get_or (ids ++ x ∷ []) n d ≡ get_or (x ∷ []) (n - n) d = get_or-append_right ids (x ∷ []) n n d l z in
    let k : n - n ≡ 0 = omega arith in
    rw (e, k) v

pub values_more : (s s' : List Tree) → Grows s s' → (r : ℕ) (sol : Solution) (n : ℕ) (ids : List TermId) → AreSolutionValues s r sol n ids → (x : TermId) → HoldsType s' x → IsValueAt s' r sol n x → AreSolutionValues s' r sol (n + 1) (ids ++ x ∷ [])
values_more s s' g r sol n ids a x h v = record {
  count = length-append ids (x ∷ []) ∙ ap (λ k. k + 1) a.count;
  held = types_more s s' g ids x a.held h;
  values = λ i d l. (below_more (λ j. IsValueAt s' r sol j (get_or (ids ++ x ∷ []) j d)) n (λ j m. old_value s s' g r sol n ids a x j d m) (new_value s' r sol n ids a.count x d v)) i l;
}

pub first_open : (s : List Tree) (r : ℕ) (sol : Solution) (n : ℕ) (ids : List TermId) (takers : List ℕ) (token : ℕ) → AreSolutionValues s r sol n ids → r ≤ n → value_of sol n ≡ None → slice_get takers n ≡ Some token → IsFirstOpen r sol takers (Undetermined token)
first_open s r sol n ids takers token a l v t = (n, l, t, v, λ j m k. (get_or ids j (record { 0 = 0 }), (a.values j (record { 0 = 0 }) k).value m))
