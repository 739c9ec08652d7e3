-- Type equations determine what is made at their solutions, and have one first fault.
use Rattle.std.proofs.Common.{◌≡◌, ◌≢◌, ℕ, zero, suc, ◌+◌, ◌<◌, ◌≤◌, List, [], ◌∷◌, take, slice_get, Some, refl, sym, ap, subst, ◌∙◌, arith, ◌⊎◌, inl, inr}
use Rattle.std.proofs.lemmas.Bool.{cases_order}
use Rattle.std.proofs.lemmas.Option.{slice_get_within}
use Rattle.tasks.specs.trees.Tree.{Tree}
use Rattle.elaboration_laws.specs.open_types.unify_types.Pairs.{SolvesAll, IsSolution, IsSolvable, IsUnsolvable}
use Rattle.elaboration_laws.specs.open_types.Patterns.{Notes}
use Rattle.elaboration_laws.specs.open_types.Pieces.{NotedTree}
use Rattle.elaboration_laws.specs.elab_groups.declared.parts.solution.TypingFault.{TypingFault}
use Rattle.elaboration_laws.specs.elab_groups.declared.parts.solution.TypingFault.TheVariants.{Memory, Clash, Undetermined}
use Rattle.elaboration_laws.specs.elab_groups.parts.Elaborated.{IsDetermined, AreMatches, IsSolved, IsTypingFault}
use Rattle.elaboration_laws.specs.elab_groups.Groups.{AreSolved}

-- ---- what is made
one_matches : (rigid : ℕ) (ns : Notes) (ms other : List (ℕ × List Tree)) → IsDetermined rigid ns → AreMatches rigid ns ms → AreMatches rigid ns other → ms ≡ other
one_matches rigid ns ms other d a b = sym (a d.solvable.0 d.solvable.1) ∙ b d.solvable.0 d.solvable.1

pub one_tree : (rigid : ℕ) (p : NotedTree) (e f : Tree) (ms other : List (ℕ × List Tree)) → IsSolved rigid p e ms → IsSolved rigid p f other → (e ≡ f) × (ms ≡ other)
one_tree rigid p e f ms other a b =
    let d : IsDetermined rigid p.notes = a.determined in
    (sym (a.tree d.solvable.0 d.solvable.1) ∙ b.tree d.solvable.0 d.solvable.1, one_matches rigid p.notes ms other d a.matches b.matches)

pub one_trees : (rigid : ℕ) (ns : Notes) (open_ es fs : List Tree) (ms other : List (ℕ × List Tree)) → AreSolved rigid ns open_ es ms → AreSolved rigid ns open_ fs other → (es ≡ fs) × (ms ≡ other)
one_trees rigid ns open_ es fs ms other a b =
    let d : IsDetermined rigid ns = a.determined in
    (sym (a.trees_are d.solvable.0 d.solvable.1) ∙ b.trees_are d.solvable.0 d.solvable.1, one_matches rigid ns ms other d a.matches b.matches)

-- ---- the first fault
solves_fewer : (rigid : ℕ) (f : ℕ → Tree) (es : List (Tree × Tree)) (i j : ℕ) → i ≤ j → SolvesAll rigid f (take j es) → SolvesAll rigid f (take i es)
solves_fewer rigid f es zero j l h = tt
solves_fewer rigid f [] (suc i) j l h = tt
solves_fewer rigid f (e ∷ es) (suc i) zero l h = absurd (omega arith)
solves_fewer rigid f (e ∷ es) (suc i) (suc j) l h = (h.0, solves_fewer rigid f es i j (omega arith) h.1)

solves_front : (rigid : ℕ) (f : ℕ → Tree) (es : List (Tree × Tree)) (i : ℕ) → SolvesAll rigid f es → SolvesAll rigid f (take i es)
solves_front rigid f es zero h = tt
solves_front rigid f [] (suc i) h = tt
solves_front rigid f (e ∷ es) (suc i) h = (h.0, solves_front rigid f es i h.1)

module _ (rigid : ℕ) (ns : Notes) where
  no_earlier : (k j : ℕ) → k < j → IsUnsolvable rigid (take (k + 1) ns.equations) → IsSolvable rigid (take j ns.equations) → ⊥
  no_earlier k j l none some = none some.0 (solves_fewer rigid some.0 ns.equations (k + 1) j (omega arith) some.1.solves)

  clash_or : (k : ℕ) (f : ℕ → Tree) → IsTypingFault rigid ns (Clash k) → IsSolution rigid f ns.equations → ⊥
  clash_or k f h solution = h.1 f (solves_front rigid f ns.equations (k + 1) solution.solves)

  one_taker : (token other : ℕ) → IsTypingFault rigid ns (Undetermined token) → IsTypingFault rigid ns (Undetermined other) → token ≡ other
  one_taker token other a b = of (cases_order a.0 b.0)
    where
      of : ◌⊎◌ (a.0 ≡ b.0) (◌⊎◌ (a.0 < b.0) (b.0 < a.0)) → token ≡ other
      of (inl e) = let p : slice_get ns.takers b.0 ≡ Some token = subst (λ (i : ℕ). slice_get ns.takers i ≡ Some token) e a.1 in let q : slice_get ns.takers b.0 ≡ Some other = b.1 in cc
      of (inr (inl l)) = absurd (a.2.differ (b.3 a.0 l a.2.first a.2.second a.2.first_solves a.2.second_solves))
      of (inr (inr l)) = absurd (b.2.differ (a.3 b.0 l b.2.first b.2.second b.2.first_solves b.2.second_solves))

  pub one_typing_fault : (f g : TypingFault) → IsTypingFault rigid ns f → IsTypingFault rigid ns g → f ≢ Memory → g ≢ Memory → f ≡ g
  one_typing_fault Memory g a b n m = absurd (n refl)
  one_typing_fault (Clash k) Memory a b n m = absurd (m refl)
  one_typing_fault (Undetermined token) Memory a b n m = absurd (m refl)
  one_typing_fault (Clash k) (Clash j) a b n m =
      let above : (k < j → ⊥) = λ l. no_earlier k j l a.1 b.2 in
      let below : (j < k → ⊥) = λ l. no_earlier j k l b.1 a.2 in
      let e : k ≡ j = omega arith in
      ap (λ (i : ℕ). Clash i) e
  one_typing_fault (Clash k) (Undetermined other) a b n m = absurd (clash_or k b.2.first a b.2.first_solves)
  one_typing_fault (Undetermined token) (Clash j) a b n m = absurd (clash_or j a.2.first b a.2.first_solves)
  one_typing_fault (Undetermined token) (Undetermined other) a b n m = ap (λ (i : ℕ). Undetermined i) (one_taker token other a b)

  pub fault_or : (f : TypingFault) → IsTypingFault rigid ns f → f ≢ Memory → IsDetermined rigid ns → ⊥
  fault_or Memory h n d = n refl
  fault_or (Clash k) h n d = clash_or k d.solvable.0 h d.solvable.1
  fault_or (Undetermined token) h n d = h.2.differ (d.fixed h.0 (slice_get_within ns.takers h.0 token h.1) h.2.first h.2.second h.2.first_solves h.2.second_solves)
