-- The tests of a pattern and the terms for its variables have at most the rank of the term that is asked.
use Rattle.std.proofs.Common.{◌≡◌, ℕ, ◌<◌, ◌≤◌, zero, suc, List, [], ◌∷◌, ◌++◌, length, get_or, arith}
use Rattle.trees.specs.Tree.{Tree, Leaf, One, Two, Three, Head, HCell, HPatVar, HPatAlias, HPatCon, pat_vars}
use Rattle.trees.specs.Binding.{inst_many, AreClosed}
use Rattle.tasks.specs.Task.{TaskTree}
use Rattle.tasks.specs.Equations.{cells}
use Rattle.tasks.specs.Conjunctions.{conjunction}
use Rattle.tasks.specs.MatchTests.{field, fields, rebuilt, constructor_projections, top, other_terms, parts, con_equation, tests, test, pattern_terms, bind, one_tests, two_tests, three_tests, one_binds, two_binds, three_binds}
use Rattle.agreement.specs.Ranks.{rank, zero_ranks, ranks_put}
use Rattle.agreement.proofs.Ranks.{put_inner, rank_none, rank_put}

-- each has at most this rank
abbrev pub RanksTo : ℕ → List Tree → Type 0
RanksTo n [] = Unit {0}
RanksTo n (s ∷ ss) = ((w : ℕ) → rank s zero_ranks w ≤ n) × RanksTo n ss

ranks_join : (n : ℕ) (xs ys : List Tree) → RanksTo n xs → RanksTo n ys → RanksTo n (xs ++ ys)
ranks_join n [] ys p q = q
ranks_join n (x ∷ xs) ys p q = (p.0, ranks_join n xs ys p.1 q)

ranks_top : (n w : ℕ) (ss : List Tree) → RanksTo n ss → rank (top ss) zero_ranks w ≤ n
ranks_top n w [] p = omega arith
ranks_top n w (s ∷ ss) p = p.0 w

ranks_others : (n : ℕ) (ss : List Tree) → RanksTo n ss → RanksTo n (other_terms ss)
ranks_others n [] p = tt
ranks_others n (s ∷ ss) p = p.1

cells_rank : (n : ℕ) (ss : List Tree) → RanksTo n ss → rank (cells ss) zero_ranks 0 ≤ n
cells_rank n [] p = omega arith
cells_rank n (s ∷ ss) p = omega (arith, p.0 0, rank_none (cells ss) 0 0 zero_ranks, cells_rank n ss p.1)

field_rank : (n : ℕ) (t : TaskTree) (j : ℕ) (types s : Tree) → ((w : ℕ) → rank s zero_ranks w ≤ n) → (w : ℕ) → rank (field t j types s) zero_ranks w ≤ n
field_rank n t j types s p w = cells_rank n (s ∷ []) (p, tt)

fields_rank : (n : ℕ) (t : TaskTree) (js : List ℕ) (types s : Tree) → ((w : ℕ) → rank s zero_ranks w ≤ n) → RanksTo n (fields t js types s)
fields_rank n t [] types s p = tt
fields_rank n t (j ∷ js) types s p = (field_rank n t j types s p, fields_rank n t js types s p)

parts_rank : (n : ℕ) (t : TaskTree) (h : Head) (types : Tree) (ss : List Tree) → RanksTo n ss → RanksTo n (parts t h types ss)
parts_rank n t (HPatCon k) types ss p = fields_rank n t (constructor_projections t k) types (top ss) (λ w. ranks_top n w ss p)
parts_rank n t _ types ss p = tt

con_rank : (n : ℕ) (t : TaskTree) (k : ℕ) (types s : Tree) → ((w : ℕ) → rank s zero_ranks w ≤ n) → (w : ℕ) → rank (con_equation t k types s) zero_ranks w ≤ n
con_rank n t k types s p w =
    let r = rebuilt t k (constructor_projections t k) types s in
    let q = cells_rank n (fields t (constructor_projections t k) types s) (fields_rank n t (constructor_projections t k) types s p) in
    omega (arith, p 0, rank_none r 0 0 zero_ranks, q)

one_tests_rank : (n : ℕ) (h : Head) (inner : List Tree) → RanksTo n inner → RanksTo n (one_tests h inner)
one_tests_rank n HPatAlias inner p = p
one_tests_rank n _ inner p = tt

two_tests_rank : (n : ℕ) (h : Head) (first more : List Tree) → RanksTo n first → RanksTo n more → RanksTo n (two_tests h first more)
two_tests_rank n HCell first more p q = ranks_join n first more p q
two_tests_rank n _ first more p q = tt

three_tests_rank : (n : ℕ) (t : TaskTree) (h : Head) (types : Tree) (ss inner : List Tree) → RanksTo n ss → RanksTo n inner → RanksTo n (three_tests t h types ss inner)
three_tests_rank n t (HPatCon k) types ss inner p q = (con_rank n t k types (top ss) (λ w. ranks_top n w ss p), q)
three_tests_rank n t _ types ss inner p q = tt

tests_rank : (n : ℕ) (t : TaskTree) (p : Tree) (ss : List Tree) → RanksTo n ss → RanksTo n (tests t p ss)
tests_rank n t (Leaf h) ss r = tt
tests_rank n t (One h p) ss r = one_tests_rank n h (tests t p ss) (tests_rank n t p ss r)
tests_rank n t (Two h p q) ss r = two_tests_rank n h (tests t p (top ss ∷ [])) (tests t q (other_terms ss)) (tests_rank n t p (top ss ∷ []) (λ w. ranks_top n w ss r, tt)) (tests_rank n t q (other_terms ss) (ranks_others n ss r))
tests_rank n t (Three h a p c) ss r = three_tests_rank n t h a ss (tests t p (parts t h a ss)) r (tests_rank n t p (parts t h a ss) (parts_rank n t h a ss r))

conjunction_rank : (n : ℕ) (ss : List Tree) → RanksTo n ss → (w : ℕ) → rank (conjunction ss) zero_ranks w ≤ n
conjunction_rank n [] p w = omega arith
conjunction_rank n (s ∷ []) p w = p.0 w
conjunction_rank n (s ∷ u ∷ us) p w = omega (arith, p.0 0, rank_none (conjunction (u ∷ us)) 0 0 zero_ranks, conjunction_rank n (u ∷ us) p.1 0)

pub test_rank : (n : ℕ) (t : TaskTree) (p s : Tree) → ((w : ℕ) → rank s zero_ranks w ≤ n) → (w : ℕ) → rank (test t p s) zero_ranks w ≤ n
test_rank n t p s r w = conjunction_rank n (tests t p (s ∷ [])) (tests_rank n t p (s ∷ []) (r, tt)) w

one_binds_rank : (n : ℕ) (h : Head) (inner ss : List Tree) → RanksTo n inner → RanksTo n ss → RanksTo n (one_binds h inner ss)
one_binds_rank n HPatVar inner ss p q = (λ w. ranks_top n w ss q, tt)
one_binds_rank n HPatAlias inner ss p q = ranks_join n inner (top ss ∷ []) p (λ w. ranks_top n w ss q, tt)
one_binds_rank n _ inner ss p q = tt

two_binds_rank : (n : ℕ) (h : Head) (first more : List Tree) → RanksTo n first → RanksTo n more → RanksTo n (two_binds h first more)
two_binds_rank n HCell first more p q = ranks_join n first more p q
two_binds_rank n _ first more p q = tt

three_binds_rank : (n : ℕ) (h : Head) (inner : List Tree) → RanksTo n inner → RanksTo n (three_binds h inner)
three_binds_rank n (HPatCon k) inner p = p
three_binds_rank n _ inner p = tt

terms_rank : (n : ℕ) (t : TaskTree) (p : Tree) (ss : List Tree) → RanksTo n ss → RanksTo n (pattern_terms t p ss)
terms_rank n t (Leaf h) ss r = tt
terms_rank n t (One h p) ss r = one_binds_rank n h (pattern_terms t p ss) ss (terms_rank n t p ss r) r
terms_rank n t (Two h p q) ss r = two_binds_rank n h (pattern_terms t p (top ss ∷ [])) (pattern_terms t q (other_terms ss)) (terms_rank n t p (top ss ∷ []) (λ w. ranks_top n w ss r, tt)) (terms_rank n t q (other_terms ss) (ranks_others n ss r))
terms_rank n t (Three h a p c) ss r = three_binds_rank n h (pattern_terms t p (parts t h a ss)) (terms_rank n t p (parts t h a ss) (parts_rank n t h a ss r))

-- ---- a body at closed terms of at most a rank
ranks_at : (n : ℕ) (ts : List Tree) (k w : ℕ) (ty : Tree) → RanksTo n ts → k < length ts → rank (get_or ts k ty) zero_ranks w ≤ n
ranks_at n [] k w ty p l = absurd (omega (arith, l))
ranks_at n (s ∷ ss) zero w ty p l = p.0 w
ranks_at n (s ∷ ss) (suc k) w ty p l = ranks_at n ss k w ty p.1 (omega (arith, l))

pub body_rank : (n : ℕ) (ts : List Tree) → AreClosed ts → RanksTo n ts → (e : Tree) (m : ℕ) → m ≡ length ts → rank (inst_many e ts) zero_ranks 0 ≤ rank e (ranks_put m n zero_ranks) 0
body_rank n ts c r e m q = rank_put ts c e 0 0 0 zero_ranks (ranks_put m n zero_ranks) (omega arith) (record {
  below = λ i l. absurd (omega (arith, l));
  at = λ i k w ty l e. let p = put_inner m n zero_ranks i (omega (arith, e, q)) in omega (arith, p, ranks_at n ts k w ty r (omega (arith, e)));
  above = λ i l. omega arith;
})

pub bind_rank : (t : TaskTree) (p s e : Tree) (n : ℕ) → AreClosed (bind t p s) → pat_vars p ≡ length (bind t p s) → ((w : ℕ) → rank s zero_ranks w ≤ n) → rank (inst_many e (bind t p s)) zero_ranks 0 ≤ rank e (ranks_put (pat_vars p) n zero_ranks) 0
bind_rank t p s e n c k r = body_rank n (bind t p s) c (terms_rank n t p (s ∷ []) (r, tt)) e (pat_vars p) k
