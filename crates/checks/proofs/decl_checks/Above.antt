-- Where each use passes something inside under two lists of standings, it does under one that is nowhere below both.
use Rattle.std.proofs.Common.{◌≡◌, ℕ, zero, suc, ◌≤◌, min, ◌++◌, ◌∷◌, [], nat_eq, cond, Bool, true, false, List, map, get_or, slice_get, Option, Some, None, IsSomeAnd, inl, refl, sym, ap, ◌∙◌, arith}
use Rattle.std.proofs.lemmas.Bool.Decides.{nat_tests}
use Rattle.indexmap.specs.IndexMap.{IndexMap, get}
use Rattle.trees.specs.declared.TermId.{TermId}
use Rattle.trees.specs.Tree.{Tree, Leaf, One, Two, Three, Head, HEnd, HCell, HFun, HPred, HForall, HExists, HLet, HArm, HTyApp}
use Rattle.trees.specs.Node.{tree_at}
use Rattle.trees.specs.Sorts.{WellSorted, sort_of}
use Rattle.trees.specs.binders.Known.{same_pair}
use Rattle.trees.proofs.binders.Rebuilt.{both_true}
use Rattle.trees.proofs.Types.{OnlyTypes, only_types}
use Rattle.tasks.specs.Task.{SymbolTree}
use Rattle.tasks.specs.Typing.{members}
use Rattle.checks.specs.declared.decl_checks.standing.Standing.{Standing}
use Rattle.checks.specs.declared.decl_checks.standing.Standing.TheVariants.{Other, Whole, Inside}
use Rattle.checks.specs.decl_checks.Structure.{bound_index, standing_by, standing, through, bound_to, stands, UsePasses, TopPasses, bound_standings, matched_in, UsesPassInside}
use Rattle.checks.specs.decl_checks.Kept.{standing_rank, AreAtLeast, lesser, lessers, AreKept}

-- the third isn't below both others
abbrev IsMet : Standing → Standing → Standing → Type 0
IsMet s t u = min (standing_rank s) (standing_rank t) ≤ standing_rank u

high : (s : Standing) → standing_rank s ≤ 2
high Other = omega arith
high Whole = omega arith
high Inside = omega arith

through_met : (b : Bool) (s t u : Standing) → IsMet s t u → IsMet (through b s) (through b t) (through b u)
through_met false s t u m = m
through_met true Other t u m = omega arith
through_met true Whole Other u m = omega arith
through_met true Inside Other u m = omega arith
through_met true Whole Whole Other m = absurd (omega (arith, m))
through_met true Whole Inside Other m = absurd (omega (arith, m))
through_met true Inside Whole Other m = absurd (omega (arith, m))
through_met true Inside Inside Other m = absurd (omega (arith, m))
through_met true Whole Whole Whole m = omega arith
through_met true Whole Inside Whole m = omega arith
through_met true Inside Whole Whole m = omega arith
through_met true Inside Inside Whole m = omega arith
through_met true Whole Whole Inside m = omega arith
through_met true Whole Inside Inside m = omega arith
through_met true Inside Whole Inside m = omega arith
through_met true Inside Inside Inside m = omega arith

inside_met : (s t u : Standing) → IsMet s t u → s ≡ Inside → t ≡ Inside → u ≡ Inside
inside_met s t Inside m p q = refl
inside_met s t Whole m p q = (let a : standing_rank s ≡ 2 = ap standing_rank p in let b : standing_rank t ≡ 2 = ap standing_rank q in absurd (omega (arith, m, a, b)))
inside_met s t Other m p q = (let a : standing_rank s ≡ 2 = ap standing_rank p in let b : standing_rank t ≡ 2 = ap standing_rank q in absurd (omega (arith, m, a, b)))

-- so at each place of lists
abbrev AreMet : List Standing → List Standing → List Standing → Type 0
AreMet a b c = (i : ℕ) → IsMet (get_or a i Other) (get_or b i Other) (get_or c i Other)

module _ (a b c : List Standing) (m : AreMet a b c) where
  by_met : (o : Option ℕ) → IsMet (standing_by a o) (standing_by b o) (standing_by c o)
  by_met (Some i) = m i
  by_met None = omega arith

  standing_met : (e : Tree) → IsMet (standing a e) (standing b e) (standing c e)
  standing_met e = by_met (bound_index e)

  some_met : (o : Option Tree) → IsSomeAnd o (λ e. standing a e ≡ Inside) → IsSomeAnd o (λ e. standing b e ≡ Inside) → IsSomeAnd o (λ e. standing c e ≡ Inside)
  some_met None p q = absurd p
  some_met (Some e) p q = inside_met (standing a e) (standing b e) (standing c e) (standing_met e) p q

  use_met : (ms : List (ℕ × ℕ)) (f : ℕ) (args : Tree) → UsePasses ms a f args → UsePasses ms b f args → UsePasses ms c f args
  use_met [] f args p q = tt
  use_met (n ∷ ms) f args p q = (λ e. some_met (slice_get (members args) n.1) (p.0 e) (q.0 e), use_met ms f args p.1 q.1)

  top_met : (ms : List (ℕ × ℕ)) (e : Tree) → TopPasses ms a e → TopPasses ms b e → TopPasses ms c e
  top_met ms (Two (HPred f) x y) p q = use_met ms f y p q
  top_met ms (Three (HFun f) x y z) p q = use_met ms f y p q
  top_met ms e p q = tt

  other_met : (i : ℕ) → IsMet (get_or (Other ∷ a) i Other) (get_or (Other ∷ b) i Other) (get_or (Other ∷ c) i Other)
  other_met zero = omega arith
  other_met (suc i) = m i

  learned_met : (xs : List (Bool × Tree)) (i : ℕ) → IsMet (get_or (map (stands a) xs ++ a) i Other) (get_or (map (stands b) xs ++ b) i Other) (get_or (map (stands c) xs ++ c) i Other)
  learned_met [] i = m i
  learned_met (x ∷ xs) zero = through_met x.0 (standing a x.1) (standing b x.1) (standing c x.1) (standing_met x.1)
  learned_met (x ∷ xs) (suc i) = learned_met xs i

  under_met : (symbols : List SymbolTree) (e : Tree) (h : Head) (x : Tree) → AreMet (bound_standings symbols a e h x ++ a) (bound_standings symbols b e h x ++ b) (bound_standings symbols c e h x ++ c)
  under_met symbols e HForall x = other_met
  under_met symbols e HExists x = other_met
  under_met symbols e HLet x = other_met
  under_met symbols e HArm x = learned_met (bound_to symbols false e x)
  under_met symbols e _ x = m

module _ (symbols : List SymbolTree) (chosen : List (ℕ × ℕ)) where
  uses_met : (a b c : List Standing) → AreMet a b c → (m e : Tree) → UsesPassInside symbols chosen a m e → UsesPassInside symbols chosen b m e → UsesPassInside symbols chosen c m e
  uses_met a b c r m (Leaf h) p q = tt
  uses_met a b c r m (One h x) p q = uses_met a b c r m x p q
  uses_met a b c r m (Two h x y) p q = (
    top_met a b c r chosen (Two h x y) p.0 q.0,
    uses_met a b c r m x p.1 q.1,
    uses_met (bound_standings symbols a m h x ++ a) (bound_standings symbols b m h x ++ b) (bound_standings symbols c m h x ++ c) (under_met a b c r symbols m h x) (matched_in m h x) y p.2 q.2,
  )
  uses_met a b c r m (Three h x y z) p q =
      (top_met a b c r chosen (Three h x y z) p.0 q.0, uses_met a b c r m x p.1 q.1, uses_met a b c r m y p.2 q.2, uses_met a b c r m z p.3 q.3)

-- ---- lists that stand above another one, and the lesser of two
above_met : (low known : List Standing) → AreAtLeast low known → (i : ℕ) → IsMet (get_or low i Other) (get_or low i Other) (get_or known i Other)
above_met [] known h i = omega arith
above_met (s ∷ ss) [] h i = absurd h
above_met (s ∷ ss) (t ∷ ts) h zero = omega (arith, h.0)
above_met (s ∷ ss) (t ∷ ts) h (suc i) = above_met ss ts h.1 i

lesser_met : (s t : Standing) → IsMet s t (lesser s t)
lesser_met Other t = omega arith
lesser_met Whole Other = omega arith
lesser_met Whole Whole = omega arith
lesser_met Whole Inside = omega arith
lesser_met Inside t = omega arith

lessers_met : (a b : List Standing) (i : ℕ) → IsMet (get_or a i Other) (get_or b i Other) (get_or (lessers a b) i Other)
lessers_met [] b i = omega arith
lessers_met (s ∷ ss) [] i = omega arith
lessers_met (s ∷ ss) (t ∷ ts) zero = lesser_met s t
lessers_met (s ∷ ss) (t ∷ ts) (suc i) = lessers_met ss ts i

module _ (symbols : List SymbolTree) (chosen : List (ℕ × ℕ)) where
  pub uses_above : (low known : List Standing) (m e : Tree) → AreAtLeast low known → UsesPassInside symbols chosen low m e → UsesPassInside symbols chosen known m e
  uses_above low known m e h p = uses_met symbols chosen low low known (above_met low known h) m e p p

  pub uses_lessers : (a b : List Standing) (m e : Tree) → UsesPassInside symbols chosen a m e → UsesPassInside symbols chosen b m e → UsesPassInside symbols chosen (lessers a b) m e
  uses_lessers a b m e p q = uses_met symbols chosen a b (lessers a b) (lessers_met a b) m e p q

  -- ---- a type has no use
  cells_pass : (known : List Standing) (m : Tree) (h : Head) (x y : Tree) → h ≡ HCell → UsesPassInside symbols chosen known m x → UsesPassInside symbols chosen known m y → UsesPassInside symbols chosen known m (Two h x y)
  cells_pass known m HCell x y e p q = (tt, p, q)
  cells_pass known m _ x y e p q = absurd (cc)

  types_pass : (known : List Standing) (m e : Tree) → OnlyTypes e → UsesPassInside symbols chosen known m e
  types_pass known m (Leaf h) o = tt
  types_pass known m (One h x) o = types_pass known m x o.1
  types_pass known m (Two h x y) o = cells_pass known m h x y o.0 (types_pass known m x o.1) (types_pass known m y o.2)
  types_pass known m (Three h x y z) o = absurd o

  pub type_passes : (known : List Standing) (m e : Tree) (n : ℕ) (a : Tree) → WellSorted e → e ≡ One (HTyApp n) a → UsesPassInside symbols chosen known m e
  type_passes known m e n a w q = types_pass known m e (only_types e w (inl (ap sort_of q)))

-- ---- what is kept, with one more
module _ {S : Type 0} (symbols : List SymbolTree) (chosen : List (ℕ × ℕ)) (s : List Tree) where
  pub kept_more : (m n : IndexMap (ℕ × ℕ) (List Standing) S) (e matched : TermId) (low : List Standing) → AreKept symbols chosen s m
      → UsesPassInside symbols chosen low (tree_at s matched) (tree_at s e)
      → ((q : ℕ × ℕ) → get same_pair n q ≡ cond (same_pair (e.0, matched.0) q) (Some low) (get same_pair m q)) → AreKept symbols chosen s n
  kept_more m n e matched low h p up k j v found = at (same_pair (e.0, matched.0) (k, j)) refl (sym (up (k, j)) ∙ found)
    where
      at : (c : Bool) → same_pair (e.0, matched.0) (k, j) ≡ c → cond c (Some low) (get same_pair m (k, j)) ≡ Some v → UsesPassInside symbols chosen v (get_or s j (Leaf HEnd)) (get_or s k (Leaf HEnd))
      at true same there =
          let b = both_true (nat_eq e.0 k) (nat_eq matched.0 j) same in
          let number : e.0 ≡ k = grind (arith, nat_tests, b.0) in
          let around : matched.0 ≡ j = grind (arith, nat_tests, b.1) in
          let value : low ≡ v = cc in
          rw (← number, ← around, ← value) p
      at false same there = h k j v there
