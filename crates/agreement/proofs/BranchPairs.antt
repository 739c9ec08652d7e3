-- What two lists of branches with the same patterns are, by their pairs.
use Rattle.std.proofs.Common.{◌≡◌, ℕ, ◌⊎◌, inl, inr, [], ◌∷◌, IsSomeAnd, refl, sym, ap, subst, ◌∙◌}
use Rattle.trees.specs.declared.Sort.TheVariants as sort
use Rattle.trees.specs.Tree.{Tree, Leaf, One, Two, Three, HEnd, HCell, HArm, HCase, head_of}
use Rattle.trees.specs.Binding.{inst_many}
use Rattle.trees.specs.Sorts.{sort_of}
use Rattle.tasks.specs.Task.{TaskTree}
use Rattle.tasks.specs.MatchTests.{test, bind}
use Rattle.agreement.specs.Agreement.{arm_parts, asked_first, ArePairedBranches, ArePartsOf}
use Rattle.agreement.proofs.PartLists.{Pairs}
use Rattle.agreement.proofs.Shapes.{cell_in, arm_in, case_in}

module _ (t : TaskTree) (s u : Tree) where
  abbrev pub tests_of : Tree → Tree × Tree
  tests_of p = (test t p s, test t p u)

  abbrev pub bodies_of : Tree → Tree → Tree → Tree × Tree
  bodies_of p a b = (inst_many a (bind t p s), inst_many b (bind t p u))

  -- two lists with a first branch
  pub record FirstBranches (l r : Tree) (ps : Pairs) : Type 0 where
    pub pattern : Tree
    pub body : Tree
    pub more : Tree
    pub other : Tree
    pub rest : Tree
    pub left : l ≡ Two HCell (Two HArm pattern body) more
    pub right : r ≡ Two HCell (Two HArm pattern other) rest
    pub pairs : Pairs
    pub is : ps ≡ asked_first more (tests_of pattern) (bodies_of pattern body other ∷ pairs)
    pub others : ArePairedBranches t s u more rest pairs

  first_of_arm : (p a m r : Tree) (ps : Pairs) → ArePairedBranches t s u (Two HCell (Two HArm p a) m) r ps → FirstBranches (Two HCell (Two HArm p a) m) r ps
  first_of_arm p a m r ps x =
      let B : Tree → Tree × Tree → Type 0 = λ c b. (b.0 ≡ p) × ((qs : Pairs) × ((ps ≡ asked_first m (tests_of p) (bodies_of p a b.1 ∷ qs)) × ArePairedBranches t s u m c qs)) in
      let c = cell_in r (λ z. IsSomeAnd (arm_parts z.0) (B z.1)) x in
      let b = arm_in c.0 (B c.1.0) c.1.1.1 in
      let n = b.1.1.1 in
      record {
        pattern = p;
        body = a;
        more = m;
        other = b.1.0;
        rest = c.1.0;
        left = refl;
        right = c.1.1.0 ∙ ap (λ (z : Tree). Two HCell z c.1.0) (b.1.1.0 ∙ ap (λ (z : Tree). Two HArm z b.1.0) n.0);
        pairs = n.1.0;
        is = n.1.1.0;
        others = n.1.1.1;
      }

  pub first_branches : (l r : Tree) (ps : Pairs) → head_of l ≡ HCell → ArePairedBranches t s u l r ps → FirstBranches l r ps
  first_branches (Two HCell (Two HArm p a) m) r ps h x = first_of_arm p a m r ps x
  first_branches (Two HCell (Two _ p a) m) r ps h x = absurd x
  first_branches (Two HCell (Leaf k) m) r ps h x = absurd x
  first_branches (Two HCell (One k a) m) r ps h x = absurd x
  first_branches (Two HCell (Three k a b c) m) r ps h x = absurd x
  first_branches (Two _ a b) r ps h x = absurd x
  first_branches (Leaf HEnd) r ps h x = absurd (cc)
  first_branches (Leaf _) r ps h x = absurd x
  first_branches (One k a) r ps h x = absurd x
  first_branches (Three k a b c) r ps h x = absurd x

  -- they are the end, or lists with a member
  pub ends_or_more : (l r : Tree) (ps : Pairs) → ArePairedBranches t s u l r ps → ((l ≡ Leaf HEnd) × ((r ≡ Leaf HEnd) × (ps ≡ []))) ⊎ ((a : Tree) × ((b : Tree) × (l ≡ Two HCell a b)))
  ends_or_more (Two HCell a b) r ps x = inr (a, (b, refl))
  ends_or_more (Two _ a b) r ps x = absurd x
  ends_or_more (Leaf HEnd) r ps x = inl (refl, x)
  ends_or_more (Leaf _) r ps x = absurd x
  ends_or_more (One k a) r ps x = absurd x
  ends_or_more (Three k a b c) r ps x = absurd x

  pub are_lists : (l r : Tree) (ps : Pairs) → ArePairedBranches t s u l r ps → sort_of l ≡ sort.List
  are_lists (Two HCell a b) r ps x = refl
  are_lists (Two _ a b) r ps x = absurd x
  are_lists (Leaf HEnd) r ps x = refl
  are_lists (Leaf _) r ps x = absurd x
  are_lists (One k a) r ps x = absurd x
  are_lists (Three k a b c) r ps x = absurd x

-- the tests are asked where there are more branches
pub asked_more : (m a b : Tree) (x : Tree × Tree) (ps : Pairs) → m ≡ Two HCell a b → asked_first m x ps ≡ x ∷ ps
asked_more m a b x ps q = ap (λ (z : Tree). asked_first z x ps) q

-- ---- two `match`es
pub record BothCases (t : TaskTree) (s l r : Tree) (ps : Pairs) : Type 0 where
  pub by : Tree
  pub arms : Tree
  pub is : r ≡ Two HCase by arms
  pub pairs : ArePairedBranches t s by l arms ps

pub case_right : (t : TaskTree) (n : ℕ) (l r s arms : Tree) (ps : Pairs) → l ≡ Two HCase s arms → ArePartsOf t n l r ps → BothCases t s arms r ps
case_right t n l r s arms ps q x =
    let w = case_in r (λ p. ArePairedBranches t s p.0 arms p.1 ps) (subst (λ (z : Tree). ArePartsOf t n z r ps) q x) in
    record { by = w.0; arms = w.1.0; is = w.1.1.0; pairs = w.1.1.1 }

-- the right one known
pub case_paired : (t : TaskTree) (n : ℕ) (l r s arms u others : Tree) (ps : Pairs) → l ≡ Two HCase s arms → r ≡ Two HCase u others → ArePartsOf t n l r ps → ArePairedBranches t s u arms others ps
case_paired t n l r s arms u others ps q e x = subst (λ (z : Tree). ArePartsOf t n (Two HCase s arms) z ps) e (subst (λ (z : Tree). ArePartsOf t n z r ps) q x)

pub parts_of_cases : (t : TaskTree) (n : ℕ) (l r s arms u others : Tree) (ps : Pairs) → l ≡ Two HCase s arms → r ≡ Two HCase u others → ArePairedBranches t s u arms others ps → ArePartsOf t n l r ps
parts_of_cases t n l r s arms u others ps q e x = subst (λ (z : Tree). ArePartsOf t n z r ps) (sym q) (subst (λ (z : Tree). ArePartsOf t n (Two HCase s arms) z ps) (sym e) x)
