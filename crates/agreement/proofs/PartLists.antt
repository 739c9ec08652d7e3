-- Two trees of one operator have one list of parts, and trees that agree but are neither equal nor a pair have parts that agree.
use Rattle.std.proofs.Common.{◌≡◌, ℕ, inl, inr, zero, suc, List, [], ◌∷◌, get_or, All, Option, Some, None, IsSomeAnd, Contains, sym, ap, ◌∙◌}
use Rattle.trees.specs.Tree.{Tree, Leaf, One, Two, Three, Head, HEnd, HCell, HArm, HFun, HPred, HEq, HNot, HJoin, HForall, HExists, HLet, HIf, HCase}
use Rattle.trees.specs.Binding.{inst_many}
use Rattle.tasks.specs.Task.{TaskTree}
use Rattle.tasks.specs.MatchTests.{test, bind}
use Rattle.congruence.specs.kernel.rules.Forms.{negated, connected, universal, existential, equation_sides, let_of, if_of, application_parts}
use Rattle.agreement.specs.Agreement.{cell_parts, arm_parts, case_parts, predicate_parts, ArePaired, asked_first, ArePairedBranches, OnePaired, TwoPaired, ThreePaired, ArePartsOf, number_under, AgreeWithin}
use Rattle.agreement.specs.Laws.{MoreLevelsAgree, MorePairsAgree}

abbrev pub Pairs : Type 0
Pairs = List (Tree × Tree)

-- what holds twice of what is there gives equal lists
once : {A : Type 0} (o : Option A) (P Q : A → Type 0) (ps qs : Pairs) → ((x : A) → P x → Q x → ps ≡ qs) → IsSomeAnd o P → IsSomeAnd o Q → ps ≡ qs
once None P Q ps qs f p q = absurd p
once (Some x) P Q ps qs f p q = f x p q

paired_once : (l r : Tree) (ps qs : Pairs) → ArePaired l r ps → ArePaired l r qs → ps ≡ qs
paired_once (Leaf HEnd) r ps qs p q = p.1 ∙ sym q.1
paired_once (Leaf _) r ps qs p q = absurd p
paired_once (One h a) r ps qs p q = absurd p
paired_once (Two HCell a more) r ps qs p q =
    once (cell_parts r) (λ x. (zs : Pairs) × ((ps ≡ (a, x.0) ∷ zs) × ArePaired more x.1 zs)) (λ x. (zs : Pairs) × ((qs ≡ (a, x.0) ∷ zs) × ArePaired more x.1 zs)) ps qs
    (λ x y z. y.1.0 ∙ ap (λ (w : Pairs). (a, x.0) ∷ w) (paired_once more x.1 y.0 z.0 y.1.1 z.1.1) ∙ sym z.1.0) p q
paired_once (Two _ a more) r ps qs p q = absurd p
paired_once (Three h a b c) r ps qs p q = absurd p

branches_once : (t : TaskTree) (s u l r : Tree) (ps qs : Pairs) → ArePairedBranches t s u l r ps → ArePairedBranches t s u l r qs → ps ≡ qs
branches_once t s u (Two HCell (Two HArm p a) more) r ps qs x y =
    let tests : Tree × Tree = (test t p s, test t p u) in
    let body : Tree → Tree × Tree = λ b. (inst_many a (bind t p s), inst_many b (bind t p u)) in
    let B : Pairs → Tree → Tree × Tree → Type 0 = λ zs c b. (b.0 ≡ p) × ((vs : Pairs) × ((zs ≡ asked_first more tests (body b.1 ∷ vs)) × ArePairedBranches t s u more c vs)) in
    once (cell_parts r) (λ c. IsSomeAnd (arm_parts c.0) (B ps c.1)) (λ c. IsSomeAnd (arm_parts c.0) (B qs c.1)) ps qs
    (λ c v w. once (arm_parts c.0) (B ps c.1) (B qs c.1) ps qs
    (λ b i j. i.1.1.0 ∙ ap (λ (zs : Pairs). asked_first more tests (body b.1 ∷ zs)) (branches_once t s u more c.1 i.1.0 j.1.0 i.1.1.1 j.1.1.1) ∙ sym j.1.1.0) v w) x y
branches_once t s u (Two HCell (Two _ p a) more) r ps qs x y = absurd x
branches_once t s u (Two HCell (Leaf k) more) r ps qs x y = absurd x
branches_once t s u (Two HCell (One k a) more) r ps qs x y = absurd x
branches_once t s u (Two HCell (Three k a b c) more) r ps qs x y = absurd x
branches_once t s u (Two _ a more) r ps qs x y = absurd x
branches_once t s u (Leaf HEnd) r ps qs x y = x.1 ∙ sym y.1
branches_once t s u (Leaf _) r ps qs x y = absurd x
branches_once t s u (One h a) r ps qs x y = absurd x
branches_once t s u (Three h a b c) r ps qs x y = absurd x

one_once : (h : Head) (a r : Tree) (ps qs : Pairs) → OnePaired h a r ps → OnePaired h a r qs → ps ≡ qs
one_once HNot a r ps qs p q = once (negated (Some r)) (λ b. ps ≡ (a, b) ∷ []) (λ b. qs ≡ (a, b) ∷ []) ps qs (λ b x y. x ∙ sym y) p q
one_once _ a r ps qs p q = absurd p

two_once : (t : TaskTree) (n : ℕ) (h : Head) (a c r : Tree) (ps qs : Pairs) → TwoPaired t n h a c r ps → TwoPaired t n h a c r qs → ps ≡ qs
two_once t n (HJoin op) a c r ps qs p q = once (connected (Some r)) (λ x. (x.0 ≡ op) × (ps ≡ (a, x.1) ∷ (c, x.2) ∷ [])) (λ x. (x.0 ≡ op) × (qs ≡ (a, x.1) ∷ (c, x.2) ∷ [])) ps qs (λ x y z. y.1 ∙ sym z.1) p q
two_once t n HEq a c r ps qs p q = once (equation_sides (Some r)) _ _ ps qs (λ x y z. y.1 ∙ sym z.1) p q
two_once t n (HPred k) a c r ps qs p q = once (predicate_parts r) _ _ ps qs (λ x y z. paired_once c x.2 ps qs y.1.1 z.1.1) p q
two_once t n HForall a c r ps qs p q = once (universal (Some r)) _ _ ps qs (λ x y z. y.1 ∙ sym z.1) p q
two_once t n HExists a c r ps qs p q = once (existential (Some r)) _ _ ps qs (λ x y z. y.1 ∙ sym z.1) p q
two_once t n HLet a c r ps qs p q = once (let_of r) _ _ ps qs (λ x y z. y ∙ sym z) p q
two_once t n HCase a c r ps qs p q = once (case_parts r) _ _ ps qs (λ x y z. branches_once t a x.0 c x.1 ps qs y z) p q
two_once t n _ a c r ps qs p q = absurd p

three_once : (h : Head) (a b c r : Tree) (ps qs : Pairs) → ThreePaired h a b c r ps → ThreePaired h a b c r qs → ps ≡ qs
three_once (HFun f) a b c r ps qs p q = once (application_parts r) _ _ ps qs (λ x y z. paired_once b x.2 ps qs y.1.1 z.1.1) p q
three_once HIf a b c r ps qs p q = once (if_of r) _ _ ps qs (λ x y z. y ∙ sym z) p q
three_once _ a b c r ps qs p q = absurd p

pub parts_once : (t : TaskTree) (n : ℕ) (l r : Tree) (ps qs : Pairs) → ArePartsOf t n l r ps → ArePartsOf t n l r qs → ps ≡ qs
parts_once t n (Leaf h) r ps qs p q = absurd p
parts_once t n (One h a) r ps qs p q = one_once h a r ps qs p q
parts_once t n (Two h a c) r ps qs p q = two_once t n h a c r ps qs p q
parts_once t n (Three h a b c) r ps qs p q = three_once h a b c r ps qs p q

-- agreement by the parts
pub by_parts : (m : ℕ) (t : TaskTree) (pairs : Pairs) (n : ℕ) (l r : Tree) → AgreeWithin m t pairs n l r → (l ≡ r → ⊥) → (Contains pairs (l, r) → ⊥)
    → (k : ℕ) × ((ps : Pairs) × (ArePartsOf t n l r ps × All (λ p. AgreeWithin k t pairs (number_under n l) p.0 p.1) ps))
by_parts zero t pairs n l r a e c = absurd a
by_parts (suc m) t pairs n l r (inl q) e c = absurd (e q)
by_parts (suc m) t pairs n l r (inr (inl q)) e c = absurd (c q)
by_parts (suc m) t pairs n l r (inr (inr q)) e c = (m, q)

-- ---- more levels, and more pairs
module _ (t : TaskTree) (P Q : ℕ → Tree → Tree → Type 0) (f : (n : ℕ) (l r : Tree) → P n l r → Q n l r) where
  all_weaker : (n : ℕ) (ps : Pairs) → All (λ p. P n p.0 p.1) ps → All (λ p. Q n p.0 p.1) ps
  all_weaker n ps h = λ k e l. f n (get_or ps k e).0 (get_or ps k e).1 (h k e l)

pub more_levels : MoreLevelsAgree
more_levels zero t pairs n l r a = absurd a
more_levels (suc m) t pairs n l r (inl q) = inl q
more_levels (suc m) t pairs n l r (inr (inl q)) = inr (inl q)
more_levels (suc m) t pairs n l r (inr (inr q)) = inr (inr (q.0, (q.1.0, all_weaker t (AgreeWithin m t pairs) (AgreeWithin (suc m) t pairs) (λ i x y. more_levels m t pairs i x y) (number_under n l) q.0 q.1.1)))

pub more_pairs : MorePairsAgree
more_pairs zero t pairs more f n l r a = absurd a
more_pairs (suc m) t pairs more f n l r (inl q) = inl q
more_pairs (suc m) t pairs more f n l r (inr (inl q)) = inr (inl (f l r q))
more_pairs (suc m) t pairs more f n l r (inr (inr q)) = inr (inr (q.0, (q.1.0, all_weaker t (AgreeWithin m t pairs) (AgreeWithin m t more) (λ i x y. more_pairs m t pairs more f i x y) (number_under n l) q.0 q.1.1)))
