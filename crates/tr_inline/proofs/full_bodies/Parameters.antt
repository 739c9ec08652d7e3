-- Lists of distinct parameters, and trivial bodies.
use Rattle.std.proofs.Common.{◌≡◌, ℕ, ℤ, ◌==◌, ◌||◌, ◌&&◌, not, Bool, true, false, List, [], ◌∷◌, ◌++◌, Some, None, refl, sym, ap, ◌∙◌}
use Rattle.std.proofs.lemmas.Option.{same_Some}
use Rattle.std.specs.List.{list_any}
use Rattle.trees.specs.declared.TermId.{TermId}
use Rattle.trees.specs.declared.Node.{Node}
use Rattle.trees.specs.declared.Node.TheVariants.{Cell, Bound, Num, Fun, Pred, Eq}
use Rattle.trees.specs.Tree.{Tree, Leaf, One, Two, Three, HCell, HBound}
use Rattle.trees.specs.Node.{node_tree}
use Rattle.tasks.proofs.outside.Bools.{or_false}
use Rattle.checks.specs.decl_checks.Structure.{bound_index}
use Rattle.inlining.specs.Inlining.{is_other_parameter, with_parameter, are_distinct_parameters, is_trivial}
use Rattle.tr_inline.specs.full_bodies.Chosen.{AreTheSame, are_two_parameters}

pub no_index : (s : List Tree) (n : Node) → ((i : ℕ) (a : TermId) → n ≡ Bound i a → ⊥) → None ≡ bound_index (node_tree s n)
no_index s (Bound i a) g = absurd (g i a refl)
no_index s _ g = refl

no_parameter : (seen : List ℕ) (e : Tree) → bound_index e ≡ None → is_other_parameter seen e ≡ false
no_parameter seen (Leaf h) q = refl
no_parameter seen (One (HBound i) a) q = absurd (cc)
no_parameter seen (One _ a) q = refl
no_parameter seen (Two h a b) q = refl
no_parameter seen (Three h a b c) q = refl

other_parameter : (seen : List ℕ) (e : Tree) (i : ℕ) → bound_index e ≡ Some i → is_other_parameter seen e ≡ not (list_any (λ j. j == i) seen)
other_parameter seen (Leaf h) i q = absurd (cc)
other_parameter seen (One (HBound k) a) i q = ap (λ (m : ℕ). not (list_any (λ j. j == m) seen)) (same_Some k i q)
other_parameter seen (One _ a) i q = absurd (cc)
other_parameter seen (Two h a b) i q = absurd (cc)
other_parameter seen (Three h a b c) i q = absurd (cc)

parameter_more : (seen : List ℕ) (e : Tree) (i : ℕ) → bound_index e ≡ Some i → with_parameter e seen ≡ i ∷ seen
parameter_more seen (Leaf h) i q = absurd (cc)
parameter_more seen (One (HBound k) a) i q = ap (λ (m : ℕ). m ∷ seen) (same_Some k i q)
parameter_more seen (One _ a) i q = absurd (cc)
parameter_more seen (Two h a b) i q = absurd (cc)
parameter_more seen (Three h a b c) i q = absurd (cc)

or_turned : (a b c : Bool) → (a || (b || c)) ≡ (b || (a || c))
or_turned true true c = refl
or_turned true false c = refl
or_turned false true c = refl
or_turned false false c = refl

any_push : (i x : ℕ) (xs : List ℕ) → list_any (λ j. j == i) (xs ++ x ∷ []) ≡ list_any (λ j. j == i) (x ∷ xs)
any_push i x [] = refl
any_push i x (y ∷ ys) = ap (λ (t : Bool). (y == i) || t) (any_push i x ys) ∙ or_turned (y == i) (x == i) (list_any (λ j. j == i) ys)

pub same_push : (before seen more : List ℕ) (x : ℕ) → AreTheSame before seen → more ≡ seen ++ x ∷ [] → AreTheSame (x ∷ before) more
same_push before seen more x h q i =
    ap (λ (t : Bool). (x == i) || t) (h i) ∙ sym (any_push i x seen) ∙ sym (ap (list_any (λ j. j == i)) q)

-- ---- a list of distinct parameters
pub distinct_end : (s : List Tree) (before : List ℕ) (n : Node) → ((a b : TermId) → n ≡ Cell a b → ⊥) → true ≡ are_distinct_parameters before (node_tree s n)
distinct_end s before (Cell a b) g = absurd (g a b refl)
distinct_end s before _ g = refl

pub distinct_other : (before : List ℕ) (a b : Tree) → bound_index a ≡ None → false ≡ are_distinct_parameters before (Two HCell a b)
distinct_other before a b q = sym (ap (λ (t : Bool). t && are_distinct_parameters (with_parameter a before) b) (no_parameter before a q))

pub distinct_seen : (before seen : List ℕ) (a b : Tree) (i : ℕ) → bound_index a ≡ Some i → AreTheSame before seen → list_any (λ j. j == i) seen ≡ true → false ≡ are_distinct_parameters before (Two HCell a b)
distinct_seen before seen a b i q h m =
    let other : is_other_parameter before a ≡ false = other_parameter before a i q ∙ ap not (h i ∙ m) in
    sym (ap (λ (t : Bool). t && are_distinct_parameters (with_parameter a before) b) other)

pub distinct_more : (before seen : List ℕ) (a b : Tree) (i : ℕ) (r : Bool) → bound_index a ≡ Some i → AreTheSame before seen → list_any (λ j. j == i) seen ≡ false → r ≡ are_distinct_parameters (i ∷ before) b
    → r ≡ are_distinct_parameters before (Two HCell a b)
distinct_more before seen a b i r q h m p =
    let other : is_other_parameter before a ≡ true = other_parameter before a i q ∙ ap not (h i ∙ m) in
    p ∙ ap (λ (z : List ℕ). are_distinct_parameters z b) (sym (parameter_more before a i q)) ∙ sym (ap (λ (t : Bool). t && are_distinct_parameters (with_parameter a before) b) other)

-- ---- two parameters
pub two_first_other : (a b : Tree) → bound_index a ≡ None → false ≡ are_two_parameters a b
two_first_other a b q = sym (ap (λ (t : Bool). t && is_other_parameter (with_parameter a []) b) (no_parameter [] a q))

pub two_second_other : (a b : Tree) → bound_index b ≡ None → false ≡ are_two_parameters a b
two_second_other a b q = by (is_other_parameter [] a) (is_other_parameter (with_parameter a []) b) (no_parameter (with_parameter a []) b q)
  where
    by : (s t : Bool) → t ≡ false → false ≡ (s && t)
    by true t e = sym e
    by false t e = refl

pub two_parameters : (a b : Tree) (i j : ℕ) (r : Bool) → bound_index a ≡ Some i → bound_index b ≡ Some j → r ≡ not (i == j) → r ≡ are_two_parameters a b
two_parameters a b i j r p q e =
    e ∙ ap not (or_false (i == j)) ∙ sym (ap (λ (z : List ℕ). not (list_any (λ k. k == j) z)) (parameter_more [] a i p)) ∙ sym (other_parameter (with_parameter a []) b j q)
    ∙ sym (ap (λ (t : Bool). t && is_other_parameter (with_parameter a []) b) (other_parameter [] a i p))

-- ---- trivial bodies
pub trivial_no : (s : List Tree) (n : Node) → ((i : ℕ) (a : TermId) → n ≡ Bound i a → ⊥) → ((f : ℕ) (a b c : TermId) → n ≡ Fun f a b c → ⊥) → ((p : ℕ) (a b : TermId) → n ≡ Pred p a b → ⊥)
    → ((a b : TermId) → n ≡ Eq a b → ⊥) → ((z : ℤ) → n ≡ Num z → ⊥) → false ≡ is_trivial (node_tree s n)
trivial_no s (Bound i a) g h k l m = absurd (g i a refl)
trivial_no s (Fun f a b c) g h k l m = absurd (h f a b c refl)
trivial_no s (Pred p a b) g h k l m = absurd (k p a b refl)
trivial_no s (Eq a b) g h k l m = absurd (l a b refl)
trivial_no s (Num z) g h k l m = absurd (m z refl)
trivial_no s _ g h k l m = refl
