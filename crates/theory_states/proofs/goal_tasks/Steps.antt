-- What a walk gathers, step by step.
use Rattle.std.proofs.Common.{◌≡◌, ℕ, Bool, true, false, ◌||◌, nat_eq, if◌then◌else◌, List, [], ◌∷◌, ◌++◌, refl, sym, ap, subst, ◌∙◌, arith}
use Rattle.std.specs.List.{list_any}
use Rattle.std.proofs.lemmas.List.{append-nil}
use Rattle.std.proofs.lemmas.List.Folds.{list_any-append}
use Rattle.std.proofs.lemmas.Bool.Decides.{nat_tests}
use Rattle.trees.specs.Tree.{Tree, Leaf, One, Two, Three, head_of}
use Rattle.trees.specs.declared.Node.{Node}
use Rattle.trees.specs.declared.Parts.TheVariants as parts
use Rattle.trees.specs.Node.{tree_at, node_tree, assemble, head_of_node, parts_of}
use Rattle.theory_states.specs.goal_tasks.Named.{head_named, named, inner_named, is_among}
use Rattle.theory_states.specs.goal_tasks.Gathered.{GainsSymbols, AreAmong, AreGathered, Walks}
use Rattle.tasks.proofs.outside.Bools.{or_grouped as or_joined, or_false as or_none}
use Rattle.std.proofs.lemmas.Bool.{or_left, or_right}

or_there : (a b : Bool) → (b ≡ true → a ≡ true) → a ≡ (a || b)
or_there true b h = refl
or_there false true h = h refl
or_there false false h = refl

or_cases : (a b : Bool) {P : Type 0} → (a || b) ≡ true → (a ≡ true → P) → (b ≡ true → P) → P
or_cases true b h f g = f refl
or_cases false b h f g = g h

-- ---- what is gained
pub gains_none : (a : List ℕ) → GainsSymbols a a []
gains_none a = record { each = λ k. or_none (is_among a k) }

pub gains_then : (a b c xs ys : List ℕ) → GainsSymbols a b xs → GainsSymbols b c ys → GainsSymbols a c (xs ++ ys)
gains_then a b c xs ys g h = record { each = λ k. h.each k ∙ ap (λ z. z || is_among ys k) (g.each k) ∙ or_joined (is_among a k) (is_among xs k) (is_among ys k) ∙ ap (λ z. is_among a k || z) (sym (list_any-append (nat_eq k) xs ys)) }

-- one more key, unless it is there
pub gains_one : (a b : List ℕ) (j : ℕ) → b ≡ (if list_any (nat_eq j) a then a else a ++ j ∷ []) → GainsSymbols a b (j ∷ [])
gains_one a b j q = rw q (by (list_any (nat_eq j) a) refl)
  where
    same_key : (k : ℕ) → list_any (nat_eq j) a ≡ true → (nat_eq k j || false) ≡ true → is_among a k ≡ true
    same_key k there e = let q : k ≡ j = grind (arith, nat_tests) in subst (λ z. is_among a z ≡ true) (sym q) there

    by : (t : Bool) → list_any (nat_eq j) a ≡ t → GainsSymbols a (if t then a else a ++ j ∷ []) (j ∷ [])
    by true e = record { each = λ k. or_there (is_among a k) (nat_eq k j || false) (same_key k e) }
    by false e = record { each = λ k. list_any-append (nat_eq k) a (j ∷ []) }

pub gains_in : (a b ks : List ℕ) → GainsSymbols a b ks → AreAmong b ks
gains_in a b ks g = record { each = λ k e. g.each k ∙ or_right (is_among a k) (is_among ks k) e }

in_later : (a b ks ns : List ℕ) → GainsSymbols a b ks → AreAmong a ns → AreAmong b ns
in_later a b ks ns g h = record { each = λ k e. g.each k ∙ or_left (is_among a k) (is_among ks k) (h.each k e) }

gains_there : (a ks : List ℕ) → AreAmong a ks → GainsSymbols a a ks
gains_there a ks h = record { each = λ k. or_there (is_among a k) (is_among ks k) (h.each k) }

module _ (s : List Tree) where
  pub done_none : (a ids : List ℕ) → ids ≡ [] → AreGathered s a ids
  done_none a ids q = record { each = λ id e. let f : is_among [] id ≡ true = subst (λ (z : List ℕ). is_among z id ≡ true) q e in absurd (cc) }

  done_later : (a b ks ids : List ℕ) → GainsSymbols a b ks → AreGathered s a ids → AreGathered s b ids
  done_later a b ks ids g h = record { each = λ id e. in_later a b ks (named (tree_at s (record { 0 = id }))) g (h.each id e) }

  pub walks_none : (a ids : List ℕ) → AreGathered s a ids → Walks s a a ids []
  walks_none a ids h = record { gains = gains_none a; is_done = h }

  pub walks_then : (a b c d e xs ys : List ℕ) → Walks s a b d xs → Walks s b c e ys → Walks s a c e (xs ++ ys)
  walks_then a b c d e xs ys h k = record { gains = gains_then a b c xs ys h.gains k.gains; is_done = k.is_done }

  -- what an operator names
  pub walks_noted : (a b d ks : List ℕ) → AreGathered s a d → GainsSymbols a b ks → Walks s a b d ks
  walks_noted a b d ks h g = record { gains = g; is_done = done_later a b ks d g h }

  -- a tree that was done adds nothing
  pub walks_done : (a d : List ℕ) (id : ℕ) → AreGathered s a d → list_any (nat_eq id) d ≡ true → Walks s a a d (named (tree_at s (record { 0 = id })))
  walks_done a d id h e = record { gains = gains_there a (named (tree_at s (record { 0 = id }))) (h.each id e); is_done = h }

  -- and one more is done
  pub walks_marked : (a b d e : List ℕ) (id : ℕ) → Walks s a b d (named (tree_at s (record { 0 = id }))) → e ≡ (if list_any (nat_eq id) d then d else d ++ id ∷ []) → Walks s a b e (named (tree_at s (record { 0 = id })))
  walks_marked a b d e id h q =
      let ns = named (tree_at s (record { 0 = id })) in
      let more = gains_one d e id q in
      record {
        gains = h.gains;
        is_done = record {
          each = λ j t. or_cases (is_among d j) (nat_eq j id || false) (sym (more.each j) ∙ t)
              (λ old. h.is_done.each j old)
              (λ new. let same : j ≡ id = grind (arith, nat_tests) in subst (λ (z : ℕ). AreAmong b (named (tree_at s (record { 0 = z })))) (sym same) (gains_in a b ns h.gains));
        };
      }

-- a tree's own, and then its children's
pub parts_of_tree : (e : Tree) → head_named (head_of e) ++ inner_named e ≡ named e
parts_of_tree (Leaf h) = append-nil (head_named h)
parts_of_tree (One h a) = refl
parts_of_tree (Two h a b) = refl
parts_of_tree (Three h a b c) = refl

-- the operator of a node's tree
pub head_of_tree : (s : List Tree) (n : Node) → head_of (node_tree s n) ≡ head_of_node n
head_of_tree s n = elim (parts_of n) as (λ p. head_of (assemble s (head_of_node n) p) ≡ head_of_node n) [ parts.None ↦ refl | parts.One a ↦ refl | parts.Two a b ↦ refl | parts.Three a b c ↦ refl ]

-- from a set without members
pub gains_from_none : (a b ks : List ℕ) → a ≡ [] → GainsSymbols a b ks → GainsSymbols [] b ks
gains_from_none a b ks q g = subst (λ (z : List ℕ). GainsSymbols z b ks) q g
