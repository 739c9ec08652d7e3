-- Values of atoms: 1 at one tree and 0 elsewhere.
use Rattle.std.specs.Prelude.{ℕ, ℤ, pos, Bool, true, false, ◌&&◌, ◌==◌, if◌then◌else◌, ◌≡◌, ◌++◌, List, [], ◌∷◌, Option, Some, None}
use Rattle.std.specs.Ordering.{int_eq}
use Rattle.trees.specs.Tree.{Tree, Leaf, One, Two, Three, Head}
use Rattle.trees.specs.Coding.{head_out}
use Rattle.trees.specs.declared.ints.Ints.{Ints}
use Rattle.linear_leaf.specs.Linear.{Bounded, bounded_at, reading, zeros, total}

abbrev pub same_head : Head → Head → Bool
same_head g h = ((head_out g).0 == (head_out h).0) && int_eq (head_out g).1 (head_out h).1

abbrev pub same_tree : Tree → Tree → Bool
same_tree (Leaf g) (Leaf h) = same_head g h
same_tree (One g a) (One h x) = same_head g h && same_tree a x
same_tree (Two g a b) (Two h x y) = same_head g h && (same_tree a x && same_tree b y)
same_tree (Three g a b c) (Three h x y u) =
    same_head g h && (same_tree a x && (same_tree b y && same_tree c u))
same_tree _ _ = false

abbrev pub unit : Bool → ℤ
unit true = pos 1
unit false = pos 0

abbrev pub one_at : Option Tree → Tree → ℤ
one_at None e = pos 0
one_at (Some p) e = unit (same_tree p e)

-- the atoms of the formulas that are used
abbrev pub part_atoms : Ints → Option Bounded → List Tree
part_atoms z (Some b) = (reading z zeros b.left).atoms ++ (reading z zeros b.right).atoms
part_atoms z None = []

abbrev pub use_atoms : Ints → List Tree → List (ℕ × ℤ) → List Tree
use_atoms z s [] = []
use_atoms z s (u ∷ us) = part_atoms z (bounded_at z s u.0) ++ use_atoms z s us

-- the weighted sum is the same where one atom is 1 as where all are 0
abbrev pub Cancels : Ints → List Tree → List (ℕ × ℤ) → Tree → Type 0
Cancels z s uses p = total z s (one_at (Some p)) uses ≡ total z s (one_at None) uses
