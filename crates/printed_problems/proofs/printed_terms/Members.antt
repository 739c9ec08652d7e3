-- The texts of the members of a list.
use Rattle.std.proofs.Common.{◌≡◌, ℕ, ◌∷◌, map, refl, ap}
use Rattle.trees.specs.Tree.{Tree, Leaf, One, Two, Three, HTrue, HTyRigid, HNot, HTyApp, HCell, HIf}
use Rattle.tasks.specs.Typing.{members}
use Rattle.printed_problems.specs.printed_terms.Texts.{Printing, printed, term_text, printed_sort, sort_text}

pub printed_members : (p : Printing) (d : ℕ) (list : Tree) → (printed p d list).members ≡ map (term_text p d) (members list)
printed_members p d (Leaf HTrue) = refl
printed_members p d (Leaf _) = refl
printed_members p d (One HNot a) = refl
printed_members p d (One _ a) = refl
printed_members p d (Two HCell a b) = ap (λ z. term_text p d a ∷ z) (printed_members p d b)
printed_members p d (Two _ a b) = refl
printed_members p d (Three HIf a b c) = refl
printed_members p d (Three _ a b c) = refl

pub sort_members : (p : Printing) (list : Tree) → (printed_sort p list).members ≡ map (sort_text p) (members list)
sort_members p (Leaf (HTyRigid k)) = refl
sort_members p (Leaf _) = refl
sort_members p (One (HTyApp k) a) = refl
sort_members p (One _ a) = refl
sort_members p (Two HCell a b) = ap (λ z. sort_text p a ∷ z) (sort_members p b)
sort_members p (Two _ a b) = refl
sort_members p (Three h a b c) = refl
