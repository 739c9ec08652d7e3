-- The scripts for the laws refute what they are for.
use Rattle.std.proofs.Common.{◌≡◌, ℕ, List, [], ◌∷◌, slice_get, Some, refl}
use Rattle.std.proofs.lemmas.List.Elements.{All-nil}
use Rattle.trees.specs.declared.Op.{Op}
use Rattle.trees.specs.declared.Op.TheVariants.{And, AndThen, Or, OrElse, Imp, Iff}
use Rattle.trees.specs.Tree.{Tree, Leaf, One, Two, HTrue, HFalse, HNot, HJoin}
use Rattle.tasks.specs.Task.{TaskTree, neg}
use Rattle.tasks.specs.Valid.{IsTypeOver}
use Rattle.rules.specs.Trees.{RFalse}
use Rattle.evidence.specs.Drafts.{DraftTree}
use Rattle.evidence.specs.proof_scripts.Scripts.{IsOfTail, Follows, lines_at}
use Rattle.evidence.proofs.proof_scripts.Lines.{clash_line, true_line, not_not_line}
use Rattle.tr_simplify.specs.declared.laws.TruthValue.{TruthValue}
use Rattle.tr_simplify.specs.declared.laws.TruthValue.TheVariants as side
use Rattle.tr_simplify.specs.declared.laws.LawResult.TheVariants as outcome
use Rattle.tr_simplify.specs.Laws.{law_for, joined_by, negated_by}
use Rattle.tr_simplify.specs.Scripts.{denied, side_of, law_lines, not_lines}

pub false_line : (t : TaskTree) (s : List Tree) (i : ℕ) → slice_get s i ≡ Some (Leaf HFalse) → IsOfTail t s (RFalse i)
false_line t s i e = record { names = record { trees = tt; types = All-nil (IsTypeOver t 0) }; row = (e, refl) }

abbrev pub joined_denied : Op → TruthValue → TruthValue → Tree → Tree → Tree
joined_denied op k l a b = denied (Two (HJoin op) a b) (joined_by (law_for op k l) op k l a b)

abbrev there : Tree → Tree → List Tree → List Tree
there l r added = denied l r ∷ l ∷ neg r ∷ added

abbrev back : Tree → Tree → List Tree → List Tree
back l r added = denied l r ∷ neg l ∷ r ∷ added

module _ (d : DraftTree) where
  abbrev t : TaskTree
  t = d.task

  pub joined_follows : (op : Op) (k l : TruthValue) (a b : Tree) → (law_for op k l ≡ outcome.Stays → ⊥) → Follows d [] (lines_at d.trees (law_lines op k l)) ((joined_denied op k l (side_of k a) (side_of l b) ∷ []) ∷ [])
  joined_follows And side.True l a b n = let L : Tree = Two (HJoin And) (Leaf HTrue) (side_of l b) in let R : Tree = side_of l b in (refl, (refl, (clash_line t (there L R (Leaf HTrue ∷ side_of l b ∷ [])) 4 2 (side_of l b) refl refl, tt, (refl, (true_line t (back L R (neg (Leaf HTrue) ∷ [])) 3 refl, tt, (clash_line t (back L R (neg (side_of l b) ∷ [])) 2 3 (side_of l b) refl refl, tt, tt))))))
  joined_follows And k side.True a b n = let L : Tree = Two (HJoin And) (side_of k a) (Leaf HTrue) in let R : Tree = side_of k a in (refl, (refl, (clash_line t (there L R (side_of k a ∷ Leaf HTrue ∷ [])) 3 2 (side_of k a) refl refl, tt, (refl, (clash_line t (back L R (neg (side_of k a) ∷ [])) 2 3 (side_of k a) refl refl, tt, (true_line t (back L R (neg (Leaf HTrue) ∷ [])) 3 refl, tt, tt))))))
  joined_follows And side.False l a b n = let L : Tree = Two (HJoin And) (Leaf HFalse) (side_of l b) in let R : Tree = Leaf HFalse in (refl, (refl, (false_line t (there L R (Leaf HFalse ∷ side_of l b ∷ [])) 3 refl, tt, (false_line t (back L R []) 2 refl, tt, tt))))
  joined_follows And k side.False a b n = let L : Tree = Two (HJoin And) (side_of k a) (Leaf HFalse) in let R : Tree = Leaf HFalse in (refl, (refl, (false_line t (there L R (side_of k a ∷ Leaf HFalse ∷ [])) 4 refl, tt, (false_line t (back L R []) 2 refl, tt, tt))))
  joined_follows And side.Other side.Other a b n = absurd (n refl)
  joined_follows AndThen side.True l a b n = let L : Tree = Two (HJoin AndThen) (Leaf HTrue) (side_of l b) in let R : Tree = side_of l b in (refl, (refl, (clash_line t (there L R (Leaf HTrue ∷ side_of l b ∷ [])) 4 2 (side_of l b) refl refl, tt, (refl, (true_line t (back L R (neg (Leaf HTrue) ∷ [])) 3 refl, tt, (clash_line t (back L R (neg (side_of l b) ∷ [])) 2 3 (side_of l b) refl refl, tt, tt))))))
  joined_follows AndThen k side.True a b n = let L : Tree = Two (HJoin AndThen) (side_of k a) (Leaf HTrue) in let R : Tree = side_of k a in (refl, (refl, (clash_line t (there L R (side_of k a ∷ Leaf HTrue ∷ [])) 3 2 (side_of k a) refl refl, tt, (refl, (clash_line t (back L R (neg (side_of k a) ∷ [])) 2 3 (side_of k a) refl refl, tt, (true_line t (back L R (neg (Leaf HTrue) ∷ [])) 3 refl, tt, tt))))))
  joined_follows AndThen side.False l a b n = let L : Tree = Two (HJoin AndThen) (Leaf HFalse) (side_of l b) in let R : Tree = Leaf HFalse in (refl, (refl, (false_line t (there L R (Leaf HFalse ∷ side_of l b ∷ [])) 3 refl, tt, (false_line t (back L R []) 2 refl, tt, tt))))
  joined_follows AndThen k side.False a b n = let L : Tree = Two (HJoin AndThen) (side_of k a) (Leaf HFalse) in let R : Tree = Leaf HFalse in (refl, (refl, (false_line t (there L R (side_of k a ∷ Leaf HFalse ∷ [])) 4 refl, tt, (false_line t (back L R []) 2 refl, tt, tt))))
  joined_follows AndThen side.Other side.Other a b n = absurd (n refl)
  joined_follows Or side.False l a b n = let L : Tree = Two (HJoin Or) (Leaf HFalse) (side_of l b) in let R : Tree = side_of l b in (refl, (refl, (false_line t (there L R (Leaf HFalse ∷ [])) 3 refl, tt, (clash_line t (there L R (side_of l b ∷ [])) 3 2 (side_of l b) refl refl, tt, (refl, (clash_line t (back L R (neg (Leaf HFalse) ∷ neg (side_of l b) ∷ [])) 2 4 (side_of l b) refl refl, tt, tt))))))
  joined_follows Or k side.False a b n = let L : Tree = Two (HJoin Or) (side_of k a) (Leaf HFalse) in let R : Tree = side_of k a in (refl, (refl, (clash_line t (there L R (side_of k a ∷ [])) 3 2 (side_of k a) refl refl, tt, (false_line t (there L R (Leaf HFalse ∷ [])) 3 refl, tt, (refl, (clash_line t (back L R (neg (side_of k a) ∷ neg (Leaf HFalse) ∷ [])) 2 3 (side_of k a) refl refl, tt, tt))))))
  joined_follows Or side.True l a b n = let L : Tree = Two (HJoin Or) (Leaf HTrue) (side_of l b) in let R : Tree = Leaf HTrue in (refl, (true_line t (there L R []) 2 refl, tt, (refl, (true_line t (back L R (neg (Leaf HTrue) ∷ neg (side_of l b) ∷ [])) 3 refl, tt, tt))))
  joined_follows Or k side.True a b n = let L : Tree = Two (HJoin Or) (side_of k a) (Leaf HTrue) in let R : Tree = Leaf HTrue in (refl, (true_line t (there L R []) 2 refl, tt, (refl, (true_line t (back L R (neg (side_of k a) ∷ neg (Leaf HTrue) ∷ [])) 4 refl, tt, tt))))
  joined_follows Or side.Other side.Other a b n = absurd (n refl)
  joined_follows OrElse side.False l a b n = let L : Tree = Two (HJoin OrElse) (Leaf HFalse) (side_of l b) in let R : Tree = side_of l b in (refl, (refl, (false_line t (there L R (Leaf HFalse ∷ [])) 3 refl, tt, (clash_line t (there L R (side_of l b ∷ [])) 3 2 (side_of l b) refl refl, tt, (refl, (clash_line t (back L R (neg (Leaf HFalse) ∷ neg (side_of l b) ∷ [])) 2 4 (side_of l b) refl refl, tt, tt))))))
  joined_follows OrElse k side.False a b n = let L : Tree = Two (HJoin OrElse) (side_of k a) (Leaf HFalse) in let R : Tree = side_of k a in (refl, (refl, (clash_line t (there L R (side_of k a ∷ [])) 3 2 (side_of k a) refl refl, tt, (false_line t (there L R (Leaf HFalse ∷ [])) 3 refl, tt, (refl, (clash_line t (back L R (neg (side_of k a) ∷ neg (Leaf HFalse) ∷ [])) 2 3 (side_of k a) refl refl, tt, tt))))))
  joined_follows OrElse side.True l a b n = let L : Tree = Two (HJoin OrElse) (Leaf HTrue) (side_of l b) in let R : Tree = Leaf HTrue in (refl, (true_line t (there L R []) 2 refl, tt, (refl, (true_line t (back L R (neg (Leaf HTrue) ∷ neg (side_of l b) ∷ [])) 3 refl, tt, tt))))
  joined_follows OrElse k side.True a b n = let L : Tree = Two (HJoin OrElse) (side_of k a) (Leaf HTrue) in let R : Tree = Leaf HTrue in (refl, (true_line t (there L R []) 2 refl, tt, (refl, (true_line t (back L R (neg (side_of k a) ∷ neg (Leaf HTrue) ∷ [])) 4 refl, tt, tt))))
  joined_follows OrElse side.Other side.Other a b n = absurd (n refl)
  joined_follows Imp side.True l a b n = let L : Tree = Two (HJoin Imp) (Leaf HTrue) (side_of l b) in let R : Tree = side_of l b in (refl, (refl, (true_line t (there L R (neg (Leaf HTrue) ∷ [])) 3 refl, tt, (clash_line t (there L R (side_of l b ∷ [])) 3 2 (side_of l b) refl refl, tt, (refl, (clash_line t (back L R (Leaf HTrue ∷ neg (side_of l b) ∷ [])) 2 4 (side_of l b) refl refl, tt, tt))))))
  joined_follows Imp side.False l a b n = let L : Tree = Two (HJoin Imp) (Leaf HFalse) (side_of l b) in let R : Tree = Leaf HTrue in (refl, (true_line t (there L R []) 2 refl, tt, (refl, (false_line t (back L R (Leaf HFalse ∷ neg (side_of l b) ∷ [])) 3 refl, tt, tt))))
  joined_follows Imp k side.True a b n = let L : Tree = Two (HJoin Imp) (side_of k a) (Leaf HTrue) in let R : Tree = Leaf HTrue in (refl, (true_line t (there L R []) 2 refl, tt, (refl, (true_line t (back L R (side_of k a ∷ neg (Leaf HTrue) ∷ [])) 4 refl, tt, tt))))
  joined_follows Imp side.Other side.False a b n = let L : Tree = Two (HJoin Imp) a (Leaf HFalse) in let R : Tree = One HNot a in (refl, (refl, (clash_line t (there L R (neg a ∷ [])) 3 2 (neg a) refl refl, tt, (false_line t (there L R (Leaf HFalse ∷ [])) 3 refl, tt, (refl, (clash_line t (back L R (a ∷ neg (Leaf HFalse) ∷ [])) 3 2 a refl refl, tt, tt))))))
  joined_follows Imp side.Other side.Other a b n = absurd (n refl)
  joined_follows Iff k side.True a b n = let L : Tree = Two (HJoin Iff) (side_of k a) (Leaf HTrue) in let R : Tree = side_of k a in (refl, (refl, (clash_line t (there L R (side_of k a ∷ Leaf HTrue ∷ [])) 3 2 (side_of k a) refl refl, tt, (true_line t (there L R (neg (side_of k a) ∷ neg (Leaf HTrue) ∷ [])) 4 refl, tt, (refl, (true_line t (back L R (side_of k a ∷ neg (Leaf HTrue) ∷ [])) 4 refl, tt, (clash_line t (back L R (neg (side_of k a) ∷ Leaf HTrue ∷ [])) 2 3 (side_of k a) refl refl, tt, tt)))))))
  joined_follows Iff side.True l a b n = let L : Tree = Two (HJoin Iff) (Leaf HTrue) (side_of l b) in let R : Tree = side_of l b in (refl, (refl, (clash_line t (there L R (Leaf HTrue ∷ side_of l b ∷ [])) 4 2 (side_of l b) refl refl, tt, (true_line t (there L R (neg (Leaf HTrue) ∷ neg (side_of l b) ∷ [])) 3 refl, tt, (refl, (clash_line t (back L R (Leaf HTrue ∷ neg (side_of l b) ∷ [])) 2 4 (side_of l b) refl refl, tt, (true_line t (back L R (neg (Leaf HTrue) ∷ side_of l b ∷ [])) 3 refl, tt, tt)))))))
  joined_follows Iff side.False side.False a b n = let L : Tree = Two (HJoin Iff) (Leaf HFalse) (Leaf HFalse) in let R : Tree = Leaf HTrue in (refl, (true_line t (there L R []) 2 refl, tt, (refl, (false_line t (back L R (Leaf HFalse ∷ neg (Leaf HFalse) ∷ [])) 3 refl, tt, (false_line t (back L R (neg (Leaf HFalse) ∷ Leaf HFalse ∷ [])) 4 refl, tt, tt)))))
  joined_follows Iff side.Other side.False a b n = let L : Tree = Two (HJoin Iff) a (Leaf HFalse) in let R : Tree = One HNot a in (refl, (refl, (false_line t (there L R (a ∷ Leaf HFalse ∷ [])) 4 refl, tt, (clash_line t (there L R (neg a ∷ neg (Leaf HFalse) ∷ [])) 3 2 (neg a) refl refl, tt, (refl, (clash_line t (back L R (a ∷ neg (Leaf HFalse) ∷ [])) 3 2 a refl refl, tt, (false_line t (back L R (neg a ∷ Leaf HFalse ∷ [])) 4 refl, tt, tt)))))))
  joined_follows Iff side.False side.Other a b n = let L : Tree = Two (HJoin Iff) (Leaf HFalse) b in let R : Tree = One HNot b in (refl, (refl, (false_line t (there L R (Leaf HFalse ∷ b ∷ [])) 3 refl, tt, (clash_line t (there L R (neg (Leaf HFalse) ∷ neg b ∷ [])) 4 2 (neg b) refl refl, tt, (refl, (false_line t (back L R (Leaf HFalse ∷ neg b ∷ [])) 3 refl, tt, (clash_line t (back L R (neg (Leaf HFalse) ∷ b ∷ [])) 4 2 b refl refl, tt, tt)))))))
  joined_follows Iff side.Other side.Other a b n = absurd (n refl)

  pub not_follows : (k : TruthValue) (a : Tree) → (k ≡ side.Other → ⊥) → Follows d [] (lines_at d.trees (not_lines k)) ((denied (One HNot (side_of k a)) (negated_by k (side_of k a)) ∷ []) ∷ [])
  not_follows side.True a n = let L : Tree = neg (Leaf HTrue) in let R : Tree = Leaf HFalse in (refl, (true_line t (there L R []) 1 refl, tt, (false_line t (back L R []) 2 refl, tt, tt)))
  not_follows side.False a n = let L : Tree = neg (Leaf HFalse) in let R : Tree = Leaf HTrue in (refl, (true_line t (there L R []) 2 refl, tt, (not_not_line t (back L R []) 1 (Leaf HFalse) refl, tt, (false_line t (back L R (Leaf HFalse ∷ [])) 3 refl, tt, tt))))
  not_follows side.Other a n = absurd (n refl)
