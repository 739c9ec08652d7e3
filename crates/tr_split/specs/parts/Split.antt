-- The parts of a goal, by cases on the formula (Why3 manual, "split_goal_right").
-- Where each part is proved, so is the goal.
use Rattle.std.specs.Prelude.{◌≡◌, ℕ, List, [], ◌∷◌, ◌++◌, map, refl}
use Rattle.trees.specs.declared.Op.TheVariants.{And, AndThen, Or, Imp, Iff}
use Rattle.trees.specs.Tree.{Tree, Leaf, Two, Three, HTrue, HEnd, HPred, HJoin, HForall, HLet, HIf}
use Rattle.tasks.specs.Task.{TaskTree, neg}
use Rattle.tasks.specs.Copying.{with_goal}

abbrev pub imp : Tree → Tree → Tree
imp a b = Two (HJoin Imp) a b

abbrev pub split : Tree → List Tree
split (Leaf HTrue) = []
split (Two (HJoin And) a b) = split a ++ split b
split (Two (HJoin AndThen) a b) = split a ++ map (imp a) (split b)
split (Two (HJoin Imp) a b) = map (imp a) (split b)
split (Two (HJoin Iff) a b) = imp a b ∷ imp b a ∷ []
split (Two HForall ty a) = map (Two HForall ty) (split a)
split (Two HLet t a) = map (Two HLet t) (split a)
split (Three HIf c a b) = map (imp c) (split a) ++ map (imp (neg c)) (split b)
split e = e ∷ []

-- a task for each part of the goal
abbrev pub split_task : TaskTree → List TaskTree
split_task t = map (with_goal t) (split t.goal)

-- the predicate without arguments, of this entry
abbrev pub predicate_letter : ℕ → Tree
predicate_letter k = Two (HPred k) (Leaf HEnd) (Leaf HEnd)

-- p /\ (q -> p) gives p, and q -> p
pub splits_and : split (Two (HJoin And) (predicate_letter 1)
    (imp (predicate_letter 2) (predicate_letter 1)))
    ≡ predicate_letter 1 ∷ imp (predicate_letter 2) (predicate_letter 1) ∷ []
splits_and = refl

-- p && (q /\ r) gives p, then p -> q and p -> r
pub splits_and_then : split (Two (HJoin AndThen) (predicate_letter 1)
    (Two (HJoin And) (predicate_letter 2) (predicate_letter 3)))
    ≡ predicate_letter 1 ∷ imp (predicate_letter 1) (predicate_letter 2)
    ∷ imp (predicate_letter 1) (predicate_letter 3) ∷ []
splits_and_then = refl

-- true gives nothing, also under a quantifier
pub splits_true : split (Two HForall (predicate_letter 0) (Leaf HTrue)) ≡ []
splits_true = refl

-- if c then p else (q <-> r) gives c -> p, then not c -> q -> r and not c -> r -> q
pub splits_if : split (Three HIf (predicate_letter 1) (predicate_letter 2)
    (Two (HJoin Iff) (predicate_letter 3) (predicate_letter 4)))
    ≡ imp (predicate_letter 1) (predicate_letter 2)
    ∷ imp (neg (predicate_letter 1)) (imp (predicate_letter 3) (predicate_letter 4))
    ∷ imp (neg (predicate_letter 1)) (imp (predicate_letter 4) (predicate_letter 3)) ∷ []
splits_if = refl

-- p \/ (q /\ r) gives itself
pub splits_or : split (Two (HJoin Or) (predicate_letter 1)
    (Two (HJoin And) (predicate_letter 2) (predicate_letter 3)))
    ≡ Two (HJoin Or) (predicate_letter 1)
    (Two (HJoin And) (predicate_letter 2) (predicate_letter 3)) ∷ []
splits_or = refl
