-- The inversion formula of an inductive predicate: `forall xs. p xs -> D`, where D says that some
-- clause gives `p xs` (Why3 manual, "inductive predicates"): of a clause `forall ys. A1 -> .. -> An
-- -> p ts`, the disjunct `exists ys. A1 /\ .. /\ An /\ x1 = t1 /\ .. /\ xm = tm`.
use Rattle.std.specs.Prelude.{ℕ, ◌+◌, List, [], ◌∷◌}
use Rattle.trees.specs.Tree.{Tree, Leaf, One, Two, HFalse, HCell, HBound, HEq, HPred, HJoin, HForall, HExists}
use Rattle.trees.specs.declared.Op.TheVariants.{Imp, Or}
use Rattle.tasks.specs.Task.{SymbolTree}
use Rattle.tasks.specs.Conjunctions.{conjunction}
use Rattle.tasks.specs.Equations.{cells, type_variables, bound_variables, for_all}

-- each variable equals its argument, under so many binders more
abbrev pub argument_equations : ℕ → List Tree → Tree → List Tree
argument_equations n [] args = []
argument_equations n (One (HBound k) ty ∷ xs) (Two HCell t ts) =
    Two HEq (One (HBound (n + k)) ty) t ∷ argument_equations n xs ts
argument_equations n _ args = []

-- the premises of a clause and the equations on its conclusion's arguments
abbrev pub clause_parts : ℕ → List Tree → Tree → List Tree
clause_parts n xs (Two (HJoin Imp) a b) = a ∷ clause_parts n xs b
clause_parts n xs (Two (HPred p) types args) = argument_equations n xs args
clause_parts n xs _ = []

-- that a clause gives the predicate on these variables
abbrev pub given_by : ℕ → List Tree → Tree → Tree
given_by n xs (Two HForall y b) = Two HExists y (given_by (n + 1) xs b)
given_by n xs b = conjunction (clause_parts n xs b)

-- that some clause does
abbrev pub given_by_any : List Tree → List Tree → Tree
given_by_any xs [] = Leaf HFalse
given_by_any xs (c ∷ []) = given_by 0 xs c
given_by_any xs (c ∷ cs) = Two (HJoin Or) (given_by 0 xs c) (given_by_any xs cs)

-- of the predicate of this number and entry
abbrev pub inversion : ℕ → SymbolTree → List Tree → Tree
inversion p e clauses =
    let xs = bound_variables e.args in
    for_all e.args (Two (HJoin Imp) (Two (HPred p) (cells (type_variables 0 e.vars)) (cells xs))
    (given_by_any xs clauses))
