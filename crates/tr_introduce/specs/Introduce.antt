-- Parameters and premises introduced from a goal (Why3 manual, "introduce_premises").
use Rattle.std.specs.Prelude.{ℕ, zero, suc, List, [], ◌∷◌, ◌++◌, length, Result, Ok}
use Rattle.trees.specs.declared.Op.TheVariants.{Imp}
use Rattle.trees.specs.declared.TermId.{TermId}
use Rattle.trees.specs.Tree.{Tree, Two, HJoin, HForall}
use Rattle.trees.specs.Node.{tree_at}
use Rattle.trees.specs.Binding.{inst, Param}
use Rattle.tasks.specs.Task.{TaskTree, neg}
use Rattle.tasks.specs.Meaning.{trees_at}

-- parameters by their types, premises, and a goal that is to follow from them
pub record Judgement : Type 0 where
  pub params : List Tree
  pub locals : List Tree
  pub goal : Tree

-- One introduction. Of `forall x. A` the variable becomes the parameter whose number is the number
-- of parameters, and `A` the goal there; of `A -> B` the premise A becomes the last local, and B
-- the goal.
abbrev pub introduced_from : Judgement → Tree → Judgement
introduced_from j (Two HForall ty a) =
    record {
      params = j.params ++ ty ∷ [];
      locals = j.locals;
      goal =
          inst a (Param (length j.params) ty);
    }
introduced_from j (Two (HJoin Imp) a b) =
    record { params = j.params; locals = j.locals ++ a ∷ []; goal = b }
introduced_from j _ = j

abbrev pub introduced_once : Judgement → Judgement
introduced_once j = introduced_from j j.goal

-- how many `forall` and `->` a formula begins with
abbrev pub prefix : Tree → ℕ
prefix (Two HForall ty a) = suc (prefix a)
prefix (Two (HJoin Imp) a b) = suc (prefix b)
prefix _ = 0

-- so many introductions
abbrev pub introduced_by : ℕ → Judgement → Judgement
introduced_by zero j = j
introduced_by (suc n) j = introduced_by n (introduced_once j)

-- as many as the goal begins with
abbrev pub introduced : Judgement → Judgement
introduced j = introduced_by (prefix j.goal) j

abbrev pub judgement_of : TaskTree → Judgement
judgement_of t = record { params = t.params; locals = t.locals; goal = t.goal }

abbrev pub with_judgement : TaskTree → Judgement → TaskTree
with_judgement t j = record t { params = j.params; locals = j.locals; goal = j.goal }

abbrev pub introduced_task : TaskTree → TaskTree
introduced_task t = with_judgement t (introduced (judgement_of t))

-- one task
abbrev pub introduce_equation : TaskTree → Result (List TaskTree) ℕ
introduce_equation t = Ok (introduced_task t ∷ [])

abbrev pub judgement_at : List Tree → List TermId → List TermId → TermId → Judgement
judgement_at s params locals goal =
    record { params = trees_at s params; locals = trees_at s locals; goal = tree_at s goal }

-- what is to be refuted for a judgement: the locals, then the negation of the goal
abbrev pub judgement_sequent : Judgement → List Tree
judgement_sequent j = j.locals ++ neg j.goal ∷ []
