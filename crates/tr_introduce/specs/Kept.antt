-- The tasks with what was introduced are valid, and declare the same.
use Rattle.std.specs.Prelude.{◌≡◌, ℕ, zero, suc, List, [], ◌∷◌, ◌++◌, length, slice_get, All, Some, refl}
use Rattle.std.proofs.Common.{◌∙◌}
use Rattle.std.proofs.lemmas.List.Elements.{All-push, All-weaker}
use Rattle.trees.specs.declared.Op.TheVariants.{Imp}
use Rattle.trees.specs.Tree.{Tree, Two, HJoin, HForall}
use Rattle.trees.specs.Binding.{inst, Param}
use Rattle.trees.specs.Sorts.{WellSorted}
use Rattle.tasks.specs.Task.{TaskTree}
use Rattle.tasks.specs.Vocabulary.{of_task}
use Rattle.tasks.specs.Valid.{IsFormula, IsTypeOver, IsValid}
use Rattle.tasks.proofs.Closing.{typed_sorted}
use Rattle.evidence.specs.Stages.{Gives, Keeps, limited_gives}
use Rattle.evidence.specs.task_parts.Kept.{judgement_keeps, one_keeps}
use Rattle.tasks.specs.typed_trees.instances.Instances.{IsInstance}
use Rattle.tasks.proofs.InstanceLaws.{is_instance, param_closed, param_term}
use Rattle.tasks.proofs.KeptInstances.{parameters_longer}
use Rattle.tr_introduce.specs.Introduce.{Judgement, introduced_from, introduced_once, introduced_by, introduced, judgement_of, introduced_task, introduce_equation, prefix}

-- a judgement over the symbols of a task
pub record IsJudgement (t : TaskTree) (j : Judgement) : Type 0 where
  pub params : All (IsTypeOver t 0) j.params
  pub locals : All (IsFormula t j.params 0) j.locals
  pub goal : IsFormula t j.params 0 j.goal

-- the last of a list of parameters
last_of : (xs : List Tree) (x : Tree) → slice_get (xs ++ x ∷ []) (length xs) ≡ Some x
last_of [] x = refl
last_of (y ∷ xs) x = last_of xs x

module _ (t : TaskTree) where
  longer : (params : List Tree) (ty e : Tree) → IsFormula t params 0 e
      → IsFormula t (params ++ ty ∷ []) 0 e
  longer params ty e f = record {
    sort = f.sort;
    typed = f.typed;
    parameters =
        parameters_longer params (ty ∷ []) e f.parameters;
    variables = f.variables;
  }

  opened : (params : List Tree) (ty a : Tree) → IsFormula t params 0 (Two HForall ty a)
      → IsFormula t (params ++ ty ∷ []) 0 (inst a (Param (length params) ty))
  opened params ty a f =
      let c : Tree = Param (length params) ty in
      let w : WellSorted a = typed_sorted (of_task t) (ty ∷ []) a f.typed.3 in
      let y : WellSorted ty = typed_sorted (of_task t) [] ty f.typed.2 in
      let i : IsInstance a c (inst a c) =
      is_instance a c (param_closed (length params) ty y f.typed.0.0.0) w in
      record {
        sort = i.sort ∙ f.typed.0.0.1;
        typed = i.typed (of_task t) ty
            (param_term (of_task t) (length params) ty f.typed.0.0.0 f.typed.2) f.typed.3;
        parameters = i.parameters (params ++ ty ∷ [])
            (last_of params ty, parameters_longer params (ty ∷ []) ty f.parameters.0)
            (parameters_longer params (ty ∷ []) a f.parameters.1);
        variables = i.variables 0 f.variables.0 f.variables.1;
      }

  from_kept : (j : Judgement) (e : Tree) → All (IsTypeOver t 0) j.params
      → All (IsFormula t j.params 0) j.locals → IsFormula t j.params 0 j.goal
      → IsFormula t j.params 0 e → IsJudgement t (introduced_from j e)
  from_kept j (Two HForall ty a) p l g f = record {
    params = All-push (IsTypeOver t 0) j.params ty p
        (record { sort = f.typed.0.0.0; typed = f.typed.2; variables = f.variables.0 });
    locals = All-weaker (IsFormula t j.params 0) (IsFormula t (j.params ++ ty ∷ []) 0)
        (longer j.params ty) j.locals l;
    goal = opened j.params ty a f;
  }
  from_kept j (Two (HJoin Imp) a b) p l g f = record {
    params = p;
    locals = All-push (IsFormula t j.params 0) j.locals a l
        (record {
          sort = f.typed.0.0.0;
          typed = f.typed.2;
          parameters = f.parameters.0;
          variables =
              f.variables.0;
        });
    goal = record {
      sort = f.typed.0.0.1;
      typed = f.typed.3;
      parameters =
          f.parameters.1;
      variables = f.variables.1;
    };
  }
  from_kept j e p l g f = record { params = p; locals = l; goal = g }

  by_kept : (n : ℕ) (j : Judgement) → IsJudgement t j → IsJudgement t (introduced_by n j)
  by_kept zero j k = k
  by_kept (suc n) j k =
      by_kept n (introduced_once j) (from_kept j j.goal k.params k.locals k.goal k.goal)

  introduced_kept : IsValid t → Keeps t (introduced_task t)
  introduced_kept valid =
      let j = introduced (judgement_of t) in
      let k : IsJudgement t j =
      by_kept (prefix t.goal) (judgement_of t)
      (record { params = valid.params; locals = valid.locals; goal = valid.goal }) in
      judgement_keeps t j.params j.locals j.goal valid k.params k.locals k.goal

pub introduce_keeps : (t : TaskTree) (ts : List TaskTree) → IsValid t
    → Gives introduce_equation t ts → All (Keeps t) ts
introduce_keeps t ts valid e =
    one_keeps t (introduced_task t) ts (limited_gives (introduced_task t ∷ []) ts e)
    (introduced_kept t valid)
