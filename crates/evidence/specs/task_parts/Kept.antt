-- What a task with other parts keeps of a valid one.
use Rattle.std.specs.Prelude.{◌≡◌, ◌≢◌, ◌↔◌, ℕ, List, [], ◌∷◌, All, AllPairs, Contains, refl}
use Rattle.std.proofs.Common.{sym, subst}
use Rattle.std.proofs.lemmas.List.Elements.{All-cons, All-nil, All-weaker}
use Rattle.tasks.specs.trees.Tree.{Tree}
use Rattle.tasks.specs.Task.{TaskTree, DeclarationTree, made, declared}
use Rattle.tasks.specs.Roles.{role}
use Rattle.tasks.specs.Vocabulary.{of_task}
use Rattle.tasks.specs.Valid.{IsFormula, IsTypeOver, IsValid, IsValidDecl, IsRigidEntry}
use Rattle.evidence.specs.Stages.{Keeps, IsGrouped}
use Rattle.evidence.specs.task_parts.Parts.{task_with}

-- declarations that make the same symbols, and parts that are valid with them
pub record AreValidParts (t : TaskTree) (ds : List DeclarationTree) (ps ls : List Tree)
    (g : Tree) : Type 0 where
  pub made : (k : ℕ) → Contains (made ds) k ↔ Contains (made t.decls) k
  pub groups : (k : ℕ) → IsGrouped (role (task_with t ds ps ls g) k)
      → role t k ≡ role (task_with t ds ps ls g) k
  pub once : AllPairs (λ j k. j ≢ k) (declared (task_with t ds ps ls g))
  pub decls : All (IsValidDecl (of_task (task_with t ds ps ls g))) ds
  pub params : All (IsTypeOver (task_with t ds ps ls g) 0) ps
  pub locals : All (IsFormula (task_with t ds ps ls g) ps 0) ls
  pub goal : IsFormula (task_with t ds ps ls g) ps 0 g

pub parts_keep : (t : TaskTree) (decls : List DeclarationTree) (params locals : List Tree)
    (goal : Tree) → IsValid t → AreValidParts t decls params locals goal
    → Keeps t (task_with t decls params locals goal)
parts_keep t decls params locals goal valid p = record {
  declared = record { symbols = refl; ints = refl; rigid = refl; made = p.made; groups = p.groups };
  valid = record {
    int = valid.int;
    ints = valid.ints;
    once = p.once;
    rigid = All-weaker (IsRigidEntry t) (IsRigidEntry (task_with t decls params locals goal))
        (λ i r. record {
          entry = r.entry;
          kind = r.kind;
          vars = r.vars;
          theory = r.theory;
          name =
              r.name;
          args = r.args;
          result = r.result;
        }) t.rigid valid.rigid;
    decls = p.decls;
    params = p.params;
    locals = p.locals;
    goal = p.goal;
  };
}

-- where the declarations stay
pub judgement_keeps : (t : TaskTree) (params locals : List Tree) (goal : Tree) → IsValid t
    → All (IsTypeOver t 0) params → All (IsFormula t params 0) locals → IsFormula t params 0 goal
    → Keeps t (task_with t t.decls params locals goal)
judgement_keeps t params locals goal valid p l g =
    parts_keep t t.decls params locals goal valid
    (record {
      made = λ k. (λ x. x, λ x. x);
      groups = λ k r. refl;
      once = valid.once;
      decls =
          valid.decls;
      params = p;
      locals = l;
      goal = g;
    })

-- a stage of one task keeps what the task does
pub one_keeps : (t u : TaskTree) (ts : List TaskTree) → ts ≡ u ∷ [] → Keeps t u → All (Keeps t) ts
one_keeps t u ts one k =
    subst (All (Keeps t)) (sym one) (All-cons (Keeps t) u [] k (All-nil (Keeps t)))
