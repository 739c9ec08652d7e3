-- What is typed over a task is typed over another with the same symbols, which declares the same.
use Rattle.std.proofs.Common.{ℕ, ◌==◌, List, [], ◌∷◌, All, IsTrue, inl, inr, sym, subst}
use Rattle.std.specs.List.{list_any}
use Rattle.std.proofs.lemmas.List.Elements.{All-weaker}
use Rattle.trees.specs.Tree.{Tree}
use Rattle.trees.specs.Facts.{Each}
use Rattle.tasks.specs.Task.{TaskTree, made, neg}
use Rattle.tasks.specs.Roles.{RoleTree, PlainRole, DefinedRole, InductiveRole, AlgebraicRole, ConstructorRole, ProjectionRole, role, is_constructor}
use Rattle.tasks.specs.Vocabulary.{of_task}
use Rattle.tasks.specs.Valid.{IsGroundFormula, IsTypeOver}
use Rattle.tasks.proofs.Declared.{contains_step, contains_cases, usable_made, made_usable}
use Rattle.tasks.proofs.Moved.{IsWithin, typed_within}
use Rattle.rules.specs.Rows.{IsTemplate}
use Rattle.kernel.specs.Right.{IsGroundExpression}
use Rattle.evidence.specs.Stages.{IsGrouped, KeepsDeclared}

pub constructor_grouped : (r : RoleTree) → IsTrue (is_constructor r) → IsGrouped r
constructor_grouped (ConstructorRole c) x = tt
constructor_grouped (InductiveRole cs) x = tt
constructor_grouped (AlgebraicRole cs) x = tt
constructor_grouped (ProjectionRole c j) x = tt
constructor_grouped PlainRole x = absurd (cc)
constructor_grouped (DefinedRole e) x = absurd (cc)

module _ (t u : TaskTree) (h : KeepsDeclared u t) where
  -- a constructor of the one is one of the other
  pub constructor_moved : (k : ℕ) → IsTrue (is_constructor (role t k)) → IsTrue (is_constructor (role u k))
  constructor_moved k x = subst (λ (r : RoleTree). IsTrue (is_constructor r)) (sym (h.groups k (constructor_grouped (role t k) x))) x

  within : IsWithin (of_task t) (of_task u)
  within = record {
    symbols = h.symbols;
    rigid = λ k x. subst (λ (z : List ℕ). IsTrue (list_any (λ j. j == k) z)) h.rigid x;
    usable = λ k x. made_usable u k (elim (contains_cases 0 k (made t.decls) (usable_made t k x)) [
      | inl e ↦ contains_step 0 k (made u.decls) (inl e)
      | inr i ↦ contains_step 0 k (made u.decls) (inr ((h.made k).0 i))
    ]);
    matched = λ k x. constructor_moved k x;
  }

  pub formula_moved : (e : Tree) → IsGroundFormula t e → IsGroundFormula u e
  formula_moved e f = record { sort = f.sort; typed = typed_within (of_task t) (of_task u) within [] e f.typed; ground = f.ground }

  pub formulas_moved : (es : List Tree) → All (IsGroundFormula t) es → All (IsGroundFormula u) es
  formulas_moved es a = All-weaker (IsGroundFormula t) (IsGroundFormula u) formula_moved es a

  type_moved : (e : Tree) → IsTypeOver t 0 e → IsTypeOver u 0 e
  type_moved e f = record { sort = f.sort; typed = typed_within (of_task t) (of_task u) within [] e f.typed; variables = f.variables }

  expression_moved : (e : Tree) → IsGroundExpression t e → IsGroundExpression u e
  expression_moved e f = record { sort = f.sort; typed = typed_within (of_task t) (of_task u) within [] e f.typed; ground = f.ground }

  pub trees_moved : (es : List Tree) → Each (IsGroundExpression t) es → Each (IsGroundExpression u) es
  trees_moved [] a = tt
  trees_moved (e ∷ es) a = (expression_moved e a.0, trees_moved es a.1)

  pub template_moved : (ty e : Tree) → IsTemplate t ty e → IsTemplate u ty e
  template_moved ty e f = record { sort = f.sort; typed = typed_within (of_task t) (of_task u) within (ty ∷ []) e f.typed; ground = f.ground }

  pub types_moved : (es : List Tree) → All (IsTypeOver t 0) es → All (IsTypeOver u 0) es
  types_moved es a = All-weaker (IsTypeOver t 0) (IsTypeOver u 0) type_moved es a

-- what is negated is a formula
pub formula_negated : (t : TaskTree) (a : Tree) → IsGroundFormula t (neg a) → IsGroundFormula t a
formula_negated t a f = record { sort = f.typed.0; typed = f.typed.2; ground = f.ground }

-- a formula is a term or a formula
pub as_expression : (t : TaskTree) (a : Tree) → IsGroundFormula t a → IsGroundExpression t a
as_expression t a f = record { sort = inr f.sort; typed = f.typed; ground = f.ground }
