-- What a line makes is a formula, and it is what the row of its rule adds.
use Rattle.std.proofs.Common.{◌≡◌, ℕ, List, [], Option, None, Some, IsSomeAnd, Result, Ok, Err, IfOk, refl, sym, ap, subst, ◌∙◌, arith}
use Rattle.std.specs.declared.alloc.AllocError.{AllocError}
use Rattle.trees.specs.declared.TermId.{TermId}
use Rattle.trees.specs.declared.Sort.TheVariants.{Kind}
use Rattle.trees.specs.Tree.{Tree, Two, Three, HForall, HExists, HLet, HIf}
use Rattle.trees.specs.Node.{tree_at, Holds}
use Rattle.trees.specs.Binding.{inst, Param}
use Rattle.trees.specs.Sorts.{sort_of, type_of}
use Rattle.tasks.specs.Task.{TaskTree, neg}
use Rattle.tasks.specs.Vocabulary.{of_task}
use Rattle.tasks.specs.Typing.{TypedUnder}
use Rattle.tasks.specs.Valid.{IsGroundFormula, VariablesBelow}
use Rattle.rules.specs.Forms.{equation_sides, let_of, if_of, equal, alike, by_cases}
use Rattle.rules.specs.Rows.{IsTemplate}
use Rattle.kernel.specs.Right.{IsGroundExpression}
use Rattle.tasks.specs.typed_trees.instances.Instances.{IsTermOf, IsClosedTerm, IsInstance}
use Rattle.tasks.proofs.InstanceLaws.{param_term}
use Rattle.evidence.specs.Drafts.{DraftTree, AddsTrees, IsFormulaAt}
use Rattle.evidence.specs.proof_scripts.Added.{IsAdded, quantifier_parts, IsClosedTermAt, IsTermFor, IsParameterFor, IsBodyAt, IsNegatedBodyAt, IsBodyAtNew, IsNegatedBodyAtNew, IsExpressionAt, AreComparable, IsLetEquation, IsIfEquation, IsTemplateFor, IsReplaced}
use Rattle.evidence.proofs.proof_scripts.Expressions.{closed_term, formula_at_term, value_type, value_term, let_sort, let_type, let_ground, cond_ground, yes_sort, yes_type, yes_ground, no_sort, no_type, no_ground}

-- what was made is a formula
pub made_formula : (r : Result TermId AllocError) (d1 : DraftTree) (P : TermId → Type 0) → IfOk r (Holds d1.trees) → IfOk r P → ((id : TermId) → Holds d1.trees id → P id → IsFormulaAt d1 id) → IfOk r (IsFormulaAt d1)
made_formula (Ok id) d1 P h p f = f id h p
made_formula (Err e) d1 P h p f = tt

pub made_added : (r : Result TermId AllocError) (d1 : DraftTree) (P : TermId → Type 0) (added : List (List Tree)) → IfOk r (IsFormulaAt d1) → IfOk r P → ((id : TermId) → IsFormulaAt d1 id → P id → IsAdded d1 id added) → IfOk r (λ id. IsAdded d1 id added)
made_added (Ok id) d1 P added h p f = f id h p
made_added (Err e) d1 P added h p f = tt

-- ---- a quantifier's body
module _ (d : DraftTree) (q ty body : TermId) (f : IsFormulaAt d q) where
  abbrev forall_is : Type 0
  forall_is = tree_at d.trees q ≡ Two HForall (tree_at d.trees ty) (tree_at d.trees body)

  abbrev exists_is : Type 0
  exists_is = tree_at d.trees q ≡ Two HExists (tree_at d.trees ty) (tree_at d.trees body)

  pub forall_term : (t : TermId) → forall_is → IsTermFor d (tree_at d.trees q) t → IsClosedTermAt d (tree_at d.trees ty) t
  forall_term t e o = subst (λ (z : Tree). IsTermFor d z t) e o

  pub exists_term : (t : TermId) → exists_is → IsTermFor d (tree_at d.trees q) t → IsClosedTermAt d (tree_at d.trees ty) t
  exists_term t e o = subst (λ (z : Tree). IsTermFor d z t) e o

  module _ (d1 : DraftTree) (id : TermId) (k : d1.task ≡ d.task) (h : Holds d1.trees id) where
    moved_formula : IsGroundFormula d.task (tree_at d1.trees id) → IsFormulaAt d1 id
    moved_formula g = record { held = h; ground = subst (λ (u : TaskTree). IsGroundFormula u (tree_at d1.trees id)) (sym k) g }

    pub forall_formula : (t : TermId) → forall_is → IsClosedTermAt d (tree_at d.trees ty) t → IsInstance (tree_at d.trees body) (tree_at d.trees t) (tree_at d1.trees id) → IsFormulaAt d1 id
    forall_formula t e o i =
        let w : IsGroundFormula d.task (Two HForall (tree_at d.trees ty) (tree_at d.trees body)) = subst (IsGroundFormula d.task) e f.ground in
        moved_formula (formula_at_term d.task (tree_at d.trees body) (tree_at d.trees ty) (tree_at d.trees t) (tree_at d1.trees id) w.typed.0.0.1 w.typed.3 w.ground.1 o.term o.variables i)

    pub exists_formula : (t : TermId) → exists_is → IsClosedTermAt d (tree_at d.trees ty) t → IsInstance (tree_at d.trees body) (tree_at d.trees t) (tree_at d1.trees id) → IsFormulaAt d1 id
    exists_formula t e o i =
        let w : IsGroundFormula d.task (Two HExists (tree_at d.trees ty) (tree_at d.trees body)) = subst (IsGroundFormula d.task) e f.ground in
        moved_formula (formula_at_term d.task (tree_at d.trees body) (tree_at d.trees ty) (tree_at d.trees t) (tree_at d1.trees id) w.typed.0.0.1 w.typed.3 w.ground.1 o.term o.variables i)

    param_at : (n : ℕ) → sort_of (tree_at d.trees ty) ≡ Kind → TypedUnder (of_task d.task) [] (tree_at d.trees ty) → VariablesBelow 0 (tree_at d.trees ty)
        → tree_at d1.trees id ≡ Param n (tree_at d.trees ty) → IsClosedTerm (tree_at d1.trees id) → IsClosedTermAt d1 (tree_at d.trees ty) id
    param_at n s x v e c = record {
      held = h;
      closed = c;
      term = subst (λ (u : TaskTree). IsTermOf (of_task u) (tree_at d.trees ty) (tree_at d1.trees id)) (sym k) (subst (IsTermOf (of_task d.task) (tree_at d.trees ty)) (sym e) (param_term (of_task d.task) n (tree_at d.trees ty) s x));
      variables = subst (VariablesBelow 0) (sym e) v;
    }

    pub forall_param : (n : ℕ) → forall_is → tree_at d1.trees id ≡ Param n (tree_at d.trees ty) → IsClosedTerm (tree_at d1.trees id) → IsTermFor d1 (tree_at d.trees q) id
    forall_param n e p c =
        let w : IsGroundFormula d.task (Two HForall (tree_at d.trees ty) (tree_at d.trees body)) = subst (IsGroundFormula d.task) e f.ground in
        subst (λ (z : Tree). IsTermFor d1 z id) (sym e) (param_at n w.typed.0.0.0 w.typed.2 w.ground.0 p c)

    pub exists_param : (n : ℕ) → exists_is → tree_at d1.trees id ≡ Param n (tree_at d.trees ty) → IsClosedTerm (tree_at d1.trees id) → IsTermFor d1 (tree_at d.trees q) id
    exists_param n e p c =
        let w : IsGroundFormula d.task (Two HExists (tree_at d.trees ty) (tree_at d.trees body)) = subst (IsGroundFormula d.task) e f.ground in
        subst (λ (z : Tree). IsTermFor d1 z id) (sym e) (param_at n w.typed.0.0.0 w.typed.2 w.ground.0 p c)

-- what is found of a quantifier stays over another tree for it
pub body_new : (q p e : Tree) (n : ℕ) → IsParameterFor q n p → IsBodyAt q p e → IsBodyAtNew q n e
body_new q p e n a b = by (quantifier_parts q) a b
  where
    by : (o : Option (Tree × Tree)) → IsSomeAnd o (λ z. p ≡ Param n z.0) → IsSomeAnd o (λ z. e ≡ inst z.1 p) → IsSomeAnd o (λ z. e ≡ inst z.1 (Param n z.0))
    by None x y = absurd x
    by (Some z) x y = y ∙ ap (inst z.1) x

pub body_negated : (q t e m : Tree) → m ≡ neg e → IsBodyAt q t e → IsNegatedBodyAt q t m
body_negated q t e m r b = by (quantifier_parts q) b
  where
    by : (o : Option (Tree × Tree)) → IsSomeAnd o (λ z. e ≡ inst z.1 t) → IsSomeAnd o (λ z. m ≡ neg (inst z.1 t))
    by None x = absurd x
    by (Some z) x = r ∙ ap neg x

pub body_new_negated : (q e m : Tree) (n : ℕ) → m ≡ neg e → IsBodyAtNew q n e → IsNegatedBodyAtNew q n m
body_new_negated q e m n r b = by (quantifier_parts q) b
  where
    by : (o : Option (Tree × Tree)) → IsSomeAnd o (λ z. e ≡ inst z.1 (Param n z.0)) → IsSomeAnd o (λ z. m ≡ neg (inst z.1 (Param n z.0)))
    by None x = absurd x
    by (Some z) x = r ∙ ap neg x

-- ---- a `let`
module _ (d : DraftTree) (whole value body : TermId) (f : IsExpressionAt d whole) (is : tree_at d.trees whole ≡ Two HLet (tree_at d.trees value) (tree_at d.trees body)) where
  let_at : IsGroundExpression d.task (Two HLet (tree_at d.trees value) (tree_at d.trees body))
  let_at = subst (IsGroundExpression d.task) is f.ground

  pub value_closed : IsClosedTerm (tree_at d.trees value)
  value_closed = closed_term d.task (tree_at d.trees value) (value_type d.task (tree_at d.trees value) (tree_at d.trees body) let_at).0 (value_term d.task (tree_at d.trees value) (tree_at d.trees body) let_at)

  pub let_alike : (d1 : DraftTree) (x : AddsTrees d d1) (id : TermId) → Holds d1.trees id → tree_at d1.trees id ≡ inst (tree_at d.trees body) (tree_at d.trees value)
      → IsInstance (tree_at d.trees body) (tree_at d.trees value) (tree_at d1.trees id) → AreComparable d1 whole id
  let_alike d1 x id h e i =
      let V = tree_at d.trees value in
      let B = tree_at d.trees body in
      let w : tree_at d1.trees whole ≡ Two HLet V B = x.trees.same whole.0 f.held ∙ is in
      let g : IsGroundExpression d1.task (tree_at d1.trees whole) = subst (λ (u : TaskTree). IsGroundExpression u (tree_at d1.trees whole)) (sym x.task) (subst (IsGroundExpression d.task) (sym w) let_at) in
      record {
        left = record { held = omega (arith, f.held, x.trees.longer); ground = g };
        right = record { held = h; ground = subst (λ (u : TaskTree). IsGroundExpression u (tree_at d1.trees id)) (sym x.task) (let_ground d.task V B let_at (tree_at d1.trees id) i e) };
        sort = let_sort d.task V B let_at (tree_at d1.trees id) i e ∙ ap sort_of (sym w);
        type = let_type d.task V B let_at (tree_at d1.trees id) i e ∙ ap type_of (sym w);
      }

  pub let_made : (d1 : DraftTree) (x : AddsTrees d d1) (inner : TermId) (e : Tree) → tree_at d1.trees inner ≡ inst (tree_at d.trees body) (tree_at d.trees value)
      → e ≡ alike (tree_at d1.trees whole) (tree_at d1.trees inner) → IsLetEquation (tree_at d.trees whole) e
  let_made d1 x inner e p q =
      let w : tree_at d1.trees whole ≡ tree_at d.trees whole = x.trees.same whole.0 f.held in
      let r : e ≡ alike (tree_at d.trees whole) (inst (tree_at d.trees body) (tree_at d.trees value)) = q ∙ ap (λ (z : Tree). alike z (tree_at d1.trees inner)) w ∙ ap (alike (tree_at d.trees whole)) p in
      subst (λ (z : Tree). IsSomeAnd (let_of z) (λ p. e ≡ alike (tree_at d.trees whole) (inst p.1 p.0))) (sym is) r

-- ---- an `if`
module _ (d : DraftTree) (whole cond yes no : TermId) (f : IsExpressionAt d whole) (is : tree_at d.trees whole ≡ Three HIf (tree_at d.trees cond) (tree_at d.trees yes) (tree_at d.trees no)) where
  if_at : IsGroundExpression d.task (Three HIf (tree_at d.trees cond) (tree_at d.trees yes) (tree_at d.trees no))
  if_at = subst (IsGroundExpression d.task) is f.ground

  pub if_cond : Holds d.trees cond → IsFormulaAt d cond
  if_cond h = record { held = h; ground = cond_ground d.task (tree_at d.trees cond) (tree_at d.trees yes) (tree_at d.trees no) if_at }

  pub if_yes : Holds d.trees yes → AreComparable d whole yes
  if_yes h = record {
    left = f;
    right = record { held = h; ground = yes_ground d.task (tree_at d.trees cond) (tree_at d.trees yes) (tree_at d.trees no) if_at };
    sort = yes_sort d.task (tree_at d.trees cond) (tree_at d.trees yes) (tree_at d.trees no) if_at ∙ ap sort_of (sym is);
    type = yes_type d.task (tree_at d.trees cond) (tree_at d.trees yes) (tree_at d.trees no) if_at ∙ ap type_of (sym is);
  }

  pub if_no : Holds d.trees no → AreComparable d whole no
  if_no h = record {
    left = f;
    right = record { held = h; ground = no_ground d.task (tree_at d.trees cond) (tree_at d.trees yes) (tree_at d.trees no) if_at };
    sort = no_sort d.task (tree_at d.trees cond) (tree_at d.trees yes) (tree_at d.trees no) if_at ∙ ap sort_of (sym is);
    type = no_type d.task (tree_at d.trees cond) (tree_at d.trees yes) (tree_at d.trees no) if_at ∙ ap type_of (sym is);
  }

  pub if_made : (e : Tree) → e ≡ by_cases (tree_at d.trees cond) (tree_at d.trees whole) (tree_at d.trees yes) (tree_at d.trees no) → IsIfEquation (tree_at d.trees whole) e
  if_made e p = subst (λ (z : Tree). IsSomeAnd (if_of z) (λ p. e ≡ by_cases p.0 (tree_at d.trees whole) p.1 p.2)) (sym is) p

-- ---- a template
module _ (d : DraftTree) (eq a b template : TermId) (f : IsFormulaAt d eq) (is : tree_at d.trees eq ≡ equal (tree_at d.trees a) (tree_at d.trees b)) (o : IsTemplateFor d (tree_at d.trees eq) (tree_at d.trees template)) where
  sides_at : IsGroundFormula d.task (equal (tree_at d.trees a) (tree_at d.trees b))
  sides_at = subst (IsGroundFormula d.task) is f.ground

  template_at : (ty : Tree) × ((type_of (tree_at d.trees a) ≡ Some ty) × IsTemplate d.task ty (tree_at d.trees template))
  template_at = by (type_of (tree_at d.trees a)) refl (subst (λ (z : Tree). IsTemplateFor d z (tree_at d.trees template)) is o)
    where
      by : (q : Option Tree) → type_of (tree_at d.trees a) ≡ q → IsSomeAnd q (λ ty. IsTemplate d.task ty (tree_at d.trees template)) → (ty : Tree) × ((type_of (tree_at d.trees a) ≡ Some ty) × IsTemplate d.task ty (tree_at d.trees template))
      by None e h = absurd h
      by (Some ty) e h = (ty, (e, h))

  right_term : IsTermOf (of_task d.task) template_at.0 (tree_at d.trees b)
  right_term = record { sort = sides_at.typed.0.0.1; typed = sides_at.typed.3; type = sym sides_at.typed.1 ∙ template_at.1.0 }

  pub right_closed : IsClosedTerm (tree_at d.trees b)
  right_closed = closed_term d.task (tree_at d.trees b) template_at.0 right_term

  pub replaced_formula : (d1 : DraftTree) (id : TermId) → d1.task ≡ d.task → Holds d1.trees id → IsInstance (tree_at d.trees template) (tree_at d.trees b) (tree_at d1.trees id) → IsFormulaAt d1 id
  replaced_formula d1 id k h i =
      let e = template_at.1.1 in
      record {
        held = h;
        ground = subst (λ (u : TaskTree). IsGroundFormula u (tree_at d1.trees id)) (sym k) (
            formula_at_term d.task (tree_at d.trees template) template_at.0 (tree_at d.trees b) (tree_at d1.trees id) e.sort e.typed e.ground right_term sides_at.ground.1 i);
      }

  pub replaced_made : (e : Tree) → e ≡ inst (tree_at d.trees template) (tree_at d.trees b) → IsReplaced (tree_at d.trees eq) (tree_at d.trees template) e
  replaced_made e p = subst (λ (z : Tree). IsSomeAnd (equation_sides (Some z)) (λ p. e ≡ inst (tree_at d.trees template) p.1)) (sym is) p
