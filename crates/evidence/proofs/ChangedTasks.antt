-- A task whose formulas are changed by what keeps typing declares the same, as the same, and is valid where it isn't too large.
use Rattle.std.proofs.Common.{◌≡◌, ◌≢◌, ℕ, ◌≤◌, ◌==◌, ◌||◌, if◌then◌else◌, List, [], ◌∷◌, ◌++◌, map, suc, Option, Some, All, AllPairs, subst, refl, sym, ap, ◌∙◌, arith}
use Rattle.std.specs.List.{list_any}
use Rattle.std.specs.Option.{is_some}
use Rattle.std.proofs.lemmas.List.Sums.{sum_by-cons}
use Rattle.std.proofs.lemmas.List.Elements.{All-cons, All-nil, All-weaker}
use Rattle.trees.specs.Tree.{Tree, size}
use Rattle.tasks.specs.Task.{BodyTree, MakesType, Makes, Defines, Induces, Constructs, Says, DeclarationTree, TaskTree, made, made_by, body_nodes, declaration_nodes, formula_nodes, nodes}
use Rattle.tasks.specs.Roles.{maker, role, role_by, is_made_by, is_constructor}
use Rattle.tasks.specs.Copying.{with_goal}
use Rattle.tasks.specs.Vocabulary.{Vocabulary, of_task}
use Rattle.tasks.specs.Valid.{IsTypeIn, IsFormulaOver, IsValid, IsValidDecl, IsRigidEntry}
use Rattle.images.proofs.typing_laws.Sorted.{typed_has, small_typed}
use Rattle.evidence.specs.changed_tasks.Changed.{with_formula, changed_declarations, changed_task, KeepsFormulas}

module _ (g : Tree → Tree) where
  -- ---- what is declared
  made_once : (d : DeclarationTree) (b : BodyTree) → d.body ≡ b → made_by (with_formula g d b).body ≡ made_by d.body
  made_once d (Says a) q = sym (ap made_by q)
  made_once d (MakesType k) q = refl
  made_once d (Makes k) q = refl
  made_once d (Defines ds) q = refl
  made_once d (Induces is) q = refl
  made_once d (Constructs ts) q = refl

  pub made_changed : (ds : List DeclarationTree) → made (changed_declarations g ds) ≡ made ds
  made_changed [] = refl
  made_changed (d ∷ ds) = let p = made_once d d.body refl in let q = made_changed ds in cc

  maker_once : (k : ℕ) (d : DeclarationTree) (b : BodyTree) → d.body ≡ b → (xs ys : List DeclarationTree) → maker xs k ≡ maker ys k → maker (with_formula g d b ∷ xs) k ≡ maker (d ∷ ys) k
  maker_once k d (Says a) q xs ys e = e ∙ sym (ap (λ (z : BodyTree). if is_made_by k z then Some d else maker ys k) q)
  maker_once k d (MakesType j) q xs ys e = ap (λ (o : Option DeclarationTree). if is_made_by k d.body then Some d else o) e
  maker_once k d (Makes j) q xs ys e = ap (λ (o : Option DeclarationTree). if is_made_by k d.body then Some d else o) e
  maker_once k d (Defines ds) q xs ys e = ap (λ (o : Option DeclarationTree). if is_made_by k d.body then Some d else o) e
  maker_once k d (Induces is) q xs ys e = ap (λ (o : Option DeclarationTree). if is_made_by k d.body then Some d else o) e
  maker_once k d (Constructs ts) q xs ys e = ap (λ (o : Option DeclarationTree). if is_made_by k d.body then Some d else o) e

  pub maker_changed : (ds : List DeclarationTree) (k : ℕ) → maker (changed_declarations g ds) k ≡ maker ds k
  maker_changed [] k = refl
  maker_changed (d ∷ ds) k = maker_once k d d.body refl (changed_declarations g ds) ds (maker_changed ds k)

  -- ---- formulas
  module _ (v : Vocabulary) (keeps : KeepsFormulas v g) where
    pub formula_changed : (params : List Tree) (vars : ℕ) (e : Tree) → IsFormulaOver v params vars e → size (g e) ≤ 1048576 → IsFormulaOver v params vars (g e)
    formula_changed params vars e f l =
        let m = keeps e f.sort (typed_has v [] e f.typed) in
        record { sort = m.sort ∙ f.sort; typed = small_typed v (g e) m.typed l; parameters = m.parameters params f.parameters; variables = m.variables vars f.variables }

    declaration_valid : (d : DeclarationTree) (b : BodyTree) → d.body ≡ b → IsValidDecl v d → body_nodes (with_formula g d b).body ≤ 1048576 → IsValidDecl v (with_formula g d b)
    declaration_valid d (Says a) q f l = formula_changed [] d.vars a (subst (λ (b : BodyTree). IsValidDecl v (record d { body = b })) q f) l
    declaration_valid d (MakesType k) q f l = f
    declaration_valid d (Makes k) q f l = f
    declaration_valid d (Defines ds) q f l = f
    declaration_valid d (Induces is) q f l = f
    declaration_valid d (Constructs ts) q f l = f

    declarations_valid : (ds : List DeclarationTree) → All (IsValidDecl v) ds → declaration_nodes (changed_declarations g ds) ≤ 1048576 → All (IsValidDecl v) (changed_declarations g ds)
    declarations_valid [] a l = All-nil (IsValidDecl v)
    declarations_valid (d ∷ ds) a l =
        let n = sum_by-cons (λ (x : DeclarationTree). body_nodes x.body) (with_formula g d d.body) (changed_declarations g ds) in
        All-cons (IsValidDecl v) (with_formula g d d.body) (changed_declarations g ds) (declaration_valid d d.body refl (a 0 d (omega arith)) (omega (arith, n, l))) (declarations_valid ds (λ k e n. a (suc k) e (omega arith)) (omega (arith, n, l)))

    formulas_changed : (params es : List Tree) → All (IsFormulaOver v params 0) es → formula_nodes (map g es) ≤ 1048576 → All (IsFormulaOver v params 0) (map g es)
    formulas_changed params [] a l = All-nil (IsFormulaOver v params 0)
    formulas_changed params (e ∷ es) a l =
        let n = sum_by-cons size (g e) (map g es) in
        All-cons (IsFormulaOver v params 0) (g e) (map g es) (formula_changed params 0 e (a 0 e (omega arith)) (omega (arith, n, l))) (formulas_changed params es (λ k d n. a (suc k) d (omega arith)) (omega (arith, n, l)))

  -- ---- tasks
  module _ (t : TaskTree) where
    abbrev named_by : (ℕ → Option DeclarationTree) → Vocabulary
    named_by m = record {
      symbols = t.symbols;
      rigid = λ k. list_any (λ j. j == k) t.rigid;
      usable = λ k. k == 0 || is_some (m k);
      matched = λ k. is_constructor (role_by k (m k));
    }

    same_maker : maker (changed_declarations g t.decls) ≡ maker t.decls
    same_maker = λ i k. maker_changed t.decls k i

    pub vocabulary_changed : of_task (changed_task g t) ≡ of_task t
    vocabulary_changed = ap named_by same_maker

    pub role_changed : (k : ℕ) → role (changed_task g t) k ≡ role t k
    role_changed k = ap (role_by k) (maker_changed t.decls k)

    module _ (keeps : KeepsFormulas (of_task t) g) (valid : IsValid t) where
      pub changed_valid : nodes (changed_task g t) ≤ 1048576 → IsValid (changed_task g t)
      changed_valid l = record {
        int = valid.int;
        ints = valid.ints;
        once = subst (λ (ks : List ℕ). AllPairs (λ j k. j ≢ k) (0 ∷ t.rigid ++ ks)) (sym (made_changed t.decls)) valid.once;
        rigid = All-weaker (IsRigidEntry t) (IsRigidEntry (changed_task g t)) (λ i r. record { entry = r.entry; kind = r.kind; vars = r.vars; theory = r.theory; name = r.name; args = r.args; result = r.result }) t.rigid valid.rigid;
        decls = subst (λ (v : Vocabulary). All (IsValidDecl v) (changed_declarations g t.decls)) (sym vocabulary_changed) (declarations_valid (of_task t) keeps t.decls valid.decls (omega arith));
        params = subst (λ (v : Vocabulary). All (IsTypeIn v 0) t.params) (sym vocabulary_changed) valid.params;
        locals = subst (λ (v : Vocabulary). All (IsFormulaOver v t.params 0) (map g t.locals)) (sym vocabulary_changed) (formulas_changed (of_task t) keeps t.params t.locals valid.locals (omega arith));
        goal = subst (λ (v : Vocabulary). IsFormulaOver v t.params 0 (g t.goal)) (sym vocabulary_changed) (formula_changed (of_task t) keeps t.params 0 t.goal valid.goal (omega arith));
      }

      pub goal_changed_valid : nodes (with_goal t (g t.goal)) ≤ 1048576 → IsValid (with_goal t (g t.goal))
      goal_changed_valid l = record {
        int = valid.int;
        ints = valid.ints;
        once = valid.once;
        rigid = All-weaker (IsRigidEntry t) (IsRigidEntry (with_goal t (g t.goal))) (λ i r. record { entry = r.entry; kind = r.kind; vars = r.vars; theory = r.theory; name = r.name; args = r.args; result = r.result }) t.rigid valid.rigid;
        decls = valid.decls;
        params = valid.params;
        locals = valid.locals;
        goal = formula_changed (of_task t) keeps t.params 0 t.goal valid.goal (omega arith);
      }
