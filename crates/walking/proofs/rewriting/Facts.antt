-- Facts of a rewritten task, and the propositions of the old one from which they come.
use Rattle.std.specs.Prelude.{slice_get, IsSomeAnd}
use Rattle.std.specs.Option.{option_map}
use Rattle.std.proofs.Common.{◌≡◌, ℕ, zero, suc, ◌≤◌, List, [], ◌∷◌, ◌++◌, map, length, get_or, Option, Some, None, All, inl, inr, refl, sym, ap, subst, ◌∙◌, arith}
use Rattle.std.proofs.lemmas.Bool.{cases_lt}
use Rattle.std.proofs.lemmas.List.{map-append, get_or_past}
use Rattle.std.proofs.lemmas.List.Elements.{All-nil}
use Rattle.std.proofs.lemmas.Option.{slice_get-map}
use Rattle.tasks.specs.trees.declared.TermId.{TermId}
use Rattle.tasks.specs.trees.Tree.{Tree, Leaf, One, Two, Three, Head, HParam, one_params, above_params, loose}
use Rattle.tasks.specs.trees.Node.{tree_at, Holds}
use Rattle.tasks.specs.trees.Binding.{inst_types, inst_many, TyVar}
use Rattle.tasks.proofs.trees.Many.{inst_many_closed}
use Rattle.tasks.specs.declared.facts.Fact.{Fact}
use Rattle.tasks.specs.declared.facts.Fact.TheVariants as fact
use Rattle.tasks.specs.Task.{BodyTree, MakesType, Makes, Defines, Induces, Constructs, Says, DeclarationTree, TaskTree, PropositionTree, said_by, props_of, props, neg}
use Rattle.tasks.specs.declared.proposition.Proposition.{Proposition}
use Rattle.tasks.specs.declared.task.Task.{Task}
use Rattle.tasks.specs.Meaning.{trees_at, proposition_at, task_at}
use Rattle.tasks.proofs.Closing.{typed_closed}
use Rattle.tasks.proofs.TypeInstances.{formula_at_types}
use Rattle.tasks.specs.Copying.{with_goal}
use Rattle.tasks.specs.Vocabulary.{of_task}
use Rattle.tasks.specs.Valid.{VariablesBelow, IsGround, OneOf, ParametersOf, IsFormula, IsGroundFormula, IsTypeOver, IsValid, IsValidDecl}
use Rattle.trees.specs.binders.Visits.{HoldTypes}
use Rattle.evidence.specs.Facts.{fact_named, IsFact}
use Rattle.evidence.specs.Drafts.{DraftTree, Extends, AddsTrees, Refutes, IsFormulaAt}
use Rattle.evidence.specs.Laws.{Extends_trans}
use Rattle.evidence.proofs.Rules.{refutes_later}
use Rattle.evidence.proofs.Formulas.{formula_later}
use Rattle.tasks.proofs.Growth.{trees_later}
use Rattle.evidence.specs.Stages.{Gives, IsAmong, IsOwnTask}
use Rattle.images.specs.Instances.{IsInstanceAtTypes}
use Rattle.images.specs.Open.{IsEnvironment}
use Rattle.evidence.proofs.task_parts.One.{among_one}
use Rattle.evidence.proofs.task_parts.Facts.{fact_renamed, named_kept}
use Rattle.evidence.specs.images.typing_laws.HasTyping.{IsTypeAt}
use Rattle.evidence.specs.changed_tasks.Changed.{with_formula, changed_declarations, changed_task}
use Rattle.evidence.proofs.ChangedTasks.{role_changed}
use Rattle.evidence.proofs.images.typing_laws.Sorted.{typed_has}
use Rattle.walking.specs.declared.rewriting.formulas.FormulaScope.{FormulaScope}
use Rattle.walking.specs.declared.rewriting.formulas.FormulaScope.TheVariants as scope
use Rattle.walking.specs.rewriting.Formulas.{CommutesWithTypes}
use Rattle.walking.specs.rewriting.Rewritten.{formulas_equation}
use Rattle.walking.specs.rewriting.Kept.{one_rewritten}
use Rattle.walking.specs.rewriting.Facts.{IsPropositionAt, IsMadeAt, IsImageAt}

-- ---- facts that stay
abbrev pub IsOther : Fact → Type 0
IsOther (fact.Proposition k) = ⊥
IsOther _ = Unit {0}

pub is_other : (name : Fact) → ((k : ℕ) → name ≡ fact.Proposition k → ⊥) → IsOther name
is_other (fact.Proposition k) n = absurd (n k refl)
is_other (fact.Equation k) n = tt
is_other (fact.Clause k c) n = tt
is_other (fact.Inversion k) n = tt

module _ (g : Tree → Tree) (t : TaskTree) where
  other_named : (name : Fact) → IsOther name → fact_named (changed_task g t) name ≡ fact_named t name
  other_named (fact.Proposition k) o = absurd o
  other_named (fact.Equation k) o = rw (role_changed g t k) refl
  other_named (fact.Clause k c) o = rw (role_changed g t k) refl
  other_named (fact.Inversion k) o = rw (role_changed g t k) refl

  -- ---- propositions
  abbrev changed : PropositionTree → PropositionTree
  changed p = record { vars = p.vars; formula = g p.formula }

  said_changed : (d : DeclarationTree) (b : BodyTree) → d.body ≡ b → said_by (with_formula g d b) (with_formula g d b).body ≡ map changed (said_by d b)
  said_changed d (Says a) q = refl
  said_changed d (MakesType k) q = ap (said_by d) q
  said_changed d (Makes k) q = ap (said_by d) q
  said_changed d (Defines ds) q = ap (said_by d) q
  said_changed d (Induces is) q = ap (said_by d) q
  said_changed d (Constructs ts) q = ap (said_by d) q

  props_changed : (ds : List DeclarationTree) → props_of (changed_declarations g ds) ≡ map changed (props_of ds)
  props_changed [] = refl
  props_changed (d ∷ ds) =
      ap (λ (z : List PropositionTree). z ++ props_of (changed_declarations g ds)) (said_changed d d.body refl) ∙ ap (λ (z : List PropositionTree). map changed (said_by d d.body) ++ z) (props_changed ds)
      ∙ sym (map-append changed (said_by d d.body) (props_of ds))

module _ (t : TaskTree) (g : TaskTree → Tree → Tree) (u : TaskTree) (types : List Tree) (formula : Tree) where
  abbrev Among : FormulaScope → Type 0
  Among sc = IsAmong (Gives (formulas_equation sc g) t) u

  -- a fact of the task whose goal alone is rewritten is one of the old task
  pub goal_fact : (name : Fact) → Among scope.Goal → IsFact t u name types formula → IsFact t t name types formula
  goal_fact name a =
      among_one (λ z. IsFact t z name types formula → IsFact t t name types formula) (Gives (formulas_equation scope.Goal g) t) (with_goal t (g t t.goal)) u a (one_rewritten scope.Goal g t a.tasks a.is)
      (λ f. fact_renamed t (with_goal t (g t t.goal)) t name name types formula (named_kept t t.params t.locals (g t t.goal) name) f)

  -- and so is one that isn't a proposition
  pub other_fact : (name : Fact) → IsOther name → Among scope.Everywhere → IsFact t u name types formula → IsFact t t name types formula
  other_fact name o a =
      among_one (λ z. IsFact t z name types formula → IsFact t t name types formula) (Gives (formulas_equation scope.Everywhere g) t) (changed_task (g t) t) u a (one_rewritten scope.Everywhere g t a.tasks a.is)
      (λ f. fact_renamed t (changed_task (g t) t) t name name types formula (other_named (g t) t name o) f)

  said_old : (k : ℕ) (o : Option PropositionTree) → slice_get (props t) k ≡ o → IsSomeAnd (option_map (changed (g t) t) o) (λ p. (length types ≡ p.vars) × (formula ≡ inst_types p.formula types)) → All (IsTypeOver t 0) types → IsImageAt t (g t) k types formula
  said_old k None q h n = absurd h
  said_old k (Some p) q h n = record { at = record { proposition = p; there = q; as_many = h.0; ground = n }; is = h.1 }

  -- a proposition is what one of the old task becomes
  pub proposition_fact : (k : ℕ) → Among scope.Everywhere → IsFact t u (fact.Proposition k) types formula → IsImageAt t (g t) k types formula
  proposition_fact k a =
      among_one (λ z. IsFact t z (fact.Proposition k) types formula → IsImageAt t (g t) k types formula) (Gives (formulas_equation scope.Everywhere g) t) (changed_task (g t) t) u a (one_rewritten scope.Everywhere g t a.tasks a.is)
      (λ f. said_old k (slice_get (props t) k) refl
      (subst (λ (o : Option PropositionTree). IsSomeAnd o (λ p. (length types ≡ p.vars) × (formula ≡ inst_types p.formula types)))
      (ap (λ (ps : List PropositionTree). slice_get ps k) (props_changed (g t) t t.decls) ∙ slice_get-map (changed (g t) t) (props t) k) f.said) f.ground)

-- ---- a proposition of a valid task
proposition_said : (t : TaskTree) (d : DeclarationTree) (b : BodyTree) (ds : List DeclarationTree) (k : ℕ) (p : PropositionTree) → IsValidDecl (of_task t) (record d { body = b }) → slice_get (said_by d b ++ props_of ds) k ≡ Some p
    → ((j : ℕ) → slice_get (props_of ds) j ≡ Some p → IsFormula t [] p.vars p.formula) → IsFormula t [] p.vars p.formula
proposition_said t d (Says a) ds zero p v e rest = let q : record { vars = d.vars; formula = a } ≡ p = cc in subst (λ (z : PropositionTree). IsFormula t [] z.vars z.formula) q v
proposition_said t d (Says a) ds (suc k) p v e rest = rest k e
proposition_said t d _ ds k p v e rest = rest k e

proposition_in : (t : TaskTree) (ds : List DeclarationTree) → All (IsValidDecl (of_task t)) ds → (k : ℕ) (p : PropositionTree) → slice_get (props_of ds) k ≡ Some p → IsFormula t [] p.vars p.formula
proposition_in t [] v k p e = absurd (cc)
proposition_in t (d ∷ ds) v k p e = proposition_said t d d.body ds k p (v 0 d (omega arith)) e (λ j q. proposition_in t ds (λ i x n. v (suc i) x (omega arith)) j p q)

pub own_proposition : (t : TaskTree) → IsValid t → (k : ℕ) (p : PropositionTree) → slice_get (props t) k ≡ Some p → IsFormula t [] p.vars p.formula
own_proposition t valid k p e = proposition_in t t.decls valid.decls k p e

-- ---- types
pub hold_types : (t : TaskTree) (s : List Tree) (ids : List TermId) → All (Holds s) ids → All (IsTypeOver t 0) (trees_at s ids) → HoldTypes s ids
hold_types t s [] h k = tt
hold_types t s (id ∷ ids) h k = ((h 0 id (omega arith), (k 0 (tree_at s id) (omega arith)).sort), hold_types t s ids (λ i x l. h (suc i) x (omega arith)) (λ i x l. k (suc i) x (omega arith)))

pub types_at : (t : TaskTree) (ys : List Tree) → All (IsTypeOver t 0) ys → (j : ℕ) → IsTypeAt (of_task t) (get_or ys j (TyVar j))
types_at t ys k j = elim (cases_lt j (length ys)) [
  | inl l ↦ let i = k j (TyVar j) l in (i.sort, typed_has (of_task t) [] (get_or ys j (TyVar j)) i.typed)
  | inr l ↦ subst (IsTypeAt (of_task t)) (sym (get_or_past ys j (TyVar j) l)) (refl, (tt, tt))
]

-- the proposition at the types becomes the formula
pub becomes_image : (t : TaskTree) → IsValid t → (g : Tree → Tree) → CommutesWithTypes (of_task t) g → (k : ℕ) (types : List Tree) (formula old : Tree) → (i : IsImageAt t g k types formula) → old ≡ inst_types i.at.proposition.formula types → g old ≡ formula
becomes_image t valid g c k types formula old i e =
    let f = own_proposition t valid k i.at.proposition i.at.there in
    ap g e ∙ c types (types_at t types i.at.ground) i.at.proposition.formula f.sort (typed_has (of_task t) [] i.at.proposition.formula f.typed) ∙ sym i.is

-- a formula without parameters
one_none : (h : Head) (n : ℕ) (a : Tree) → OneOf [] h a → n ≤ 0 → one_params h n ≤ 0
one_none (HParam i) n a p l = absurd (cc)
one_none _ n a p l = l

no_params : (e : Tree) → ParametersOf [] e → above_params e ≤ 0
no_params (Leaf h) p = omega arith
no_params (One h a) p = one_none h (above_params a) a p.0 (no_params a p.1)
no_params (Two h a b) p = omega (arith, no_params a p.0, no_params b p.1)
no_params (Three h a b c) p = omega (arith, no_params a p.0, no_params b p.1, no_params c p.2)

-- ---- a proposition of the task, made at types
module _ (d d1 : DraftTree) (x : AddsTrees d d1) (from : Task) (own : IsOwnTask d from) (k : ℕ) (types : List TermId) (i : IsPropositionAt d.task k (trees_at d.trees types)) (said : Proposition)
    (e : Some (proposition_at d.trees said) ≡ slice_get (props (task_at d.trees from)) k) where
  abbrev tys : List Tree
  tys = trees_at d.trees types

  abbrev said_tree : Tree
  said_tree = tree_at d.trees said.formula

  is_said : proposition_at d.trees said ≡ i.proposition
  is_said =
      let q : Some (proposition_at d.trees said) ≡ Some i.proposition = e ∙ ap (λ (t : TaskTree). slice_get (props t) k) own.is ∙ i.there in cc

  said_formula : IsFormula d.task [] said.vars said_tree
  said_formula = subst (λ (p : PropositionTree). IsFormula d.task [] p.vars p.formula) (sym is_said) (own_proposition d.task own.valid k i.proposition i.there)

  many_types : length tys ≡ said.vars
  many_types = i.as_many ∙ sym (ap (λ (p : PropositionTree). p.vars) is_said)

  at_types : IsGroundFormula d.task (inst_types said_tree tys)
  at_types = formula_at_types d.task tys i.ground own.valid [] said.vars said_tree many_types said_formula

  pub made_at : (id : TermId) → Holds d1.trees id → tree_at d1.trees id ≡ inst_many (inst_types said_tree tys) (trees_at d.trees []) → IsInstanceAtTypes tys (trees_at d.trees []) said_tree (tree_at d1.trees id) → IsMadeAt d1 k tys id
  made_at id h q m =
      let l : loose (inst_types said_tree tys) ≤ 0 = typed_closed (of_task d.task) [] (inst_types said_tree tys) at_types.typed in
      let is : tree_at d1.trees id ≡ inst_types said_tree tys = q ∙ inst_many_closed [] 0 (inst_types said_tree tys) (omega (arith, l)) in
      let none : IsEnvironment d.task [] [] 0 = record { terms = record { as_many = refl; each = λ j k ty a s n. absurd (omega (arith, n)) }; ground = All-nil IsGround; above = All-nil (λ a. above_params a ≤ 0) } in
      let low : above_params said_tree ≤ 0 = no_params said_tree said_formula.parameters in
      let o = m.shape d.task [] 0 own.valid i.ground none said_formula.typed (subst (λ (n : ℕ). VariablesBelow n said_tree) (sym many_types) said_formula.variables) low in
      record {
        formula = record { held = h; ground = subst (λ (t : TaskTree). IsGroundFormula t (tree_at d1.trees id)) (sym x.task) (subst (IsGroundFormula d.task) (sym is) at_types) };
        below = o.above;
        is = λ p s. is ∙ ap (λ (z : PropositionTree). inst_types z.formula tys) (is_said ∙ same_proposition p (subst (λ (t : TaskTree). slice_get (props t) k ≡ Some p) x.task s));
      }
    where
      same_proposition : (p : PropositionTree) → slice_get (props d.task) k ≡ Some p → i.proposition ≡ p
      same_proposition p s = let q : Some i.proposition ≡ Some p = sym i.there ∙ s in cc

-- ---- the old proposition at types, in drafts that grow
pub old_fact : (d d1 : DraftTree) → Extends d d1 → (k : ℕ) (types : List TermId) → All (Holds d.trees) types → IsPropositionAt d.task k (trees_at d.trees types) → (id : TermId) → IsMadeAt d1 k (trees_at d.trees types) id
    → IsFact d1.task d1.task (fact.Proposition k) (trees_at d1.trees types) (tree_at d1.trees id)
old_fact d d1 x k types h i id m =
    let tys = trees_at d.trees types in
    let e : trees_at d1.trees types ≡ tys = trees_later d.trees d1.trees x.trees types h in
    let s : slice_get (props d1.task) k ≡ Some i.proposition = ap (λ (t : TaskTree). slice_get (props t) k) x.task ∙ i.there in
    let f : IsFact d1.task d1.task (fact.Proposition k) tys (tree_at d1.trees id) = record {
      said = subst (λ (o : Option PropositionTree). IsSomeAnd o (λ p. (length tys ≡ p.vars) × (tree_at d1.trees id ≡ inst_types p.formula tys))) (sym s) (i.as_many, m.is i.proposition s);
      ground = subst (λ (t : TaskTree). All (IsTypeOver t 0) tys) (sym x.task) i.ground;
    } in
    subst (λ (z : List Tree). IsFact d1.task d1.task (fact.Proposition k) z (tree_at d1.trees id)) (sym e) f

module _ (d d1 d2 d3 : DraftTree) (x : Extends d d1) (y : Extends d1 d2) (z : Extends d2 d3) (k : ℕ) (types : List Tree) (old : TermId) (m : IsMadeAt d1 k types old) where
  old_same : tree_at d3.trees old ≡ tree_at d2.trees old
  old_same = z.trees.same old.0 (formula_later d1 d2 y old m.formula).held

  pub lemma_there : (step : ℕ) → Refutes d2 step (neg (tree_at d1.trees old) ∷ []) → Refutes d3 step (neg (tree_at d3.trees old) ∷ [])
  lemma_there step r =
      let q = refutes_later d2 d3 z step _ r in
      let a : tree_at d3.trees old ≡ tree_at d1.trees old = old_same ∙ y.trees.same old.0 m.formula.held in
      record { within = q.within; is = q.is ∙ sym (ap (λ (e : Tree). neg e ∷ []) a) }

  pub half_there : IsValid d.task → (g : TaskTree → Tree → Tree) → CommutesWithTypes (of_task d.task) (g d.task) → (formula : TermId) → IsFormulaAt d formula → IsImageAt d.task (g d.task) k types (tree_at d.trees formula) → (image : TermId)
      → tree_at d3.trees image ≡ g d2.task (tree_at d2.trees old) → (step : ℕ) → Refutes d3 step (tree_at d2.trees old ∷ neg (tree_at d3.trees image) ∷ []) → Refutes d3 step (tree_at d3.trees old ∷ neg (tree_at d3.trees formula) ∷ [])
  half_there valid g c formula f i image e step r =
      let xyz = Extends_trans d d2 d3 (Extends_trans d d1 d2 x y) z in
      let t : d2.task ≡ d.task = y.task ∙ x.task in
      let there : slice_get (props d1.task) k ≡ Some i.at.proposition = ap (λ (u : TaskTree). slice_get (props u) k) x.task ∙ i.at.there in
      let b : tree_at d3.trees image ≡ tree_at d3.trees formula =
      e ∙ ap (λ (u : TaskTree). g u (tree_at d2.trees old)) t ∙ ap (g d.task) (y.trees.same old.0 m.formula.held)
      ∙ becomes_image d.task valid (g d.task) c k types (tree_at d.trees formula) (tree_at d1.trees old) i (m.is i.at.proposition there) ∙ sym (xyz.trees.same formula.0 f.held) in
      let a = old_same in
      record { within = r.within; is = r.is ∙ sym (cc (a, b)) }
