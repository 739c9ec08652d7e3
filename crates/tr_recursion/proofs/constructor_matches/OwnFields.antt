-- The branch on the constructor: its projections, by numbers, with the fields, and what they are put into.
use Rattle.std.proofs.Common.{◌≡◌, inl, suc, List, [], ◌∷◌, All, true, refl, sym, ap, subst, ◌∙◌, arith}
use Rattle.std.specs.List.{list_all}
use Rattle.std.proofs.lemmas.List.Elements.{All-nil, All-cons}
use Rattle.trees.specs.declared.TermId.{TermId}
use Rattle.trees.specs.Tree.{Tree, Two, Three, HEq, HFun, HCase, HCell, HArm}
use Rattle.trees.specs.Node.{tree_at, trees_at, Holds}
use Rattle.trees.specs.Sorts.{Fits, sort_of}
use Rattle.trees.specs.Binding.{inst_many}
use Rattle.tasks.specs.Vocabulary.{of_task}
use Rattle.tasks.specs.Typing.{TypedUnder, members, pattern_types}
use Rattle.tasks.specs.Equations.{cells}
use Rattle.tasks.specs.Valid.{IsGround, IsGroundFormula, IsValid}
use Rattle.tasks.specs.MatchTests.{bind}
use Rattle.tasks.specs.MatchTests.{test as match_test}
use Rattle.trees.specs.binders.Visits.{HoldTerms}
use Rattle.tr_inline.proofs.inlining.images.DataTerms.{cells_members}
use Rattle.congruence.specs.kernel.Right.{IsGroundExpression}
use Rattle.congruence.specs.tasks.typed_trees.instances.Instances.{AreFor}
use Rattle.congruence.specs.kernel.rules.Forms.{alike}
use Rattle.congruence.proofs.Scripts.{claim_equal}
use Rattle.evidence.specs.Drafts.{DraftTree}
use Rattle.tr_inline.specs.inlining.branch_equations.Branches.{is_plain_field, bound_fields}
use Rattle.tr_recursion.specs.branch_instances.Chosen.{branch_pattern}
use Rattle.tr_recursion.specs.declared.constructor_matches.branches.FirstBranch.{FirstBranch}
use Rattle.tr_recursion.specs.declared.constructor_matches.branches.OpenedBranch.{OpenedBranch}
use Rattle.tr_recursion.specs.declared.constructor_matches.fields.Application.{Application}
use Rattle.tr_recursion.specs.declared.constructor_matches.replacing.Around.TheVariants as around
use Rattle.tr_recursion.specs.constructor_matches.Fields.{IsClosedField, AreEach, IsFieldPair}
use Rattle.tr_recursion.specs.constructor_matches.Places.{with_terms, IsHeldTerm, CanReplaceProjections}
use Rattle.tr_recursion.specs.constructor_matches.Asked.{IsApplicationAt, IsOwnApplication, IsFirstBranch, IsFirstOpened, IsHere, part_members}
use Rattle.tr_recursion.proofs.constructor_matches.FieldsOf.{own_fields, own_closed, test_is, bind_is, bound_each}
use Rattle.tr_recursion.proofs.constructor_matches.MatchParts.{test_ground, terms_for, body_typed, body_ground}
use Rattle.tr_recursion.proofs.constructor_matches.Asked.{ground}

-- numbers of closed projections and fields
pub pairs_of : (d : DraftTree) (as' bs : List TermId) → All (Holds d.trees) as' → All (Holds d.trees) bs → AreEach (IsClosedField d.task) (trees_at d.trees as') (trees_at d.trees bs) → AreEach (IsFieldPair d) as' bs
pairs_of d [] [] ha hb p = tt
pairs_of d [] (b ∷ bs) ha hb p = absurd p
pairs_of d (a ∷ as') [] ha hb p = absurd p
pairs_of d (a ∷ as') (b ∷ bs) ha hb p = (record { projected = ha 0 a (omega arith); given = hb 0 b (omega arith); field = p.0 }, pairs_of d as' bs (λ i x l. ha (suc i) x (omega (arith, l))) (λ i x l. hb (suc i) x (omega (arith, l))) p.1)

pub all_held : (s : List Tree) (ids : List TermId) → HoldTerms s ids → All (Holds s) ids
all_held s [] h = All-nil (Holds s)
all_held s (id ∷ ids) h = All-cons (Holds s) id ids h.0.0 (all_held s ids h.1)

module _ (d : DraftTree) (valid : IsValid d.task) (whole scrutinee : TermId) (first : FirstBranch) (q : IsFirstBranch d whole scrutinee first) (right : Tree) (h : IsHere d scrutinee first right) where
  abbrev S : Tree
  S = Three (HFun h.branch.symbol) h.branch.types (cells h.args) h.branch.type

  abbrev P : Tree
  P = branch_pattern h.branch

  abbrev A : Tree
  A = tree_at d.trees first.body

  abbrev R : Tree
  R = tree_at d.trees first.others

  at_branch : IsGroundExpression d.task (Two HCase S (Two HCell (Two HArm P A) R))
  at_branch = subst (λ (z : Tree). IsGroundExpression d.task (Two HCase z (Two HCell (Two HArm P A) R))) h.application (subst (λ (z : Tree). IsGroundExpression d.task (Two HCase (tree_at d.trees scrutinee) (Two HCell (Two HArm z A) R))) h.pattern (ground d valid whole scrutinee first q))

  pub application_typed : TypedUnder (of_task d.task) [] S
  application_typed = at_branch.typed.2

  pub own_pattern_typed : TypedUnder (of_task d.task) [] P
  own_pattern_typed = at_branch.typed.3.2.2

  fields_plain : list_all is_plain_field (members (cells h.branch.fields)) ≡ true
  fields_plain = ap (list_all is_plain_field) (cells_members h.branch.fields) ∙ h.plain

  abbrev pub projections : List Tree
  projections = own_fields d.task valid h.branch.symbol h.branch.types h.branch.type (cells h.branch.fields) h.args application_typed own_pattern_typed

  abbrev built : Tree
  built = Three (HFun h.branch.symbol) h.branch.types (cells projections) h.branch.type

  pub test_here : match_test d.task (tree_at d.trees first.pattern) (tree_at d.trees scrutinee) ≡ Two HEq (tree_at d.trees scrutinee) built
  test_here =
      ap (λ (z : Tree). match_test d.task z (tree_at d.trees scrutinee)) h.pattern ∙ ap (match_test d.task P) h.application
      ∙ test_is d.task valid h.branch.symbol h.branch.types h.branch.type (cells h.branch.fields) h.args application_typed own_pattern_typed fields_plain ∙ ap (λ (z : Tree). Two HEq z built) (sym h.application)

  test_at : IsGround (Two HEq S built)
  test_at = subst IsGround (test_is d.task valid h.branch.symbol h.branch.types h.branch.type (cells h.branch.fields) h.args application_typed own_pattern_typed fields_plain) (test_ground d.task valid S P A R at_branch).ground

  pub fields_here : AreEach (IsClosedField d.task) projections h.args
  fields_here = own_closed d.task valid h.branch.symbol h.branch.types h.branch.type (cells h.branch.fields) h.args application_typed own_pattern_typed test_at.0 test_at.1.1

  pub bind_here : bind d.task (tree_at d.trees first.pattern) (tree_at d.trees scrutinee) ≡ bound_fields h.branch.fields projections
  bind_here =
      ap (λ (z : Tree). bind d.task z (tree_at d.trees scrutinee)) h.pattern ∙ ap (bind d.task P) h.application
      ∙ bind_is d.task valid h.branch.symbol h.branch.types h.branch.type (cells h.branch.fields) h.args application_typed own_pattern_typed fields_plain ∙ ap (λ (z : List Tree). bound_fields z projections) (cells_members h.branch.fields)

  pub bound_here : AreEach (IsClosedField d.task) (bound_fields h.branch.fields projections) (bound_fields h.branch.fields h.args)
  bound_here = bound_each (IsClosedField d.task) h.branch.fields projections h.args fields_here

-- ---- the constructor on its own projections
module _ (d : DraftTree) (built scrutinee : TermId) (r : IsOwnApplication d built scrutinee) (made own : Application) (m : IsApplicationAt d.trees built made) (w : IsApplicationAt d.trees scrutinee own) (terms fields : List TermId) (ht : HoldTerms d.trees terms) (et : trees_at d.trees terms ≡ members (tree_at d.trees made.args))
    (hf : HoldTerms d.trees fields) (ef : trees_at d.trees fields ≡ members (tree_at d.trees own.args)) where
  both : Three (HFun made.function) (tree_at d.trees made.types) (tree_at d.trees made.args) (tree_at d.trees made.ty) ≡ Three (HFun r.symbol) r.types (cells r.projections) r.type
  both = sym m.is ∙ r.is

  own_both : Three (HFun own.function) (tree_at d.trees own.types) (tree_at d.trees own.args) (tree_at d.trees own.ty) ≡ Three (HFun r.symbol) r.types (cells r.args) r.type
  own_both = sym w.is ∙ r.application

  made_args : tree_at d.trees made.args ≡ cells r.projections
  made_args = cc both

  own_args : tree_at d.trees own.args ≡ cells r.args
  own_args = cc own_both

  terms_are : trees_at d.trees terms ≡ r.projections
  terms_are = et ∙ ap members made_args ∙ cells_members r.projections

  fields_are : trees_at d.trees fields ≡ r.args
  fields_are = ef ∙ ap members own_args ∙ cells_members r.args

  built_fits : Fits (Three (HFun made.function) (tree_at d.trees made.types) (tree_at d.trees made.args) (tree_at d.trees made.ty))
  built_fits = (subst (TypedUnder (of_task d.task) []) m.is r.closed.ground.typed).0

  pub rebuilt_can : CanReplaceProjections d (around.Application made.function made.types made.ty) [] built terms fields
  rebuilt_can = record {
    around_held = ((m.types_held, built_fits.0), (m.type_held, built_fits.2));
    before_terms = All-nil (IsHeldTerm d);
    whole = r.closed;
    is = m.is ∙ ap (λ (z : Tree). Three (HFun made.function) (tree_at d.trees made.types) z (tree_at d.trees made.ty)) (made_args ∙ ap cells (sym terms_are));
    pairs = pairs_of d terms fields (all_held d.trees terms ht) (all_held d.trees fields hf) (subst (λ (z : List Tree). AreEach (IsClosedField d.task) z (trees_at d.trees fields)) (sym terms_are) (subst (AreEach (IsClosedField d.task) r.projections) (sym fields_are) r.fields));
  }

  pub rebuilt_right : (e : Tree) → e ≡ with_terms d.trees (around.Application made.function made.types made.ty) (trees_at d.trees fields) → e ≡ tree_at d.trees scrutinee
  rebuilt_right e q =
      let f : made.function ≡ r.symbol = cc both in
      let x : tree_at d.trees made.types ≡ r.types = cc both in
      let y : tree_at d.trees made.ty ≡ r.type = cc both in
      q ∙ ap (λ (z : List Tree). Three (HFun made.function) (tree_at d.trees made.types) (cells z) (tree_at d.trees made.ty)) fields_are ∙ cc (f, x, y) ∙ sym r.application

-- ---- the test and the body of a branch on the constructor
module _ (d : DraftTree) (valid : IsValid d.task) (whole scrutinee : TermId) (first : FirstBranch) (o : OpenedBranch) (n : IsFirstOpened d whole scrutinee first o) (right : Tree) (h : IsHere d scrutinee first right) where
  abbrev ps : List Tree
  ps = projections d valid whole scrutinee first n.asked right h

  abbrev made_term : Tree
  made_term = Three (HFun h.branch.symbol) h.branch.types (cells ps) h.branch.type

  test_equation : tree_at d.trees o.test ≡ Two HEq (tree_at d.trees scrutinee) made_term
  test_equation = n.test_is ∙ test_here d valid whole scrutinee first n.asked right h

  pub has_sides : (l : Tree) × ((r : Tree) × (tree_at d.trees o.test ≡ Two HEq l r))
  has_sides = (tree_at d.trees scrutinee, (made_term, test_equation))

  module _ (built : TermId) (hb : Holds d.trees built) (l : Tree) (e : tree_at d.trees o.test ≡ Two HEq l (tree_at d.trees built)) where
    built_is : tree_at d.trees built ≡ made_term
    built_is = let q : Two HEq l (tree_at d.trees built) ≡ Two HEq (tree_at d.trees scrutinee) made_term = sym e ∙ test_equation in cc

    test_closed : IsGroundFormula d.task (Two HEq (tree_at d.trees scrutinee) made_term)
    test_closed = subst (IsGroundFormula d.task) test_equation n.test.ground

    pub rebuilt : IsOwnApplication d built scrutinee
    rebuilt = record {
      symbol = h.branch.symbol;
      types = h.branch.types;
      type = h.branch.type;
      projections = ps;
      args = h.args;
      is = built_is;
      application = h.application;
      closed = record { held = hb; ground = subst (IsGroundExpression d.task) (sym built_is) (record { sort = inl refl; typed = test_closed.typed.3; ground = test_closed.ground.1 }) };
      scrutinee_held = n.asked.scrutinee_held;
      fields = fields_here d valid whole scrutinee first n.asked right h;
    }

    pub test_claim : tree_at d.trees o.test ≡ alike (tree_at d.trees scrutinee) (tree_at d.trees built)
    test_claim = test_equation ∙ ap (Two HEq (tree_at d.trees scrutinee)) (sym built_is) ∙ sym (claim_equal (tree_at d.trees scrutinee) (tree_at d.trees built) (ap sort_of h.application))

  module _ (terms fields : List TermId) (ht : HoldTerms d.trees terms) (et : trees_at d.trees terms ≡ bind d.task (tree_at d.trees first.pattern) (tree_at d.trees scrutinee)) (hf : HoldTerms d.trees fields) (ef : trees_at d.trees fields ≡ bound_fields (part_members (tree_at d.trees first.pattern)) (part_members (tree_at d.trees scrutinee))) where
    bound_terms : trees_at d.trees terms ≡ bound_fields h.branch.fields ps
    bound_terms = et ∙ bind_here d valid whole scrutinee first n.asked right h

    bound_args : trees_at d.trees fields ≡ bound_fields h.branch.fields h.args
    bound_args =
        ef ∙ ap (λ (z : Tree). bound_fields (part_members z) (part_members (tree_at d.trees scrutinee))) h.pattern ∙ ap (λ (z : Tree). bound_fields (members (cells h.branch.fields)) (part_members z)) h.application
        ∙ ap (λ (z : List Tree). bound_fields z (members (cells h.args))) (cells_members h.branch.fields) ∙ ap (bound_fields h.branch.fields) (cells_members h.args)

    pub bound_can : CanReplaceProjections d (around.Open first.body) [] o.inner terms fields
    bound_can =
        let g = ground d valid whole scrutinee first n.asked in
        let s = tree_at d.trees scrutinee in
        let p = tree_at d.trees first.pattern in
        let a = tree_at d.trees first.body in
        let r = tree_at d.trees first.others in
        record {
          around_held = record { held = n.asked.body_held; types = pattern_types p; typed = body_typed d.task valid s p a r g; ground = body_ground d.task valid s p a r g; terms = subst (AreFor (of_task d.task) (pattern_types p)) (sym et) (terms_for d.task valid s p a r g) };
          before_terms = All-nil (IsHeldTerm d);
          whole = n.inner.right;
          is = n.inner_is ∙ ap (inst_many a) (sym et);
          pairs = pairs_of d terms fields (all_held d.trees terms ht) (all_held d.trees fields hf)
              (subst (λ (z : List Tree). AreEach (IsClosedField d.task) z (trees_at d.trees fields)) (sym bound_terms) (subst (AreEach (IsClosedField d.task) (bound_fields h.branch.fields ps)) (sym bound_args) (bound_here d valid whole scrutinee first n.asked right h)));
        }

    pub bound_right : inst_many (tree_at d.trees first.body) (trees_at d.trees fields) ≡ right
    bound_right = ap (inst_many (tree_at d.trees first.body)) bound_args ∙ ap (λ (z : Tree). inst_many z (bound_fields h.branch.fields h.args)) h.body ∙ sym h.gives
