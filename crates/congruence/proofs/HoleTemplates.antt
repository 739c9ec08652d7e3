-- Templates made of a tree with a hole.
use Rattle.std.proofs.Common.{◌≡◌, ℕ, inl, [], ◌∷◌, Option, Some, IsSomeAnd, refl, sym, ap, subst, ◌∙◌, arith}
use Rattle.trees.specs.declared.TermId.{TermId}
use Rattle.trees.specs.declared.Sort.TheVariants.{Term, Formula}
use Rattle.trees.specs.Tree.{Tree, Leaf, One, Two, Three, HNum, HBound, HParam, HPatAny, HPatVar, HPatAlias, HCell, HLet, HCase, HArm, HFun, HIf, HPatCon, loose}
use Rattle.trees.specs.Node.{tree_at, Holds}
use Rattle.trees.specs.Binding.{inst, Bound}
use Rattle.trees.specs.Sorts.{sort_of, type_of, yield_type, int_type, IsExpression}
use Rattle.tasks.specs.declared.signature.SymbolKind.TheVariants as kind
use Rattle.tasks.specs.Task.{TaskTree, SymbolTree, neg}
use Rattle.tasks.specs.Vocabulary.{of_task}
use Rattle.tasks.specs.Typing.{TypedUnder}
use Rattle.tasks.specs.Valid.{IsGround, VariablesBelow, IsValid}
use Rattle.tasks.proofs.Closing.{typed_closed}
use Rattle.tasks.proofs.TypeInstances.{typed_further}
use Rattle.rules.specs.Forms.{equal}
use Rattle.evidence.specs.Drafts.{DraftTree, Extends, Refutes}
use Rattle.evidence.specs.Laws.{Extends_trans}
use Rattle.evidence.proofs.Rules.{refutes_later}
use Rattle.congruence.proofs.Later.{held_later, tree_later, pair_later}
use Rattle.images.proofs.Images.{expression_type}
use Rattle.images.proofs.Changes.{open_inst_type}
use Rattle.images.proofs.Holes.{hole_here, hole_beside}
use Rattle.images.specs.Templates.{IsClosedType}
use Rattle.images.proofs.Templates.{type_is_kind, hole_typed}
use Rattle.congruence.specs.declared.replacing.EqualTerms.{EqualTerms}
use Rattle.congruence.specs.Alike.{IsClosedAt, ArePair, HoleAt, TemplateFor}
use Rattle.congruence.specs.EqualTerms.{AreEqual}

-- `int` is a type of a valid task
pub int_kind : (t : TaskTree) → IsValid t → IsClosedType (of_task t) int_type
int_kind t v = (refl, ((refl, inl refl), (refl, subst (λ (o : Option SymbolTree). IsSomeAnd o (λ e. (e.kind ≡ kind.Kind) × (0 ≡ e.vars))) (sym v.int) (refl, refl)), (tt, tt)))

-- the type of a closed term is a type
pub closed_kind : (d : DraftTree) (a : TermId) (ty : Tree) → IsValid d.task → IsClosedAt d a → type_of (tree_at d.trees a) ≡ Some ty → IsClosedType (of_task d.task) ty
closed_kind d a ty v c q = type_is_kind (of_task d.task) (int_kind d.task v) [] (tree_at d.trees a) ty c.ground.typed q

some_ground : (n : ℕ) (a ty : Tree) → Some a ≡ Some ty → VariablesBelow n a → VariablesBelow n ty
some_ground n a ty q h = let e : a ≡ ty = cc in subst (VariablesBelow n) e h

-- the type of a tree has type variables of the tree
yield_ground : (n : ℕ) (e ty : Tree) → VariablesBelow n e → yield_type e ≡ Some ty → VariablesBelow n ty
yield_ground n (Leaf (HNum z)) ty h q = some_ground n int_type ty q tt
yield_ground n (Leaf _) ty h q = absurd (cc)
yield_ground n (One (HBound i) a) ty h q = some_ground n a ty q h
yield_ground n (One (HParam m) a) ty h q = some_ground n a ty q h
yield_ground n (One HPatAny a) ty h q = some_ground n a ty q h
yield_ground n (One HPatVar a) ty h q = some_ground n a ty q h
yield_ground n (One HPatAlias a) ty h q = yield_ground n a ty h q
yield_ground n (One _ a) ty h q = absurd (cc)
yield_ground n (Two HCell a b) ty h q = yield_ground n a ty h.0 q
yield_ground n (Two HLet a b) ty h q = yield_ground n b ty h.1 q
yield_ground n (Two HCase a b) ty h q = yield_ground n b ty h.1 q
yield_ground n (Two HArm a b) ty h q = yield_ground n b ty h.1 q
yield_ground n (Two _ a b) ty h q = absurd (cc)
yield_ground n (Three (HFun f) a b c) ty h q = some_ground n c ty q h.2
yield_ground n (Three HIf a b c) ty h q = yield_ground n b ty h.1 q
yield_ground n (Three (HPatCon f) a b c) ty h q = some_ground n c ty q h.2
yield_ground n (Three _ a b c) ty h q = absurd (cc)

pub type_ground : (e ty : Tree) → IsExpression (sort_of e) → IsGround e → type_of e ≡ Some ty → IsGround ty
type_ground e ty k h q = yield_ground 0 e ty h (sym (expression_type e k) ∙ q)

-- a closed expression has no open variable
pub closed_loose : (d : DraftTree) (a : TermId) → IsClosedAt d a → loose (tree_at d.trees a) ≡ 0
closed_loose d a c = omega (arith, typed_closed (of_task d.task) [] (tree_at d.trees a) c.ground.typed)

-- ---- a tree with a hole, equal to a closed term
module _ (d : DraftTree) (hole left middle right a b : TermId) (h : HoleAt d hole left middle a b) (ab : ArePair d a b) (sa : sort_of (tree_at d.trees a) ≡ Term) (lr : ArePair d left right) (sl : sort_of (tree_at d.trees left) ≡ Term) where
  pub hole_term : sort_of (tree_at d.trees hole) ≡ Term
  hole_term = h.1.1.sort ∙ sl

  hole_type : type_of (tree_at d.trees hole) ≡ type_of (tree_at d.trees right)
  hole_type = sym (open_inst_type (of_task d.task) h.0 [] (tree_at d.trees a) sa h.1.0 ab.left.ground.typed (tree_at d.trees hole) h.1.1.typed) ∙ ap type_of (sym h.1.1.left) ∙ sym lr.type

  pub right_term : sort_of (tree_at d.trees right) ≡ Term
  right_term = lr.sort ∙ sl

  pub left_template : TemplateFor d.task (tree_at d.trees a) (neg (equal (tree_at d.trees hole) (tree_at d.trees right)))
  left_template = (
    h.0,
    (
      h.1.0,
      record {
        sort = refl;
        typed = (refl, tt, (((hole_term, right_term), tt), hole_type, h.1.1.typed, typed_further (of_task d.task) [] (h.0 ∷ []) (tree_at d.trees right) lr.right.ground.typed));
        ground = (h.1.1.ground, lr.right.ground.ground);
      },
    ),
  )

  pub left_before : neg (equal (tree_at d.trees left) (tree_at d.trees right)) ≡ inst (neg (equal (tree_at d.trees hole) (tree_at d.trees right))) (tree_at d.trees a)
  left_before = ap neg (cc (h.1.1.left, sym (hole_beside (tree_at d.trees a) (closed_loose d a ab.left) (tree_at d.trees right) (closed_loose d right lr.right))))

  pub left_after : neg (equal (tree_at d.trees middle) (tree_at d.trees right)) ≡ inst (neg (equal (tree_at d.trees hole) (tree_at d.trees right))) (tree_at d.trees b)
  left_after = ap neg (cc (h.1.1.right, sym (hole_beside (tree_at d.trees b) (closed_loose d b ab.right) (tree_at d.trees right) (closed_loose d right lr.right))))

-- ---- in a later draft
module _ (d d1 : DraftTree) (x : Extends d d1) where
  pub hole_later : (hole l r a b : TermId) → Holds d.trees l → Holds d.trees r → Holds d.trees a → Holds d.trees b → HoleAt d hole l r a b → HoleAt d1 hole l r a b
  hole_later hole l r a b hl hr ha hb h =
      let i = h.1.1 in
      let qh : tree_at d1.trees hole ≡ tree_at d.trees hole = tree_later d d1 x hole i.held in
      let ql : tree_at d1.trees l ≡ tree_at d.trees l = tree_later d d1 x l hl in
      let qr : tree_at d1.trees r ≡ tree_at d.trees r = tree_later d d1 x r hr in
      let qa : tree_at d1.trees a ≡ tree_at d.trees a = tree_later d d1 x a ha in
      let qb : tree_at d1.trees b ≡ tree_at d.trees b = tree_later d d1 x b hb in (
        h.0,
        (
          ap type_of qa ∙ h.1.0,
          record {
            held = held_later d d1 x hole i.held;
            sort = ap sort_of qh ∙ i.sort ∙ ap sort_of (sym ql);
            typed = subst (λ (t : TaskTree). TypedUnder (of_task t) (h.0 ∷ []) (tree_at d1.trees hole)) (sym x.task) (subst (TypedUnder (of_task d.task) (h.0 ∷ [])) (sym qh) i.typed);
            ground = subst IsGround (sym qh) i.ground;
            left = ql ∙ i.left ∙ ap (λ (z : Tree). inst z (tree_at d.trees a)) (sym qh) ∙ ap (inst (tree_at d1.trees hole)) (sym qa);
            right = qr ∙ i.right ∙ ap (λ (z : Tree). inst z (tree_at d.trees b)) (sym qh) ∙ ap (inst (tree_at d1.trees hole)) (sym qb);
          },
        ),
      )

  pub equal_later : (l r : TermId) → Holds d.trees l → Holds d.trees r → neg (equal (tree_at d1.trees l) (tree_at d1.trees r)) ≡ neg (equal (tree_at d.trees l) (tree_at d.trees r))
  equal_later l r hl hr = cc (tree_later d d1 x l hl, tree_later d d1 x r hr)

  pub apart_later : (id l r : TermId) → Holds d.trees id → Holds d.trees l → Holds d.trees r → tree_at d.trees id ≡ neg (equal (tree_at d.trees l) (tree_at d.trees r)) → tree_at d1.trees id ≡ neg (equal (tree_at d1.trees l) (tree_at d1.trees r))
  apart_later id l r h hl hr q = tree_later d d1 x id h ∙ q ∙ sym (equal_later l r hl hr)

  pub lemma_later : (k : ℕ) (l r : TermId) → Holds d.trees l → Holds d.trees r → Refutes d k (neg (equal (tree_at d.trees l) (tree_at d.trees r)) ∷ []) → Refutes d1 k (neg (equal (tree_at d1.trees l) (tree_at d1.trees r)) ∷ [])
  lemma_later k l r hl hr h = subst (λ (z : Tree). Refutes d1 k (z ∷ [])) (sym (equal_later l r hl hr)) (refutes_later d d1 x k _ h)

  pub equal_terms_later : (e : EqualTerms) → AreEqual d e → AreEqual d1 e
  equal_terms_later e h = record {
    pair = pair_later d d1 x e.a e.b h.pair;
    term = ap sort_of (tree_later d d1 x e.a h.pair.left.held) ∙ h.term;
    step = lemma_later e.step e.a e.b h.pair.left.held h.pair.right.held h.step;
  }

  pub template_later : (a e : TermId) → Holds d.trees a → Holds d.trees e → TemplateFor d.task (tree_at d.trees a) (tree_at d.trees e) → TemplateFor d1.task (tree_at d1.trees a) (tree_at d1.trees e)
  template_later a e ha he h =
      subst (λ (t : TaskTree). TemplateFor t (tree_at d1.trees a) (tree_at d1.trees e)) (sym x.task) (subst (λ (z : Tree). TemplateFor d.task z (tree_at d1.trees e)) (sym (tree_later d d1 x a ha)) (subst (TemplateFor d.task (tree_at d.trees a)) (sym (tree_later d d1 x e he)) h))

-- ---- the template as it is made: an equation and its negation
module _ (d d1 d2 : DraftTree) (x : Extends d d1) (y : Extends d1 d2) (hole left middle right a b : TermId) (h : HoleAt d hole left middle a b) (ab : ArePair d a b) (sa : sort_of (tree_at d.trees a) ≡ Term) (lr : ArePair d left right) (sl : sort_of (tree_at d.trees left) ≡ Term)
    (hm : Holds d.trees middle) (opened template : TermId) (qo : tree_at d1.trees opened ≡ equal (tree_at d.trees hole) (tree_at d.trees right)) (qt : tree_at d2.trees template ≡ neg (tree_at d1.trees opened)) where
  z : Extends d d2
  z = Extends_trans d d1 d2 x y

  made_is : tree_at d2.trees template ≡ neg (equal (tree_at d.trees hole) (tree_at d.trees right))
  made_is = qt ∙ ap neg qo

  pub template_made : TemplateFor d2.task (tree_at d2.trees a) (tree_at d2.trees template)
  template_made =
      subst (λ (t : TaskTree). TemplateFor t (tree_at d2.trees a) (tree_at d2.trees template)) (sym z.task) (subst (λ (w : Tree). TemplateFor d.task w (tree_at d2.trees template)) (sym (tree_later d d2 z a ab.left.held))
      (subst (TemplateFor d.task (tree_at d.trees a)) (sym made_is) (left_template d hole left middle right a b h ab sa lr sl)))

  pub before_made : neg (equal (tree_at d2.trees left) (tree_at d2.trees right)) ≡ inst (tree_at d2.trees template) (tree_at d2.trees a)
  before_made =
      equal_later d d2 z left right lr.left.held lr.right.held ∙ left_before d hole left middle right a b h ab sa lr sl ∙ ap (λ (w : Tree). inst w (tree_at d.trees a)) (sym made_is)
      ∙ ap (inst (tree_at d2.trees template)) (sym (tree_later d d2 z a ab.left.held))

  pub after_made : neg (equal (tree_at d2.trees middle) (tree_at d2.trees right)) ≡ inst (tree_at d2.trees template) (tree_at d2.trees b)
  after_made =
      equal_later d d2 z middle right hm lr.right.held ∙ left_after d hole left middle right a b h ab sa lr sl ∙ ap (λ (w : Tree). inst w (tree_at d.trees b)) (sym made_is)
      ∙ ap (inst (tree_at d2.trees template)) (sym (tree_later d d2 z b ab.right.held))

-- ---- the hole alone
pub whole_hole : (d : DraftTree) (hole l r : TermId) (ty : Tree) → IsValid d.task → ArePair d l r → sort_of (tree_at d.trees l) ≡ Term → type_of (tree_at d.trees l) ≡ Some ty → Holds d.trees hole → tree_at d.trees hole ≡ Bound 0 ty → HoleAt d hole l r l r
whole_hole d hole l r ty v p s q h e = (
  ty,
  (
    q,
    record {
      held = h;
      sort = ap sort_of e ∙ sym s;
      typed = subst (TypedUnder (of_task d.task) (ty ∷ [])) (sym e) (hole_typed (of_task d.task) ty (closed_kind d l ty v p.left q) []);
      ground = subst IsGround (sym e) (type_ground (tree_at d.trees l) ty (inl s) p.left.ground.ground q);
      left = sym (ap (λ (z : Tree). inst z (tree_at d.trees l)) e ∙ hole_here (tree_at d.trees l) (closed_loose d l p.left) ty);
      right = sym (ap (λ (z : Tree). inst z (tree_at d.trees r)) e ∙ hole_here (tree_at d.trees r) (closed_loose d r p.right) ty);
    },
  ),
)

-- ---- the hole on the right, beside a term
module _ (d : DraftTree) (hole l r : TermId) (h : HoleAt d hole l r l r) (lr : ArePair d l r) (sl : sort_of (tree_at d.trees l) ≡ Term) where
  pub turned_template : TemplateFor d.task (tree_at d.trees l) (neg (equal (tree_at d.trees r) (tree_at d.trees hole)))
  turned_template = (
    h.0,
    (
      h.1.0,
      record {
        sort = refl;
        typed = (refl, tt, (((lr.sort ∙ sl, h.1.1.sort ∙ sl), tt), sym (hole_type d hole l r r l r h lr sl lr sl), typed_further (of_task d.task) [] (h.0 ∷ []) (tree_at d.trees r) lr.right.ground.typed, h.1.1.typed));
        ground = (lr.right.ground.ground, h.1.1.ground);
      },
    ),
  )

  pub turned_before : neg (equal (tree_at d.trees r) (tree_at d.trees l)) ≡ inst (neg (equal (tree_at d.trees r) (tree_at d.trees hole))) (tree_at d.trees l)
  turned_before = ap neg (cc (h.1.1.left, sym (hole_beside (tree_at d.trees l) (closed_loose d l lr.left) (tree_at d.trees r) (closed_loose d r lr.right))))

  pub turned_after : neg (equal (tree_at d.trees r) (tree_at d.trees r)) ≡ inst (neg (equal (tree_at d.trees r) (tree_at d.trees hole))) (tree_at d.trees r)
  turned_after = ap neg (cc (h.1.1.right, sym (hole_beside (tree_at d.trees r) (closed_loose d r lr.right) (tree_at d.trees r) (closed_loose d r lr.right))))

-- ---- a formula with a hole
pub formula_template : (d : DraftTree) (hole left right a b : TermId) → HoleAt d hole left right a b → sort_of (tree_at d.trees left) ≡ Formula → TemplateFor d.task (tree_at d.trees a) (tree_at d.trees hole)
formula_template d hole left right a b h s = (h.0, (h.1.0, record { sort = h.1.1.sort ∙ s; typed = h.1.1.typed; ground = h.1.1.ground }))

pub not_template : (d : DraftTree) (hole left right a b : TermId) → HoleAt d hole left right a b → sort_of (tree_at d.trees left) ≡ Formula → TemplateFor d.task (tree_at d.trees a) (neg (tree_at d.trees hole))
not_template d hole left right a b h s = (h.0, (h.1.0, record { sort = refl; typed = (h.1.1.sort ∙ s, tt, h.1.1.typed); ground = h.1.1.ground }))
