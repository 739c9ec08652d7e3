-- Applications by their numbers in a draft, with a hole in the place of one argument.
use Rattle.std.proofs.Common.{◌≡◌, inl, List, [], ◌∷◌, All, Some, sym, ap, subst, ◌∙◌, arith}
use Rattle.trees.specs.declared.TermId.{TermId}
use Rattle.trees.specs.declared.Sort.TheVariants.{Kind, Term}
use Rattle.trees.specs.Tree.{Tree, Two, HCell, loose}
use Rattle.trees.specs.Node.{tree_at, trees_at, Holds}
use Rattle.trees.specs.Binding.{inst, Bound}
use Rattle.trees.specs.Sorts.{sort_of, type_of, IsList, IsExpression}
use Rattle.tasks.specs.Task.{TaskTree}
use Rattle.tasks.specs.Vocabulary.{of_task}
use Rattle.tasks.specs.Typing.{TypedUnder}
use Rattle.tasks.specs.Valid.{IsGround, IsValid}
use Rattle.congruence.specs.kernel.Right.{IsGroundExpression}
use Rattle.tasks.specs.typed_trees.instances.Instances.{IsTermOf}
use Rattle.tasks.proofs.typed_trees.instances.Typed.{inst_typed, inst_sort}
use Rattle.tasks.proofs.KeptInstances.{inst_variables}
use Rattle.evidence.specs.Drafts.{DraftTree, Extends}
use Rattle.evidence.specs.Laws.{Extends_trans}
use Rattle.images.specs.Templates.{listed}
use Rattle.images.proofs.Changes.{open_inst_type}
use Rattle.images.proofs.Templates.{term_has_type}
use Rattle.tasks.proofs.Closing.{typed_sorted}
use Rattle.tasks.proofs.Growth.{trees_later}
use Rattle.congruence.specs.Alike.{IsClosedAt, ArePair, HoleAt}
use Rattle.congruence.proofs.Later.{held_later, tree_later, closed_later}
use Rattle.congruence.proofs.HoleTemplates.{closed_kind, closed_loose, type_ground, hole_later}
use Rattle.congruence.specs.declared.applications.SymbolAt.{SymbolAt}
use Rattle.congruence.specs.declared.applications.SymbolAt.TheVariants as symbol
use Rattle.congruence.specs.Applications.{applied, IsSymbolHeld}
use Rattle.congruence.proofs.Lists.{other_terms, listed_terms, listed_sorted}
use Rattle.congruence.proofs.ApplicationLaws.{applied_sort, applied_list, applied_holed, applied_fills, holed_ground}

-- ---- in a later draft
module _ (d d1 : DraftTree) (x : Extends d d1) where
  pub symbol_later : (k : SymbolAt) → IsSymbolHeld d.trees k → IsSymbolHeld d1.trees k
  symbol_later (symbol.Function f ts ty) h =
      ((held_later d d1 x ts h.0.0, subst (λ (z : Tree). IsList Kind z) (sym (tree_later d d1 x ts h.0.0)) h.0.1), (held_later d d1 x ty h.1.0, ap sort_of (tree_later d d1 x ty h.1.0) ∙ h.1.1))
  symbol_later (symbol.Predicate p ts) h = (held_later d d1 x ts h.0, subst (λ (z : Tree). IsList Kind z) (sym (tree_later d d1 x ts h.0)) h.1)

  pub applied_later : (k : SymbolAt) → IsSymbolHeld d.trees k → (e : Tree) → applied d1.trees k e ≡ applied d.trees k e
  applied_later (symbol.Function f ts ty) h e = cc (tree_later d d1 x ts h.0.0, tree_later d d1 x ty h.1.0)
  applied_later (symbol.Predicate p ts) h e = cc (tree_later d d1 x ts h.0)

  pub terms_later : (ids : List TermId) → All (Holds d.trees) ids → All (λ id. sort_of (tree_at d.trees id) ≡ Term) ids → All (λ id. sort_of (tree_at d1.trees id) ≡ Term) ids
  terms_later ids h s = λ k z l. ap sort_of (tree_later d d1 x _ (h k z l)) ∙ s k z l

  -- an application to a list that begins with these
  pub listed_later : (k : SymbolAt) (before : List TermId) (list : TermId) → IsSymbolHeld d.trees k → All (Holds d.trees) before → Holds d.trees list
      → applied d1.trees k (listed (trees_at d1.trees before) (tree_at d1.trees list)) ≡ applied d.trees k (listed (trees_at d.trees before) (tree_at d.trees list))
  listed_later k before list h hb hl =
      applied_later k h _ ∙ ap (λ (z : List Tree). applied d.trees k (listed z (tree_at d1.trees list))) (trees_later d.trees d1.trees x.trees before hb) ∙ ap (λ (z : Tree). applied d.trees k (listed (trees_at d.trees before) z)) (tree_later d d1 x list hl)

-- ---- with the variable 0 in the place of an argument
module _ (d : DraftTree) (k : SymbolAt) (before : List TermId) (left a rest hole : TermId) (ty : Tree) (v : IsValid d.task) (cl : IsClosedAt d left) (ca : IsClosedAt d a) (s : sort_of (tree_at d.trees a) ≡ Term) (q : type_of (tree_at d.trees a) ≡ Some ty)
    (e : tree_at d.trees left ≡ applied d.trees k (listed (trees_at d.trees before) (Two HCell (tree_at d.trees a) (tree_at d.trees rest)))) (hh : Holds d.trees hole)
    (eh : tree_at d.trees hole ≡ applied d.trees k (listed (trees_at d.trees before) (Two HCell (Bound 0 ty) (tree_at d.trees rest)))) where
  whole_typed : TypedUnder (of_task d.task) [] (applied d.trees k (listed (trees_at d.trees before) (Two HCell (tree_at d.trees a) (tree_at d.trees rest))))
  whole_typed = subst (TypedUnder (of_task d.task) []) e cl.ground.typed

  pub argument_fills : (x : Tree) → loose x ≡ 0 → inst (tree_at d.trees hole) x ≡ applied d.trees k (listed (trees_at d.trees before) (Two HCell x (tree_at d.trees rest)))
  argument_fills x l = ap (λ (z : Tree). inst z x) eh ∙ applied_fills d.trees (of_task d.task) (trees_at d.trees before) (tree_at d.trees a) (tree_at d.trees rest) ty x l k whole_typed

  pub argument_hole : HoleAt d hole left left a a
  argument_hole = (
    ty,
    (
      q,
      record {
        held = hh;
        sort = ap sort_of eh ∙ applied_sort d.trees k _ _ ∙ ap sort_of (sym e);
        typed = subst (TypedUnder (of_task d.task) (ty ∷ [])) (sym eh) (applied_holed d.trees (of_task d.task) (trees_at d.trees before) (tree_at d.trees a) (tree_at d.trees rest) ty (closed_kind d a ty v ca q) q s k whole_typed);
        ground = subst IsGround (sym eh) (holed_ground d.trees (of_task d.task) (trees_at d.trees before) (tree_at d.trees a) (tree_at d.trees rest) ty 0 (type_ground (tree_at d.trees a) ty (inl s) ca.ground.ground q) k (subst IsGround e cl.ground.ground));
        left = e ∙ sym (argument_fills (tree_at d.trees a) (closed_loose d a ca));
        right = e ∙ sym (argument_fills (tree_at d.trees a) (closed_loose d a ca));
      },
    ),
  )

-- ---- another term in the hole
module _ (d d1 : DraftTree) (x : Extends d d1) (hole left a b right : TermId) (h : HoleAt d hole left left a a) (cl : IsClosedAt d left) (p : ArePair d a b) (s : sort_of (tree_at d.trees a) ≡ Term) (hr : Holds d1.trees right)
    (er : tree_at d1.trees right ≡ inst (tree_at d.trees hole) (tree_at d.trees b)) where
  other_term : IsTermOf (of_task d.task) h.0 (tree_at d.trees b)
  other_term = record { sort = p.sort ∙ s; typed = p.right.ground.typed; type = p.type ∙ h.1.0 }

  left_type : type_of (tree_at d.trees left) ≡ type_of (tree_at d.trees hole)
  left_type = ap type_of h.1.1.left ∙ open_inst_type (of_task d.task) h.0 [] (tree_at d.trees a) s h.1.0 p.left.ground.typed (tree_at d.trees hole) h.1.1.typed

  right_type : type_of (inst (tree_at d.trees hole) (tree_at d.trees b)) ≡ type_of (tree_at d.trees left)
  right_type = open_inst_type (of_task d.task) h.0 [] (tree_at d.trees b) (p.sort ∙ s) (p.type ∙ h.1.0) p.right.ground.typed (tree_at d.trees hole) h.1.1.typed ∙ sym left_type

  right_sort : sort_of (inst (tree_at d.trees hole) (tree_at d.trees b)) ≡ sort_of (tree_at d.trees left)
  right_sort = inst_sort (of_task d.task) h.0 (tree_at d.trees b) other_term (tree_at d.trees hole) ∙ h.1.1.sort

  right_ground : IsGroundExpression d.task (inst (tree_at d.trees hole) (tree_at d.trees b))
  right_ground = record {
    sort = subst (λ z. IsExpression z) (sym right_sort) cl.ground.sort;
    typed = inst_typed (of_task d.task) h.0 (tree_at d.trees b) other_term (tree_at d.trees hole) h.1.1.typed;
    ground = inst_variables (tree_at d.trees b) (closed_loose d b p.right) 0 (tree_at d.trees hole) p.right.ground.ground h.1.1.ground;
  }

  pub filled_pair : ArePair d1 left right
  filled_pair = record {
    left = closed_later d d1 x left cl;
    right = record { held = hr; ground = subst (λ (t : TaskTree). IsGroundExpression t (tree_at d1.trees right)) (sym x.task) (subst (IsGroundExpression d.task) (sym er) right_ground) };
    sort = ap sort_of er ∙ right_sort ∙ ap sort_of (sym (tree_later d d1 x left cl.held));
    type = ap type_of er ∙ right_type ∙ ap type_of (sym (tree_later d d1 x left cl.held));
  }

  pub filled_hole : HoleAt d1 hole left right a b
  filled_hole =
      let m = hole_later d d1 x hole left left a a cl.held cl.held p.left.held p.left.held h in
      let i = m.1.1 in
      (m.0, (m.1.0, record { held = i.held; sort = i.sort; typed = i.typed; ground = i.ground; left = i.left; right = er ∙ cc (tree_later d d1 x hole h.1.1.held, tree_later d d1 x b p.right.held) }))

-- ---- the members of the list of an application
pub holed_terms : (d : DraftTree) (k : SymbolAt) (before : List TermId) (left a rest : TermId) → IsClosedAt d left → tree_at d.trees left ≡ applied d.trees k (listed (trees_at d.trees before) (Two HCell (tree_at d.trees a) (tree_at d.trees rest)))
    → All (λ id. sort_of (tree_at d.trees id) ≡ Term) before × IsList Term (tree_at d.trees rest)
holed_terms d k before left a rest c e =
    let A = tree_at d.trees a in
    let R = tree_at d.trees rest in
    let x : TypedUnder (of_task d.task) [] (applied d.trees k (listed (trees_at d.trees before) (Two HCell A R))) = subst (TypedUnder (of_task d.task) []) e c.ground.typed in
    let l = applied_list d.trees (of_task d.task) [] k (listed (trees_at d.trees before) (Two HCell A R)) x in
    let w = typed_sorted (of_task d.task) [] (listed (trees_at d.trees before) (Two HCell A R)) l.0 in
    let m = listed_terms d.trees before (Two HCell A R) w l.1 in
    (m.0, other_terms Term A R (listed_sorted (trees_at d.trees before) (Two HCell A R) w).0 m.1)

-- ---- an application with a hole, in the drafts in which it is made
module _ (d d1 d2 d3 d4 : DraftTree) (x1 : Extends d d1) (x2 : Extends d1 d2) (x3 : Extends d2 d3) (x4 : Extends d3 d4) (k : SymbolAt) (before : List TermId) (left a rest variable cell list hole : TermId) (v : IsValid d.task) (cl : IsClosedAt d left) (hk : IsSymbolHeld d.trees k)
    (hb : All (Holds d.trees) before) (hr : Holds d.trees rest) (ca : IsClosedAt d a) (s : sort_of (tree_at d.trees a) ≡ Term)
    (e : tree_at d.trees left ≡ applied d.trees k (listed (trees_at d.trees before) (Two HCell (tree_at d.trees a) (tree_at d.trees rest))))
    (ev : (ty : Tree) → type_of (tree_at d.trees a) ≡ Some ty → tree_at d1.trees variable ≡ Bound 0 ty) (ec : tree_at d2.trees cell ≡ Two HCell (tree_at d1.trees variable) (tree_at d1.trees rest))
    (el : tree_at d3.trees list ≡ listed (trees_at d2.trees before) (tree_at d2.trees cell)) (hh : Holds d4.trees hole) (eh : tree_at d4.trees hole ≡ applied d3.trees k (tree_at d3.trees list)) where
  x12 : Extends d d2
  x12 = Extends_trans d d1 d2 x1 x2

  x13 : Extends d d3
  x13 = Extends_trans d d2 d3 x12 x3

  x14 : Extends d d4
  x14 = Extends_trans d d3 d4 x13 x4

  term_type : (ty : Tree) × (type_of (tree_at d.trees a) ≡ Some ty)
  term_type = term_has_type (of_task d.task) [] (tree_at d.trees a) s ca.ground.typed

  hole_tree : tree_at d4.trees hole ≡ applied d4.trees k (listed (trees_at d4.trees before) (Two HCell (Bound 0 term_type.0) (tree_at d4.trees rest)))
  hole_tree =
      let b : trees_at d2.trees before ≡ trees_at d4.trees before = trees_later d.trees d2.trees x12.trees before hb ∙ sym (trees_later d.trees d4.trees x14.trees before hb) in
      let r : tree_at d1.trees rest ≡ tree_at d4.trees rest = tree_later d d1 x1 rest hr ∙ sym (tree_later d d4 x14 rest hr) in
      eh ∙ sym (applied_later d3 d4 x4 k (symbol_later d d3 x13 k hk) (tree_at d3.trees list)) ∙ ap (applied d4.trees k) (el ∙ ap (listed (trees_at d2.trees before)) (ec ∙ cc (ev term_type.0 term_type.1, r)) ∙ ap (λ (z : List Tree). listed z (Two HCell (Bound 0 term_type.0) (tree_at d4.trees rest))) b)

  left_tree : tree_at d4.trees left ≡ applied d4.trees k (listed (trees_at d4.trees before) (Two HCell (tree_at d4.trees a) (tree_at d4.trees rest)))
  left_tree =
      tree_later d d4 x14 left cl.held ∙ e ∙ sym (applied_later d d4 x14 k hk (listed (trees_at d.trees before) (Two HCell (tree_at d.trees a) (tree_at d.trees rest))))
      ∙ ap (applied d4.trees k) (ap (listed (trees_at d.trees before)) (cc (tree_later d d4 x14 a ca.held, tree_later d d4 x14 rest hr)) ∙ ap (λ (z : List Tree). listed z (Two HCell (tree_at d4.trees a) (tree_at d4.trees rest))) (sym (trees_later d.trees d4.trees x14.trees before hb)))

  pub hole_made : HoleAt d4 hole left left a a
  hole_made =
      argument_hole d4 k before left a rest hole term_type.0 (subst IsValid (sym x14.task) v) (closed_later d d4 x14 left cl) (closed_later d d4 x14 a ca) (ap sort_of (tree_later d d4 x14 a ca.held) ∙ s) (ap type_of (tree_later d d4 x14 a ca.held) ∙ term_type.1) left_tree hh hole_tree

  pub fills_made : (x : Tree) → loose x ≡ 0 → inst (tree_at d4.trees hole) x ≡ applied d4.trees k (listed (trees_at d4.trees before) (Two HCell x (tree_at d4.trees rest)))
  fills_made =
      argument_fills d4 k before left a rest hole term_type.0 (subst IsValid (sym x14.task) v) (closed_later d d4 x14 left cl) (closed_later d d4 x14 a ca) (ap sort_of (tree_later d d4 x14 a ca.held) ∙ s) (ap type_of (tree_later d d4 x14 a ca.held) ∙ term_type.1) left_tree hh hole_tree

-- what fills the hole, said of the first draft
pub replaced_tree : (d d1 : DraftTree) (x : Extends d d1) (k : SymbolAt) (before : List TermId) (b rest hole : TermId) → IsSymbolHeld d.trees k → All (Holds d.trees) before → Holds d.trees rest → IsClosedAt d b
    → ((z : Tree) → loose z ≡ 0 → inst (tree_at d1.trees hole) z ≡ applied d1.trees k (listed (trees_at d1.trees before) (Two HCell z (tree_at d1.trees rest))))
    → inst (tree_at d1.trees hole) (tree_at d1.trees b) ≡ applied d.trees k (listed (trees_at d.trees before) (Two HCell (tree_at d.trees b) (tree_at d.trees rest)))
replaced_tree d d1 x k before b rest hole hk hb hr c f =
    f (tree_at d1.trees b) (closed_loose d1 b (closed_later d d1 x b c)) ∙ applied_later d d1 x k hk (listed (trees_at d1.trees before) (Two HCell (tree_at d1.trees b) (tree_at d1.trees rest)))
    ∙ ap (applied d.trees k) (ap (λ (z : List Tree). listed z (Two HCell (tree_at d1.trees b) (tree_at d1.trees rest))) (trees_later d.trees d1.trees x.trees before hb) ∙ ap (listed (trees_at d.trees before)) (cc (tree_later d d1 x b c.held, tree_later d d1 x rest hr)))

-- the first of these terms, in a later draft
pub first_later : (d d1 : DraftTree) (x : Extends d d1) (ids others : List TermId) (first : TermId) → ids ≡ first ∷ others → All (Holds d.trees) ids → All (λ id. sort_of (tree_at d.trees id) ≡ Term) ids → sort_of (tree_at d1.trees first) ≡ Term
first_later d d1 x ids others first q h s =
    let hs : All (Holds d.trees) (first ∷ others) = subst (All (Holds d.trees)) q h in
    let ss : All (λ id. sort_of (tree_at d.trees id) ≡ Term) (first ∷ others) = subst (All (λ id. sort_of (tree_at d.trees id) ≡ Term)) q s in
    ap sort_of (tree_later d d1 x first (hs 0 first (omega arith))) ∙ ss 0 first (omega arith)
