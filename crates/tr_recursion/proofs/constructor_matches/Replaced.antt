-- Closed terms put into a tree, by their numbers in drafts that grow: one of them replaced, and what is known for the others.
use Rattle.std.proofs.Common.{◌≡◌, inl, ℕ, List, [], ◌∷◌, ◌++◌, length, All, Some, refl, sym, ap, subst, ◌∙◌, arith, append_assoc}
use Rattle.std.proofs.lemmas.List.{map-append, append-nil}
use Rattle.std.proofs.lemmas.List.Elements.{All-cons, All-nil, All-append, All-head, All-tail, All-weaker}
use Rattle.trees.specs.declared.TermId.{TermId}
use Rattle.trees.specs.declared.Sort.TheVariants.{Term}
use Rattle.trees.specs.Tree.{Tree, Leaf, Two, HEnd, HCell, loose, pat_vars}
use Rattle.trees.specs.Node.{tree_at, trees_at, Holds}
use Rattle.trees.specs.Binding.{Bound, inst, inst_many}
use Rattle.trees.specs.Sorts.{WellSorted, IsList, sort_of, type_of}
use Rattle.tasks.specs.Task.{TaskTree}
use Rattle.tasks.specs.Vocabulary.{of_task}
use Rattle.tasks.specs.Typing.{TypedUnder}
use Rattle.tasks.specs.Equations.{cells}
use Rattle.tasks.specs.Valid.{IsGround, IsValid}
use Rattle.tasks.proofs.Growth.{trees_later}
use Rattle.trees.specs.binders.Visits.{HoldTerms}
use Rattle.congruence.specs.tasks.typed_trees.instances.Instances.{AreFor}
use Rattle.congruence.proofs.tasks.typed_trees.instances.Typed.{many_sort}
use Rattle.tr_inline.specs.inlining.images.Templates.{listed}
use Rattle.tr_inline.proofs.inlining.images.Templates.{term_has_type}
use Rattle.evidence.specs.Drafts.{DraftTree, Extends}
use Rattle.congruence.specs.Alike.{IsClosedAt, ArePair, HoleAt}
use Rattle.congruence.proofs.Later.{held_later, tree_later, closed_later, pair_later}
use Rattle.congruence.proofs.HoleTemplates.{closed_kind, closed_loose, type_ground}
use Rattle.trees.specs.laws.Sorts.{term_no_vars}
use Rattle.tr_recursion.specs.constructor_matches.Fields.{IsClosedField, AreEach, IsFieldPair}
use Rattle.congruence.specs.declared.applications.SymbolAt.TheVariants as symbol
use Rattle.congruence.specs.Applications.{applied, IsSymbolHeld}
use Rattle.congruence.proofs.ApplicationHoles.{symbol_later, applied_later}
use Rattle.tr_recursion.specs.declared.constructor_matches.replacing.Around.{Around}
use Rattle.tr_recursion.specs.declared.constructor_matches.replacing.Around.TheVariants.{Application, Open}
use Rattle.tr_recursion.specs.constructor_matches.Places.{applied_to, with_terms, IsHeldTerm, AreClosedTerms, IsOpenTree, IsAround, CanReplaceOne, CanReplaceProjections}
use Rattle.tr_recursion.proofs.constructor_matches.OpenHoles.{replaced_for, open_hole_typed, open_hole_sort, open_hole_ground, open_hole_fills}

-- ---- closed terms
pub terms_held : (d : DraftTree) (ids : List TermId) → AreClosedTerms d ids → All (Holds d.trees) ids
terms_held d ids a = All-weaker (IsHeldTerm d) (Holds d.trees) (λ id h. h.closed.held) ids a

pub hold_terms : (d : DraftTree) (ids : List TermId) → AreClosedTerms d ids → HoldTerms d.trees ids
hold_terms d [] a = tt
hold_terms d (id ∷ ids) a = let h = All-head (IsHeldTerm d) id ids a in ((h.closed.held, h.term), hold_terms d ids (All-tail (IsHeldTerm d) id ids a))

pub terms_ground : (d : DraftTree) (ids : List TermId) → AreClosedTerms d ids → All IsGround (trees_at d.trees ids)
terms_ground d [] a = All-nil IsGround
terms_ground d (id ∷ ids) a = All-cons IsGround (tree_at d.trees id) (trees_at d.trees ids) (All-head (IsHeldTerm d) id ids a).closed.ground.ground (terms_ground d ids (All-tail (IsHeldTerm d) id ids a))

pub terms_later : (d d1 : DraftTree) → Extends d d1 → (ids : List TermId) → AreClosedTerms d ids → AreClosedTerms d1 ids
terms_later d d1 x ids a = All-weaker (IsHeldTerm d) (IsHeldTerm d1) (λ id h. record { closed = closed_later d d1 x id h.closed; term = ap sort_of (tree_later d d1 x id h.closed.held) ∙ h.term }) ids a

-- ---- the hole
module _ (d d1 d2 : DraftTree) (x : Extends d d1) (y : Extends d1 d2) (xy : Extends d d2) (valid : IsValid d.task) (e : TermId) (before following : List TermId) (left a variable hole : TermId) (o : IsOpenTree d e (trees_at d.trees before ++ tree_at d.trees a ∷ trees_at d.trees following)) (cb : AreClosedTerms d before)
    (ch : AreClosedTerms d following) (cl : IsClosedAt d left) (ca : IsClosedAt d a) (s : sort_of (tree_at d.trees a) ≡ Term) (ql : tree_at d.trees left ≡ inst_many (tree_at d.trees e) (trees_at d.trees before ++ tree_at d.trees a ∷ trees_at d.trees following))
    (ev : (ty : Tree) → type_of (tree_at d.trees a) ≡ Some ty → tree_at d1.trees variable ≡ Bound 0 ty) (terms : List TermId) (are : terms ≡ before ++ variable ∷ following) (hh : Holds d2.trees hole) (qh : tree_at d2.trees hole ≡ inst_many (tree_at d1.trees e) (trees_at d1.trees terms)) (sorted : WellSorted (tree_at d2.trees hole)) where
  abbrev B : List Tree
  B = trees_at d.trees before

  abbrev H : List Tree
  H = trees_at d.trees following

  abbrev A : Tree
  A = tree_at d.trees a

  abbrev E : Tree
  E = tree_at d.trees e

  typed : (ty : Tree) × (type_of A ≡ Some ty)
  typed = term_has_type (of_task d.task) [] A s ca.ground.typed

  terms_are : trees_at d1.trees terms ≡ B ++ Bound 0 typed.0 ∷ H
  terms_are =
      ap (trees_at d1.trees) are ∙ map-append (tree_at d1.trees) before (variable ∷ following)
      ∙ ap (λ (z : List Tree). z ++ trees_at d1.trees (variable ∷ following)) (trees_later d.trees d1.trees x.trees before (terms_held d before cb))
      ∙ ap (λ (z : List Tree). B ++ tree_at d1.trees variable ∷ z) (trees_later d.trees d1.trees x.trees following (terms_held d following ch))
      ∙ ap (λ (z : Tree). B ++ z ∷ H) (ev typed.0 typed.1)

  hole_is : tree_at d2.trees hole ≡ inst_many E (B ++ Bound 0 typed.0 ∷ H)
  hole_is = qh ∙ ap (λ (z : Tree). inst_many z (trees_at d1.trees terms)) (tree_later d d1 x e o.held) ∙ ap (inst_many E) terms_are

  all_ground : All IsGround (B ++ A ∷ H)
  all_ground = All-append IsGround B (A ∷ H) (terms_ground d before cb) (All-cons IsGround A H ca.ground.ground (terms_ground d following ch))

  kind_ground : IsGround typed.0
  kind_ground = type_ground A typed.0 (inl s) ca.ground.ground typed.1

  pub hole_filled : (z : Tree) → loose z ≡ 0 → pat_vars z ≡ 0 → inst (tree_at d2.trees hole) z ≡ inst_many E (B ++ z ∷ H)
  hole_filled z l n = ap (λ (w : Tree). inst w z) hole_is ∙ open_hole_fills d.task o.types E o.typed o.ground B H A typed.0 o.terms all_ground typed.1 (closed_kind d a typed.0 valid ca typed.1) kind_ground z l n

  pub hole_made : HoleAt d2 hole left left a a
  hole_made =
      let z : tree_at d2.trees a ≡ A = tree_later d d2 xy a ca.held in
      let l : loose A ≡ 0 = closed_loose d a ca in
      let f : tree_at d2.trees left ≡ inst (tree_at d2.trees hole) (tree_at d2.trees a) = tree_later d d2 xy left cl.held ∙ ql ∙ sym (hole_filled A l (term_no_vars A s)) ∙ ap (inst (tree_at d2.trees hole)) (sym z) in (
        typed.0,
        (
          ap type_of z ∙ typed.1,
          record {
            held = hh;
            sort = ap sort_of hole_is ∙ open_hole_sort d.task o.types E o.typed o.ground B H A typed.0 o.terms all_ground typed.1 (closed_kind d a typed.0 valid ca typed.1) kind_ground
                ∙ sym (many_sort (of_task d.task) o.types (B ++ A ∷ H) o.terms E) ∙ ap sort_of (sym ql) ∙ ap sort_of (sym (tree_later d d2 xy left cl.held));
            typed = subst (λ (t : TaskTree). TypedUnder (of_task t) (typed.0 ∷ []) (tree_at d2.trees hole)) (sym xy.task) (subst (TypedUnder (of_task d.task) (typed.0 ∷ [])) (sym hole_is)
                (open_hole_typed d.task o.types E o.typed o.ground B H A typed.0 o.terms all_ground typed.1 (closed_kind d a typed.0 valid ca typed.1) kind_ground (subst WellSorted hole_is sorted)));
            ground = subst IsGround (sym hole_is) (open_hole_ground d.task o.types E o.typed o.ground B H A typed.0 o.terms all_ground typed.1 (closed_kind d a typed.0 valid ca typed.1) kind_ground);
            left = f;
            right = f;
          },
        ),
      )

-- ---- the list with the variable
pub list_is : (before : List TermId) (variable : TermId) (following one two three : List TermId) → one ≡ before → two ≡ one ++ variable ∷ [] → three ≡ two ++ following → three ≡ before ++ variable ∷ following
list_is before variable following one two three a b c = c ∙ ap (λ (z : List TermId). z ++ following) (b ∙ ap (λ (z : List TermId). z ++ variable ∷ []) a) ∙ append_assoc before (variable ∷ []) following

hold_joined : (s : List Tree) (xs ys : List TermId) → HoldTerms s xs → HoldTerms s ys → HoldTerms s (xs ++ ys)
hold_joined s [] ys a b = b
hold_joined s (x ∷ xs) ys a b = (a.0, hold_joined s xs ys a.1 b)

pub hold_all : (d d1 : DraftTree) → Extends d d1 → (before following : List TermId) (a variable : TermId) → AreClosedTerms d before → AreClosedTerms d following → IsClosedAt d a → sort_of (tree_at d.trees a) ≡ Term → Holds d1.trees variable
    → ((ty : Tree) → type_of (tree_at d.trees a) ≡ Some ty → tree_at d1.trees variable ≡ Bound 0 ty) → HoldTerms d1.trees (before ++ variable ∷ following)
hold_all d d1 x before following a variable cb ch ca s hv ev =
    let t = term_has_type (of_task d.task) [] (tree_at d.trees a) s ca.ground.typed in
    hold_joined d1.trees before (variable ∷ following) (hold_terms d1 before (terms_later d d1 x before cb)) ((hv, ap sort_of (ev t.0 t.1)), hold_terms d1 following (terms_later d d1 x following ch))

-- ---- arguments
pub listed_cells : (xs ys : List Tree) → listed xs (cells ys) ≡ cells (xs ++ ys)
listed_cells [] ys = refl
listed_cells (x ∷ xs) ys = ap (Two HCell x) (listed_cells xs ys)

pub terms_sorted : (d : DraftTree) (ids : List TermId) → AreClosedTerms d ids → All (λ id. sort_of (tree_at d.trees id) ≡ Term) ids
terms_sorted d ids a = All-weaker (IsHeldTerm d) (λ id. sort_of (tree_at d.trees id) ≡ Term) (λ id h. h.term) ids a

pub end_list : (e : Tree) → e ≡ Leaf HEnd → IsList Term e
end_list e q = subst (IsList Term) (sym q) (refl, inl refl)

pub after_listed : (d d1 : DraftTree) → Extends d d1 → (following : List TermId) → AreClosedTerms d following → (end : Tree) → end ≡ Leaf HEnd → (r : Tree) → r ≡ listed (trees_at d1.trees following) end → r ≡ cells (trees_at d.trees following)
after_listed d d1 x following cb end q r e =
    e ∙ ap (listed (trees_at d1.trees following)) q ∙ ap (λ (z : List Tree). listed z (Leaf HEnd)) (trees_later d.trees d1.trees x.trees following (terms_held d following cb)) ∙ listed_cells (trees_at d.trees following) [] ∙ ap cells (append-nil (trees_at d.trees following))

pub application_is : (d d2 : DraftTree) (x : Extends d d2) (f : ℕ) (types ty : TermId) → IsSymbolHeld d.trees (symbol.Function f types ty) → (before : List TermId) → AreClosedTerms d before → (following : List TermId) (a2 a : Tree) → a2 ≡ a → (rest : Tree) → rest ≡ cells (trees_at d.trees following)
    → applied d2.trees (symbol.Function f types ty) (listed (trees_at d2.trees before) (Two HCell a2 rest)) ≡ applied_to d.trees f types ty (trees_at d.trees before ++ a ∷ trees_at d.trees following)
application_is d d2 x f types ty h before cb following a2 a q rest r =
    applied_later d d2 x (symbol.Function f types ty) h (listed (trees_at d2.trees before) (Two HCell a2 rest))
    ∙ ap (λ (z : Tree). applied d.trees (symbol.Function f types ty) z)
    (ap (λ (z : List Tree). listed z (Two HCell a2 rest)) (trees_later d.trees d2.trees x.trees before (terms_held d before cb)) ∙ ap (λ (z : Tree). listed (trees_at d.trees before) (Two HCell z rest)) q
    ∙ ap (λ (z : Tree). listed (trees_at d.trees before) (Two HCell a z)) r ∙ listed_cells (trees_at d.trees before) (a ∷ trees_at d.trees following))

-- ---- projections with their fields, by numbers
pub field_pair : (d : DraftTree) (a b : TermId) → IsFieldPair d a b → ArePair d a b
field_pair d a b p = record {
  left = record { held = p.projected; ground = p.field.projected };
  right = record { held = p.given; ground = p.field.given };
  sort = p.field.given_term ∙ sym p.field.term;
  type = p.field.type;
}

pub projected_terms : (d : DraftTree) (as' bs : List TermId) → AreEach (IsFieldPair d) as' bs → AreClosedTerms d as'
projected_terms d [] [] p = All-nil (IsHeldTerm d)
projected_terms d [] (b ∷ bs) p = absurd p
projected_terms d (a ∷ as') [] p = absurd p
projected_terms d (a ∷ as') (b ∷ bs) p = All-cons (IsHeldTerm d) a as' (record { closed = (field_pair d a b p.0).left; term = p.0.field.term }) (projected_terms d as' bs p.1)

pub field_later : (d d1 : DraftTree) → Extends d d1 → (a b : TermId) → IsFieldPair d a b → IsFieldPair d1 a b
field_later d d1 x a b p =
    let ha = tree_later d d1 x a p.projected in
    let hb = tree_later d d1 x b p.given in
    record {
      projected = held_later d d1 x a p.projected;
      given = held_later d d1 x b p.given;
      field = subst (λ (t : TaskTree). IsClosedField t (tree_at d1.trees a) (tree_at d1.trees b)) (sym x.task)
          (subst (λ (z : Tree). IsClosedField d.task z (tree_at d1.trees b)) (sym ha) (subst (λ (z : Tree). IsClosedField d.task (tree_at d.trees a) z) (sym hb) p.field));
    }

pub fields_later : (d d1 : DraftTree) → Extends d d1 → (as' bs : List TermId) → AreEach (IsFieldPair d) as' bs → AreEach (IsFieldPair d1) as' bs
fields_later d d1 x [] [] p = tt
fields_later d d1 x [] (b ∷ bs) p = absurd p
fields_later d d1 x (a ∷ as') [] p = absurd p
fields_later d d1 x (a ∷ as') (b ∷ bs) p = (field_later d d1 x a b p.0, fields_later d d1 x as' bs p.1)

-- ---- what they are put into, in a later draft and with one of them replaced
pub open_later : (d d1 : DraftTree) → Extends d d1 → (e : TermId) (us : List Tree) → IsOpenTree d e us → IsOpenTree d1 e us
open_later d d1 x e us o = record {
  held = held_later d d1 x e o.held;
  types = o.types;
  typed = subst (λ (t : TaskTree). TypedUnder (of_task t) o.types (tree_at d1.trees e)) (sym x.task) (subst (TypedUnder (of_task d.task) o.types) (sym (tree_later d d1 x e o.held)) o.typed);
  ground = subst IsGround (sym (tree_later d d1 x e o.held)) o.ground;
  terms = subst (λ (t : TaskTree). AreFor (of_task t) o.types us) (sym x.task) o.terms;
}

pub around_later : (d d1 : DraftTree) → Extends d d1 → (k : Around) (us : List Tree) → IsAround d k us → IsAround d1 k us
around_later d d1 x (Application f types ty) us h = symbol_later d d1 x (symbol.Function f types ty) h
around_later d d1 x (Open e) us h = open_later d d1 x e us h

pub around_replaced : (d : DraftTree) (k : Around) (B H : List Tree) (a b : TermId) → IsFieldPair d a b → IsAround d k (B ++ tree_at d.trees a ∷ H) → IsAround d k (B ++ tree_at d.trees b ∷ H)
around_replaced d (Application f types ty) B H a b p h = h
around_replaced d (Open e) B H a b p h =
    let t = term_has_type (of_task d.task) [] (tree_at d.trees a) p.field.term p.field.projected.typed in
    record { held = h.held; types = h.types; typed = h.typed; ground = h.ground; terms = replaced_for (of_task d.task) h.types B H (tree_at d.trees a) t.0 h.terms t.1 (tree_at d.trees b) (record { sort = p.field.given_term; typed = p.field.given.typed; type = p.field.type ∙ t.1 }) }

pub with_later : (d d1 : DraftTree) → Extends d d1 → (k : Around) (us vs : List Tree) → IsAround d k vs → with_terms d1.trees k us ≡ with_terms d.trees k us
with_later d d1 x (Application f types ty) us vs h = cc (tree_later d d1 x types h.0.0, tree_later d d1 x ty h.1.0)
with_later d d1 x (Open e) us vs h = ap (λ (z : Tree). inst_many z us) (tree_later d d1 x e h.held)

-- ---- one after another
module _ (d : DraftTree) (k : Around) (before : List TermId) (left : TermId) (a : TermId) (as' : List TermId) (terms : List TermId) (qt : terms ≡ a ∷ as') where
  pub no_fields : (can : CanReplaceProjections d k before left terms []) → ⊥
  no_fields can = subst (λ (z : List TermId). AreEach (IsFieldPair d) z []) qt can.pairs

  module _ (b : TermId) (bs fields : List TermId) (qf : fields ≡ b ∷ bs) (can : CanReplaceProjections d k before left terms fields) where
    pairs : IsFieldPair d a b × AreEach (IsFieldPair d) as' bs
    pairs = subst (λ (z : List TermId). AreEach (IsFieldPair d) (a ∷ as') z) qf (subst (λ (z : List TermId). AreEach (IsFieldPair d) z fields) qt can.pairs)

    pub first_pair : IsFieldPair d a b
    first_pair = pairs.0

    here : IsAround d k (trees_at d.trees before ++ tree_at d.trees a ∷ trees_at d.trees as')
    here = subst (λ (z : List TermId). IsAround d k (trees_at d.trees before ++ trees_at d.trees z)) qt can.around_held

    whole_is : tree_at d.trees left ≡ with_terms d.trees k (trees_at d.trees before ++ tree_at d.trees a ∷ trees_at d.trees as')
    whole_is = can.is ∙ ap (λ (z : List TermId). with_terms d.trees k (trees_at d.trees before ++ trees_at d.trees z)) qt

    same_trees : (d1 : DraftTree) → Extends d d1 → (ids : List TermId) → All (Holds d.trees) ids → trees_at d1.trees ids ≡ trees_at d.trees ids
    same_trees d1 x ids h = trees_later d.trees d1.trees x.trees ids h

    others_closed : AreClosedTerms d as'
    others_closed = projected_terms d as' bs pairs.1

    module _ (d1 : DraftTree) (x : Extends d d1) where
      all_same : trees_at d1.trees before ++ tree_at d1.trees a ∷ trees_at d1.trees as' ≡ trees_at d.trees before ++ tree_at d.trees a ∷ trees_at d.trees as'
      all_same =
          ap (λ (z : List Tree). z ++ tree_at d1.trees a ∷ trees_at d1.trees as') (same_trees d1 x before (terms_held d before can.before_terms))
          ∙ ap (λ (z : Tree). trees_at d.trees before ++ z ∷ trees_at d1.trees as') (tree_later d d1 x a first_pair.projected)
          ∙ ap (λ (z : List Tree). trees_at d.trees before ++ tree_at d.trees a ∷ z) (same_trees d1 x as' (terms_held d as' others_closed))

      pub one_can : CanReplaceOne d1 k before left a b as'
      one_can = record {
        around_held = subst (IsAround d1 k) (sym all_same) (around_later d d1 x k _ here);
        before_terms = terms_later d d1 x before can.before_terms;
        after_terms = terms_later d d1 x as' others_closed;
        whole = closed_later d d1 x left can.whole;
        pair = pair_later d d1 x a b (field_pair d a b first_pair);
        term = ap sort_of (tree_later d d1 x a first_pair.projected) ∙ first_pair.field.term;
        is = tree_later d d1 x left can.whole.held ∙ whole_is ∙ sym (with_later d d1 x k _ _ here) ∙ ap (with_terms d1.trees k) (sym all_same);
      }

      -- and then the others
      module _ (d2 : DraftTree) (y : Extends d1 d2) (xy : Extends d d2) (made : TermId) (pm : ArePair d2 left made) (em : tree_at d2.trees made ≡ with_terms d1.trees k (trees_at d1.trees before ++ tree_at d1.trees b ∷ trees_at d1.trees as')) (more : List TermId) (qm : more ≡ before ++ b ∷ []) where
        b_same : trees_at d1.trees before ++ tree_at d1.trees b ∷ trees_at d1.trees as' ≡ trees_at d.trees before ++ tree_at d.trees b ∷ trees_at d.trees as'
        b_same =
            ap (λ (z : List Tree). z ++ tree_at d1.trees b ∷ trees_at d1.trees as') (same_trees d1 x before (terms_held d before can.before_terms))
            ∙ ap (λ (z : Tree). trees_at d.trees before ++ z ∷ trees_at d1.trees as') (tree_later d d1 x b first_pair.given)
            ∙ ap (λ (z : List Tree). trees_at d.trees before ++ tree_at d.trees b ∷ z) (same_trees d1 x as' (terms_held d as' others_closed))

        more_closed : AreClosedTerms d more
        more_closed = subst (AreClosedTerms d) (sym qm)
            (All-append (IsHeldTerm d) before (b ∷ []) can.before_terms (All-cons (IsHeldTerm d) b [] (record { closed = (field_pair d a b first_pair).right; term = first_pair.field.given_term }) (All-nil (IsHeldTerm d))))

        more_trees : trees_at d.trees more ++ trees_at d.trees as' ≡ trees_at d.trees before ++ tree_at d.trees b ∷ trees_at d.trees as'
        more_trees =
            ap (λ (z : List TermId). trees_at d.trees z ++ trees_at d.trees as') qm ∙ ap (λ (z : List Tree). z ++ trees_at d.trees as') (map-append (tree_at d.trees) before (b ∷ []))
            ∙ append_assoc (trees_at d.trees before) (tree_at d.trees b ∷ []) (trees_at d.trees as')

        later_trees : trees_at d2.trees more ++ trees_at d2.trees as' ≡ trees_at d.trees before ++ tree_at d.trees b ∷ trees_at d.trees as'
        later_trees =
            ap (λ (z : List Tree). z ++ trees_at d2.trees as') (same_trees d2 xy more (terms_held d more more_closed))
            ∙ ap (λ (z : List Tree). trees_at d.trees more ++ z) (same_trees d2 xy as' (terms_held d as' others_closed)) ∙ more_trees

        pub go_on : CanReplaceProjections d2 k more made as' bs
        go_on = record {
          around_held = subst (IsAround d2 k) (sym later_trees) (around_later d d2 xy k _ (around_replaced d k (trees_at d.trees before) (trees_at d.trees as') a b first_pair here));
          before_terms = terms_later d d2 xy more more_closed;
          whole = pm.right;
          is = em ∙ with_later d d1 x k _ _ here ∙ ap (with_terms d.trees k) b_same ∙ sym (with_later d d2 xy k _ _ here) ∙ ap (with_terms d2.trees k) (sym later_trees);
          pairs = fields_later d d2 xy as' bs pairs.1;
        }

        -- what comes of them
        pub right_after : (e : Tree) → e ≡ with_terms d2.trees k (trees_at d2.trees more ++ trees_at d2.trees bs) → All (Holds d.trees) bs → e ≡ with_terms d.trees k (trees_at d.trees before ++ trees_at d.trees fields)
        right_after e q h =
            q ∙ with_later d d2 xy k _ _ here
            ∙ ap (λ (z : List Tree). with_terms d.trees k (z ++ trees_at d2.trees bs)) (same_trees d2 xy more (terms_held d more more_closed))
            ∙ ap (λ (z : List Tree). with_terms d.trees k (trees_at d.trees more ++ z)) (same_trees d2 xy bs h)
            ∙ ap (λ (z : List TermId). with_terms d.trees k (trees_at d.trees z ++ trees_at d.trees bs)) qm
            ∙ ap (λ (z : List Tree). with_terms d.trees k (z ++ trees_at d.trees bs)) (map-append (tree_at d.trees) before (b ∷ []))
            ∙ ap (with_terms d.trees k) (append_assoc (trees_at d.trees before) (tree_at d.trees b ∷ []) (trees_at d.trees bs))
            ∙ ap (λ (z : List TermId). with_terms d.trees k (trees_at d.trees before ++ trees_at d.trees z)) (sym qf)

    pub others_given : All (Holds d.trees) bs
    others_given = given_held as' bs pairs.1
      where
        given_held : (xs ys : List TermId) → AreEach (IsFieldPair d) xs ys → All (Holds d.trees) ys
        given_held [] [] p = All-nil (Holds d.trees)
        given_held [] (y ∷ ys) p = absurd p
        given_held (x ∷ xs) [] p = absurd p
        given_held (x ∷ xs) (y ∷ ys) p = All-cons (Holds d.trees) y ys p.0.given (given_held xs ys p.1)

-- none is left
none_listed : (ids : List TermId) → length ids ≡ 0 → ids ≡ []
none_listed [] e = refl
none_listed (id ∷ ids) e = absurd (omega (arith, e))

pub none_left : (d : DraftTree) (k : Around) (before : List TermId) (left : TermId) (terms fields : List TermId) → length terms ≡ 0 → CanReplaceProjections d k before left terms fields → tree_at d.trees left ≡ with_terms d.trees k (trees_at d.trees before ++ trees_at d.trees fields)
none_left d k before left terms fields n can =
    let q = none_listed terms n in
    can.is ∙ ap (λ (z : List TermId). with_terms d.trees k (trees_at d.trees before ++ trees_at d.trees z)) (q ∙ sym (empty fields (subst (λ (z : List TermId). AreEach (IsFieldPair d) z fields) q can.pairs)))
  where
    empty : (ys : List TermId) → AreEach (IsFieldPair d) [] ys → ys ≡ []
    empty [] p = refl
    empty (y ∷ ys) p = absurd p
