-- The formula with a hole in the place of an atom's first conditional, as it is made in a draft.
use Rattle.std.proofs.Common.{◌≡◌, ℕ, ◌<◌, inl, List, [], ◌∷◌, ◌++◌, length, Some, IfSome, subst, sym, ap, ◌∙◌, arith}
use Rattle.std.proofs.Math.ListN.{length-map}
use Rattle.tasks.specs.trees.declared.TermId.{TermId}
use Rattle.tasks.specs.trees.Tree.{Tree, loose}
use Rattle.tasks.specs.trees.Node.{tree_at, trees_at, Holds}
use Rattle.tasks.specs.trees.Binding.{inst, inst_many, Bound}
use Rattle.tasks.specs.trees.Facts.{IndicesFit}
use Rattle.tasks.specs.trees.Sorts.{Fits, WellSorted, sort_of, type_of}
use Rattle.trees.specs.binders.Visits.{HoldTerms}
use Rattle.tasks.specs.Task.{TaskTree}
use Rattle.tasks.specs.Vocabulary.{of_task}
use Rattle.tasks.specs.Typing.{TypedUnder}
use Rattle.tasks.specs.Valid.{IsGround, IsValid}
use Rattle.tasks.proofs.Closing.{typed_sorted}
use Rattle.evidence.specs.Drafts.{DraftTree, Extends}
use Rattle.evidence.specs.Laws.{Extends_trans}
use Rattle.congruence.specs.tasks.typed_trees.instances.Instances.{AreFor}
use Rattle.congruence.proofs.Later.{held_later, tree_later}
use Rattle.tr_if.specs.conditionals.Conditionals.{first_if, replace_first}
use Rattle.tr_if.specs.conditionals.Held.{CanPlace}
use Rattle.walking.specs.Places.{types_for}
use Rattle.walking.proofs.Instances.{hold_terms, instance_fits}
use Rattle.walking.proofs.PlacesLater.{all_later, trees_later}
use Rattle.tr_if.specs.declared.places.OpenAtom.{OpenAtom}
use Rattle.tr_if.specs.Firsts.{IsAtomAt, IsFirstOf, IsHoleOf}
use Rattle.tr_if.proofs.Placed.{beyond}
use Rattle.tr_if.proofs.Atoms.{the_type, kind, place_typed, place_sort, place_ground, place_fills, beyond_sort, beyond_sorted}
use Rattle.tr_if.proofs.Typed.{atom_formula}

module _ (d : DraftTree) (env : List TermId) (a : OpenAtom) (w : TermId) (n : ℕ) (p : IsAtomAt d env a n) (f : IsFirstOf d (tree_at d.trees a.formula) w) (valid : IsValid d.task) where
  abbrev E : List Tree
  E = trees_at d.trees env

  abbrev T : List Tree
  T = types_for E

  abbrev A : Tree
  A = tree_at d.trees a.formula

  abbrev W : Tree
  W = tree_at d.trees w

  pub first_has_type : (ty : Tree) × (type_of W ≡ Some ty)
  first_has_type = the_type d.task T E n p.place.at.around A W p.atom p.place.at.shape f.first

  module _ (y : TermId) (hy : Holds d.trees y) (q : type_of W ≡ Some (tree_at d.trees y)) where
    abbrev Y : Tree
    Y = tree_at d.trees y

    as_many : length env ≡ length E
    as_many = sym (length-map env (tree_at d.trees))

    pub beyond_fits : (count : ℕ) → count < 18446744073709551615 → Fits (Bound count Y)
    beyond_fits count l = ((kind d.task T E n p.place.at.around A W p.atom p.place.at.shape f.first valid Y q).0, l)

    -- the variable, in the draft in which it is made
    module _ (count : ℕ) (many : count ≡ length env) (l : count < 18446744073709551615) (d1 : DraftTree) (x : Extends d d1) (b : TermId) (hb : Holds d1.trees b) (eb : tree_at d1.trees b ≡ Bound count Y) where
      b_is : tree_at d1.trees b ≡ beyond E Y
      b_is = eb ∙ ap (λ (j : ℕ). Bound j Y) (many ∙ as_many)

      a_is : tree_at d1.trees a.formula ≡ A
      a_is = tree_later d d1 x a.formula p.place.open_held

      pub can_open : CanPlace d1.trees a.formula b
      can_open = record {
        held = held_later d d1 x a.formula p.place.open_held;
        other_held = hb;
        expression = inl (ap sort_of b_is);
        sort = subst (λ (z : Tree). IfSome (first_if z) (λ u. sort_of u ≡ sort_of (tree_at d1.trees b))) (sym a_is)
            (subst (λ (z : Tree). IfSome (first_if A) (λ u. sort_of u ≡ sort_of z)) (sym b_is) (beyond_sort d.task T E n p.place.at.around A W p.atom p.place.at.shape f.first valid Y q));
      }

      -- the open atom with the variable
      module _ (d2 : DraftTree) (x2 : Extends d1 d2) (o : TermId) (eo : tree_at d2.trees o ≡ replace_first (tree_at d1.trees a.formula) (tree_at d1.trees b)) where
        z2 : Extends d d2
        z2 = Extends_trans d d1 d2 x x2

        o_is : tree_at d2.trees o ≡ replace_first A (beyond E Y)
        o_is = eo ∙ ap (λ (z : Tree). replace_first z (tree_at d1.trees b)) a_is ∙ ap (replace_first A) b_is

        env_is : trees_at d2.trees env ≡ E
        env_is = trees_later d d2 z2 env p.place.env_held

        for_env : AreFor (of_task d.task) T (trees_at d2.trees env)
        for_env = subst (AreFor (of_task d.task) T) (sym env_is) p.place.at.around.terms

        pub open_terms : HoldTerms d2.trees env
        open_terms = hold_terms (of_task d.task) T d2.trees env for_env (all_later d d2 z2 env p.place.env_held)

        o_sorted : WellSorted (tree_at d2.trees o)
        o_sorted =
            let k : length E < 18446744073709551615 = omega (arith, many, as_many, l) in
            subst WellSorted (sym o_is) (typed_sorted (of_task d.task) (T ++ Y ∷ []) (replace_first A (beyond E Y)) (beyond_sorted d.task T E n p.place.at.around A W p.atom p.place.at.shape f.first valid Y q k))

        pub open_fits : IndicesFit (inst_many (tree_at d2.trees o) (trees_at d2.trees env))
        open_fits = instance_fits (of_task d.task) T (trees_at d2.trees env) (tree_at d2.trees o) for_env o_sorted

        -- the hole
        module _ (d3 : DraftTree) (x3 : Extends d2 d3) (h : TermId) (hh : Holds d3.trees h) (eh : tree_at d3.trees h ≡ inst_many (tree_at d2.trees o) (trees_at d2.trees env)) where
          z3 : Extends d d3
          z3 = Extends_trans d d2 d3 z2 x3

          abbrev H : Tree
          H = inst_many (replace_first A (beyond E Y)) E

          h_is : tree_at d3.trees h ≡ H
          h_is = eh ∙ ap (λ (z : Tree). inst_many z (trees_at d2.trees env)) o_is ∙ ap (inst_many (replace_first A (beyond E Y))) env_is

          pub hole_made : IsHoleOf d3 env A W h
          hole_made = record {
            held = hh;
            ty = Y;
            type = q;
            sort = ap sort_of h_is ∙ place_sort d.task T E n p.place.at.around A W p.atom p.place.at.shape f.first valid Y q (atom_formula (of_task d.task) T A p.atom p.place.at.shape.typed);
            typed = subst (λ (t : TaskTree). TypedUnder (of_task t) (Y ∷ []) (tree_at d3.trees h)) (sym z3.task) (subst (TypedUnder (of_task d.task) (Y ∷ [])) (sym h_is) (place_typed d.task T E n p.place.at.around A W p.atom p.place.at.shape f.first valid Y q));
            ground = subst IsGround (sym h_is) (place_ground d.task T E n p.place.at.around A W p.atom p.place.at.shape f.first valid Y q);
            fills = subst (λ (es : List Tree). (z : Tree) → loose (inst_many z es) ≡ 0 → inst (tree_at d3.trees h) (inst_many z es) ≡ inst_many (replace_first A z) es) (sym (trees_later d d3 z3 env p.place.env_held))
                (subst (λ (u : Tree). (z : Tree) → loose (inst_many z E) ≡ 0 → inst u (inst_many z E) ≡ inst_many (replace_first A z) E) (sym h_is) (place_fills d.task T E n p.place.at.around A W p.atom p.place.at.shape f.first valid Y q));
          }
