-- An open atom at an environment: its first conditional, the atom with another term in the place of that, and the formula with a hole
-- there.
use Rattle.std.proofs.Common.{◌≡◌, ℕ, ◌<◌, ◌≤◌, inl, List, [], ◌∷◌, ◌++◌, length, slice_get, Option, Some, IfSome, subst, refl, sym, ap, ◌∙◌, arith}
use Rattle.tasks.specs.trees.declared.Sort.TheVariants.{Term, Formula}
use Rattle.tasks.specs.trees.Tree.{Tree, head_of, loose, above_params}
use Rattle.tasks.specs.trees.Binding.{inst, inst_many, Bound}
use Rattle.tasks.specs.trees.Sorts.{sort_of, type_of}
use Rattle.tasks.proofs.trees.Types.{type_closed}
use Rattle.tasks.proofs.trees.Many.{inst_many_closed}
use Rattle.tasks.specs.Task.{TaskTree}
use Rattle.tasks.specs.Vocabulary.{Vocabulary, of_task}
use Rattle.tasks.specs.Typing.{TypedUnder}
use Rattle.tasks.specs.Valid.{VariablesBelow, IsGround, IsValid}
use Rattle.tasks.proofs.Closing.{typed_sorted, typed_closed}
use Rattle.tasks.proofs.TypeInstances.{typed_further}
use Rattle.evidence.specs.images.Open.{IsEnvironment, IsOpenUnder}
use Rattle.evidence.specs.images.Templates.{IsClosedType}
use Rattle.evidence.proofs.images.Environments.{loose_for}
use Rattle.evidence.proofs.images.Templates.{type_is_kind, term_has_type, hole_typed}
use Rattle.congruence.proofs.tasks.typed_trees.instances.Typed.{many_sort, many_type, many_typed, kind_typed}
use Rattle.congruence.proofs.tasks.KeptInstances.{variables_at}
use Rattle.congruence.proofs.HoleTemplates.{int_kind, type_ground}
use Rattle.tr_if.specs.conditionals.Conditionals.{first_if, replace_first}
use Rattle.tr_if.specs.conditionals.Laws.{is_atom_head}
use Rattle.tr_if.specs.conditionals.lemmas.Typed.{variables_by_parts, above_by_parts}
use Rattle.tr_if.proofs.Parts.{first_has, replaced_has}
use Rattle.tr_if.proofs.Placed.{beyond, beyond_at, hole_filled}
use Rattle.tr_if.proofs.Typed.{IsTypedTerm, first_typed, atom_formula, atom_stays, replaced_typed, placed_like, IsLike}
use Rattle.tasks.proofs.plain_laws.Lists.{got_last as at_end}

-- ---- the atom with another term there
module _ (t : TaskTree) (types : List Tree) (n m : ℕ) (e w z : Tree) (k : is_atom_head (head_of e)) (o : IsOpenUnder t types e n) (q : first_if e ≡ Some w) (p : IsOpenUnder t types z n) (term : sort_of z ≡ Term) (type : type_of z ≡ type_of w) where
  abbrev v : Vocabulary
  v = of_task t

  first : IsTypedTerm v types w
  first = first_typed v types e w k o.typed q

  first_type : (ty : Tree) × (type_of w ≡ Some ty)
  first_type = term_has_type v types w first.0 first.1

  pub put_open : IsOpenUnder t types (replace_first e z) n
  put_open = record {
    typed = replaced_typed v types e w z first_type.0 o.typed q first.0 first_type.1 p.typed term (type ∙ first_type.1);
    ground = replaced_has (VariablesBelow 0) (variables_by_parts 0) z p.ground e o.ground;
    above = replaced_has (λ a. above_params a ≤ n) (above_by_parts n) z p.above e o.above;
  }

  pub put_own : above_params e ≤ m → above_params z ≤ m → above_params (replace_first e z) ≤ m
  put_own l h = replaced_has (λ a. above_params a ≤ m) (above_by_parts m) z h e l

  pub put_atom : is_atom_head (head_of (replace_first e z))
  put_atom = atom_stays e z k

  pub put_formula : sort_of (replace_first e z) ≡ Formula
  put_formula = atom_formula v types (replace_first e z) put_atom put_open.typed

  pub put_sort : IfSome (first_if e) (λ u. sort_of u ≡ sort_of z)
  put_sort = subst (λ (f : Option Tree). IfSome f (λ u. sort_of u ≡ sort_of z)) (sym q) (first.0 ∙ sym term)

-- ---- the first conditional
module _ (t : TaskTree) (types env : List Tree) (n : ℕ) (E : IsEnvironment t types env n) (e w : Tree) (k : is_atom_head (head_of e)) (o : IsOpenUnder t types e n) (q : first_if e ≡ Some w) where
  abbrev vo : Vocabulary
  vo = of_task t

  pub the_first : IsTypedTerm (of_task t) types w
  the_first = first_typed vo types e w k o.typed q

  pub the_type : (ty : Tree) × (type_of w ≡ Some ty)
  the_type = term_has_type vo types w the_first.0 the_first.1

  pub first_open : IsOpenUnder t types w n
  first_open = record { typed = the_first.1; ground = first_has (VariablesBelow 0) (variables_by_parts 0) e w o.ground q; above = first_has (λ a. above_params a ≤ n) (above_by_parts n) e w o.above q }

  pub first_own : (m : ℕ) → above_params e ≤ m → above_params w ≤ m
  first_own m l = first_has (λ a. above_params a ≤ m) (above_by_parts m) e w l q

  -- the formula with a hole
  module _ (valid : IsValid t) (ty : Tree) (y : type_of w ≡ Some ty) where
    pub kind : IsClosedType (of_task t) ty
    kind = type_is_kind vo (int_kind t valid) types w ty the_first.1 y

    many : length env ≡ length types
    many = E.terms.as_many

    ty_loose : loose ty ≡ 0
    ty_loose = type_closed ty (typed_sorted vo [] ty kind.1) kind.0

    at_ty : inst_many ty env ≡ ty
    at_ty = inst_many_closed env 0 ty ty_loose

    hole_is : inst_many (beyond env ty) env ≡ Bound 0 ty
    hole_is = beyond_at env ty ∙ ap (Bound 0) at_ty

    first_at : IfSome (first_if e) (λ u. (sort_of (inst_many u env) ≡ Term) × (type_of (inst_many u env) ≡ Some ty))
    first_at = subst (λ (f : Option Tree). IfSome f (λ u. (sort_of (inst_many u env) ≡ Term) × (type_of (inst_many u env) ≡ Some ty))) (sym q)
        (many_sort vo types env E.terms w ∙ the_first.0, many_type vo types env E.terms w the_first.1 ∙ y)

    like : IsLike vo env [] (ty ∷ []) (λ u h. typed_further vo [] (ty ∷ []) u h) (beyond env ty) ty (subst (TypedUnder vo (ty ∷ [])) (sym hole_is) (hole_typed vo ty kind [])) (ap sort_of hole_is) (ap type_of hole_is) (inst_many e env) (inst_many (replace_first e (beyond env ty)) env)
    like = placed_like vo env [] (ty ∷ []) (λ u h. typed_further vo [] (ty ∷ []) u h) (beyond env ty) ty (subst (TypedUnder vo (ty ∷ [])) (sym hole_is) (hole_typed vo ty kind [])) (ap sort_of hole_is) (ap type_of hole_is) e (many_typed vo types env E.terms e o.typed) first_at

    pub place_typed : TypedUnder (of_task t) (ty ∷ []) (inst_many (replace_first e (beyond env ty)) env)
    place_typed = like.typed

    pub place_sort : sort_of e ≡ Formula → sort_of (inst_many (replace_first e (beyond env ty)) env) ≡ Formula
    place_sort s = like.sort ∙ many_sort vo types env E.terms e ∙ s

    pub place_ground : IsGround (inst_many (replace_first e (beyond env ty)) env)
    place_ground =
        let g : IsGround ty = type_ground w ty (inl the_first.0) first_open.ground y in
        variables_at env (loose_for vo types env E.terms) 0 E.ground 0 (replace_first e (beyond env ty)) (replaced_has (VariablesBelow 0) (variables_by_parts 0) (beyond env ty) g e o.ground)

    pub place_fills : (z : Tree) → loose (inst_many z env) ≡ 0 → inst (inst_many (replace_first e (beyond env ty)) env) (inst_many z env) ≡ inst_many (replace_first e z) env
    place_fills z c = let l = typed_closed vo [] (inst_many e env) (many_typed vo types env E.terms e o.typed) in hole_filled env ty z c e (omega (arith, l))

    -- the open atom with the variable beyond the environment
    pub beyond_sort : IfSome (first_if e) (λ u. sort_of u ≡ sort_of (beyond env ty))
    beyond_sort = subst (λ (f : Option Tree). IfSome f (λ u. sort_of u ≡ sort_of (beyond env ty))) (sym q) the_first.0

    pub beyond_sorted : length env < 18446744073709551615 → TypedUnder (of_task t) (types ++ ty ∷ []) (replace_first e (beyond env ty))
    beyond_sorted l =
        let s : slice_get (types ++ ty ∷ []) (length env) ≡ Some ty = ap (slice_get (types ++ ty ∷ [])) many ∙ at_end types ty in
        replaced_typed vo (types ++ ty ∷ []) e w (beyond env ty) ty (typed_further vo types (ty ∷ []) e o.typed) q the_first.0 y ((kind.0, l), s, kind_typed vo [] (types ++ ty ∷ []) ty kind.0 kind.1) refl refl
