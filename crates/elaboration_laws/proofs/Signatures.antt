-- The types of a member's signature are over the signature that has its tuples.
use Rattle.std.proofs.Common.{◌≡◌, ℕ, true, false, List, [], ◌∷◌, length, All, Option, Some, None, IfSome, option_map, refl, subst}
use Rattle.std.proofs.lemmas.List.Elements.{All-nil, All-cons, All-append}
use Rattle.elab_groups.specs.trees.Tree.{Tree}
use Rattle.elab_groups.specs.tasks.Vocabulary.{Vocabulary}
use Rattle.elab_groups.specs.tasks.Valid.{IsTypeIn}
use Rattle.elab_groups.specs.surface.Lexeme.{Word}
use Rattle.elab_groups.specs.name_resolution.Abstract.{TypeExpression, quantified_expression, true_expression, no_expressions}
use Rattle.elab_groups.specs.name_resolution.Faults.{form_fault, binders_fault}
use Rattle.elab_groups.specs.name_resolution.Where.{Where}
use Rattle.elab_groups.specs.name_resolution.variables.Seen.{SeenTree, has_width, form_seen, type_seen, binders_seen}
use Rattle.elab_groups.specs.open_types.Pieces.{type_at}
use Rattle.elab_groups.proofs.open_types.Walking.{none_both}
use Rattle.elab_groups.specs.parts.Declarations.{TokenName, Parameter, params_seen}
use Rattle.elab_groups.specs.parts.Outcomes.{Setting}
use Rattle.elab_declarations.specs.elab_groups.members.Members.{type_copies, parameter_types}
use Rattle.elab_declarations.proofs.elab_groups.members.ParamsClosed.{as_binders}
use Rattle.elaboration_laws.specs.Scopes.{NamesNew}
use Rattle.elaboration_laws.specs.Signature.{with_entries, HasTuple, BindersTuples}
use Rattle.elaboration_laws.proofs.Widths.{IsWithin, tuples_seen}
use Rattle.elaboration_laws.specs.Valid.{IsTypedSetting}
use Rattle.elaboration_laws.proofs.Settings.{inside, world, tuples, form_in}

pub bound_seen : (ps : List Parameter) (r : Option TypeExpression) (u : SeenTree) → binders_seen u (as_binders ps r) ≡ type_seen (params_seen u ps) r
bound_seen [] r u = refl
bound_seen (p ∷ ps) r u = bound_seen ps r (form_seen u p.of_type)

module _ (base : Vocabulary) (c : Setting) (h : IsTypedSetting base c) (seen : SeenTree) (news : NamesNew base (length c.symbols) (inside base c h seen)) (vars : List Word) where
  abbrev w : Where
  w = world base c h seen vars

  abbrev v : Vocabulary
  v = with_entries base (inside base c h seen)

  copies_in : (t : Tree) (xs : List TokenName) → IsTypeIn v (length vars) t → All (IsTypeIn v (length vars)) (type_copies t xs)
  copies_in t [] x = All-cons (IsTypeIn v (length vars)) t [] x (All-nil (IsTypeIn v (length vars)))
  copies_in t (y ∷ []) x = All-cons (IsTypeIn v (length vars)) t [] x (All-nil (IsTypeIn v (length vars)))
  copies_in t (y ∷ z ∷ zs) x = All-cons (IsTypeIn v (length vars)) t (type_copies t (z ∷ zs)) x (copies_in t (z ∷ zs) x)

  params_in : (ps : List Parameter) (r : Option TypeExpression) → binders_fault w false (as_binders ps r) ≡ None → BindersTuples base w (as_binders ps r) → All (IsTypeIn v (length vars)) (parameter_types w ps)
  params_in [] r q u = All-nil (IsTypeIn v (length vars))
  params_in (p ∷ ps) r q u =
      let k = none_both (form_fault w false p.of_type) (binders_fault w false (as_binders ps r)) q in
      All-append (IsTypeIn v (length vars)) (type_copies (type_at w p.of_type) p.names) (parameter_types w ps) (copies_in (type_at w p.of_type) p.names (form_in base c h seen news vars p.of_type k.0 u.0)) (params_in ps r k.1 u.1)

  result_in : (ps : List Parameter) (r : Option TypeExpression) → binders_fault w false (as_binders ps r) ≡ None → BindersTuples base w (as_binders ps r) → IfSome (option_map (type_at w) r) (IsTypeIn v (length vars))
  result_in [] None q u = tt
  result_in [] (Some f) q u = form_in base c h seen news vars f (none_both (form_fault w false f) None q).0 u.0
  result_in (p ∷ ps) r q u = result_in ps r (none_both (form_fault w false p.of_type) (binders_fault w false (as_binders ps r)) q).1 u.1

  -- the tuples of a signature are among those that are seen
  binders_have : (ps : List Parameter) (r : Option TypeExpression) (u : SeenTree) → IsWithin (type_seen (params_seen u ps) r) seen → BindersTuples base w (as_binders ps r)
  binders_have ps r u g =
      let widths : (n : ℕ) → has_width n (binders_seen u (as_binders ps r)).widths ≡ true → HasTuple base w n =
      λ n z. tuples base c h seen news vars n (g n (subst (λ (i : SeenTree). has_width n i.widths ≡ true) (bound_seen ps r u) z)) in
      (tuples_seen base w (quantified_expression 0 true (as_binders ps r) no_expressions (true_expression 0)) u widths).0

  pub record SignatureIn (ps : List Parameter) (r : Option TypeExpression) : Type 0 where
    pub args : All (IsTypeIn v (length vars)) (parameter_types w ps)
    pub result : IfSome (option_map (type_at w) r) (IsTypeIn v (length vars))

  pub signature_in : (ps : List Parameter) (r : Option TypeExpression) (u : SeenTree) → binders_fault w false (as_binders ps r) ≡ None → IsWithin (type_seen (params_seen u ps) r) seen → SignatureIn ps r
  signature_in ps r u q g = let b = binders_have ps r u g in record { args = params_in ps r q b; result = result_in ps r q b }
