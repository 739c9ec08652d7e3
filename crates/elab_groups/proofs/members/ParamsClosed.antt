-- Signatures whose names are there: closed at their own type variables, their types have no others.
use Rattle.std.proofs.Common.{◌≡◌, ℕ, Bool, true, false, List, [], ◌∷◌, length, Option, Some, None, IfSome, option_map, refl, sym, ap, subst, ◌∙◌}
use Rattle.std.specs.Option.{is_some}
use Rattle.trees.specs.Tree.{Tree}
use Rattle.trees.specs.Facts.{TyVarsBelow}
use Rattle.name_resolution.specs.Abstract.{TypeExpression, BoundNames, quantified_expression, true_expression, no_expressions}
use Rattle.name_resolution.specs.declared.NamingFault.{NamingFault}
use Rattle.name_resolution.specs.Faults.{first_of, form_fault, type_fault, binders_fault, fault}
use Rattle.name_resolution.specs.Where.{Where, place_of}
use Rattle.name_resolution.specs.variables.Seen.{SeenTree, form_seen, type_seen, binders_seen, seen}
use Rattle.name_resolution.proofs.variables.Closing.{AreIn, closed}
use Rattle.open_types.specs.Pieces.{type_at}
use Rattle.open_types.specs.Scoped.{IsScoped}
use Rattle.open_types.proofs.Below.{AreBelow, form_below, both_all}
use Rattle.open_types.proofs.Walking.{none_both}
use Rattle.elab_groups.specs.parts.Elaborated.{unseen}
use Rattle.elab_groups.specs.parts.Declarations.{TokenName, Parameter, words, params_seen, params_fault, with_vars}
use Rattle.elab_groups.specs.members.Members.{type_copies, parameter_types, signature_seen}
use Rattle.name_resolution.proofs.Told.{three as first_assoc, first_none as first_alone}

-- parameters and a result as the binders of a formula
abbrev pub as_binder : Parameter → BoundNames
as_binder p = record { names = words p.names; of_type = Some p.of_type }

abbrev pub as_binders : List Parameter → Option TypeExpression → List BoundNames
as_binders [] r = record { names = []; of_type = r } ∷ []
as_binders (p ∷ ps) r = as_binder p ∷ as_binders ps r

bound_fault : (w : Where) (b : Bool) (ps : List Parameter) (r : Option TypeExpression) → first_of (params_fault w b ps) (type_fault w b r) ≡ binders_fault w b (as_binders ps r)
bound_fault w b [] r = sym (first_alone (type_fault w b r))
bound_fault w b (p ∷ ps) r = first_assoc (form_fault w b p.of_type) (params_fault w b ps) (type_fault w b r) ∙ ap (first_of (form_fault w b p.of_type)) (bound_fault w b ps r)

bound_seen : (ps : List Parameter) (r : Option TypeExpression) (s : SeenTree) → binders_seen s (as_binders ps r) ≡ type_seen (params_seen s ps) r
bound_seen [] r s = refl
bound_seen (p ∷ ps) r s = bound_seen ps r (form_seen s p.of_type)

-- under a quantifier
pub signature_closed : (w : Where) (ps : List Parameter) (r : Option TypeExpression) → first_of (params_fault w true ps) (type_fault w true r) ≡ None
    → binders_fault (with_vars w (signature_seen ps r).vars) false (as_binders ps r) ≡ None
signature_closed w ps r h =
    let bs = as_binders ps r in
    let vs = (signature_seen ps r).vars in
    let open_fault : fault w true [] true (quantified_expression 0 true bs no_expressions (true_expression 0)) ≡ None = first_alone (binders_fault w true bs) ∙ sym (bound_fault w true ps r) ∙ h in
    let within : AreIn (seen unseen (quantified_expression 0 true bs no_expressions (true_expression 0))).vars vs = λ v m. subst (λ (s : SeenTree). is_some (place_of v s.vars) ≡ true) (bound_seen ps r unseen) m in
    sym (first_alone (binders_fault (with_vars w vs) false bs)) ∙ closed w vs (quantified_expression 0 true bs no_expressions (true_expression 0)) unseen [] true open_fault within

module _ (w : Where) (sc : IsScoped w) where
  copies_below : (n : ℕ) (t : Tree) (xs : List TokenName) → TyVarsBelow n t → AreBelow n (type_copies t xs)
  copies_below n t [] h = (h, tt)
  copies_below n t (x ∷ []) h = (h, tt)
  copies_below n t (x ∷ y ∷ ys) h = (h, copies_below n t (y ∷ ys) h)

  pub params_below : (ps : List Parameter) (r : Option TypeExpression) → binders_fault w false (as_binders ps r) ≡ None → AreBelow (length w.vars) (parameter_types w ps)
  params_below [] r h = tt
  params_below (p ∷ ps) r h =
      let q = none_both (form_fault w false p.of_type) (binders_fault w false (as_binders ps r)) h in
      both_all (TyVarsBelow (length w.vars)) (type_copies (type_at w p.of_type) p.names) (parameter_types w ps) (copies_below (length w.vars) (type_at w p.of_type) p.names (form_below w sc p.of_type q.0)) (params_below ps r q.1)

  -- of fields, which have no further type variables
  pub fields_below : (ps : List Parameter) → params_fault w false ps ≡ None → AreBelow (length w.vars) (parameter_types w ps)
  fields_below ps h = params_below ps None (sym (bound_fault w false ps None) ∙ ap (λ (f : Option NamingFault). first_of f None) h)

  pub result_below : (ps : List Parameter) (r : Option TypeExpression) → binders_fault w false (as_binders ps r) ≡ None → IfSome (option_map (type_at w) r) (TyVarsBelow (length w.vars))
  result_below [] None h = tt
  result_below [] (Some f) h = form_below w sc f (none_both (form_fault w false f) None h).0
  result_below (p ∷ ps) r h = result_below ps r (none_both (form_fault w false p.of_type) (binders_fault w false (as_binders ps r)) h).1
