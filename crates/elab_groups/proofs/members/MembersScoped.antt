-- Members whose names are there have signatures whose types name only their own type variables.
use Rattle.std.proofs.Common.{◌≡◌, ◌<◌, true, false, List, [], ◌∷◌, ◌++◌, map, length, suc, Option, None, Some, IfSome, option_map, refl, sym, ap, ◌∙◌, arith, length-append}
use Rattle.std.specs.List.{All, AllByRecursion}
use Rattle.std.specs.Option.{is_none}
use Rattle.std.proofs.lemmas.List.Elements.{All-from_recursion}
use Rattle.trees.specs.Tree.{Tree}
use Rattle.trees.specs.Facts.{TyVarsBelow}
use Rattle.tasks.specs.Task.{SymbolTree}
use Rattle.scopes.specs.Names.{ScopeNames}
use Rattle.surface.specs.Lexeme.{Word}
use Rattle.name_resolution.specs.Abstract.{TypeExpression}
use Rattle.name_resolution.specs.Faults.{first_of, type_fault, binders_fault}
use Rattle.name_resolution.specs.Naming.{scope_at, type_named}
use Rattle.name_resolution.specs.Where.{Where, NamesTree}
use Rattle.open_types.specs.Pieces.{type_at}
use Rattle.open_types.specs.Scoped.{IsScoped, IsScopedEntry}
use Rattle.open_types.proofs.Below.{AreBelow}
use Rattle.open_types.proofs.Walking.{none_both, both_none}
use Rattle.elab_groups.specs.parts.Alike.{meaning_arity, TypesAlike}
use Rattle.elab_groups.specs.parts.Declarations.{TokenName, Parameter, GroupMember, own_variables, params_fault}
use Rattle.elab_groups.specs.parts.Entries.{AreScopes}
use Rattle.elab_groups.specs.parts.Outcomes.{over}
use Rattle.elab_groups.proofs.parts.Alike.{binders_alike}
use Rattle.elab_groups.proofs.parts.Scopes.{arity_kept}
use Rattle.elab_groups.specs.members.Members.{signature_of, signed_entries, type_copies, parameter_types, parameter_words, words_of_parameters, body_fault, member_fault, members_fault}
use Rattle.elab_groups.specs.members.Sources.{IsScopedSignature, AreResolved}
use Rattle.elab_groups.proofs.members.ParamsClosed.{as_binders, signature_closed, params_below, result_below}

-- a type for each name
copies_count : (t : Tree) (cs : List TokenName) → length (type_copies t cs) ≡ length (parameter_words cs)
copies_count t [] = refl
copies_count t (c ∷ []) = refl
copies_count t (c ∷ d ∷ cs) = ap suc (copies_count t (d ∷ cs))

pub types_count : (w : Where) (ps : List Parameter) → length (parameter_types w ps) ≡ length (words_of_parameters ps)
types_count w [] = refl
types_count w (p ∷ ps) =
    let a = length-append (type_copies (type_at w p.of_type) p.names) (parameter_types w ps) in
    let b = length-append (parameter_words p.names) (words_of_parameters ps) in
    omega (arith, a, b, copies_count (type_at w p.of_type) p.names, types_count w ps)

pub same_kind : (w : Where) (r : Option TypeExpression) → is_none r ≡ is_none (option_map (type_at w) r)
same_kind w None = refl
same_kind w (Some f) = refl

-- what stands of the body of a member without a fault
body_right : (w : Where) (m : GroupMember) → member_fault w m ≡ None → body_fault w m (own_variables m) m.body ≡ None
body_right w m h =
    let p = none_both (params_fault w true m.params) (first_of (type_fault w true m.result) (body_fault w m (own_variables m) m.body)) h in
    (none_both (type_fault w true m.result) (body_fault w m (own_variables m) m.body) p.1).1

-- before the members stand these entries and names; their own entries and names are added to them
module _ (s : List Tree) (before more : List SymbolTree) (names : ScopeNames) (names' : NamesTree) (scopes : AreScopes s (length before) names) (some : 0 < length before)
    (same : (qs : List Word) (x : Word) → type_named names' qs x ≡ type_named (scope_at s names) qs x) (scoped : (vars : List Word) → IsScoped (over before (scope_at s names) vars)) where
  abbrev outer : List Word → Where
  outer vars = over before (scope_at s names) vars

  abbrev within : List Word → Where
  within vars = over (before ++ more) names' vars

  types_alike : (vars : List Word) → TypesAlike (outer vars) (within vars)
  types_alike vars = record {
    types = λ qs x. arity_kept s before more names scopes some qs x ∙ ap (option_map (meaning_arity (before ++ more))) (sym (same qs x));
    vars = refl;
  }

  closed : (m : GroupMember) → member_fault (within []) m ≡ None → binders_fault (outer (own_variables m)) false (as_binders m.params m.result) ≡ None
  closed m h =
      let vs = own_variables m in
      let p = none_both (params_fault (within []) true m.params) (first_of (type_fault (within []) true m.result) (body_fault (within []) m vs m.body)) h in
      let q = none_both (type_fault (within []) true m.result) (body_fault (within []) m vs m.body) p.1 in
      binders_alike (outer vs) (within vs) (types_alike vs) false (as_binders m.params m.result)
      ∙ signature_closed (within []) m.params m.result (both_none (params_fault (within []) true m.params) (type_fault (within []) true m.result) p.0 q.0)

  args_below : (m : GroupMember) → member_fault (within []) m ≡ None → AreBelow (length (own_variables m)) (signature_of (outer []) m).args
  args_below m h = params_below (outer (own_variables m)) (scoped (own_variables m)) m.params m.result (closed m h)

  result_in : (m : GroupMember) → member_fault (within []) m ≡ None → IfSome (signature_of (outer []) m).result (TyVarsBelow (length (own_variables m)))
  result_in m h = result_below (outer (own_variables m)) (scoped (own_variables m)) m.params m.result (closed m h)

  -- ---- entries
  members_each : (theory prefix : Word) (ms : List GroupMember) → members_fault (within []) ms ≡ None → AllByRecursion IsScopedEntry (signed_entries theory prefix ms (map (signature_of (outer [])) ms))
  members_each theory prefix [] h = tt
  members_each theory prefix (m ∷ ms) h =
      let p = none_both (member_fault (within []) m) (members_fault (within []) ms) h in
      (record { args = All-from_recursion (TyVarsBelow (length (own_variables m))) (signature_of (outer []) m).args (args_below m p.0); result = result_in m p.0 }, members_each theory prefix ms p.1)

  pub members_scoped : (theory prefix : Word) (ms : List GroupMember) → members_fault (within []) ms ≡ None → All IsScopedEntry (signed_entries theory prefix ms (map (signature_of (outer [])) ms))
  members_scoped theory prefix ms h = All-from_recursion IsScopedEntry (signed_entries theory prefix ms (map (signature_of (outer [])) ms)) (members_each theory prefix ms h)

  -- ---- bodies
  pub signatures_scoped : (ms : List GroupMember) → members_fault (within []) ms ≡ None → AllByRecursion IsScopedSignature (map (signature_of (outer [])) ms)
  signatures_scoped [] h = tt
  signatures_scoped (m ∷ ms) h =
      let p = none_both (member_fault (within []) m) (members_fault (within []) ms) h in
      (record { args = args_below m p.0; result = result_in m p.0 }, signatures_scoped ms p.1)

  pub members_resolved : (ms : List GroupMember) → members_fault (within []) ms ≡ None → AreResolved (within []) ms (map (signature_of (outer [])) ms)
  members_resolved [] h = tt
  members_resolved (m ∷ ms) h =
      let p = none_both (member_fault (within []) m) (members_fault (within []) ms) h in
      let v = outer (own_variables m) in
      (record { right = body_right (within []) m p.0; count = types_count v m.params; kind = same_kind v m.result }, members_resolved ms p.1)
