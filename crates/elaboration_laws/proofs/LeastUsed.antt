-- The first fault of the names that a declaration of a source uses is the failing check at the least token.
use Rattle.std.proofs.Common.{◌≡◌, ℕ, ◌+◌, ◌≤◌, Bool, true, false, List, [], ◌∷◌, ◌++◌, map, reverse, Option, Some, None, IfSome, option_map, refl, sym, subst, arith}
use Rattle.std.specs.Option.{is_none}
use Rattle.elab_groups.specs.tokens_why.declared.terminal.Terminal.TheVariants as t
use Rattle.elab_groups.specs.surface.declared.names.Name.{Name}
use Rattle.elab_groups.specs.surface.Lexeme.{Word, mark}
use Rattle.elab_groups.specs.surface.Forms.{SyntaxForm, semicolon_after, IsForm, type_forms, IsPlaced, past, write_called, write_form}
use Rattle.elab_groups.specs.surface.Trees.{SyntaxTree, write, name_row, type_part, bar_before}
use Rattle.elab_groups.specs.surface.Declarations.{ParamGroup, Member, Constructor, Algebraic, Clause, Inductive, SyntaxDeclaration, type_decl, algebraic_decl, function_decl, predicate_decl, constant_decl, inductive_decl, prop_decl, use_decl, clone_decl, scope_decl, variable_row, typed_names, write_param, param_row, definition, write_member, other_members, write_constructor, constructor_tail, constructor_list, write_field, field_tail, write_type_body, write_algebraic, algebraic_tail, algebraic_list, write_clause, clause_tail, clause_list, write_inductive}
use Rattle.elab_groups.specs.surface.DeclarationRules.{IsTypedParam, AreParams, IsMember, AreMembers, IsOptionalDefinition, IsDefined, AreConstructors, AreFields, IsTypeBody, AreAlgebraic, AreClauses, AreInductive, IsLevelDecl, PlacedTyped, PlacedParams, PlacedDefinition, PlacedMember, PlacedMembers, PlacedConstructors, PlacedFields, PlacedTypeBody, PlacedAlgebraic, PlacedAlgebraics, PlacedClauses, PlacedInductives, PlacedDecl}
use Rattle.elab_groups.specs.name_resolution.Abstract.{Expression, type_expression, expression}
use Rattle.elab_groups.specs.name_resolution.Where.{Where}
use Rattle.elab_groups.specs.name_resolution.Faults.{form_fault, type_fault, fault}
use Rattle.elab_groups.specs.parts.Declarations.{Parameter, GroupMember, Declaration, parameter_of, group_member, constructor, type_constructors, algebraic_type, clause, inductive_predicate, declaration, symbol, word, words, params_fault, constructors_fault, types_fault, clauses_fault, inductives_fault, with_vars, own_variables}
use Rattle.elab_groups.specs.parts.Outcomes.{Setting, around}
use Rattle.elab_groups.specs.members.Members.{words_of_parameters, body_fault, member_fault, members_fault}
use Rattle.elab_groups.specs.Groups.{within_group}
use Rattle.elab_declarations.specs.Outcomes.{used_fault}
use Rattle.elab_declarations.specs.type_declarations.Algebraics.{inside_types}
use Rattle.elab_declarations.specs.inductive_declarations.Inductives.{within_inductives}
use Rattle.elaboration_laws.specs.Checked.{IsLeastFailing, FormFails, TypeFails, NamesFail}
use Rattle.elaboration_laws.specs.UsedNames.{ParamsFail, BodyFails, MemberFails, MembersFail, ConstructorsFail, TypesFail, ClausesFail, InductivesFail, UsesFail}
use Rattle.elaboration_laws.proofs.Least.{past_both, past_up, past_more, Ranged, wider, none_at, both_at, form_at, type_at, tree_at}

-- ---- parameters and members
typed_at : (w : Where) (b : Bool) (ns : List Name) (f : SyntaxForm) (i : ℕ) → IsTypedParam ns f → PlacedTyped i ns f → Ranged i (past i (typed_names ns f)) (form_fault w b (type_expression f)) (FormFails w b (type_expression f))
typed_at w b [] f i o p = form_at w b f i o.1 p
typed_at w b (n ∷ ns) f i o p =
    let j = past (i + 1) (name_row (n ∷ ns)) in
    let l = past_up (i + 1) (name_row (n ∷ ns)) in
    let e : past i (typed_names (n ∷ ns) f) ≡ past (past (i + 1) (name_row (n ∷ ns)) + 1) (write_form f ++ (mark t.RParen ∷ [])) = past_both (i + 1) (name_row (n ∷ ns)) _ in
    let q = past_more (j + 1) (write_form f) (mark t.RParen ∷ []) in
    wider (j + 1) (past (j + 1) (write_form f)) i (past i (typed_names (n ∷ ns) f)) _ _ (omega (arith, l)) (omega (arith, e, q)) (form_at w b f (j + 1) o p.1)

params_at : (w : Where) (b : Bool) (ps : List ParamGroup) (i : ℕ) → AreParams ps → PlacedParams i ps → Ranged i (past i (param_row ps)) (params_fault w b (map parameter_of ps)) (ParamsFail w b (map parameter_of ps))
params_at w b [] i o p = none_at i i
params_at w b (q ∷ ps) i o p =
    let j = past i (write_param q) in
    let l = past_up i (write_param q) in
    let m = past_up j (param_row ps) in
    let e = past_both i (write_param q) (param_row ps) in
    both_at i j j (past j (param_row ps)) i (past i (write_param q ++ param_row ps)) _ _ _ _ (omega arith) (omega arith) (omega (arith, l)) (omega (arith, m)) (omega (arith, e)) (typed_at w b q.names q.of_type i o.0 p.0) (params_at w b ps j o.1 p.1)

definition_at : (w : Where) (m : GroupMember) (vars : List Word) (e : Option SyntaxTree) (i : ℕ) → IsOptionalDefinition e → PlacedDefinition i e → Ranged i (past i (definition e)) (body_fault w m vars (option_map expression e)) (BodyFails w m vars (option_map expression e))
definition_at w m vars None i o p = none_at i i
definition_at w m vars (Some e) i o p = wider (i + 1) (past (i + 1) (write e)) i (past (i + 1) (write e)) _ _ (omega arith) (omega arith) (tree_at (with_vars w vars) false e (i + 1) (reverse (words_of_parameters m.params)) (is_none m.result) o p)

member_at : (w : Where) (d : Member) (i : ℕ) → IsMember d → PlacedMember i d → Ranged i (past i (write_member d)) (member_fault w (group_member d)) (MemberFails w (group_member d))
member_at w d i o p =
    let j = past i (write_called d.name) in
    let k = past j (param_row d.params) in
    let h = past k (type_part d.result) in
    let z = past (h + 1) (write d.body) in
    let l = past_up i (write_called d.name) in
    let m = past_up j (param_row d.params) in
    let n = past_up k (type_part d.result) in
    let s = past_up (h + 1) (write d.body) in
    let tail = mark t.Equal ∷ write d.body in
    let e1 = past_both i (write_called d.name) (param_row d.params ++ (type_part d.result ++ (mark t.Equal ∷ write d.body))) in
    let e2 = past_both j (param_row d.params) (type_part d.result ++ (mark t.Equal ∷ write d.body)) in
    let e3 : past k (type_part d.result ++ (mark t.Equal ∷ write d.body)) ≡ past (past k (type_part d.result) + 1) (write d.body) = past_both k (type_part d.result) (mark t.Equal ∷ write d.body) in
    both_at j k k z i (past i (write_member d)) _ _ _ _ (omega (arith, l)) (omega arith) (omega (arith, m)) (omega (arith, n, s)) (omega (arith, e1, e2, e3)) (params_at w true d.params j o.1 p.1)
    (both_at k h (h + 1) z k z _ _ _ _ (omega arith) (omega arith) (omega (arith, n)) (omega (arith, s)) (omega arith) (type_at w true k d.result o.2 p.2)
    (tree_at (with_vars w (own_variables (group_member d))) false d.body (h + 1) (reverse (words_of_parameters (map parameter_of d.params))) (is_none (option_map type_expression d.result)) o.3 p.3))

members_at : (w : Where) (ds : List Member) (i : ℕ) → AreMembers ds → PlacedMembers i ds → Ranged i (past i (other_members ds)) (members_fault w (map group_member ds)) (MembersFail w (map group_member ds))
members_at w [] i o p = none_at i i
members_at w (d ∷ ds) i o p =
    let j = past (i + 1) (write_member d) in
    let l = past_up (i + 1) (write_member d) in
    let m = past_up j (other_members ds) in
    let e = past_both (i + 1) (write_member d) (other_members ds) in
    both_at (i + 1) j j (past j (other_members ds)) i (past (i + 1) (write_member d ++ other_members ds)) _ _ _ _ (omega arith) (omega arith) (omega (arith, l)) (omega (arith, m)) (omega (arith, e)) (member_at w d (i + 1) o.0 p.0) (members_at w ds j o.1 p.1)

-- a first member with the others, by where its parts are
group_at : (w : Where) (m : GroupMember) (ps : List ParamGroup) (e : Option SyntaxTree) (ds : List Member) (i j h k : ℕ) → i ≤ j → past i (param_row ps) ≤ j → j ≤ h → h ≤ k → m.params ≡ map parameter_of ps → m.body ≡ option_map expression e → AreParams ps → PlacedParams i ps
    → Ranged j h (type_fault w true m.result) (TypeFails w true m.result) → IsOptionalDefinition e → PlacedDefinition k e → AreMembers ds → PlacedMembers (past k (definition e)) ds
    → IsLeastFailing (members_fault w (m ∷ map group_member ds)) (MembersFail w (m ∷ map group_member ds))
group_at w m ps e ds i j h k ij pj jh hk q r o p s oe pe od pd =
    let b = past k (definition e) in
    let z = past b (other_members ds) in
    let l = past_up i (param_row ps) in
    let n = past_up k (definition e) in
    let x = past_up b (other_members ds) in
    let ranged : Ranged i b (member_fault w m) (MemberFails w m) =
    both_at i (past i (param_row ps)) j b i b _ _ _ _ (omega arith) pj l (omega (arith, jh, hk, n)) (omega arith) (subst (λ (us : List Parameter). Ranged i (past i (param_row ps)) (params_fault w true us) (ParamsFail w true us)) (sym q) (params_at w true ps i o p))
    (both_at j h k b j b _ _ _ _ (omega arith) hk jh n (omega arith) s (subst (λ (y : Option Expression). Ranged k b (body_fault w m (own_variables m) y) (BodyFails w m (own_variables m) y)) (sym r) (definition_at w m (own_variables m) e k oe pe))) in
    (both_at i b b z i z _ _ _ _ (omega arith) (omega arith) (omega (arith, ij, jh, hk, n)) x (omega arith) ranged (members_at w ds b od pd)).is

-- ---- algebraic types
constructor_at : (w : Where) (c : Constructor) (i : ℕ) → AreConstructors (c ∷ []) → PlacedConstructors i (c ∷ []) → Ranged i (past i (write_constructor c)) (params_fault w false (map parameter_of c.fields)) (ParamsFail w false (map parameter_of c.fields))
constructor_at w c i o p = wider (i + 1) (past (i + 1) (param_row c.fields)) i (past (i + 1) (param_row c.fields)) _ _ (omega arith) (omega arith) (params_at w false c.fields (i + 1) o.0 p.1)

constructors_tail : (w : Where) (cs : List Constructor) (j : ℕ) → AreConstructors cs → PlacedConstructors (j + 1) cs → Ranged j (past j (constructor_tail cs)) (constructors_fault w (map constructor cs)) (ConstructorsFail w (map constructor cs))
constructors_tail w [] j o p = none_at j j
constructors_tail w (c ∷ cs) j o p =
    let k = past (j + 1) (write_constructor c) in
    let l = past_up (j + 1) (write_constructor c) in
    let m = past_up k (constructor_tail cs) in
    let e = past_both (j + 1) (write_constructor c) (constructor_tail cs) in
    both_at (j + 1) k k (past k (constructor_tail cs)) j (past (j + 1) (write_constructor c ++ constructor_tail cs)) _ _ _ _ (omega arith) (omega arith) (omega (arith, l)) (omega (arith, m)) (omega (arith, e)) (constructor_at w c (j + 1) (o.0, tt) (p.0, p.1, tt)) (constructors_tail w cs k o.1 p.2)

constructors_at : (w : Where) (cs : List Constructor) (i : ℕ) → AreConstructors cs → PlacedConstructors i cs → Ranged i (past i (constructor_list cs)) (constructors_fault w (map constructor cs)) (ConstructorsFail w (map constructor cs))
constructors_at w [] i o p = none_at i i
constructors_at w (c ∷ cs) i o p =
    let k = past i (write_constructor c) in
    let l = past_up i (write_constructor c) in
    let m = past_up k (constructor_tail cs) in
    let e = past_both i (write_constructor c) (constructor_tail cs) in
    both_at i k k (past k (constructor_tail cs)) i (past i (write_constructor c ++ constructor_tail cs)) _ _ _ _ (omega arith) (omega arith) (omega (arith, l)) (omega (arith, m)) (omega (arith, e)) (constructor_at w c i (o.0, tt) (p.0, p.1, tt)) (constructors_tail w cs k o.1 p.2)

-- fields of a record
field_at : (w : Where) (q : ParamGroup) (i : ℕ) → IsForm type_forms q.of_type → IsPlaced (past i (name_row q.names) + 1) q.of_type → Ranged i (past i (write_field q)) (form_fault w false (type_expression q.of_type)) (FormFails w false (type_expression q.of_type))
field_at w q i o p =
    let j = past i (name_row q.names) in
    let l = past_up i (name_row q.names) in
    let e : past i (write_field q) ≡ past (past i (name_row q.names) + 1) (write_form q.of_type) = past_both i (name_row q.names) _ in
    wider (j + 1) (past (j + 1) (write_form q.of_type)) i (past i (write_field q)) _ _ (omega (arith, l)) (omega (arith, e)) (form_at w false q.of_type (j + 1) o p)

fields_tail : (w : Where) (ps : List ParamGroup) (j : ℕ) → AreFields ps → PlacedFields (j + 1) ps → Ranged j (past j (field_tail ps)) (params_fault w false (map parameter_of ps)) (ParamsFail w false (map parameter_of ps))
fields_tail w [] j o p = none_at j j
fields_tail w (q ∷ ps) j o p =
    let k = past (j + 1) (write_field q) in
    let l = past_up (j + 1) (write_field q) in
    let m = past_up k (field_tail ps) in
    let e = past_both (j + 1) (write_field q) (field_tail ps) in
    both_at (j + 1) k k (past k (field_tail ps)) j (past (j + 1) (write_field q ++ field_tail ps)) _ _ _ _ (omega arith) (omega arith) (omega (arith, l)) (omega (arith, m)) (omega (arith, e)) (field_at w q (j + 1) o.1 p.1) (fields_tail w ps k o.2 p.2)

-- constructors, or the fields of a record
body_at : (w : Where) (bar : Bool) (cs : List Constructor) (fs : List ParamGroup) (semi : Bool) (x : Word) (i : ℕ) → IsTypeBody bar cs fs semi → PlacedTypeBody i bar cs fs → Ranged i (past i (write_type_body bar cs fs semi)) (constructors_fault w (type_constructors x cs fs)) (ConstructorsFail w (type_constructors x cs fs))
body_at w bar cs [] semi x i o p =
    let k = past i (bar_before bar) in
    let m = past_up i (bar_before bar) in
    let q = past_both i (bar_before bar) (constructor_list cs) in
    wider k (past k (constructor_list cs)) i (past i (bar_before bar ++ constructor_list cs)) _ _ (omega (arith, m)) (omega (arith, q)) (constructors_at w cs k o.1 p)
body_at w bar cs (f ∷ ps) semi x i o p =
    let last = semicolon_after semi ++ (mark t.RBrace ∷ []) in
    let k = past (i + 1) (write_field f) in
    let z = past k (field_tail ps) in
    let l = past_up (i + 1) (write_field f) in
    let m = past_up k (field_tail ps) in
    let e = past_both (i + 1) (write_field f) (field_tail ps ++ last) in
    let n = past_more k (field_tail ps) last in
    both_at (i + 1) z z z i (past (i + 1) (write_field f ++ (field_tail ps ++ last))) _ _ _ _ (omega arith) (omega arith) (omega (arith, l, m)) (omega arith) (omega (arith, e, n))
    (both_at (i + 1) k k z (i + 1) z _ _ _ _ (omega arith) (omega arith) (omega (arith, l)) (omega (arith, m)) (omega arith) (field_at w f (i + 1) o.0.1 p.1) (fields_tail w ps k o.0.2 p.2))
    (none_at z z)

algebraic_at : (w : Where) (a : Algebraic) (i : ℕ) → IsTypeBody a.bar a.constructors a.fields a.semi → PlacedAlgebraic i a → Ranged i (past i (write_algebraic a)) (constructors_fault w (algebraic_type a).constructors) (ConstructorsFail w (algebraic_type a).constructors)
algebraic_at w a i o p =
    let j = past (i + 1) (variable_row a.vars) in
    let body = write_type_body a.bar a.constructors a.fields a.semi in
    let l = past_up (i + 1) (variable_row a.vars) in
    let e : past i (write_algebraic a) ≡ past (past (i + 1) (variable_row a.vars) + 1) (write_type_body a.bar a.constructors a.fields a.semi) = past_both (i + 1) (variable_row a.vars) _ in
    wider (j + 1) (past (j + 1) body) i (past i (write_algebraic a)) _ _ (omega (arith, l)) (omega (arith, e)) (body_at w a.bar a.constructors a.fields a.semi a.name.text (j + 1) o p.2)

types_tail : (w : Where) (as' : List Algebraic) (j : ℕ) → AreAlgebraic as' → PlacedAlgebraics (j + 1) as' → Ranged j (past j (algebraic_tail as')) (types_fault w (map algebraic_type as')) (TypesFail w (map algebraic_type as'))
types_tail w [] j o p = none_at j j
types_tail w (a ∷ as') j o p =
    let k = past (j + 1) (write_algebraic a) in
    let l = past_up (j + 1) (write_algebraic a) in
    let m = past_up k (algebraic_tail as') in
    let e = past_both (j + 1) (write_algebraic a) (algebraic_tail as') in
    both_at (j + 1) k k (past k (algebraic_tail as')) j (past (j + 1) (write_algebraic a ++ algebraic_tail as')) _ _ _ _ (omega arith) (omega arith) (omega (arith, l)) (omega (arith, m)) (omega (arith, e)) (algebraic_at (with_vars w (words (map word a.vars))) a (j + 1) o.0 p.0) (types_tail w as' k o.1 p.1)

types_at : (w : Where) (as' : List Algebraic) (i : ℕ) → AreAlgebraic as' → PlacedAlgebraics i as' → Ranged i (past i (algebraic_list as')) (types_fault w (map algebraic_type as')) (TypesFail w (map algebraic_type as'))
types_at w [] i o p = none_at i i
types_at w (a ∷ as') i o p =
    let k = past i (write_algebraic a) in
    let l = past_up i (write_algebraic a) in
    let m = past_up k (algebraic_tail as') in
    let e = past_both i (write_algebraic a) (algebraic_tail as') in
    both_at i k k (past k (algebraic_tail as')) i (past i (write_algebraic a ++ algebraic_tail as')) _ _ _ _ (omega arith) (omega arith) (omega (arith, l)) (omega (arith, m)) (omega (arith, e)) (algebraic_at (with_vars w (words (map word a.vars))) a i o.0 p.0) (types_tail w as' k o.1 p.1)

-- ---- inductive predicates
clause_at : (w : Where) (c : Clause) (i : ℕ) → AreClauses (c ∷ []) → PlacedClauses i (c ∷ []) → Ranged i (past i (write_clause c)) (fault w true [] true (expression c.prop)) (NamesFail w true [] true (expression c.prop))
clause_at w c i o p =
    let j = past i (write_called c.name) in
    let l = past_up i (write_called c.name) in
    let e : past i (write_clause c) ≡ past (past i (write_called c.name) + 1) (write c.prop) = past_both i (write_called c.name) (mark t.Colon ∷ write c.prop) in
    wider (j + 1) (past (j + 1) (write c.prop)) i (past i (write_clause c)) _ _ (omega (arith, l)) (omega (arith, e)) (tree_at w true c.prop (j + 1) [] true o.1 p.1)

clauses_tail : (w : Where) (cs : List Clause) (j : ℕ) → AreClauses cs → PlacedClauses (j + 1) cs → Ranged j (past j (clause_tail cs)) (clauses_fault w (map clause cs)) (ClausesFail w (map clause cs))
clauses_tail w [] j o p = none_at j j
clauses_tail w (c ∷ cs) j o p =
    let k = past (j + 1) (write_clause c) in
    let l = past_up (j + 1) (write_clause c) in
    let m = past_up k (clause_tail cs) in
    let e = past_both (j + 1) (write_clause c) (clause_tail cs) in
    both_at (j + 1) k k (past k (clause_tail cs)) j (past (j + 1) (write_clause c ++ clause_tail cs)) _ _ _ _ (omega arith) (omega arith) (omega (arith, l)) (omega (arith, m)) (omega (arith, e)) (clause_at w c (j + 1) (o.0, o.1, tt) (p.0, p.1, tt)) (clauses_tail w cs k o.2 p.2)

clauses_at : (w : Where) (cs : List Clause) (i : ℕ) → AreClauses cs → PlacedClauses i cs → Ranged i (past i (clause_list cs)) (clauses_fault w (map clause cs)) (ClausesFail w (map clause cs))
clauses_at w [] i o p = none_at i i
clauses_at w (c ∷ cs) i o p =
    let k = past i (write_clause c) in
    let l = past_up i (write_clause c) in
    let m = past_up k (clause_tail cs) in
    let e = past_both i (write_clause c) (clause_tail cs) in
    both_at i k k (past k (clause_tail cs)) i (past i (write_clause c ++ clause_tail cs)) _ _ _ _ (omega arith) (omega arith) (omega (arith, l)) (omega (arith, m)) (omega (arith, e)) (clause_at w c i (o.0, o.1, tt) (p.0, p.1, tt)) (clauses_tail w cs k o.2 p.2)

inductives_at : (w : Where) (ds : List Inductive) (i : ℕ) → AreInductive ds → PlacedInductives i ds → (hi : ℕ) × Ranged i hi (inductives_fault w (map inductive_predicate ds)) (InductivesFail w (map inductive_predicate ds)) × (i ≤ hi)
inductives_at w [] i o p = (i, none_at i i, omega arith)
inductives_at w (d ∷ ds) i o p =
    let j = past i (write_called d.name) in
    let k = past j (param_row d.params) in
    let h = past (k + 1) (bar_before d.bar) in
    let z = past h (clause_list d.clauses) in
    let l = past_up i (write_called d.name) in
    let m = past_up j (param_row d.params) in
    let n = past_up (k + 1) (bar_before d.bar) in
    let s = past_up h (clause_list d.clauses) in
    let e1 = past_both i (write_called d.name) (param_row d.params ++ (mark t.Equal ∷ (bar_before d.bar ++ clause_list d.clauses))) in
    let e2 : past j (param_row d.params ++ (mark t.Equal ∷ (bar_before d.bar ++ clause_list d.clauses))) ≡ past (past j (param_row d.params) + 1) (bar_before d.bar ++ clause_list d.clauses) = past_both j (param_row d.params) _ in
    let e3 = past_both (k + 1) (bar_before d.bar) (clause_list d.clauses) in
    let rest = inductives_at w ds (past i (write_inductive d) + 1) o.4 p.1 in
    let end : past i (write_inductive d) ≡ z = omega (arith, e1, e2, e3) in (
      rest.0,
      both_at j k h rest.0 i rest.0 _ _ _ _ (omega (arith, l)) (omega (arith, n)) (omega (arith, m)) (omega (arith, s, end, rest.2)) (omega arith) (params_at w true d.params j o.1 p.0.1)
          (both_at h z (past i (write_inductive d) + 1) rest.0 h rest.0 _ _ _ _ (omega arith) (omega (arith, end)) (omega (arith, s)) rest.2 (omega arith) (clauses_at w d.clauses h o.3 p.0.2) rest.1),
      omega (arith, l, m, n, s, end, rest.2),
    )

-- ---- all
defined : (e : Option SyntaxTree) (ds : List Member) → IsDefined e ds → IsOptionalDefinition e × AreMembers ds
defined None [] o = (tt, tt)
defined None (d ∷ ds) o = absurd o
defined (Some e) ds o = (o.0, o.1)

nothing : IsLeastFailing None (λ g. ⊥)
nothing = (none_at 0 0).is

pub used_at : (c : Setting) (i : ℕ) (s : SyntaxDeclaration) → IsLevelDecl s → PlacedDecl i s → IfSome (declaration s) (λ (d : Declaration). IsLeastFailing (used_fault c d) (UsesFail c d))
used_at c i (type_decl a n vs None) o p = nothing
used_at c i (type_decl a n vs (Some f)) o p = (form_at (around c (words (map word vs))) false f _ o p.3).is
used_at c i (algebraic_decl a as') o p = (types_at (inside_types c (map algebraic_type as')) as' (i + 1) o.1 p.1).is
used_at c i (function_decl a x ps f e ds) o p =
    let j = past (i + 1) (write_called x) in
    let k = past j (param_row ps) in
    let l = past_up j (param_row ps) in
    let n = past_up (k + 1) (write_form f) in
    let m : GroupMember = record { called = symbol x; params = map parameter_of ps; result = Some (type_expression f); body = option_map expression e } in
    let w = within_group c (m ∷ map group_member ds) in
    let d = defined e ds o.3 in
    group_at w m ps e ds j (k + 1) (past (k + 1) (write_form f)) (past (k + 1) (write_form f)) (omega (arith, l)) (omega arith) n (omega arith) refl refl o.1 p.2 (form_at w true f (k + 1) o.2 p.3) d.0 p.4 d.1 p.5
used_at c i (predicate_decl a x ps e ds) o p =
    let j = past (i + 1) (write_called x) in
    let k = past j (param_row ps) in
    let m : GroupMember = record { called = symbol x; params = map parameter_of ps; result = None; body = option_map expression e } in
    let w = within_group c (m ∷ map group_member ds) in
    let d = defined e ds o.2 in
    group_at w m ps e ds j k k k (past_up j (param_row ps)) (omega arith) (omega arith) (omega arith) refl refl o.1 p.2 (none_at k k) d.0 p.3 d.1 p.4
used_at c i (constant_decl a x f e) o p =
    let j = past (i + 1) (write_called x) in
    let n = past_up (j + 1) (write_form f) in
    let m : GroupMember = record { called = symbol x; params = []; result = Some (type_expression f); body = option_map expression e } in
    let w = within_group c (m ∷ []) in
    group_at w m [] e [] j (j + 1) (past (j + 1) (write_form f)) (past (j + 1) (write_form f)) (omega arith) (omega arith) n (omega arith) refl refl tt tt (form_at w true f (j + 1) o.1 p.2) o.2 p.3 tt tt
used_at c i (inductive_decl a ds) o p = (inductives_at (within_inductives c (map inductive_predicate ds)) ds (i + 1) o.1 p.1).1.is
used_at c i (prop_decl a k x e) o p = (tree_at (around c []) true e (past (i + 1) (write_called x) + 1) [] true o.1 p.2).is
used_at c i (use_decl a l q n) o p = tt
used_at c i (clone_decl a l q n es) o p = tt
used_at c i (scope_decl a n ds) o p = tt
