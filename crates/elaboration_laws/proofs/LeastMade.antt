-- The first fault of the names that a declaration of a source makes is the failing check at the least token.
use Rattle.std.proofs.Common.{◌≡◌, ℕ, ◌+◌, ◌≤◌, Bool, ◌||◌, List, [], ◌∷◌, ◌++◌, map, Option, Some, None, IfSome, refl, sym, ap, subst, ◌∙◌, arith, append_assoc}
use Rattle.std.specs.Option.{is_some}
use Rattle.std.proofs.lemmas.List.{append-nil, map-append}
use Rattle.elab_groups.specs.tokens_why.declared.terminal.Terminal.TheVariants as t
use Rattle.elab_groups.specs.surface.declared.names.Name.{Name}
use Rattle.elab_groups.specs.surface.Lexeme.{Word, mark}
use Rattle.elab_groups.specs.surface.Forms.{SyntaxForm, semicolon_after, past, write_called, write_form}
use Rattle.elab_groups.specs.surface.Trees.{write, name_row, type_part, bar_before}
use Rattle.elab_groups.specs.surface.Declarations.{ParamGroup, Member, Constructor, Algebraic, Clause, Inductive, SyntaxDeclaration, type_decl, algebraic_decl, function_decl, predicate_decl, constant_decl, inductive_decl, prop_decl, use_decl, clone_decl, scope_decl, variable_row, typed_names, write_param, param_row, definition, write_member, other_members, write_constructor, write_field, field_tail, write_type_body, write_algebraic, write_clause, write_inductive, constructor_list, constructor_tail, clause_list, clause_tail}
use Rattle.elab_groups.specs.surface.DeclarationRules.{PlacedTyped, PlacedParams, PlacedMembers, PlacedConstructors, PlacedFields, PlacedTypeBody, PlacedAlgebraics, PlacedClauses, PlacedInductives, PlacedDecl}
use Rattle.elab_groups.specs.surface.Trees.{PlacedNames}
use Rattle.elab_groups.specs.scopes.declared.Table.{Table}
use Rattle.elab_groups.specs.scopes.declared.Table.TheVariants.{Types, Symbols, Propositions}
use Rattle.elab_groups.specs.name_resolution.declared.NamingFault.TheVariants.{Duplicate}
use Rattle.elab_groups.specs.name_resolution.Where.{place_of}
use Rattle.elab_groups.specs.parts.Declarations.{TokenName, Declaration, parameter_of, group_member, constructor, type_constructors, algebraic_type, clause, inductive_predicate, declaration, symbol, word, Made, makes, binds_names, names_of_parameters, constructor_names, made_by_constructors, made_type_names, made_by_members, made_by_clauses, made_by_inductives, made_names, list_fault, made_before, made_fault}
use Rattle.elaboration_laws.specs.Checked.{IsLeastFailing}
use Rattle.elaboration_laws.specs.UsedNames.{ListFails, MadeFails}
use Rattle.elaboration_laws.proofs.Least.{past_both, past_up, past_more, Ranged, none_at, both_at, if_at}

-- ---- tokens that ascend between two
abbrev Within : ℕ → ℕ → List ℕ → Type 0
Within lo hi [] = lo ≤ hi
Within lo hi (i ∷ is) = (lo ≤ i) × Within i hi is

within_all : (lo hi : ℕ) (is : List ℕ) → Within lo hi is → lo ≤ hi
within_all lo hi [] h = h
within_all lo hi (i ∷ is) h = let k = within_all i hi is h.1 in omega (arith, k, h.0)

within_more : (lo a hi : ℕ) (is : List ℕ) → lo ≤ a → Within a hi is → Within lo hi is
within_more lo a hi [] l h = omega (arith, l, h)
within_more lo a hi (i ∷ is) l h = (omega (arith, l, h.0), h.1)

within_up : (lo b hi : ℕ) (is : List ℕ) → b ≤ hi → Within lo b is → Within lo hi is
within_up lo b hi [] l h = omega (arith, l, h)
within_up lo b hi (i ∷ is) l h = (h.0, within_up i b hi is l h.1)

within_both : (lo mid hi : ℕ) (is js : List ℕ) → Within lo mid is → Within mid hi js → Within lo hi (is ++ js)
within_both lo mid hi [] js h k = within_more lo mid hi js h k
within_both lo mid hi (i ∷ is) js h k = (h.0, within_both i mid hi is js h.1 k)

within_parts : (lo hi : ℕ) (is js : List ℕ) → Within lo hi (is ++ js) → (mid : ℕ) × Within lo mid is × Within mid hi js
within_parts lo hi [] js h = (lo, omega arith, h)
within_parts lo hi (i ∷ is) js h = let k = within_parts i hi is js h.1 in (k.0, (h.0, k.1), k.2)

abbrev tokens_of : List TokenName → List ℕ
tokens_of cs = map (λ (c : TokenName). c.at) cs

abbrev made_tokens : List Made → List ℕ
made_tokens [] = []
made_tokens (makes t c ∷ ms) = c.at ∷ made_tokens ms
made_tokens (binds_names cs ∷ ms) = tokens_of cs ++ made_tokens ms

list_ranged : (seen : List Word) (cs : List TokenName) (lo hi : ℕ) → Within lo hi (tokens_of cs) → Ranged lo hi (list_fault seen cs) (ListFails seen cs)
list_ranged seen [] lo hi h = none_at lo hi
list_ranged seen (c ∷ cs) lo hi h =
    both_at c.at c.at c.at hi lo hi _ _ _ _ h.0 (omega arith) (omega arith) (within_all c.at hi (tokens_of cs) h.1) (omega arith)
    (if_at c.at (is_some (place_of c.name seen)) (Duplicate c.at) refl) (list_ranged (seen ++ c.name ∷ []) cs c.at hi h.1)

made_ranged : (declared : Table → Word → Bool) (before ms : List Made) (lo hi : ℕ) → Within lo hi (made_tokens ms) → Ranged lo hi (made_fault declared before ms) (MadeFails declared before ms)
made_ranged declared before [] lo hi h = none_at lo hi
made_ranged declared before (makes t c ∷ ms) lo hi h =
    both_at c.at c.at c.at hi lo hi _ _ _ _ h.0 (omega arith) (omega arith) (within_all c.at hi (made_tokens ms) h.1) (omega arith)
    (if_at c.at (declared t c.name || made_before t c.name before) (Duplicate c.at) refl) (made_ranged declared (makes t c ∷ before) ms c.at hi h.1)
made_ranged declared before (binds_names cs ∷ ms) lo hi h =
    let k = within_parts lo hi (tokens_of cs) (made_tokens ms) h in
    both_at lo k.0 k.0 hi lo hi _ _ _ _ (omega arith) (omega arith) (within_all lo k.0 (tokens_of cs) k.1) (within_all k.0 hi (made_tokens ms) k.2) (omega arith)
    (list_ranged [] cs lo k.0 k.1) (made_ranged declared (binds_names cs ∷ before) ms k.0 hi k.2)

made_both : (ms ns : List Made) → made_tokens (ms ++ ns) ≡ made_tokens ms ++ made_tokens ns
made_both [] ns = refl
made_both (makes t c ∷ ms) ns = ap (λ (is : List ℕ). c.at ∷ is) (made_both ms ns)
made_both (binds_names cs ∷ ms) ns = ap (λ (is : List ℕ). tokens_of cs ++ is) (made_both ms ns) ∙ sym (append_assoc (tokens_of cs) (made_tokens ms) (made_tokens ns))

-- ---- names where they stand
names_within : (ns : List Name) (i : ℕ) → PlacedNames i ns → Within i (past i (name_row ns)) (tokens_of (map word ns))
names_within [] i p = omega arith
names_within (n ∷ ns) i p =
    let k = within_more n.at (i + 1) (past (i + 1) (name_row ns)) (tokens_of (map word ns)) (omega (arith, p.0)) (names_within ns (i + 1) p.1) in
    (omega (arith, p.0), k)

variables_within : (ns : List Name) (i : ℕ) → PlacedNames i ns → Within i (past i (variable_row ns)) (tokens_of (map word ns))
variables_within [] i p = omega arith
variables_within (n ∷ ns) i p =
    let k = within_more n.at (i + 1) (past (i + 1) (variable_row ns)) (tokens_of (map word ns)) (omega (arith, p.0)) (variables_within ns (i + 1) p.1) in
    (omega (arith, p.0), k)

typed_within : (ns : List Name) (f : SyntaxForm) (i : ℕ) → PlacedTyped i ns f → Within i (past i (typed_names ns f)) (tokens_of (map word ns))
typed_within [] f i p = past_up i (write_form f)
typed_within (n ∷ ns) f i p =
    let e : past (i + 1) (name_row (n ∷ ns)) ≤ past i (typed_names (n ∷ ns) f) = past_more (i + 1) (name_row (n ∷ ns)) _ in
    within_more i (i + 1) (past i (typed_names (n ∷ ns) f)) (tokens_of (map word (n ∷ ns))) (omega arith) (within_up (i + 1) (past (i + 1) (name_row (n ∷ ns))) (past i (typed_names (n ∷ ns) f)) (tokens_of (map word (n ∷ ns))) e (names_within (n ∷ ns) (i + 1) p.0))

params_within : (ps : List ParamGroup) (i : ℕ) → PlacedParams i ps → Within i (past i (param_row ps)) (tokens_of (names_of_parameters (map parameter_of ps)))
params_within [] i p = omega arith
params_within (q ∷ ps) i p =
    let j = past i (write_param q) in
    let e = past_both i (write_param q) (param_row ps) in
    let h = within_both i j (past j (param_row ps)) (tokens_of (map word q.names)) (tokens_of (names_of_parameters (map parameter_of ps))) (typed_within q.names q.of_type i p.0) (params_within ps j p.1) in
    subst (Within i (past i (write_param q ++ param_row ps))) (sym (map-append (λ (c : TokenName). c.at) (map word q.names) (names_of_parameters (map parameter_of ps))))
    (within_up i (past j (param_row ps)) (past i (write_param q ++ param_row ps)) (tokens_of (map word q.names) ++ tokens_of (names_of_parameters (map parameter_of ps))) (omega (arith, e)) h)

-- a name at a token before names of parameters and others
symbol_within : (x i lo mid hi : ℕ) (ps : List ParamGroup) (rest : List ℕ) → lo ≤ x → x ≤ i → PlacedParams i ps → past i (param_row ps) ≤ mid → Within mid hi rest → Within lo hi (x ∷ (tokens_of (names_of_parameters (map parameter_of ps)) ++ rest))
symbol_within x i lo mid hi ps rest a b p c h = (
  a,
  within_both x mid hi (tokens_of (names_of_parameters (map parameter_of ps))) rest
      (within_up x (past i (param_row ps)) mid (tokens_of (names_of_parameters (map parameter_of ps))) c (within_more x i (past i (param_row ps)) (tokens_of (names_of_parameters (map parameter_of ps))) b (params_within ps i p))) h,
)

members_within : (ds : List Member) (i : ℕ) → PlacedMembers i ds → Within i (past i (other_members ds)) (made_tokens (made_by_members (map group_member ds)))
members_within [] i p = omega arith
members_within (d ∷ ds) i p =
    let z = past (i + 1) (write_member d) in
    let j = past (i + 1) (write_called d.name) in
    let l = past_up (i + 1) (write_called d.name) in
    let e = past_both (i + 1) (write_member d) (other_members ds) in
    let e1 = past_both (i + 1) (write_called d.name) (param_row d.params ++ (type_part d.result ++ (mark t.Equal ∷ write d.body))) in
    let e2 = past_more j (param_row d.params) (type_part d.result ++ (mark t.Equal ∷ write d.body)) in
    within_up i (past z (other_members ds)) (past (i + 1) (write_member d ++ other_members ds)) (made_tokens (made_by_members (map group_member (d ∷ ds)))) (omega (arith, e))
    (symbol_within d.name.at j i z (past z (other_members ds)) d.params (made_tokens (made_by_members (map group_member ds))) (omega (arith, p.0.0)) (omega (arith, p.0.0, l)) p.0.1 (omega (arith, e1, e2)) (members_within ds z p.1))

-- names of symbols
symbols_tokens : (cs : List TokenName) → made_tokens (map (makes Symbols) cs) ≡ tokens_of cs
symbols_tokens [] = refl
symbols_tokens (c ∷ cs) = ap (λ (is : List ℕ). c.at ∷ is) (symbols_tokens cs)

-- a constructor with its fields, before others
constructor_within : (c : Constructor) (cs : List TokenName) (lo i hi : ℕ) → lo ≤ i → c.name.at ≡ i → PlacedParams (i + 1) c.fields → Within (past i (write_constructor c)) hi (tokens_of cs) → Within lo hi (tokens_of (word c.name ∷ (names_of_parameters (map parameter_of c.fields) ++ cs)))
constructor_within c cs lo i hi l q p h =
    let ns = names_of_parameters (map parameter_of c.fields) in
    subst (λ (is : List ℕ). Within lo hi (c.name.at ∷ is)) (sym (map-append (λ (x : TokenName). x.at) ns cs))
    (symbol_within c.name.at (i + 1) lo (past i (write_constructor c)) hi c.fields (tokens_of cs) (omega (arith, l, q)) (omega (arith, q)) p (omega arith) h)

-- constructors and clauses, with a token between
constructors_tail : (cs : List Constructor) (j : ℕ) → PlacedConstructors (j + 1) cs → Within j (past j (constructor_tail cs)) (tokens_of (constructor_names (map constructor cs)))
constructors_tail [] j p = omega arith
constructors_tail (c ∷ cs) j p =
    let k = past (j + 1) (write_constructor c) in
    let e = past_both (j + 1) (write_constructor c) (constructor_tail cs) in
    let ds = constructor_names (map constructor cs) in
    within_up j (past k (constructor_tail cs)) (past (j + 1) (write_constructor c ++ constructor_tail cs)) (tokens_of (constructor_names (map constructor (c ∷ cs)))) (omega (arith, e))
    (constructor_within c ds j (j + 1) (past k (constructor_tail cs)) (omega arith) p.0 p.1 (constructors_tail cs k p.2))

constructors_within : (cs : List Constructor) (i : ℕ) → PlacedConstructors i cs → Within i (past i (constructor_list cs)) (tokens_of (constructor_names (map constructor cs)))
constructors_within [] i p = omega arith
constructors_within (c ∷ cs) i p =
    let k = past i (write_constructor c) in
    let e = past_both i (write_constructor c) (constructor_tail cs) in
    let ds = constructor_names (map constructor cs) in
    within_up i (past k (constructor_tail cs)) (past i (write_constructor c ++ constructor_tail cs)) (tokens_of (constructor_names (map constructor (c ∷ cs)))) (omega (arith, e))
    (constructor_within c ds i i (past k (constructor_tail cs)) (omega arith) p.0 p.1 (constructors_tail cs k p.2))

-- fields of a record, by the names after the first of them
first_field : (q : ParamGroup) (ps : List ParamGroup) (i hi : ℕ) → PlacedNames i q.names → Within (past i (write_field q)) hi (tokens_of (names_of_parameters (map parameter_of ps))) → Within i hi (tokens_of (names_of_parameters (map parameter_of (q ∷ ps))))
first_field q ps i hi p h =
    let ns = tokens_of (map word q.names) in
    let e : past i (name_row q.names) ≤ past i (write_field q) = past_more i (name_row q.names) _ in
    subst (Within i hi) (sym (map-append (λ (c : TokenName). c.at) (map word q.names) (names_of_parameters (map parameter_of ps))))
    (within_both i (past i (write_field q)) hi ns (tokens_of (names_of_parameters (map parameter_of ps))) (within_up i (past i (name_row q.names)) (past i (write_field q)) ns e (names_within q.names i p)) h)

fields_tail : (ps : List ParamGroup) (j : ℕ) → PlacedFields (j + 1) ps → Within j (past j (field_tail ps)) (tokens_of (names_of_parameters (map parameter_of ps)))
fields_tail [] j p = omega arith
fields_tail (q ∷ ps) j p =
    let k = past (j + 1) (write_field q) in
    let e = past_both (j + 1) (write_field q) (field_tail ps) in
    let z = past (j + 1) (write_field q ++ field_tail ps) in
    within_more j (j + 1) z (tokens_of (names_of_parameters (map parameter_of (q ∷ ps)))) (omega arith)
    (first_field q ps (j + 1) z p.0 (within_up k (past k (field_tail ps)) z (tokens_of (names_of_parameters (map parameter_of ps))) (omega (arith, e)) (fields_tail ps k p.2)))

-- constructors, or the fields of a record
body_within : (bar : Bool) (cs : List Constructor) (fs : List ParamGroup) (semi : Bool) (x : Word) (i : ℕ) → PlacedTypeBody i bar cs fs → Within i (past i (write_type_body bar cs fs semi)) (tokens_of (constructor_names (type_constructors x cs fs)))
body_within bar cs [] semi x i p =
    let k = past i (bar_before bar) in
    let m = past_up i (bar_before bar) in
    let q = past_both i (bar_before bar) (constructor_list cs) in
    let ns = tokens_of (constructor_names (map constructor cs)) in
    within_more i k (past i (bar_before bar ++ constructor_list cs)) ns (omega (arith, m)) (within_up k (past k (constructor_list cs)) (past i (bar_before bar ++ constructor_list cs)) ns (omega (arith, q)) (constructors_within cs k p))
body_within bar cs (f ∷ ps) semi x i p =
    let last = semicolon_after semi ++ (mark t.RBrace ∷ []) in
    let k = past (i + 1) (write_field f) in
    let z = past (i + 1) (write_field f ++ (field_tail ps ++ last)) in
    let e = past_both (i + 1) (write_field f) (field_tail ps ++ last) in
    let n = past_more k (field_tail ps) last in
    let ns = names_of_parameters (map parameter_of (f ∷ ps)) in
    subst (λ (cs : List TokenName). Within i z (tokens_of cs)) (sym (append-nil ns))
    (within_more i (i + 1) z (tokens_of ns) (omega arith) (first_field f ps (i + 1) z p.0 (within_up k (past k (field_tail ps)) z (tokens_of (names_of_parameters (map parameter_of ps))) (omega (arith, e, n)) (fields_tail ps k p.2))))

clauses_tail : (cs : List Clause) (j : ℕ) → PlacedClauses (j + 1) cs → Within j (past j (clause_tail cs)) (made_tokens (made_by_clauses (map clause cs)))
clauses_tail [] j p = omega arith
clauses_tail (c ∷ cs) j p =
    let k = past (j + 1) (write_clause c) in
    let l = past_up (j + 1) (write_clause c) in
    let e = past_both (j + 1) (write_clause c) (clause_tail cs) in (
      omega (arith, p.0),
      within_up c.name.at (past k (clause_tail cs)) (past (j + 1) (write_clause c ++ clause_tail cs)) (made_tokens (made_by_clauses (map clause cs))) (omega (arith, e))
          (within_more c.name.at k (past k (clause_tail cs)) (made_tokens (made_by_clauses (map clause cs))) (omega (arith, p.0, l)) (clauses_tail cs k p.2)),
    )

clauses_within : (cs : List Clause) (i : ℕ) → PlacedClauses i cs → Within i (past i (clause_list cs)) (made_tokens (made_by_clauses (map clause cs)))
clauses_within [] i p = omega arith
clauses_within (c ∷ cs) i p =
    let k = past i (write_clause c) in
    let l = past_up i (write_clause c) in
    let e = past_both i (write_clause c) (clause_tail cs) in (
      omega (arith, p.0),
      within_up c.name.at (past k (clause_tail cs)) (past i (write_clause c ++ clause_tail cs)) (made_tokens (made_by_clauses (map clause cs))) (omega (arith, e))
          (within_more c.name.at k (past k (clause_tail cs)) (made_tokens (made_by_clauses (map clause cs))) (omega (arith, p.0, l)) (clauses_tail cs k p.2)),
    )

types_within : (as' : List Algebraic) (i : ℕ) → PlacedAlgebraics i as' → (hi : ℕ) × Within i hi (made_tokens (made_type_names (map algebraic_type as')))
types_within [] i p = (i, omega arith)
types_within (a ∷ as') i p =
    let j = past (i + 1) (variable_row a.vars) in
    let k = j + 1 in
    let z = past k (write_type_body a.bar a.constructors a.fields a.semi) in
    let e : past i (write_algebraic a) ≡ past (past (i + 1) (variable_row a.vars) + 1) (write_type_body a.bar a.constructors a.fields a.semi) = past_both (i + 1) (variable_row a.vars) _ in
    let rest = types_within as' (past i (write_algebraic a) + 1) p.1 in
    let vs = tokens_of (map word a.vars) in
    let made = (algebraic_type a).constructors in
    let names = constructor_names made in
    let cs = tokens_of names in
    let ts = made_tokens (made_type_names (map algebraic_type as')) in
    let both : Within k rest.0 (cs ++ ts) = within_both k z rest.0 cs ts (body_within a.bar a.constructors a.fields a.semi a.name.text k p.0.2) (within_more z (past i (write_algebraic a) + 1) rest.0 ts (omega (arith, e)) rest.1) in
    let whole = within_both a.name.at j rest.0 vs (cs ++ ts) (within_more a.name.at (i + 1) j vs (omega (arith, p.0.0)) (variables_within a.vars (i + 1) p.0.1)) (within_more j k rest.0 (cs ++ ts) (omega arith) both) in
    (rest.0, (omega (arith, p.0.0), subst (λ (is : List ℕ). Within a.name.at rest.0 (vs ++ is)) (sym (made_both (made_by_constructors made) (made_type_names (map algebraic_type as')) ∙ ap (λ (is : List ℕ). is ++ ts) (symbols_tokens names))) whole))

inductives_within : (ds : List Inductive) (i : ℕ) → PlacedInductives i ds → (hi : ℕ) × Within i hi (made_tokens (made_by_inductives (map inductive_predicate ds)))
inductives_within [] i p = (i, omega arith)
inductives_within (d ∷ ds) i p =
    let j = past i (write_called d.name) in
    let k = past j (param_row d.params) in
    let h = past (k + 1) (bar_before d.bar) in
    let z = past h (clause_list d.clauses) in
    let l = past_up i (write_called d.name) in
    let n = past_up (k + 1) (bar_before d.bar) in
    let e1 = past_both i (write_called d.name) (param_row d.params ++ (mark t.Equal ∷ (bar_before d.bar ++ clause_list d.clauses))) in
    let e2 : past j (param_row d.params ++ (mark t.Equal ∷ (bar_before d.bar ++ clause_list d.clauses))) ≡ past (past j (param_row d.params) + 1) (bar_before d.bar ++ clause_list d.clauses) = past_both j (param_row d.params) _ in
    let e3 = past_both (k + 1) (bar_before d.bar) (clause_list d.clauses) in
    let rest = inductives_within ds (past i (write_inductive d) + 1) p.1 in
    let end : past i (write_inductive d) ≡ z = omega (arith, e1, e2, e3) in
    let cs = made_tokens (made_by_clauses (map clause d.clauses)) in
    let ts = made_tokens (made_by_inductives (map inductive_predicate ds)) in
    let both : Within h rest.0 (cs ++ ts) = within_both h z rest.0 cs ts (clauses_within d.clauses h p.0.2) (within_more z (past i (write_inductive d) + 1) rest.0 ts (omega (arith, end)) rest.1) in
    let whole = symbol_within d.name.at j i h rest.0 d.params (cs ++ ts) (omega (arith, p.0.0)) (omega (arith, p.0.0, l)) p.0.1 (omega (arith, n)) both in
    (rest.0, subst (λ (is : List ℕ). Within i rest.0 (d.name.at ∷ (tokens_of (names_of_parameters (map parameter_of d.params)) ++ is))) (sym (made_both (made_by_clauses (map clause d.clauses)) (made_by_inductives (map inductive_predicate ds)))) whole)

-- ---- all
pub made_at : (declared : Table → Word → Bool) (i : ℕ) (s : SyntaxDeclaration) → PlacedDecl i s → IfSome (declaration s) (λ (d : Declaration). IsLeastFailing (made_fault declared [] (made_names d)) (MadeFails declared [] (made_names d)))
made_at declared i (type_decl a n vs f) p = of f
  where
    within : Within i (past (i + 1 + 1) (variable_row vs)) (n.at ∷ (tokens_of (map word vs) ++ []))
    within = (omega (arith, p.1), within_both n.at (past (i + 1 + 1) (variable_row vs)) (past (i + 1 + 1) (variable_row vs)) (tokens_of (map word vs)) [] (within_more n.at (i + 1 + 1) (past (i + 1 + 1) (variable_row vs)) (tokens_of (map word vs)) (omega (arith, p.1)) (variables_within vs (i + 1 + 1) p.2)) (omega arith))

    of : (g : Option SyntaxForm) → IfSome (declaration (type_decl a n vs g)) (λ (d : Declaration). IsLeastFailing (made_fault declared [] (made_names d)) (MadeFails declared [] (made_names d)))
    of None = (made_ranged declared [] (makes Types (word n) ∷ binds_names (map word vs) ∷ []) i (past (i + 1 + 1) (variable_row vs)) within).is
    of (Some g) = (made_ranged declared [] (makes Types (word n) ∷ binds_names (map word vs) ∷ []) i (past (i + 1 + 1) (variable_row vs)) within).is
made_at declared i (algebraic_decl a as') p = let k = types_within as' (i + 1) p.1 in (made_ranged declared [] (made_type_names (map algebraic_type as')) (i + 1) k.0 k.1).is
made_at declared i (function_decl a x ps f e ds) p =
    let j = past (i + 1) (write_called x) in
    let k = past j (param_row ps) in
    let h = past (k + 1) (write_form f) in
    let b = past h (definition e) in
    let l = past_up (i + 1) (write_called x) in
    let n = past_up (k + 1) (write_form f) in
    let o = past_up h (definition e) in
    (made_ranged declared [] (makes Symbols (symbol x) ∷ binds_names (names_of_parameters (map parameter_of ps)) ∷ made_by_members (map group_member ds)) i (past b (other_members ds)) (symbol_within x.at j i b (past b (other_members ds)) ps (made_tokens (made_by_members (map group_member ds))) (omega (arith, p.1)) (omega (arith, p.1, l)) p.2 (omega (arith, n, o)) (members_within ds b p.5))).is
made_at declared i (predicate_decl a x ps e ds) p =
    let j = past (i + 1) (write_called x) in
    let k = past j (param_row ps) in
    let b = past k (definition e) in
    let l = past_up (i + 1) (write_called x) in
    let o = past_up k (definition e) in
    (made_ranged declared [] (makes Symbols (symbol x) ∷ binds_names (names_of_parameters (map parameter_of ps)) ∷ made_by_members (map group_member ds)) i (past b (other_members ds)) (symbol_within x.at j i b (past b (other_members ds)) ps (made_tokens (made_by_members (map group_member ds))) (omega (arith, p.1)) (omega (arith, p.1, l)) p.2 o (members_within ds b p.4))).is
made_at declared i (constant_decl a x f e) p = (made_ranged declared [] (makes Symbols (symbol x) ∷ binds_names [] ∷ []) i x.at (omega (arith, p.1), omega arith)).is
made_at declared i (inductive_decl a ds) p = let k = inductives_within ds (i + 1) p.1 in (made_ranged declared [] (made_by_inductives (map inductive_predicate ds)) (i + 1) k.0 k.1).is
made_at declared i (prop_decl a k x e) p = (made_ranged declared [] (makes Propositions (symbol x) ∷ []) i x.at (omega (arith, p.1), omega arith)).is
made_at declared i (use_decl a l q n) p = tt
made_at declared i (clone_decl a l q n es) p = tt
made_at declared i (scope_decl a n ds) p = tt
