-- The node that is told as undetermined is the first one in preorder, one of whose types differs between two solutions.
use Rattle.std.proofs.Common.{◌≡◌, ℕ, ◌+◌, ◌-◌, ◌<◌, ◌≤◌, zero, suc, Bool, true, false, cond, nat_lt, List, [], ◌∷◌, ◌++◌, reverse, replicate, length, slice_get, Option, Some, None, IfSome, inl, inr, refl, sym, ap, subst, ◌∙◌, arith, append_assoc, append-nil, length-append}
use Rattle.std.specs.Option.{is_none}
use Rattle.std.specs.List.{AllByRecursion}
use Rattle.elab_groups.specs.trees.Tree.{Tree, Leaf, One, Two, Three, Head, HTyVar, HCell, HEnd}
use Rattle.elab_groups.specs.trees.Facts.{TyVarsBelow, leaf_below}
use Rattle.elab_groups.specs.tasks.Equations.{type_variables}
use Rattle.elab_groups.specs.open_types.unify_types.Assigned.{Variable, assign, leaf_assigned}
use Rattle.elab_groups.specs.open_types.unify_types.Pairs.{IsSolution, IsLeftOpen}
use Rattle.elab_groups.proofs.open_types.unify_types.Assigning.{assign-unknown}
use Rattle.elab_groups.specs.surface.Lexeme.{Word}
use Rattle.elab_groups.specs.name_resolution.Abstract.{Pattern, Patterns, wildcard_pattern, variable_pattern, constructor_pattern, tuple_pattern, alias_pattern, record_pattern, no_patterns, more_patterns, Alternatives, no_alternatives, more_alternatives, Expression, Expressions, MatchBranches, applied_expression, infix_expression, integer_expression, true_expression, false_expression, tuple_expression, cast_expression, field_expression, record_expression, not_expression, connected_expression, equality_expression, if_expression, let_expression, match_expression, quantified_expression, no_expressions, more_expressions, no_branches, more_branches, count_patterns, count_expressions}
use Rattle.elab_groups.specs.name_resolution.Faults.{first_of, name_fault, field_fault, bound_names, alternatives_names, is_formula_trigger, token, fault, faults, triggers_fault, branches_fault}
use Rattle.elab_groups.specs.name_resolution.Records.{record_named}
use Rattle.elab_groups.specs.name_resolution.Where.{Where}
use Rattle.elab_groups.specs.open_types.Patterns.{Notes, noted, LocalTree, local, taken, first_or_int, rest_of, entry_of, part_types, place_types, part_pieces, pattern_piece, patterns_piece, later_pieces, alternatives_pieces, all_notes, first_variables}
use Rattle.elab_groups.specs.open_types.Pieces.{type_at, NotedTree, unknown, unknown_after, noted_before, bare_piece, both_pieces, piece, pieces, triggers_notes, branches_arms, Use, Local', Symbol', use_of_name, field_use, tuple_use, record_use, field_places, values_placed, piece_under, use_vars, used_piece, parameters, binders_vars, bound, names}
use Rattle.elab_groups.specs.open_types.Scoped.{IsScoped}
use Rattle.elab_groups.proofs.open_types.Below.{below_more, AreBelow, LocalsBelow, locals_more, wanted_more, list_more, both_all, reversed, first_below, rest_below, parameters_of, symbol_scoped, use_below, form_below, bound_below}
use Rattle.elab_groups.proofs.open_types.Bounded.{alternatives_below}
use Rattle.elab_groups.proofs.open_types.Noting.{count_replicate}
use Rattle.elab_groups.proofs.open_types.Walking.{none_both, in_cast, in_negation, in_joined, in_equated, in_choice, in_binding, in_tuple, in_record}
use Rattle.elab_groups.proofs.open_types.Branching.{in_cases, in_branches}
use Rattle.elab_groups.proofs.open_types.Quantified.{in_quantified}
use Rattle.elab_groups.specs.parts.Elaborated.{IsFixedUnknown, IsTypingFault}
use Rattle.elab_groups.specs.declared.parts.solution.TypingFault.TheVariants.{Undetermined}
use Rattle.elab_groups.specs.tasks.Vocabulary.{Vocabulary}
use Rattle.elab_groups.specs.parts.Declarations.{GroupMember, with_vars}
use Rattle.elab_groups.specs.members.Members.{SignatureTree}
use Rattle.elab_groups.specs.Groups.{body_piece, member_piece, member_pieces, most_variables, bodies_pieces, pieces_notes}
use Rattle.elaboration_laws.proofs.Placing.{places_all}
use Rattle.elaboration_laws.specs.Typed.{IsNamedExpression}
use Rattle.elaboration_laws.specs.GroupTypings.{body_locals, AreNamedBodies}
use Rattle.elaboration_laws.specs.Typings.{HasOwnTypes}
use Rattle.elaboration_laws.specs.NodeTypes.{TypedNode, types_due, typed_node, of_symbol, pattern_nodes, patterns_nodes, later_nodes, alternatives_nodes, nodes_of, all_nodes, triggers_nodes, branches_nodes, member_nodes, bodies_nodes, Among, IsFixedType, IsFirstOpenNode}

-- ---- each node has types over earlier unknowns, and those that it takes
abbrev Covered : ℕ → List TypedNode → List ℕ → Type 0
Covered n [] is = is ≡ []
Covered n (x ∷ xs) is = (k : ℕ) × (before : List Tree) × (rest : List ℕ) × (x.types ≡ before ++ type_variables n k) × AreBelow n before × (is ≡ replicate k x.token ++ rest) × Covered (n + k) xs rest

covered_from : (n m : ℕ) (xs : List TypedNode) (is : List ℕ) → n ≡ m → Covered n xs is → Covered m xs is
covered_from n m xs is e h = subst (λ (k : ℕ). Covered k xs is) e h

covered_both : (n : ℕ) (xs ys : List TypedNode) (is js : List ℕ) → Covered n xs is → Covered (n + length is) ys js → Covered n (xs ++ ys) (is ++ js)
covered_both n [] ys is js h k =
    let e : n + length is ≡ n = omega (arith, ap length h) in
    subst (Covered n ys) (sym (ap (λ (zs : List ℕ). zs ++ js) h)) (covered_from (n + length is) n ys js e k)
covered_both n (x ∷ xs) ys is js h k =
    let c = h.0 in
    let rest = h.2 in
    let e : n + length is ≡ n + h.0 + length h.2 = omega (arith, ap length h.5, length-append (replicate h.0 x.token) h.2, count_replicate h.0 x.token) in
    (h.0, h.1, h.2 ++ js, h.3, h.4, ap (λ (zs : List ℕ). zs ++ js) h.5 ∙ append_assoc (replicate h.0 x.token) h.2 js, covered_both (n + h.0) xs ys h.2 js h.6 (covered_from (n + length is) (n + h.0 + length h.2) ys js e k))

wanted_below : (n : ℕ) (t : Option Tree) → IfSome t (TyVarsBelow n) → AreBelow n (types_due t)
wanted_below n None h = tt
wanted_below n (Some t) h = (h, tt)

-- a node before others
covered_node : (i n k : ℕ) (t : Option Tree) (xs : List TypedNode) (is : List ℕ) → IfSome t (TyVarsBelow n) → Covered (n + k) xs is → Covered n (typed_node i t n k ∷ xs) (replicate k i ++ is)
covered_node i n k t xs is b h = (k, types_due t, is, refl, wanted_below n t b, refl, h)

alone : (i n : ℕ) (t : Option Tree) → IfSome t (TyVarsBelow n) → Covered n (typed_node i t n 0 ∷ []) []
alone i n t b = covered_node i n 0 t [] [] b refl

-- two parts, the second after the first
parts_covered : (n : ℕ) (p q : Notes) (xs ys : List TypedNode) → Covered n xs p.takers → Covered (n + taken p) ys q.takers → Covered n (xs ++ ys) (p.takers ++ q.takers)
parts_covered n p q xs ys h k = covered_both n xs ys p.takers q.takers h k

none_more : (n : ℕ) (xs : List TypedNode) (is : List ℕ) → Covered n xs is → Covered n xs (is ++ [])
none_more n xs is h = subst (Covered n xs) (sym (append-nil is)) h

module _ (w : Where) (sc : IsScoped w) where
  mutual
    pattern_covered : (p : Pattern) (first : Option (List LocalTree)) (n : ℕ) (t : Tree) → TyVarsBelow n t → Covered n (pattern_nodes w first n t p) (pattern_piece w first n t p).notes.takers
    pattern_covered (wildcard_pattern i) first n t h = alone i n (Some t) h
    pattern_covered (variable_pattern i x) first n t h = alone i n (Some t) h
    pattern_covered (constructor_pattern i qs x ps) first n t h =
        let c = entry_of w.symbols (w.names qs x) in
        covered_node i n c.symbol.vars (Some t) (patterns_nodes w first (n + c.symbol.vars) (part_types n c) ps) (patterns_piece w first (n + c.symbol.vars) (part_types n c) ps).notes.takers h
        (patterns_covered ps first (n + c.symbol.vars) (part_types n c) (parameters_of n (Symbol' c) (symbol_scoped w sc (w.names qs x))))
    pattern_covered (tuple_pattern i ps) first n t h =
        let c = entry_of w.symbols (w.tuples (count_patterns ps)) in
        covered_node i n c.symbol.vars (Some t) (patterns_nodes w first (n + c.symbol.vars) (part_types n c) ps) (patterns_piece w first (n + c.symbol.vars) (part_types n c) ps).notes.takers h
        (patterns_covered ps first (n + c.symbol.vars) (part_types n c) (parameters_of n (Symbol' c) (symbol_scoped w sc (w.tuples (count_patterns ps)))))
    pattern_covered (alias_pattern p i x) first n t h =
        let inner = pattern_piece w first n t p in
        let e : n ≡ n + 0 = omega arith in
        covered_node i n 0 (Some t) (pattern_nodes w first n t p) (inner.notes.takers ++ []) h (covered_from n (n + 0) (pattern_nodes w first n t p) (inner.notes.takers ++ []) e (none_more n (pattern_nodes w first n t p) inner.notes.takers (pattern_covered p first n t h)))
    pattern_covered (record_pattern i fs ps) first n t h =
        let k = record_named w.symbols w.names fs in
        let c = entry_of w.symbols (Some k) in
        let ts = place_types (field_places w fs) (part_types n c) in
        let m = n + c.symbol.vars in
        covered_node i n c.symbol.vars (Some t) (patterns_nodes w first m ts ps) (all_notes (part_pieces w first m ts ps)).takers h
        (fields_covered ps first m ts (places_all (TyVarsBelow m) tt (field_places w fs) (part_types n c) (parameters_of n (Symbol' c) (symbol_scoped w sc (Some k)))))

    patterns_covered : (ps : Patterns) (first : Option (List LocalTree)) (n : ℕ) (ts : List Tree) → AreBelow n ts → Covered n (patterns_nodes w first n ts ps) (patterns_piece w first n ts ps).notes.takers
    patterns_covered no_patterns first n ts h = refl
    patterns_covered (more_patterns p ps) first n ts h =
        let one = pattern_piece w first n (first_or_int ts) p in
        let m = n + taken one.notes in
        parts_covered n one.notes (patterns_piece w first m (rest_of ts) ps).notes (pattern_nodes w first n (first_or_int ts) p) (patterns_nodes w first m (rest_of ts) ps)
        (pattern_covered p first n (first_or_int ts) (first_below n ts h)) (patterns_covered ps first m (rest_of ts) (list_more (rest_of ts) n m (omega arith) (rest_below n ts h)))

    -- of a record
    fields_covered : (ps : Patterns) (first : Option (List LocalTree)) (n : ℕ) (ts : List Tree) → AreBelow n ts → Covered n (patterns_nodes w first n ts ps) (all_notes (part_pieces w first n ts ps)).takers
    fields_covered no_patterns first n ts h = refl
    fields_covered (more_patterns p ps) first n ts h =
        let one = pattern_piece w first n (first_or_int ts) p in
        let m = n + taken one.notes in
        parts_covered n one.notes (all_notes (part_pieces w first m (rest_of ts) ps)) (pattern_nodes w first n (first_or_int ts) p) (patterns_nodes w first m (rest_of ts) ps)
        (pattern_covered p first n (first_or_int ts) (first_below n ts h)) (fields_covered ps first m (rest_of ts) (list_more (rest_of ts) n m (omega arith) (rest_below n ts h)))

  later_covered : (ps : Alternatives) (first : List LocalTree) (n : ℕ) (t : Tree) → TyVarsBelow n t → Covered n (later_nodes w first n t ps) (all_notes (later_pieces w first n t ps)).takers
  later_covered no_alternatives first n t h = refl
  later_covered (more_alternatives i p ps) first n t h =
      let one = pattern_piece w (Some first) n t p in
      let m = n + taken one.notes in
      parts_covered n one.notes (all_notes (later_pieces w first m t ps)) (pattern_nodes w (Some first) n t p) (later_nodes w first m t ps) (pattern_covered p (Some first) n t h) (later_covered ps first m t (below_more t n m (omega arith) h))

  alternatives_covered : (ps : Alternatives) (n : ℕ) (t : Tree) → TyVarsBelow n t → Covered n (alternatives_nodes w n t ps) (all_notes (alternatives_pieces w n t ps)).takers
  alternatives_covered no_alternatives n t h = refl
  alternatives_covered (more_alternatives i p ps) n t h =
      let one = pattern_piece w None n t p in
      let m = n + taken one.notes in
      parts_covered n one.notes (all_notes (later_pieces w one.variables m t ps)) (pattern_nodes w None n t p) (later_nodes w one.variables m t ps) (pattern_covered p None n t h) (later_covered ps one.variables m t (below_more t n m (omega arith) h))

  -- ---- terms and formulas
  used_covered : (n i : ℕ) (t : Option Tree) (u : Use) (p : NotedTree) (xs : List TypedNode) → IfSome t (TyVarsBelow n) → Covered (n + use_vars u) xs p.notes.takers → Covered n (typed_node i t n (use_vars u) ∷ of_symbol u xs) (used_piece n t i u p).notes.takers
  used_covered n i t (Local' k ty) p xs b h = alone i n t b
  used_covered n i t (Symbol' e) p xs b h = covered_node i n e.symbol.vars t xs p.notes.takers b h

  -- a node that takes nothing
  plain_covered : (i n : ℕ) (t : Option Tree) (xs : List TypedNode) (is : List ℕ) → IfSome t (TyVarsBelow n) → Covered n xs is → Covered n (typed_node i t n 0 ∷ xs) is
  plain_covered i n t xs is b h = let e : n ≡ n + 0 = omega arith in covered_node i n 0 t xs is b (covered_from n (n + 0) xs is e h)

  -- a trigger, which is a formula or a term
  either_covered : (b : Bool) (n i : ℕ) (p q : NotedTree) (xs ys : List TypedNode) → Covered n xs p.notes.takers → Covered (n + 1) ys q.notes.takers → Covered n (cond b xs (typed_node i None n 1 ∷ ys)) (cond b p (noted_before (noted [] (i ∷ [])) q)).notes.takers
  either_covered true n i p q xs ys h k = h
  either_covered false n i p q xs ys h k = covered_node i n 1 None ys q.notes.takers tt k

  mutual
    covered : (e : Expression) (ls : List LocalTree) (n : ℕ) (t : Option Tree) (ns : List Word) (due : Bool) → LocalsBelow n ls → IfSome t (TyVarsBelow n) → length w.vars ≤ n → fault w false ns due e ≡ None → Covered n (nodes_of w ls n t e) (piece w ls n t e).notes.takers
    covered (applied_expression i qs x es) ls n t ns due h k o f =
        let p = none_both (name_fault w ns due i qs x (count_expressions es)) (faults w false ns es) f in
        let u = use_of_name w ls qs x in
        let b = use_below w sc n ls qs x h in
        let m = n + use_vars u in
        used_covered n i t u (pieces w ls m (parameters n u) es) (all_nodes w ls m (parameters n u) es) k (all_covered es ls m (parameters n u) ns (locals_more ls n m (omega arith) h) (parameters_of n u b) (omega (arith, o)) p.1)
    covered (infix_expression i x a b) ls n t ns due h k o f =
        let p = none_both (fault w false ns false a) (first_of (name_fault w ns due i [] x 2) (fault w false ns false b)) f in
        let q = none_both (name_fault w ns due i [] x 2) (fault w false ns false b) p.1 in
        let u = use_of_name w ls [] x in
        let ub = use_below w sc n ls [] x h in
        let m = n + use_vars u in
        let ts = parameters n u in
        let pb = parameters_of n u ub in
        let left = piece w ls m (Some (first_or_int ts)) a in
        let j = unknown_after m left in
        let right = piece w ls j (Some (first_or_int (rest_of ts))) b in
        used_covered n i t u _ (nodes_of w ls m (Some (first_or_int ts)) a ++ nodes_of w ls j (Some (first_or_int (rest_of ts))) b) k
        (covered_both m (nodes_of w ls m (Some (first_or_int ts)) a) (nodes_of w ls j (Some (first_or_int (rest_of ts))) b) left.notes.takers (right.notes.takers ++ [])
        (covered a ls m (Some (first_or_int ts)) ns false (locals_more ls n m (omega arith) h) (first_below m ts pb) (omega (arith, o)) p.0)
        (none_more j (nodes_of w ls j (Some (first_or_int (rest_of ts))) b) right.notes.takers (covered b ls j (Some (first_or_int (rest_of ts))) ns false (locals_more ls n j (omega arith) h) (below_more (first_or_int (rest_of ts)) m j (omega arith) (first_below m (rest_of ts) (rest_below m ts pb))) (omega (arith, o)) q.1)))
    covered (integer_expression i z) ls n t ns due h k o f = alone i n t k
    covered (true_expression i) ls n t ns due h k o f = alone i n None tt
    covered (false_expression i) ls n t ns due h k o f = alone i n None tt
    covered (tuple_expression i es) ls n t ns due h k o f =
        let p = in_tuple w false ns due i es f in
        let u = tuple_use w (count_expressions es) in
        let m = n + use_vars u in
        used_covered n i t u (pieces w ls m (parameters n u) es) (all_nodes w ls m (parameters n u) es) k
        (all_covered es ls m (parameters n u) ns (locals_more ls n m (omega arith) h) (parameters_of n u (symbol_scoped w sc (w.tuples (count_expressions es)))) (omega (arith, o)) p.1)
    covered (cast_expression i e ty) ls n t ns due h k o f =
        let p = in_cast w false ns due i e ty f in
        plain_covered i n t (nodes_of w ls n (Some (type_at w ty)) e) (piece w ls n (Some (type_at w ty)) e).notes.takers k (covered e ls n (Some (type_at w ty)) ns false h (below_more (type_at w ty) (length w.vars) n o (form_below w sc ty p.2)) o p.1)
    covered (field_expression i e c qs x) ls n t ns due h k o f =
        let p = none_both (fault w false ns false e) (field_fault w due c (w.names qs x)) f in
        let u = field_use w qs x in
        let m = n + use_vars u in
        let ts = parameters n u in
        let inner = piece w ls m (Some (first_or_int ts)) e in
        used_covered n i t u (both_pieces (Two HCell) inner (bare_piece (Leaf HEnd))) (nodes_of w ls m (Some (first_or_int ts)) e) k
        (none_more m (nodes_of w ls m (Some (first_or_int ts)) e) inner.notes.takers
        (covered e ls m (Some (first_or_int ts)) ns false (locals_more ls n m (omega arith) h) (first_below m ts (parameters_of n u (symbol_scoped w sc (w.names qs x)))) (omega (arith, o)) p.0))
    covered (record_expression i fs es) ls n t ns due h k o f =
        let p = in_record w false ns due i fs es f in
        let u = record_use w fs in
        let m = n + use_vars u in
        let ts = parameters n u in
        let us = place_types (field_places w fs) ts in
        used_covered n i t u (piece_under (values_placed (field_places w fs) (length ts)) (pieces w ls m us es)) (all_nodes w ls m us es) k
        (all_covered es ls m us ns (locals_more ls n m (omega arith) h) (places_all (TyVarsBelow m) tt (field_places w fs) ts (parameters_of n u (symbol_scoped w sc (Some (record_named w.symbols w.names fs))))) (omega (arith, o)) p.2)
    covered (not_expression i e) ls n t ns due h k o f =
        let p = in_negation w false ns due i e f in
        plain_covered i n None (nodes_of w ls n None e) (piece w ls n None e).notes.takers tt (covered e ls n None ns true h tt o p.1)
    covered (connected_expression i a op b) ls n t ns due h k o f =
        let p = in_joined w false ns due i a b op f in
        let x = piece w ls n None a in
        let j = unknown_after n x in
        let y = piece w ls j None b in
        plain_covered i n None (nodes_of w ls n None a ++ nodes_of w ls j None b) (x.notes.takers ++ y.notes.takers) tt
        (parts_covered n x.notes y.notes (nodes_of w ls n None a) (nodes_of w ls j None b) (covered a ls n None ns true h tt o p.1) (covered b ls j None ns true (locals_more ls n j (omega arith) h) tt (omega (arith, o)) p.2))
    covered (equality_expression i same a b) ls n t ns due h k o f =
        let p = in_equated w false ns due i same a b f in
        let x = piece w ls (n + 1) (Some (unknown n)) a in
        let j = unknown_after (n + 1) x in
        let y = piece w ls j (Some (unknown n)) b in
        covered_node i n 1 None (nodes_of w ls (n + 1) (Some (unknown n)) a ++ nodes_of w ls j (Some (unknown n)) b) (x.notes.takers ++ y.notes.takers) tt
        (parts_covered (n + 1) x.notes y.notes (nodes_of w ls (n + 1) (Some (unknown n)) a) (nodes_of w ls j (Some (unknown n)) b) (covered a ls (n + 1) (Some (unknown n)) ns false (locals_more ls n (n + 1) (omega arith) h) (omega arith) (omega (arith, o)) p.1)
        (covered b ls j (Some (unknown n)) ns false (locals_more ls n j (omega arith) h) (omega arith) (omega (arith, o)) p.2))
    covered (if_expression i c a b) ls n t ns due h k o f =
        let p = in_choice w false ns due i c a b f in
        let x = piece w ls n None c in
        let m = unknown_after n x in
        let y = piece w ls m t a in
        let j = unknown_after m y in
        let z = piece w ls j t b in
        plain_covered i n t (nodes_of w ls n None c ++ (nodes_of w ls m t a ++ nodes_of w ls j t b)) (x.notes.takers ++ (y.notes.takers ++ z.notes.takers)) k
        (covered_both n (nodes_of w ls n None c) (nodes_of w ls m t a ++ nodes_of w ls j t b) x.notes.takers (y.notes.takers ++ z.notes.takers) (covered c ls n None ns true h tt o p.0)
        (parts_covered m y.notes z.notes (nodes_of w ls m t a) (nodes_of w ls j t b) (covered a ls m t ns due (locals_more ls n m (omega arith) h) (wanted_more t n m (omega arith) k) (omega (arith, o)) p.1)
        (covered b ls j t ns due (locals_more ls n j (omega arith) h) (wanted_more t n j (omega arith) k) (omega (arith, o)) p.2)))
    covered (let_expression i v a b) ls n t ns due h k o f =
        let p = in_binding w false ns due i v a b f in
        let x = piece w ls (n + 1) (Some (unknown n)) a in
        let j = unknown_after (n + 1) x in
        let inside = local v (unknown n) ∷ ls in
        let y = piece w inside j t b in
        covered_node i n 1 t (nodes_of w ls (n + 1) (Some (unknown n)) a ++ nodes_of w inside j t b) (x.notes.takers ++ y.notes.takers) k
        (parts_covered (n + 1) x.notes y.notes (nodes_of w ls (n + 1) (Some (unknown n)) a) (nodes_of w inside j t b) (covered a ls (n + 1) (Some (unknown n)) ns false (locals_more ls n (n + 1) (omega arith) h) (omega arith) (omega (arith, o)) p.0)
        (covered b inside j t (v ∷ ns) due (omega arith, locals_more ls n j (omega arith) h) (wanted_more t n j (omega arith) k) (omega (arith, o)) p.1))
    covered (match_expression i is_let e bs) ls n t ns due h k o f =
        let p = in_cases w ns due i is_let e bs f in
        let x = piece w ls (n + 1) (Some (unknown n)) e in
        let j = unknown_after (n + 1) x in
        let r = branches_arms w ls j (unknown n) t bs in
        covered_node i n 1 t (nodes_of w ls (n + 1) (Some (unknown n)) e ++ branches_nodes w ls j (unknown n) t bs) (x.notes.takers ++ r.notes.takers) k
        (parts_covered (n + 1) x.notes r.notes (nodes_of w ls (n + 1) (Some (unknown n)) e) (branches_nodes w ls j (unknown n) t bs) (covered e ls (n + 1) (Some (unknown n)) ns false (locals_more ls n (n + 1) (omega arith) h) (omega arith) (omega (arith, o)) p.0)
        (branches_covered bs ls j (unknown n) t ns due (locals_more ls n j (omega arith) h) (omega arith) (wanted_more t n j (omega arith) k) (omega (arith, o)) p.2))
    covered (quantified_expression i all bs gs b) ls n t ns due h k o f =
        let p = in_quantified w ns due i all bs gs b f in
        let within = reverse (bound_names bs) ++ ns in
        let vs = bound w n bs in
        let inside = reverse vs ++ ls in
        let j = n + binders_vars bs in
        let g = triggers_notes w inside j gs in
        let z = j + taken g in
        let y = piece w inside z None b in
        let lj = both_all (λ (v : LocalTree). TyVarsBelow j v.type) (reverse vs) ls (reversed j vs (bound_below w sc n j bs o (omega arith) p.0)) (locals_more ls n j (omega arith) h) in
        covered_node i n (binders_vars bs) None (triggers_nodes w inside j gs ++ nodes_of w inside z None b) (g.takers ++ y.notes.takers) tt
        (parts_covered j g y.notes (triggers_nodes w inside j gs) (nodes_of w inside z None b) (triggers_covered gs inside j within lj (omega (arith, o)) p.1)
        (covered b inside z None within true (locals_more inside j z (omega arith) lj) tt (omega (arith, o)) p.2))

    all_covered : (es : Expressions) (ls : List LocalTree) (n : ℕ) (ts : List Tree) (ns : List Word) → LocalsBelow n ls → AreBelow n ts → length w.vars ≤ n → faults w false ns es ≡ None → Covered n (all_nodes w ls n ts es) (pieces w ls n ts es).notes.takers
    all_covered no_expressions ls n ts ns h k o f = refl
    all_covered (more_expressions e es) ls n ts ns h k o f =
        let p = none_both (fault w false ns false e) (faults w false ns es) f in
        let x = piece w ls n (Some (first_or_int ts)) e in
        let j = unknown_after n x in
        parts_covered n x.notes (pieces w ls j (rest_of ts) es).notes (nodes_of w ls n (Some (first_or_int ts)) e) (all_nodes w ls j (rest_of ts) es) (covered e ls n (Some (first_or_int ts)) ns false h (first_below n ts k) o p.0)
        (all_covered es ls j (rest_of ts) ns (locals_more ls n j (omega arith) h) (list_more (rest_of ts) n j (omega arith) (rest_below n ts k)) (omega (arith, o)) p.1)

    triggers_covered : (gs : Expressions) (ls : List LocalTree) (n : ℕ) (ns : List Word) → LocalsBelow n ls → length w.vars ≤ n → triggers_fault w false ns gs ≡ None → Covered n (triggers_nodes w ls n gs) (triggers_notes w ls n gs).takers
    triggers_covered no_expressions ls n ns h o f = refl
    triggers_covered (more_expressions e es) ls n ns h o f =
        let p = none_both (fault w false ns (is_formula_trigger w ns e) e) (triggers_fault w false ns es) f in
        let b = is_formula_trigger w (names ls) e in
        let one = cond b (piece w ls n None e) (noted_before (noted [] (token e ∷ [])) (piece w ls (n + 1) (Some (unknown n)) e)) in
        let j = unknown_after n one in
        parts_covered n one.notes (triggers_notes w ls j es) (cond b (nodes_of w ls n None e) (typed_node (token e) None n 1 ∷ nodes_of w ls (n + 1) (Some (unknown n)) e)) (triggers_nodes w ls j es)
        (either_covered b n (token e) (piece w ls n None e) (piece w ls (n + 1) (Some (unknown n)) e) (nodes_of w ls n None e) (nodes_of w ls (n + 1) (Some (unknown n)) e) (covered e ls n None ns (is_formula_trigger w ns e) h tt o p.0)
        (covered e ls (n + 1) (Some (unknown n)) ns (is_formula_trigger w ns e) (locals_more ls n (n + 1) (omega arith) h) (omega arith) (omega (arith, o)) p.0))
        (triggers_covered es ls j ns (locals_more ls n j (omega arith) h) (omega (arith, o)) p.1)

    branches_covered : (bs : MatchBranches) (ls : List LocalTree) (n : ℕ) (subject : Tree) (t : Option Tree) (ns : List Word) (due : Bool) → LocalsBelow n ls → TyVarsBelow n subject → IfSome t (TyVarsBelow n) → length w.vars ≤ n → branches_fault w false ns due bs ≡ None
        → Covered n (branches_nodes w ls n subject t bs) (branches_arms w ls n subject t bs).notes.takers
    branches_covered no_branches ls n subject t ns due h s k o f = refl
    branches_covered (more_branches ps b bs) ls n subject t ns due h s k o f =
        let q = in_branches w ns due ps b bs f in
        let ms = alternatives_pieces w n subject ps in
        let a = alternatives_below w sc ps n subject s in
        let j = n + taken (all_notes ms) in
        let inside = reverse (first_variables ms) ++ ls in
        let y = piece w inside j t b in
        let z = unknown_after j y in
        let r = branches_arms w ls z subject t bs in
        let lj = both_all (λ (v : LocalTree). TyVarsBelow j v.type) (reverse (first_variables ms)) ls (reversed j (first_variables ms) a.variables) (locals_more ls n j (omega arith) h) in
        subst (Covered n (alternatives_nodes w n subject ps ++ (nodes_of w inside j t b ++ branches_nodes w ls z subject t bs))) (sym (append_assoc (all_notes ms).takers y.notes.takers r.notes.takers))
        (covered_both n (alternatives_nodes w n subject ps) (nodes_of w inside j t b ++ branches_nodes w ls z subject t bs) (all_notes ms).takers (y.notes.takers ++ r.notes.takers) (alternatives_covered ps n subject s)
        (parts_covered j y.notes r.notes (nodes_of w inside j t b) (branches_nodes w ls z subject t bs) (covered b inside j t (reverse (alternatives_names ps) ++ ns) due lj (wanted_more t n j (omega arith) k) (omega (arith, o)) q.0)
        (branches_covered bs ls z subject t ns due (locals_more ls n z (omega arith) h) (below_more subject n z (omega arith) s) (wanted_more t n z (omega arith) k) (omega (arith, o)) q.1)))

-- ---- from the first unknown that is open to the first node
among_last : (t : Tree) (us ts : List Tree) → Among t ts → Among t (us ++ ts)
among_last t [] ts h = h
among_last t (u ∷ us) ts h = inr (among_last t us ts h)

among_unknowns : (n k j : ℕ) → j < k → Among (Variable (n + j)) (type_variables n k)
among_unknowns n zero j l = absurd (omega arith)
among_unknowns n (suc k) zero l = let e : n ≡ n + 0 = omega arith in inl (ap Variable e)
among_unknowns n (suc k) (suc j) l =
    let e : n + 1 + j ≡ n + suc j = omega arith in
    inr (subst (λ (m : ℕ). Among (Variable m) (type_variables (n + 1) k)) e (among_unknowns (n + 1) k j (omega arith)))

got_replicate : (k x i : ℕ) (rest : List ℕ) (y : ℕ) → i < k → slice_get (replicate k x ++ rest) i ≡ Some y → x ≡ y
got_replicate zero x i rest y l h = absurd (omega arith)
got_replicate (suc k) x zero rest y l h = cc (h)
got_replicate (suc k) x (suc i) rest y l h = got_replicate k x i rest y (omega arith) h

got_after : (k x i : ℕ) (rest : List ℕ) → k ≤ i → slice_get (replicate k x ++ rest) i ≡ slice_get rest (i - k)
got_after zero x i rest l = let e : i ≡ i - 0 = omega arith in ap (slice_get rest) e
got_after (suc k) x zero rest l = absurd (omega arith)
got_after (suc k) x (suc i) rest l = let e : i - k ≡ suc i - suc k = omega arith in got_after k x i rest (omega arith) ∙ ap (slice_get rest) e

module _ (r : ℕ) (es : List (Tree × Tree)) where
  leaf_fixed : (n : ℕ) → ((j : ℕ) → r ≤ j → j < n → IsFixedUnknown r es j) → (f g : ℕ → Tree) → IsSolution r f es → IsSolution r g es → (h : Head) → leaf_below h n → leaf_assigned r f h ≡ leaf_assigned r g h
  leaf_fixed n fixed f g s t (HTyVar j) l = of (nat_lt j r) refl
    where
      of : (b : Bool) → nat_lt j r ≡ b → cond b (Variable j) (f j) ≡ cond b (Variable j) (g j)
      of true e = refl
      of false e = let above : r ≤ j = grind arith in fixed j above l f g s t
  leaf_fixed n fixed f g s t _ l = refl

  tree_fixed : (n : ℕ) → ((j : ℕ) → r ≤ j → j < n → IsFixedUnknown r es j) → (f g : ℕ → Tree) → IsSolution r f es → IsSolution r g es → (e : Tree) → TyVarsBelow n e → assign r f e ≡ assign r g e
  tree_fixed n fixed f g s t (Leaf h) l = leaf_fixed n fixed f g s t h l
  tree_fixed n fixed f g s t (One h a) l = ap (One h) (tree_fixed n fixed f g s t a l)
  tree_fixed n fixed f g s t (Two h a b) l = cc (tree_fixed n fixed f g s t a l.0, tree_fixed n fixed f g s t b l.1)
  tree_fixed n fixed f g s t (Three h a b c) l = cc (tree_fixed n fixed f g s t a l.0, tree_fixed n fixed f g s t b l.1, tree_fixed n fixed f g s t c l.2)

  types_fixed : (n : ℕ) → ((j : ℕ) → r ≤ j → j < n → IsFixedUnknown r es j) → (ts : List Tree) → AreBelow n ts → AllByRecursion (IsFixedType r es) ts
  types_fixed n fixed [] h = tt
  types_fixed n fixed (t ∷ ts) h = (λ f g s u. tree_fixed n fixed f g s u t h.0, types_fixed n fixed ts h.1)

  variables_below : (n k m : ℕ) → n + k ≤ m → AreBelow m (type_variables n k)
  variables_below n zero m l = tt
  variables_below n (suc k) m l = (omega arith, variables_below (n + 1) k m (omega arith))

  first_node : (n : ℕ) (xs : List TypedNode) (is : List ℕ) (i tok : ℕ) → r ≤ n → Covered n xs is → slice_get is i ≡ Some tok → IsLeftOpen r es (n + i) → ((j : ℕ) → r ≤ j → j < n + i → IsFixedUnknown r es j) → IsFirstOpenNode r es xs tok
  first_node n [] is i tok l h q open_ fixed = absurd (cc (q, ap (λ (zs : List ℕ). slice_get zs i) h))
  first_node n (x ∷ xs) is i tok l h q open_ fixed =
      of (nat_lt i h.0) refl (λ m.
      let o : n + i ≡ n + h.0 + (i - h.0) = omega (arith, m) in
      first_node (n + h.0) xs h.2 (i - h.0) tok (omega (arith, l)) h.6 (sym (got_after h.0 x.token i h.2 m) ∙ got) (subst (IsLeftOpen r es) o open_) (λ j a b. fixed j a (omega (arith, o, b))))
    where
      got : slice_get (replicate h.0 x.token ++ h.2) i ≡ Some tok
      got = ap (λ (zs : List ℕ). slice_get zs i) (sym h.5) ∙ q

      same : (a b : TypedNode) → Some a ≡ Some b → a ≡ b
      same a b e = cc (e)

      earlier : (p : ℕ) → AllByRecursion (IsFixedType r es) x.types → ((j : ℕ) (y : TypedNode) → j < p → slice_get xs j ≡ Some y → AllByRecursion (IsFixedType r es) y.types)
          → (j : ℕ) (y : TypedNode) → j < suc p → slice_get (x ∷ xs) j ≡ Some y → AllByRecursion (IsFixedType r es) y.types
      earlier p mine others zero y k g = subst (λ (z : TypedNode). AllByRecursion (IsFixedType r es) z.types) (same x y g) mine
      earlier p mine others (suc j) y k g = others j y (omega (arith, k)) g

      of : (b : Bool) → nat_lt i h.0 ≡ b → ((h.0 ≤ i) → IsFirstOpenNode r es xs tok) → IsFirstOpenNode r es (x ∷ xs) tok
      of true e go =
          let m : i < h.0 = grind arith in
          record {
            place = 0;
            node = x;
            there = refl;
            named = got_replicate h.0 x.token i h.2 tok m got;
            type = Variable (n + i);
            among = subst (Among (Variable (n + i))) (sym h.3) (among_last (Variable (n + i)) h.1 (type_variables n h.0) (among_unknowns n h.0 i m));
            first = open_.first;
            second = open_.second;
            first_solves = open_.first_solves;
            second_solves = open_.second_solves;
            differ = λ z. open_.differ (sym (assign-unknown r open_.first (n + i) (omega (arith, l))) ∙ z ∙ assign-unknown r open_.second (n + i) (omega (arith, l)));
            before = λ j y k g. absurd (omega (arith, k));
          }
      of false e go =
          let m : h.0 ≤ i = grind arith in
          let rest = go m in
          let mine = types_fixed (n + h.0) (λ j a b. fixed j a (omega (arith, m, b))) x.types
          (subst (AreBelow (n + h.0)) (sym h.3) (both_all (TyVarsBelow (n + h.0)) h.1 (type_variables n h.0) (list_more h.1 n (n + h.0) (omega arith) h.4) (variables_below n h.0 (n + h.0) (omega arith)))) in
          record {
            place = suc rest.place;
            node = rest.node;
            there = rest.there;
            named = rest.named;
            type = rest.type;
            among = rest.among;
            first = rest.first;
            second = rest.second;
            first_solves = rest.first_solves;
            second_solves = rest.second_solves;
            differ = rest.differ;
            before = earlier rest.place mine rest.before;
          }

pub first_open_node : (w : Where) (r : ℕ) (ls : List LocalTree) (t : Option Tree) (a : Expression) (tok : ℕ) → HasOwnTypes w r ls t → fault w false (names ls) (is_none t) a ≡ None → IsTypingFault r (piece w ls r t a).notes (Undetermined tok)
    → IsFirstOpenNode r (piece w ls r t a).notes.equations (nodes_of w ls r t a) tok
first_open_node w r ls t a tok o q c =
    first_node r (piece w ls r t a).notes.equations r (nodes_of w ls r t a) (piece w ls r t a).notes.takers c.0 tok (omega arith) (covered w o.scoped a ls r t (names ls) (is_none t) o.variables o.wanted o.count q) c.1 c.2
    (λ j l k. let e : r + (j - r) ≡ j = omega (arith, l) in subst (IsFixedUnknown r (piece w ls r t a).notes.equations) e (c.3 (j - r) (omega (arith, l, k))))

-- ---- of the bodies of a group
module _ (v : Vocabulary) (r : ℕ) where
  body_covered : (w : Where) (ls : List LocalTree) (n : ℕ) (t : Option Tree) (b : Option Expression) → r ≤ n → HasOwnTypes w r ls t → IfSome b (IsNamedExpression v w ls t) → Covered n (member_nodes w ls n t b) (body_piece w ls n t b).notes.takers
  body_covered w ls n t None l o q = refl
  body_covered w ls n t (Some a) l o q = covered w o.scoped a ls n t (names ls) (is_none t) (locals_more ls r n l o.variables) (wanted_more t r n l o.wanted) (omega (arith, l, o.count)) q.named

  bodies_covered : (w : Where) (ms : List GroupMember) (gs : List SignatureTree) (n : ℕ) → r ≤ n → AreNamedBodies v w r ms gs → Covered n (bodies_nodes w n ms gs) (pieces_notes (member_pieces w n ms gs)).takers
  bodies_covered w [] gs n l h = refl
  bodies_covered w (m ∷ ms) [] n l h = refl
  bodies_covered w (m ∷ ms) (g ∷ gs) n l h =
      let p = member_piece w n m g in
      let j = unknown_after n p in
      parts_covered n p.notes (pieces_notes (member_pieces w j ms gs)) (member_nodes (with_vars w g.vars) (body_locals m g) n g.result m.body) (bodies_nodes w j ms gs)
      (body_covered (with_vars w g.vars) (body_locals m g) n g.result m.body l h.0 h.1) (bodies_covered w ms gs j (omega (arith, l)) h.2)

pub first_group_node : (v : Vocabulary) (w : Where) (ms : List GroupMember) (gs : List SignatureTree) (tok : ℕ) → AreNamedBodies v w (most_variables gs) ms gs → IsTypingFault (most_variables gs) (pieces_notes (bodies_pieces w ms gs)) (Undetermined tok)
    → IsFirstOpenNode (most_variables gs) (pieces_notes (bodies_pieces w ms gs)).equations (bodies_nodes w (most_variables gs) ms gs) tok
first_group_node v w ms gs tok h c =
    let r = most_variables gs in
    let ns = pieces_notes (bodies_pieces w ms gs) in
    first_node r ns.equations r (bodies_nodes w r ms gs) ns.takers c.0 tok (omega arith) (bodies_covered v r w ms gs r (omega arith) h) c.1 c.2
    (λ j l k. let e : r + (j - r) ≡ j = omega (arith, l) in subst (IsFixedUnknown r ns.equations) e (c.3 (j - r) (omega (arith, l, k))))
