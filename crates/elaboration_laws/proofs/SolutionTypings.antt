-- Each solution of the type equations of an expression gives a typing, whose tree is the piece there.
use Rattle.std.proofs.Common.{◌≡◌, ◌≢◌, ℕ, ◌+◌, ◌≤◌, zero, suc, Bool, true, false, not, cond, ◌==◌, List, [], ◌∷◌, ◌++◌, map, reverse, replicate, length, Option, Some, None, IfSome, IsSomeAnd, option_map, refl, sym, ap, subst, ◌∙◌, arith, append-nil, length-append}
use Rattle.std.specs.Option.{is_none, is_some}
use Rattle.std.specs.List.{AllByRecursion}
use Rattle.std.proofs.lemmas.Bool.{eqb-true}
use Rattle.std.proofs.lemmas.List.{map-append}
use Rattle.std.proofs.Math.ListN.{length-map}
use Rattle.std.proofs.lemmas.List.Elements.{recursion_from_All}
use Rattle.elab_groups.specs.trees.Tree.{Tree, Leaf, One, Two, Three, HEnd, HCell, HJoin, HLet, HCase, HPatAlias, HPatCon}
use Rattle.elab_groups.specs.trees.Binding.{inst_types}
use Rattle.elab_groups.specs.trees.Facts.{TyVarsBelow}
use Rattle.elab_groups.specs.tasks.Task.{SymbolTree, symbol_or}
use Rattle.elab_groups.specs.tasks.declared.signature.SymbolKind.{SymbolKind}
use Rattle.elab_groups.specs.tasks.declared.signature.SymbolKind.TheVariants.{Constructor, Predicate, Kind}
use Rattle.elab_groups.specs.tasks.Vocabulary.{Vocabulary, is_constructor_kind}
use Rattle.elab_groups.specs.tasks.Typing.{MakesTerms}
use Rattle.elab_groups.specs.tasks.Equations.{type_variables}
use Rattle.elab_groups.specs.open_types.unify_types.Assigned.{assign}
use Rattle.elab_groups.specs.open_types.unify_types.Pairs.{IsKind, SolvesAll}
use Rattle.elab_groups.proofs.open_types.unify_types.Assigning.{assign-unknown}
use Rattle.elab_groups.specs.surface.Lexeme.{Word}
use Rattle.elab_groups.specs.name_resolution.Abstract.{FieldName, TypeExpression, Pattern, Patterns, wildcard_pattern, variable_pattern, constructor_pattern, tuple_pattern, alias_pattern, record_pattern, no_patterns, more_patterns, Alternatives, no_alternatives, more_alternatives, BoundNames, Expression, Expressions, MatchBranches, applied_expression, infix_expression, integer_expression, true_expression, false_expression, tuple_expression, cast_expression, field_expression, record_expression, not_expression, connected_expression, equality_expression, if_expression, let_expression, match_expression, quantified_expression, no_expressions, more_expressions, no_branches, more_branches, count_patterns, count_expressions}
use Rattle.elab_groups.specs.name_resolution.declared.NamingFault.TheVariants.{WrongKind, Arity, Duplicate}
use Rattle.elab_groups.specs.name_resolution.Records.{record_named}
use Rattle.elab_groups.specs.name_resolution.Where.{Where, place_of}
use Rattle.elab_groups.proofs.name_resolution.Fielded.{is_fielded, fielded_kind}
use Rattle.elab_groups.proofs.name_resolution.SameNames.{SameNames, fault_same}
use Rattle.elab_groups.specs.name_resolution.Faults.{first_of, fault_if, is_predicate, differ, symbol_fault, local_fault, name_fault, field_fault, constructor_fault, record_fault, pattern_fault, patterns_fault, later_fault, same_names, pattern_names, alternatives_fault, alternatives_names, bound_names, type_fault, binders_fault, is_formula_trigger, token, fault, faults, triggers_fault, branches_fault}
use Rattle.elab_groups.specs.open_types.Patterns.{noted, taken, LocalTree, local, at_unknowns, result_or_int, first_or_int, rest_of, NumberedEntry, entry_of, Matched, part_types, place_types, tree_of_matched, fields_tree, fields_piece, part_pieces, constructed_by, local_type, variable_equations, pattern_piece, patterns_piece, later_pieces, alternatives_pieces, all_notes, first_variables, arms}
use Rattle.elab_groups.specs.open_types.Pieces.{type_at, NotedTree, unknown_after, unknown, wanting, noted_before, both_pieces, bare_piece, piece, pieces, triggers_notes, branches_arms, Use, Local', Symbol', found_local, use_or, use_of_name, field_use, tuple_use, record_use, field_places, values_placed, piece_under, used_piece, use_vars, parameters, equality, binder_locals, binder_vars, binders_vars, bound, untyped, names}
use Rattle.elab_groups.specs.open_types.Scoped.{IsScoped, IsScopedEntry}
use Rattle.elab_groups.proofs.open_types.Below.{symbol_scoped, both_all}
use Rattle.elab_groups.proofs.open_types.Noting.{count_replicate, replicate_both}
use Rattle.elab_groups.proofs.open_types.Walking.{none_both, not_if, must_be, in_cast, in_negation, in_joined, in_equated, in_choice, in_binding, in_tuple, in_record}
use Rattle.elab_groups.proofs.open_types.Arguments.{found_name}
use Rattle.elab_groups.proofs.open_types.Branching.{in_cases, first_names}
use Rattle.elab_groups.proofs.open_types.Quantified.{in_quantified, names_bound}
use Rattle.elaboration_laws.proofs.Instances.{cells_assigned}
use Rattle.elaboration_laws.specs.Signature.{with_entries, IsWellFormed, IsSymbol, IsTuple, HasTuple, PatternTuples, PatternsTuples, AlternativesTuples, HasTuples, HaveTuples, BranchesTuples}
use Rattle.elaboration_laws.specs.Typings.{IsDueResult, choices_from, Choice, choices_at, Both, Choosing, SymbolUsed, IsUseTyping, IsSingle, pair_cells, IsPair, ValuesPlaced, PatternTree, pattern_tree, beside, Constructed, PartsPlaced, IsPatternTyping, ArePatternTypings, AreFieldTypings, AgreeWith, AreLaterTypings, AreAlternativeTypings, first_bound, IsBinderTyping, AreBinderTypings, IsTriggerTyping, if_tree, case_tree, both_trees, IsTyping, AreTypings, AreTriggerTypings, AreBranchTypings, ElaboratesTo, HasOwnTypes}
use Rattle.elab_groups.specs.Groups.{typed_locals}
use Rattle.elaboration_laws.proofs.TypingSolutions.{at_local, at_locals, at_use, use_same, UseScoped, use_scoped, names_at, inside_at, type_same, one_at, parameters_at, types_tree, whole_at, count_variables, AreMatchedAt, first_at, arms_at, typed_at, form_at, quantify_at, equality_at, locals_own, wanted_own}
use Rattle.elaboration_laws.proofs.Sound.{field_applied, record_symbol}
use Rattle.elaboration_laws.proofs.Placing.{fields_long, places_long, types_at, fields_all, pieces_cells, values_at}
use Rattle.elaboration_laws.proofs.Expressions.{names_inside, names_within}
use Rattle.elaboration_laws.proofs.Patterns.{constructor_is as is_constructor}
use Rattle.elaboration_laws.proofs.Signed.{is_predicate_kind}

pub parts_solved : (r : ℕ) (f : ℕ → Tree) (es fs : List (Tree × Tree)) → SolvesAll r f (es ++ fs) → SolvesAll r f es × SolvesAll r f fs
parts_solved r f [] fs h = (tt, h)
parts_solved r f (e ∷ es) fs h = let k = parts_solved r f es fs h.1 in ((h.0, k.0), k.1)

choices_both : (f : ℕ → Tree) (n : ℕ) (xs ys : List ℕ) → choices_from f n (xs ++ ys) ≡ choices_from f n xs ++ choices_from f (n + length xs) ys
choices_both f n [] ys = let e : n ≡ n + 0 = omega arith in ap (λ (k : ℕ). choices_from f k ys) e
choices_both f n (x ∷ xs) ys =
    let e : n + 1 + length xs ≡ n + length (x ∷ xs) = omega arith in
    ap (λ (cs : List Choice). record { token = x; type = f n } ∷ cs) (choices_both f (n + 1) xs ys ∙ ap (λ (k : ℕ). choices_from f (n + 1) xs ++ choices_from f k ys) e)

-- two parts, the second after the first
pub both_typed : {A B C : Type 0} {P : A → List Choice → Type 0} {Q : B → List Choice → Type 0} (make : A → B → C) (f : ℕ → Tree) (n : ℕ) (xs ys : List ℕ) (a : A) (b : B) (it : C) → it ≡ make a b
    → P a (choices_from f n xs) → Q b (choices_from f (n + length xs) ys) → Both P Q make it (choices_from f n (xs ++ ys))
both_typed make f n xs ys a b it e x y = record { first = a; second = b; first_chosen = choices_from f n xs; second_chosen = choices_from f (n + length xs) ys; first_is = x; second_is = y; made = e; chosen = choices_both f n xs ys }

makes_terms : (k : SymbolKind) → is_predicate k ≡ false → k ≢ Kind → MakesTerms k
makes_terms Kind h g = absurd (g refl)
makes_terms Predicate h g = absurd (cc (h))
makes_terms _ h g = tt

abbrev HasResult : SymbolTree → Type 0
HasResult e = IsSomeAnd e.result (λ (t : Tree). Unit {0})

module _ (base : Vocabulary) (w : Where) (good : IsWellFormed base w) (sc : IsScoped w) (r : ℕ) (own : length w.vars ≤ r) (f : ℕ → Tree) (kinds : (j : ℕ) → IsKind (f j)) where
  abbrev at : Tree → Tree
  at e = assign r f e

  abbrev ats : List LocalTree → List LocalTree
  ats ls = (at_locals w sc r own f kinds) ls

  abbrev from_ : ℕ → List ℕ → List Choice
  from_ n xs = choices_from f n xs

  choosing_typed : {A : Type 0} (n i : ℕ) (Rest : Tree → A → List Choice → Type 0) (it : A) (xs : List ℕ) → r ≤ n → Rest (at (unknown n)) it (from_ (n + 1) xs) → Choosing i Rest it (from_ n (i ∷ xs))
  choosing_typed n i Rest it xs l h = record { type = f n; more = from_ (n + 1) xs; rest = subst (λ (x : Tree). Rest x it (from_ (n + 1) xs)) (assign-unknown r f n l) h; chosen = refl }

  choices_use : (n k i : ℕ) → r ≤ n → from_ n (replicate k i) ≡ choices_at i (map at (type_variables n k))
  choices_use n zero i l = refl
  choices_use n (suc k) i l =
      ap (λ (t : Tree). record { token = i; type = t } ∷ from_ (n + 1) (replicate k i)) (sym (assign-unknown r f n l))
      ∙ ap (λ (cs : List Choice). record { token = i; type = at (unknown n) } ∷ cs) (choices_use (n + 1) k i (omega arith))

  -- ---- what is used
  abbrev IsDue : Bool → SymbolTree → Type 0
  IsDue true e = e.kind ≡ Predicate
  IsDue false e = (is_predicate e.kind ≡ false) × HasResult e

  abbrev CanUse : Bool → ℕ → Use → Type 0
  CanUse due n (Local' p ty) = (due ≡ false) × (n ≡ 0)
  CanUse due n (Symbol' e) = IsDue due e.symbol × (length e.symbol.args ≡ n)

  is_due : (due : Bool) (e : SymbolTree) → differ due (is_predicate e.kind) ≡ false → (is_predicate e.kind ≡ false → HasResult e) → IsDue due e
  is_due true e h g = is_predicate_kind e.kind (of (is_predicate e.kind) h)
    where
      of : (b : Bool) → not b ≡ false → b ≡ true
      of true q = refl
      of false q = absurd (cc (q))
  is_due false e h g = (h, g h)

  symbol_result : (k : ℕ) → IsSymbol (with_entries base w.symbols) k → is_predicate (symbol_or w.symbols k).kind ≡ false → HasResult (symbol_or w.symbols k)
  symbol_result k s h = s.result (makes_terms (symbol_or w.symbols k).kind h s.signature.kind)

  symbol_can : (due : Bool) (i n : ℕ) (m : Option ℕ) → IfSome m (IsSymbol (with_entries base w.symbols)) → symbol_fault w due i n m ≡ None → CanUse due n (Symbol' (entry_of w.symbols m))
  symbol_can due i n None s h = absurd (cc (h))
  symbol_can due i n (Some k) s h =
      let e = symbol_or w.symbols k in
      let p = none_both (fault_if (differ due (is_predicate e.kind)) (WrongKind i)) (fault_if (not (length e.args == n)) (Arity i)) h in
      (is_due due e (not_if (differ due (is_predicate e.kind)) (WrongKind i) p.0) (symbol_result k s), eqb-true (length e.args) n (must_be (length e.args == n) (Arity i) p.1))

  named_can : (ls : List LocalTree) (due : Bool) (i n : ℕ) (qs : List Word) (x : Word) → name_fault w (names ls) due i qs x n ≡ None → CanUse due n (use_of_name w ls qs x)
  named_can ls due i n qs x q = of (found_local qs x ls) (ap (λ (b : Bool). cond b (local_fault due i n) (symbol_fault w due i n (w.names qs x))) (sym (found_name qs x ls)) ∙ q)
    where
      of : (o : Option (ℕ × Tree)) → cond (is_some o) (local_fault due i n) (symbol_fault w due i n (w.names qs x)) ≡ None → CanUse due n (use_or o (Symbol' (entry_of w.symbols (w.names qs x))))
      of None z = symbol_can due i n (w.names qs x) (good.names qs x) z
      of (Some p) z =
          let l = none_both (fault_if due (WrongKind i)) (fault_if (not (n == 0)) (Arity i)) z in
          (not_if due (WrongKind i) l.0, eqb-true n 0 (must_be (n == 0) (Arity i) l.1))

  field_can : (due : Bool) (i : ℕ) (m : Option ℕ) → IfSome m (IsSymbol (with_entries base w.symbols)) → field_fault w due i m ≡ None → CanUse due 1 (Symbol' (entry_of w.symbols m))
  field_can due i m s h = symbol_can due i 1 m s (field_applied w due i m h)

  constructor_term : (e : SymbolTree) → e.kind ≡ Constructor → is_predicate e.kind ≡ false
  constructor_term e h = ap is_predicate h

  tuple_can : (n : ℕ) → HasTuple base w n → CanUse false n (tuple_use w n)
  tuple_can n h = of (w.tuples n) h
    where
      of : (m : Option ℕ) → IsSomeAnd m (IsTuple (with_entries base w.symbols) n) → CanUse false n (Symbol' (entry_of w.symbols m))
      of None x = absurd x
      of (Some k) x = let e = constructor_term (symbol_or w.symbols k) x.kind in ((e, symbol_result k x.symbol e), x.args)

  -- the constructor of a record
  record_due : (whole : Bool) (i n : ℕ) (fs : List FieldName) → record_fault w whole i n fs ≡ None → ((symbol_or w.symbols (record_named w.symbols w.names fs)).kind ≡ Constructor) × HasResult (symbol_or w.symbols (record_named w.symbols w.names fs))
  record_due whole i n fs h =
      let c = record_named w.symbols w.names fs in
      let k = fielded_kind w whole n fs (is_fielded w whole i n fs h) in
      let q = is_constructor (symbol_or w.symbols c).kind k in
      (q, symbol_result c (record_symbol base w good r fs k) (constructor_term (symbol_or w.symbols c) q))

  result_typed : (n : ℕ) (e : SymbolTree) (t : Option Tree) → IsScopedEntry e → IsDue (is_none t) e → SolvesAll r f (wanting (at_unknowns n e (result_or_int e.result)) t) → IsDueResult e (map at (type_variables n e.vars)) (option_map at t)
  result_typed n e None s d h = d
  result_typed n e (Some t) s d h = (d.0, of e.result s.result d.1 h.0)
    where
      of : (x : Option Tree) → IfSome x (TyVarsBelow e.vars) → IsSomeAnd x (λ (t : Tree). Unit {0}) → at (at_unknowns n e (result_or_int x)) ≡ at t → option_map (λ (y : Tree). inst_types y (map at (type_variables n e.vars))) x ≡ Some (at t)
      of None k g q = absurd g
      of (Some x) k g q = ap (λ (z : Tree). Some z) (sym ((one_at w sc r own f kinds) n e (map at (type_variables n e.vars)) refl x k) ∙ q)

  symbol_typed : (n i c : ℕ) (t : Option Tree) (u : NumberedEntry) (Args : List Tree → Tree → List Choice → Type 0) (p : NotedTree) → r ≤ n → IsScopedEntry u.symbol → CanUse (is_none t) c (Symbol' u) → SolvesAll r f (used_piece n t i (Symbol' u) p).notes.equations
      → (length (parameters n (Symbol' u)) ≡ c → SolvesAll r f p.notes.equations → Args (map at (parameters n (Symbol' u))) (at p.tree) (from_ (n + u.symbol.vars) p.notes.takers))
      → SymbolUsed u i Args (option_map at t) (at (used_piece n t i (Symbol' u) p).tree) (from_ n (used_piece n t i (Symbol' u) p).notes.takers)
  symbol_typed n i c t u Args p l s d q args =
      let e = u.symbol in
      let parts = parts_solved r f (wanting (at_unknowns n e (result_or_int e.result)) t) p.notes.equations q in
      let below = recursion_from_All (TyVarsBelow e.vars) e.args s.args in
      record {
        types = map at (type_variables n e.vars);
        args = at p.tree;
        more = from_ (n + e.vars) p.notes.takers;
        count = length-map (type_variables n e.vars) at ∙ count_variables n e.vars;
        args_are = subst (λ (ts : List Tree). Args ts (at p.tree) (from_ (n + e.vars) p.notes.takers)) (sym ((parameters_at w sc r own f kinds) n e (map at (type_variables n e.vars)) refl e.args below)) (args (length-map e.args (at_unknowns n e) ∙ d.1) parts.1);
        result = result_typed n e t s d.0 parts.0;
        made = (types_tree w sc r own f kinds) u.number (type_variables n e.vars) (map at (type_variables n e.vars)) t p.tree (at p.tree) refl refl;
        chosen = choices_both f n (replicate e.vars i) p.notes.takers ∙ cc (choices_use n e.vars i l, count_replicate e.vars i);
      }

  used_typed : (n i c : ℕ) (t : Option Tree) (u : Use) (Args : List Tree → Tree → List Choice → Type 0) (p : NotedTree) → r ≤ n → (UseScoped w sc r own f kinds) u → CanUse (is_none t) c u → SolvesAll r f (used_piece n t i u p).notes.equations → (c ≡ 0 → Args [] (Leaf HEnd) [])
      → (length (parameters n u) ≡ c → SolvesAll r f p.notes.equations → Args (map at (parameters n u)) (at p.tree) (from_ (n + use_vars u) p.notes.takers))
      → IsUseTyping ((at_use w sc r own f kinds) u) i Args (option_map at t) (at (used_piece n t i u p).tree) (from_ n (used_piece n t i u p).notes.takers)
  used_typed n i c None (Local' k ty) Args p l s d q none args = absurd (cc (d.0))
  used_typed n i c (Some t) (Local' k ty) Args p l s d q none args = (none d.1, ap (λ (z : Tree). Some z) (sym q.0), refl, refl)
  used_typed n i c t (Symbol' u) Args p l s d q none args = symbol_typed n i c t u Args p l s d q args

  -- ---- patterns
  abbrev at_matched : Matched → PatternTree
  at_matched m = pattern_tree (at m.tree) (ats m.variables)

  abbrev CanBuild : ℕ → SymbolTree → Type 0
  CanBuild n e = (e.kind ≡ Constructor) × HasResult e × (length e.args ≡ n)

  constructor_can : (i n : ℕ) (m : Option ℕ) → IfSome m (IsSymbol (with_entries base w.symbols)) → constructor_fault w i n m ≡ None → CanBuild n (entry_of w.symbols m).symbol
  constructor_can i n None s h = absurd (cc (h))
  constructor_can i n (Some k) s h =
      let e = symbol_or w.symbols k in
      let p = none_both (fault_if (not (is_constructor_kind e.kind)) (WrongKind i)) (fault_if (not (length e.args == n)) (Arity i)) h in
      let c = is_constructor e.kind (must_be (is_constructor_kind e.kind) (WrongKind i) p.0) in
      (c, symbol_result k s (constructor_term e c), eqb-true (length e.args) n (must_be (length e.args == n) (Arity i) p.1))

  tuple_builds : (n : ℕ) → HasTuple base w n → CanBuild n (entry_of w.symbols (w.tuples n)).symbol
  tuple_builds n h = of (w.tuples n) h
    where
      of : (m : Option ℕ) → IsSomeAnd m (IsTuple (with_entries base w.symbols) n) → CanBuild n (entry_of w.symbols m).symbol
      of None x = absurd x
      of (Some k) x = (x.kind, symbol_result k x.symbol (constructor_term (symbol_or w.symbols k) x.kind), x.args)

  built_typed : (n i c : ℕ) (t : Tree) (u : NumberedEntry) (Parts : List Tree → PatternTree → List Choice → Type 0) (m : Matched) → r ≤ n → IsScopedEntry u.symbol → CanBuild c u.symbol → SolvesAll r f (constructed_by n i t u m).notes.equations
      → (length (part_types n u) ≡ c → SolvesAll r f m.notes.equations → Parts (map at (part_types n u)) (at_matched m) (from_ (n + u.symbol.vars) m.notes.takers))
      → Constructed u i Parts (at t) (at_matched (constructed_by n i t u m)) (from_ n (constructed_by n i t u m).notes.takers)
  built_typed n i c t u Parts m l s d q parts =
      let e = u.symbol in
      let below = recursion_from_All (TyVarsBelow e.vars) e.args s.args in
      record {
        types = map at (type_variables n e.vars);
        parts = at_matched m;
        more = from_ (n + e.vars) m.notes.takers;
        count = length-map (type_variables n e.vars) at ∙ count_variables n e.vars;
        parts_are = subst (λ (ts : List Tree). Parts ts (at_matched m) (from_ (n + e.vars) m.notes.takers)) (sym ((parameters_at w sc r own f kinds) n e (map at (type_variables n e.vars)) refl e.args below)) (parts (length-map e.args (at_unknowns n e) ∙ d.2) q.1);
        kind = d.0;
        result = (result_typed n e (Some t) s (constructor_term e d.0, d.1) (q.0, tt)).1;
        made = ap (λ (z : Tree). pattern_tree (Three (HPatCon u.number) z (at m.tree) (at t)) (ats m.variables)) (cells_assigned r f (type_variables n e.vars));
        chosen = choices_both f n (replicate e.vars i) m.notes.takers ∙ cc (choices_use n e.vars i l, count_replicate e.vars i);
      }

  mutual
    pattern_typed : (p : Pattern) (first : Option (List LocalTree)) (n : ℕ) (t : Tree) (seen : List Word) → r ≤ n → PatternTuples base w p → pattern_fault w seen p ≡ None → SolvesAll r f (pattern_piece w first n t p).notes.equations
        → IsPatternTyping w (at t) p (at_matched (pattern_piece w first n t p)) (from_ n (pattern_piece w first n t p).notes.takers)
    pattern_typed (wildcard_pattern i) first n t seen l u q s = (refl, refl)
    pattern_typed (variable_pattern i x) first n t seen l u q s = (refl, refl)
    pattern_typed (constructor_pattern i qs x ps) first n t seen l u q s =
        let h = none_both (constructor_fault w i (count_patterns ps) (w.names qs x)) (patterns_fault w seen ps) q in
        let c = entry_of w.symbols (w.names qs x) in
        built_typed n i (count_patterns ps) t c (λ ts y z. ArePatternTypings w ts ps y z) (patterns_piece w first (n + c.symbol.vars) (part_types n c) ps) l (symbol_scoped w sc (w.names qs x)) (constructor_can i (count_patterns ps) (w.names qs x) (good.names qs x) h.0) s
        (λ k z. patterns_typed ps first (n + c.symbol.vars) (part_types n c) seen (omega arith) k u h.1 z)
    pattern_typed (tuple_pattern i ps) first n t seen l u q s =
        let c = entry_of w.symbols (w.tuples (count_patterns ps)) in
        built_typed n i (count_patterns ps) t c (λ ts y z. ArePatternTypings w ts ps y z) (patterns_piece w first (n + c.symbol.vars) (part_types n c) ps) l (symbol_scoped w sc (w.tuples (count_patterns ps))) (tuple_builds (count_patterns ps) u.0) s
        (λ k z. patterns_typed ps first (n + c.symbol.vars) (part_types n c) seen (omega arith) k u.1 q z)
    pattern_typed (alias_pattern a i x) first n t seen l u q s =
        let h = none_both (pattern_fault w seen a) (fault_if (is_some (place_of x (seen ++ pattern_names a))) (Duplicate i)) q in
        let inner = pattern_piece w first n t a in
        let z = parts_solved r f inner.notes.equations (variable_equations first x t) s in (
          at_matched inner,
          subst (λ (xs : List ℕ). IsPatternTyping w (at t) a (at_matched inner) (from_ n xs)) (sym (append-nil inner.notes.takers)) (pattern_typed a first n t seen l u h.0 z.0),
          ap (pattern_tree (One HPatAlias (at inner.tree))) (map-append (at_local w sc r own f kinds) inner.variables (local x t ∷ [])),
        )
    pattern_typed (record_pattern i fs ps) first n t seen l u q s =
        let h = none_both (record_fault w false i (count_patterns ps) fs) (patterns_fault w seen ps) q in
        let k = record_named w.symbols w.names fs in
        let c = entry_of w.symbols (Some k) in
        let d = record_due false i (count_patterns ps) fs h.0 in
        let places = field_places w fs in
        let ts = part_types n c in
        let m = n + c.symbol.vars in
        let ms = part_pieces w first m (place_types places ts) ps in
        let count : length (place_types places ts) ≡ count_patterns ps = places_long places ts ∙ fields_long w false (count_patterns ps) fs (is_fielded w false i (count_patterns ps) fs h.0) in
        built_typed n i (length c.symbol.args) t c (PartsPlaced places (λ us ys z. AreFieldTypings w us ps ys z)) (fields_piece places ts ms) l (symbol_scoped w sc (Some k)) (d.0, d.1, refl) s
        (λ e z. record {
          parts = map at_matched ms;
          parts_are = subst (λ (us : List Tree). AreFieldTypings w us ps (map at_matched ms) (from_ m (all_notes ms).takers)) (sym (types_at r f places ts)) (fields_typed ps first m (place_types places ts) seen (omega arith) count u h.1 z);
          made = (whole_at w sc r own f kinds) places ts ms;
        })

    patterns_typed : (ps : Patterns) (first : Option (List LocalTree)) (n : ℕ) (ts : List Tree) (seen : List Word) → r ≤ n → length ts ≡ count_patterns ps → PatternsTuples base w ps → patterns_fault w seen ps ≡ None → SolvesAll r f (patterns_piece w first n ts ps).notes.equations
        → ArePatternTypings w (map at ts) ps (at_matched (patterns_piece w first n ts ps)) (from_ n (patterns_piece w first n ts ps).notes.takers)
    patterns_typed no_patterns first n [] seen l k u q s = (refl, refl)
    patterns_typed no_patterns first n (t ∷ ts) seen l k u q s = absurd (omega (arith, k))
    patterns_typed (more_patterns p ps) first n [] seen l k u q s = absurd (omega (arith, k))
    patterns_typed (more_patterns p ps) first n (t ∷ ts) seen l k u q s =
        let h = none_both (pattern_fault w seen p) (patterns_fault w (seen ++ pattern_names p) ps) q in
        let one = pattern_piece w first n t p in
        let rest = patterns_piece w first (n + taken one.notes) ts ps in
        let z = parts_solved r f one.notes.equations rest.notes.equations s in
        both_typed {P = λ y c. IsPatternTyping w (at t) p y c} {Q = λ y c. ArePatternTypings w (map at ts) ps y c} beside f n one.notes.takers rest.notes.takers (at_matched one) (at_matched rest) (at_matched (patterns_piece w first n (t ∷ ts) (more_patterns p ps)))
        (ap (pattern_tree (Two HCell (at one.tree) (at rest.tree))) (map-append (at_local w sc r own f kinds) one.variables rest.variables))
        (pattern_typed p first n t seen l u.0 h.0 z.0) (patterns_typed ps first (n + taken one.notes) ts (seen ++ pattern_names p) (omega arith) (omega (arith, k)) u.1 h.1 z.1)

    fields_typed : (ps : Patterns) (first : Option (List LocalTree)) (n : ℕ) (ts : List Tree) (seen : List Word) → r ≤ n → length ts ≡ count_patterns ps → PatternsTuples base w ps → patterns_fault w seen ps ≡ None → SolvesAll r f (all_notes (part_pieces w first n ts ps)).equations
        → AreFieldTypings w (map at ts) ps (map at_matched (part_pieces w first n ts ps)) (from_ n (all_notes (part_pieces w first n ts ps)).takers)
    fields_typed no_patterns first n [] seen l k u q s = (refl, refl)
    fields_typed no_patterns first n (t ∷ ts) seen l k u q s = absurd (omega (arith, k))
    fields_typed (more_patterns p ps) first n [] seen l k u q s = absurd (omega (arith, k))
    fields_typed (more_patterns p ps) first n (t ∷ ts) seen l k u q s =
        let h = none_both (pattern_fault w seen p) (patterns_fault w (seen ++ pattern_names p) ps) q in
        let one = pattern_piece w first n t p in
        let rest = part_pieces w first (n + taken one.notes) ts ps in
        let z = parts_solved r f one.notes.equations (all_notes rest).equations s in
        both_typed {P = λ y c. IsPatternTyping w (at t) p y c} {Q = λ ys c. AreFieldTypings w (map at ts) ps ys c} (λ y ys. y ∷ ys) f n one.notes.takers (all_notes rest).takers (at_matched one) (map at_matched rest) (at_matched one ∷ map at_matched rest) refl
        (pattern_typed p first n t seen l u.0 h.0 z.0) (fields_typed ps first (n + taken one.notes) ts (seen ++ pattern_names p) (omega arith) (omega (arith, k)) u.1 h.1 z.1)

  agree_both : (first us vs : List LocalTree) → AgreeWith first us → AgreeWith first vs → AgreeWith first (us ++ vs)
  agree_both first us vs h k = both_all (λ (v : LocalTree). local_type v.name first ≡ v.type) us vs h k

  mutual
    pattern_agrees : (p : Pattern) (first : List LocalTree) (n : ℕ) (t : Tree) → SolvesAll r f (pattern_piece w (Some first) n t p).notes.equations → AgreeWith (ats first) (ats (pattern_piece w (Some first) n t p).variables)
    pattern_agrees (wildcard_pattern i) first n t s = tt
    pattern_agrees (variable_pattern i x) first n t s = ((type_same w sc r own f kinds) x first ∙ s.0, tt)
    pattern_agrees (constructor_pattern i qs x ps) first n t s = let c = entry_of w.symbols (w.names qs x) in patterns_agree ps first (n + c.symbol.vars) (part_types n c) s.1
    pattern_agrees (tuple_pattern i ps) first n t s = let c = entry_of w.symbols (w.tuples (count_patterns ps)) in patterns_agree ps first (n + c.symbol.vars) (part_types n c) s.1
    pattern_agrees (alias_pattern a i x) first n t s =
        let inner = pattern_piece w (Some first) n t a in
        let z = parts_solved r f inner.notes.equations (variable_equations (Some first) x t) s in
        subst (AgreeWith (ats first)) (sym (map-append (at_local w sc r own f kinds) inner.variables (local x t ∷ []))) (agree_both (ats first) (ats inner.variables) (local x (at t) ∷ []) (pattern_agrees a first n t z.0) ((type_same w sc r own f kinds) x first ∙ z.1.0, tt))
    pattern_agrees (record_pattern i fs ps) first n t s =
        let c = entry_of w.symbols (Some (record_named w.symbols w.names fs)) in
        let places = field_places w fs in
        let ts = part_types n c in
        let ms = part_pieces w (Some first) (n + c.symbol.vars) (place_types places ts) ps in
        subst (λ (p : PatternTree). AgreeWith (ats first) p.variables) (sym ((whole_at w sc r own f kinds) places ts ms))
        (fields_all (λ (v : LocalTree). local_type v.name (ats first) ≡ v.type) places (map at ts) (map at_matched ms) (fields_agree ps first (n + c.symbol.vars) (place_types places ts) s.1))

    patterns_agree : (ps : Patterns) (first : List LocalTree) (n : ℕ) (ts : List Tree) → SolvesAll r f (patterns_piece w (Some first) n ts ps).notes.equations → AgreeWith (ats first) (ats (patterns_piece w (Some first) n ts ps).variables)
    patterns_agree no_patterns first n ts s = tt
    patterns_agree (more_patterns p ps) first n ts s =
        let one = pattern_piece w (Some first) n (first_or_int ts) p in
        let rest = patterns_piece w (Some first) (n + taken one.notes) (rest_of ts) ps in
        let z = parts_solved r f one.notes.equations rest.notes.equations s in
        subst (AgreeWith (ats first)) (sym (map-append (at_local w sc r own f kinds) one.variables rest.variables)) (agree_both (ats first) (ats one.variables) (ats rest.variables) (pattern_agrees p first n (first_or_int ts) z.0) (patterns_agree ps first (n + taken one.notes) (rest_of ts) z.1))

    fields_agree : (ps : Patterns) (first : List LocalTree) (n : ℕ) (ts : List Tree) → SolvesAll r f (all_notes (part_pieces w (Some first) n ts ps)).equations → AllByRecursion (λ (p : PatternTree). AgreeWith (ats first) p.variables) (map at_matched (part_pieces w (Some first) n ts ps))
    fields_agree no_patterns first n ts s = tt
    fields_agree (more_patterns p ps) first n ts s =
        let one = pattern_piece w (Some first) n (first_or_int ts) p in
        let z = parts_solved r f one.notes.equations (all_notes (part_pieces w (Some first) (n + taken one.notes) (rest_of ts) ps)).equations s in
        (pattern_agrees p first n (first_or_int ts) z.0, fields_agree ps first (n + taken one.notes) (rest_of ts) z.1)

  -- ---- alternatives
  later_typed : (as' : Alternatives) (first : List LocalTree) (ns : List Word) (n : ℕ) (t : Tree) → r ≤ n → AlternativesTuples base w as' → later_fault w ns as' ≡ None → SolvesAll r f (all_notes (later_pieces w first n t as')).equations
      → AreLaterTypings w (ats first) (at t) as' (map at_matched (later_pieces w first n t as')) (from_ n (all_notes (later_pieces w first n t as')).takers)
  later_typed no_alternatives first ns n t l u q s = (refl, refl)
  later_typed (more_alternatives i a as') first ns n t l u q s =
      let h = none_both (fault_if (not (same_names ns (pattern_names a))) (WrongKind i)) (first_of (pattern_fault w [] a) (later_fault w ns as')) q in
      let k = none_both (pattern_fault w [] a) (later_fault w ns as') h.1 in
      let one = pattern_piece w (Some first) n t a in
      let rest = later_pieces w first (n + taken one.notes) t as' in
      let z = parts_solved r f one.notes.equations (all_notes rest).equations s in
      both_typed {P = λ y c. IsPatternTyping w (at t) a y c × AgreeWith (ats first) y.variables} {Q = λ ys c. AreLaterTypings w (ats first) (at t) as' ys c} (λ y ys. y ∷ ys) f n one.notes.takers (all_notes rest).takers (at_matched one) (map at_matched rest) (at_matched one ∷ map at_matched rest) refl
      (pattern_typed a (Some first) n t [] l u.0 k.0 z.0, pattern_agrees a first n t z.0) (later_typed as' first ns (n + taken one.notes) t (omega arith) u.1 k.1 z.1)

  alternatives_typed : (as' : Alternatives) (n : ℕ) (t : Tree) → r ≤ n → AlternativesTuples base w as' → alternatives_fault w as' ≡ None → SolvesAll r f (all_notes (alternatives_pieces w n t as')).equations
      → AreAlternativeTypings w (at t) as' (map at_matched (alternatives_pieces w n t as')) (from_ n (all_notes (alternatives_pieces w n t as')).takers)
  alternatives_typed no_alternatives n t l u q s = (refl, refl)
  alternatives_typed (more_alternatives i a as') n t l u q s =
      let h = none_both (pattern_fault w [] a) (later_fault w (pattern_names a) as') q in
      let one = pattern_piece w None n t a in
      let rest = later_pieces w one.variables (n + taken one.notes) t as' in
      let z = parts_solved r f one.notes.equations (all_notes rest).equations s in
      record {
        first = at_matched one;
        later = map at_matched rest;
        first_chosen = from_ n one.notes.takers;
        later_chosen = from_ (n + taken one.notes) (all_notes rest).takers;
        first_is = pattern_typed a None n t [] l u.0 h.0 z.0;
        later_are = later_typed as' one.variables (pattern_names a) (n + taken one.notes) t (omega arith) u.1 h.1 z.1;
        made = refl;
        chosen = choices_both f n one.notes.takers (all_notes rest).takers;
      }

  matched_self : (ms : List Matched) → (AreMatchedAt w sc r own f kinds) ms (map at_matched ms)
  matched_self [] = tt
  matched_self (m ∷ ms) = (refl, refl, matched_self ms)

  -- ---- binders
  untyped_types : (n : ℕ) (xs : List Word) → r ≤ n → ats (untyped n xs) ≡ typed_locals xs (map at (type_variables n (length xs)))
  untyped_types n [] l = refl
  untyped_types n (x ∷ xs) l =
      let e : suc n ≡ n + 1 = omega arith in
      ap (λ (vs : List LocalTree). local x (at (unknown n)) ∷ vs) (untyped_types (suc n) xs (omega arith) ∙ ap (λ (k : ℕ). typed_locals xs (map at (type_variables k (length xs)))) e)

  binder_typed : (n i : ℕ) (xs : List Word) (g : Option TypeExpression) → r ≤ n → type_fault w false g ≡ None → IsBinderTyping w i xs g (ats (binder_locals w n xs g)) (from_ n (replicate (binder_vars xs g) i))
  binder_typed n i xs None l q = (map at (type_variables n (length xs)), length-map (type_variables n (length xs)) at ∙ count_variables n (length xs), untyped_types n xs l, choices_use n (length xs) i l)
  binder_typed n i xs (Some g) l q = ((typed_at w sc r own f kinds) (type_at w g) xs ((form_at w sc r own f kinds) g q), refl)

  binders_typed : (n i : ℕ) (bs : List BoundNames) → r ≤ n → binders_fault w false bs ≡ None → AreBinderTypings w i bs (ats (bound w n bs)) (from_ n (replicate (binders_vars bs) i))
  binders_typed n i [] l q = (refl, refl)
  binders_typed n i (b ∷ bs) l q =
      let h = none_both (type_fault w false b.of_type) (binders_fault w false bs) q in
      let k = binder_vars b.names b.of_type in
      let vs = binder_locals w n b.names b.of_type in
      let us = bound w (n + k) bs in
      let x = binders_typed (n + k) i bs (omega arith) h.1 in
      let both = both_typed {P = λ y c. IsBinderTyping w i b.names b.of_type y c} {Q = λ y c. AreBinderTypings w i bs y c} (λ y z. y ++ z) f n (replicate k i) (replicate (binders_vars bs) i) (ats vs) (ats us) (ats (vs ++ us)) (map-append (at_local w sc r own f kinds) vs us)
      (binder_typed n i b.names b.of_type l h.0) (subst (λ (j : ℕ). AreBinderTypings w i bs (ats us) (from_ (n + j) (replicate (binders_vars bs) i))) (sym (count_replicate k i)) x) in
      subst (λ (is : List ℕ). Both (λ y c. IsBinderTyping w i b.names b.of_type y c) (λ y c. AreBinderTypings w i bs y c) (λ y z. y ++ z) (ats (vs ++ us)) (from_ n is)) (sym (replicate_both k (binders_vars bs) i)) both

  single_typed : (n : ℕ) (ts : List Tree) (p : NotedTree) (Is : Option Tree → Tree → List Choice → Type 0) → length ts ≡ 1 → Is (Some (at (first_or_int ts))) (at p.tree) (from_ n p.notes.takers)
      → IsSingle Is (map at ts) (at (both_pieces (Two HCell) p (bare_piece (Leaf HEnd))).tree) (from_ n (p.notes.takers ++ []))
  single_typed n [] p Is e x = absurd (omega (arith, e))
  single_typed n (t ∷ u ∷ ts) p Is e x = absurd (omega (arith, e))
  single_typed n (t ∷ []) p Is e x = (at p.tree, subst (λ (is : List ℕ). Is (Some (at t)) (at p.tree) (from_ n is)) (sym (append-nil p.notes.takers)) x, refl)

  two_typed : (n : ℕ) (ts : List Tree) (p q : NotedTree) (Left Right : Option Tree → Tree → List Choice → Type 0) → length ts ≡ 2 → Left (Some (at (first_or_int ts))) (at p.tree) (from_ n p.notes.takers)
      → Right (Some (at (first_or_int (rest_of ts)))) (at q.tree) (from_ (unknown_after n p) q.notes.takers)
      → IsPair Left Right (map at ts) (at (both_pieces (Two HCell) p (both_pieces (Two HCell) q (bare_piece (Leaf HEnd)))).tree) (from_ n (p.notes.takers ++ (q.notes.takers ++ [])))
  two_typed n [] p q Left Right e x y = absurd (omega (arith, e))
  two_typed n (t ∷ []) p q Left Right e x y = absurd (omega (arith, e))
  two_typed n (t ∷ u ∷ v ∷ ts) p q Left Right e x y = absurd (omega (arith, e))
  two_typed n (t ∷ u ∷ []) p q Left Right e x y =
      subst (λ (is : List ℕ). Both (Left (Some (at t))) (Right (Some (at u))) pair_cells (pair_cells (at p.tree) (at q.tree)) (from_ n (p.notes.takers ++ is))) (sym (append-nil q.notes.takers))
      (both_typed {P = Left (Some (at t))} {Q = Right (Some (at u))} pair_cells f n p.notes.takers q.notes.takers (at p.tree) (at q.tree) (pair_cells (at p.tree) (at q.tree)) refl x y)

  either_typed : (b : Bool) (n i : ℕ) (Is : Option Tree → Tree → List Choice → Type 0) (p q : NotedTree) → r ≤ n → SolvesAll r f (cond b p (noted_before (noted [] (i ∷ [])) q)).notes.equations
      → (b ≡ true → SolvesAll r f p.notes.equations → Is None (at p.tree) (from_ n p.notes.takers)) → (b ≡ false → SolvesAll r f q.notes.equations → Is (Some (at (unknown n))) (at q.tree) (from_ (n + 1) q.notes.takers))
      → IsTriggerTyping b i Is (from_ n (cond b p (noted_before (noted [] (i ∷ [])) q)).notes.takers)
  either_typed true n i Is p q l s g h = (at p.tree, g refl s)
  either_typed false n i Is p q l s g h = (at q.tree, choosing_typed n i (λ u x more. Is (Some u) x more) (at q.tree) q.notes.takers l (h refl s))

  formula : (t : Option Tree) → is_none t ≡ true → option_map at t ≡ None
  formula None h = refl
  formula (Some t) h = absurd (cc (h))

  -- ---- terms and formulas
  no_more : (ls : List LocalTree) (es : Expressions) → count_expressions es ≡ 0 → AreTypings w (ats ls) [] es (Leaf HEnd) []
  no_more ls no_expressions e = (refl, refl)
  no_more ls (more_expressions a es) e = absurd (omega (arith, e))

  mutual
    pub typed : (a : Expression) (ls : List LocalTree) (n : ℕ) (t : Option Tree) → r ≤ n → HasTuples base w a → fault w false (names ls) (is_none t) a ≡ None → SolvesAll r f (piece w ls n t a).notes.equations
        → IsTyping w (ats ls) (option_map at t) a (at (piece w ls n t a).tree) (from_ n (piece w ls n t a).notes.takers)
    typed (applied_expression i qs x es) ls n t l u q s =
        let h = none_both (name_fault w (names ls) (is_none t) i qs x (count_expressions es)) (faults w false (names ls) es) q in
        let c = use_of_name w ls qs x in
        let p = pieces w ls (n + use_vars c) (parameters n c) es in
        subst (λ (z : Use). IsUseTyping z i (λ ts y d. AreTypings w (ats ls) ts es y d) (option_map at t) (at (used_piece n t i c p).tree) (from_ n (used_piece n t i c p).notes.takers)) (sym ((use_same w sc r own f kinds) ls qs x))
        (used_typed n i (count_expressions es) t c (λ ts y d. AreTypings w (ats ls) ts es y d) p l ((use_scoped w sc r own f kinds) ls qs x) (named_can ls (is_none t) i (count_expressions es) qs x h.0) s (no_more ls es)
        (λ k z. all_typed es ls (n + use_vars c) (parameters n c) (omega arith) k u h.1 z))
    typed (infix_expression i x a b) ls n t l u q s =
        let h = none_both (fault w false (names ls) false a) (first_of (name_fault w (names ls) (is_none t) i [] x 2) (fault w false (names ls) false b)) q in
        let j = none_both (name_fault w (names ls) (is_none t) i [] x 2) (fault w false (names ls) false b) h.1 in
        let c = use_of_name w ls [] x in
        let ts = parameters n c in
        let m = n + use_vars c in
        let left = piece w ls m (Some (first_or_int ts)) a in
        let right = piece w ls (unknown_after m left) (Some (first_or_int (rest_of ts))) b in
        let p = both_pieces (Two HCell) left (both_pieces (Two HCell) right (bare_piece (Leaf HEnd))) in
        subst (λ (z : Use). IsUseTyping z i (IsPair (λ v y d. IsTyping w (ats ls) v a y d) (λ v y d. IsTyping w (ats ls) v b y d)) (option_map at t) (at (used_piece n t i c p).tree) (from_ n (used_piece n t i c p).notes.takers)) (sym ((use_same w sc r own f kinds) ls [] x))
        (used_typed n i 2 t c (IsPair (λ v y d. IsTyping w (ats ls) v a y d) (λ v y d. IsTyping w (ats ls) v b y d)) p l ((use_scoped w sc r own f kinds) ls [] x) (named_can ls (is_none t) i 2 [] x j.0) s (λ e. absurd (omega (arith, e)))
        (λ k z. let o = parts_solved r f left.notes.equations (right.notes.equations ++ []) z in
        two_typed m ts left right (λ v y d. IsTyping w (ats ls) v a y d) (λ v y d. IsTyping w (ats ls) v b y d) k (typed a ls m (Some (first_or_int ts)) (omega arith) u.0 h.0 o.0)
        (typed b ls (unknown_after m left) (Some (first_or_int (rest_of ts))) (omega arith) u.1 j.1 (parts_solved r f right.notes.equations [] o.1).0)))
    typed (integer_expression i z) ls n None l u q s = absurd (cc (q))
    typed (integer_expression i z) ls n (Some t) l u q s = (ap (λ (y : Tree). Some y) (sym s.0), refl, refl)
    typed (true_expression i) ls n None l u q s = (refl, refl, refl)
    typed (true_expression i) ls n (Some t) l u q s = absurd (cc (q))
    typed (false_expression i) ls n None l u q s = (refl, refl, refl)
    typed (false_expression i) ls n (Some t) l u q s = absurd (cc (q))
    typed (tuple_expression i es) ls n None l u q s = absurd (cc (q))
    typed (tuple_expression i es) ls n (Some t) l u q s =
        let h = in_tuple w false (names ls) false i es q in
        let c = tuple_use w (count_expressions es) in
        used_typed n i (count_expressions es) (Some t) c (λ ts y d. AreTypings w (ats ls) ts es y d) (pieces w ls (n + use_vars c) (parameters n c) es) l (symbol_scoped w sc (w.tuples (count_expressions es))) (tuple_can (count_expressions es) u.0) s (no_more ls es)
        (λ k z. all_typed es ls (n + use_vars c) (parameters n c) (omega arith) k u.1 h.1 z)
    typed (cast_expression i a g) ls n None l u q s = absurd (cc (q))
    typed (cast_expression i a g) ls n (Some t) l u q s =
        let h = in_cast w false (names ls) false i a g q in
        let o = (form_at w sc r own f kinds) g h.2 in
        let y = typed a ls n (Some (type_at w g)) l u.0 h.1 s.1 in
        (ap (λ (z : Tree). Some z) (sym s.0 ∙ o), subst (λ (z : Tree). IsTyping w (ats ls) (Some z) a (at (piece w ls n (Some (type_at w g)) a).tree) (from_ n (piece w ls n (Some (type_at w g)) a).notes.takers)) o y)
    typed (field_expression i a k qs x) ls n t l u q s =
        let h = none_both (fault w false (names ls) false a) (field_fault w (is_none t) k (w.names qs x)) q in
        let c = field_use w qs x in
        let ts = parameters n c in
        let m = n + use_vars c in
        let inner = piece w ls m (Some (first_or_int ts)) a in
        used_typed n i 1 t c (IsSingle (λ v y d. IsTyping w (ats ls) v a y d)) (both_pieces (Two HCell) inner (bare_piece (Leaf HEnd))) l (symbol_scoped w sc (w.names qs x)) (field_can (is_none t) k (w.names qs x) (good.names qs x) h.1) s (λ e. absurd (omega (arith, e)))
        (λ j z. single_typed m ts inner (λ v y d. IsTyping w (ats ls) v a y d) j (typed a ls m (Some (first_or_int ts)) (omega arith) u h.0 (parts_solved r f inner.notes.equations [] z).0))
    typed (record_expression i fs es) ls n None l u q s = absurd (cc (q))
    typed (record_expression i fs es) ls n (Some t) l u q s =
        let h = in_record w false (names ls) false i fs es q in
        let k = record_named w.symbols w.names fs in
        let c = entry_of w.symbols (Some k) in
        let d = record_due true i (count_expressions es) fs h.1 in
        let places = field_places w fs in
        let ts = parameters n (record_use w fs) in
        let m = n + c.symbol.vars in
        let all = pieces w ls m (place_types places ts) es in
        let count : length (place_types places ts) ≡ count_expressions es = places_long places ts ∙ fields_long w true (count_expressions es) fs (is_fielded w true i (count_expressions es) fs h.1) in
        symbol_typed n i (length c.symbol.args) (Some t) c (ValuesPlaced places (λ us y z. AreTypings w (ats ls) us es y z)) (piece_under (values_placed places (length ts)) all) l (symbol_scoped w sc (Some k)) ((constructor_term c.symbol d.0, d.1), refl) s
        (λ j z. record {
          values = at all.tree;
          values_are = subst (λ (us : List Tree). AreTypings w (ats ls) us es (at all.tree) (from_ m all.notes.takers)) (sym (types_at r f places ts)) (all_typed es ls m (place_types places ts) (omega arith) count u h.2 z);
          made = values_at r f places (length ts) all.tree (pieces_cells w ls m (place_types places ts) es) ∙ ap (λ (i : ℕ). values_placed places i (at all.tree)) (sym (length-map ts at));
        })
    typed (not_expression i a) ls n (Some t) l u q s = absurd (cc (q))
    typed (not_expression i a) ls n None l u q s = let h = in_negation w false (names ls) true i a q in (refl, (at (piece w ls n None a).tree, typed a ls n None l u h.1 s, refl))
    typed (connected_expression i a op b) ls n t l u q s =
        let h = in_joined w false (names ls) (is_none t) i a b op q in
        let left = piece w ls n None a in
        let right = piece w ls (unknown_after n left) None b in
        let z = parts_solved r f left.notes.equations right.notes.equations s in (
          formula t h.0,
          both_typed {P = λ y c. IsTyping w (ats ls) None a y c} {Q = λ y c. IsTyping w (ats ls) None b y c} (Two (HJoin op)) f n left.notes.takers right.notes.takers (at left.tree) (at right.tree) (Two (HJoin op) (at left.tree) (at right.tree)) refl
              (typed a ls n None l u.0 h.1 z.0) (typed b ls (unknown_after n left) None (omega arith) u.1 h.2 z.1),
        )
    typed (equality_expression i same a b) ls n t l u q s =
        let h = in_equated w false (names ls) (is_none t) i same a b q in
        let left = piece w ls (n + 1) (Some (unknown n)) a in
        let right = piece w ls (unknown_after (n + 1) left) (Some (unknown n)) b in
        let z = parts_solved r f left.notes.equations right.notes.equations s in (
          formula t h.0,
          choosing_typed n i (λ v it more. Both (λ y c. IsTyping w (ats ls) (Some v) a y c) (λ y c. IsTyping w (ats ls) (Some v) b y c) (equality same) it more) (at (equality same left.tree right.tree)) (left.notes.takers ++ right.notes.takers) l
              (both_typed {P = λ y c. IsTyping w (ats ls) (Some (at (unknown n))) a y c} {Q = λ y c. IsTyping w (ats ls) (Some (at (unknown n))) b y c} (equality same) f (n + 1) left.notes.takers right.notes.takers (at left.tree) (at right.tree) (at (equality same left.tree right.tree)) ((equality_at w sc r own f kinds) same left.tree right.tree)
              (typed a ls (n + 1) (Some (unknown n)) (omega arith) u.0 h.1 z.0) (typed b ls (unknown_after (n + 1) left) (Some (unknown n)) (omega arith) u.1 h.2 z.1)),
        )
    typed (if_expression i c a b) ls n t l u q s =
        let h = in_choice w false (names ls) (is_none t) i c a b q in
        let test = piece w ls n None c in
        let m = unknown_after n test in
        let left = piece w ls m t a in
        let o = unknown_after m left in
        let right = piece w ls o t b in
        let z = parts_solved r f test.notes.equations (left.notes.equations ++ right.notes.equations) s in
        let z' = parts_solved r f left.notes.equations right.notes.equations z.1 in
        both_typed {P = λ y d. IsTyping w (ats ls) None c y d} {Q = λ p d. Both (λ y e. IsTyping w (ats ls) (option_map at t) a y e) (λ y e. IsTyping w (ats ls) (option_map at t) b y e) both_trees p d} if_tree f n test.notes.takers (left.notes.takers ++ right.notes.takers)
        (at test.tree) (at left.tree, at right.tree) (at (piece w ls n t (if_expression i c a b)).tree) refl (typed c ls n None l u.0 h.0 z.0)
        (both_typed {P = λ y e. IsTyping w (ats ls) (option_map at t) a y e} {Q = λ y e. IsTyping w (ats ls) (option_map at t) b y e} both_trees f m left.notes.takers right.notes.takers (at left.tree) (at right.tree) (at left.tree, at right.tree) refl
        (typed a ls m t (omega arith) u.1 h.1 z'.0) (typed b ls o t (omega arith) u.2 h.2 z'.1))
    typed (let_expression i v a b) ls n t l u q s =
        let h = in_binding w false (names ls) (is_none t) i v a b q in
        let left = piece w ls (n + 1) (Some (unknown n)) a in
        let inside = local v (unknown n) ∷ ls in
        let right = piece w inside (unknown_after (n + 1) left) t b in
        let z = parts_solved r f left.notes.equations right.notes.equations s in
        choosing_typed n i (λ k it more. Both (λ y c. IsTyping w (ats ls) (Some k) a y c) (λ y c. IsTyping w (local v k ∷ ats ls) (option_map at t) b y c) (Two HLet) it more) (Two HLet (at left.tree) (at right.tree)) (left.notes.takers ++ right.notes.takers) l
        (both_typed {P = λ y c. IsTyping w (ats ls) (Some (at (unknown n))) a y c} {Q = λ y c. IsTyping w (local v (at (unknown n)) ∷ ats ls) (option_map at t) b y c} (Two HLet) f (n + 1) left.notes.takers right.notes.takers (at left.tree) (at right.tree) (Two HLet (at left.tree) (at right.tree)) refl
        (typed a ls (n + 1) (Some (unknown n)) (omega arith) u.0 h.0 z.0) (typed b inside (unknown_after (n + 1) left) t (omega arith) u.1 h.1 z.1))
    typed (match_expression i is_let a bs) ls n t l u q s =
        let h = in_cases w (names ls) (is_none t) i is_let a bs q in
        let subject = piece w ls (n + 1) (Some (unknown n)) a in
        let o = unknown_after (n + 1) subject in
        let rest = branches_arms w ls o (unknown n) t bs in
        let z = parts_solved r f subject.notes.equations rest.notes.equations s in
        choosing_typed n i (λ k it more. Both (λ y c. IsTyping w (ats ls) (Some k) a y c) (λ ys c. AreBranchTypings w (ats ls) k (option_map at t) bs ys c) case_tree it more) (at (piece w ls n t (match_expression i is_let a bs)).tree) (subject.notes.takers ++ rest.notes.takers) l
        (both_typed {P = λ y c. IsTyping w (ats ls) (Some (at (unknown n))) a y c} {Q = λ ys c. AreBranchTypings w (ats ls) (at (unknown n)) (option_map at t) bs ys c} case_tree f (n + 1) subject.notes.takers rest.notes.takers (at subject.tree) (map at rest.trees) (at (piece w ls n t (match_expression i is_let a bs)).tree)
        (ap (Two HCase (at subject.tree)) (cells_assigned r f rest.trees)) (typed a ls (n + 1) (Some (unknown n)) (omega arith) u.0 h.0 z.0) (branches_typed bs ls o (unknown n) t (omega arith) u.1 h.2 z.1))
    typed (quantified_expression i all bs gs b) ls n (Some t) l u q s = absurd (cc (q))
    typed (quantified_expression i all bs gs b) ls n None l u q s =
        let h = in_quantified w (names ls) true i all bs gs b q in
        let vs = bound w n bs in
        let inside = reverse vs ++ ls in
        let o = n + binders_vars bs in
        let g = triggers_notes w inside o gs in
        let body = piece w inside (o + taken g) None b in
        let z = parts_solved r f g.equations body.notes.equations s in
        let ns : reverse (bound_names bs) ++ names ls ≡ names inside = sym (names_inside vs ls (bound_names bs) (names_bound w n bs)) in
        let same : ats inside ≡ reverse (ats vs) ++ ats ls = (inside_at w sc r own f kinds) vs ls in
        let x = triggers_typed gs inside o (omega arith) u.1 (subst (λ (ws : List Word). triggers_fault w false ws gs ≡ None) ns h.1) z.0 in
        let y = typed b inside (o + taken g) None (omega arith) u.2 (subst (λ (ws : List Word). fault w false ws true b ≡ None) ns h.2) z.1 in
        let k = count_replicate (binders_vars bs) i in (
          refl,
          record {
            variables = ats vs;
            body = at body.tree;
            bound_chosen = from_ n (replicate (binders_vars bs) i);
            triggers_chosen = from_ o g.takers;
            body_chosen = from_ (o + taken g) body.notes.takers;
            bound = binders_typed n i bs l h.0;
            triggers = subst (λ (us : List LocalTree). AreTriggerTypings w us gs (from_ o g.takers)) same x;
            body_is = subst (λ (us : List LocalTree). IsTyping w us None b (at body.tree) (from_ (o + taken g) body.notes.takers)) same y;
            made = (quantify_at w sc r own f kinds) all vs body.tree;
            chosen = choices_both f n (replicate (binders_vars bs) i) (g.takers ++ body.notes.takers) ∙ ap (λ (cs : List Choice). from_ n (replicate (binders_vars bs) i) ++ cs) (ap (λ (j : ℕ). from_ (n + j) (g.takers ++ body.notes.takers)) k ∙ choices_both f o g.takers body.notes.takers);
          },
        )

    all_typed : (es : Expressions) (ls : List LocalTree) (n : ℕ) (ts : List Tree) → r ≤ n → length ts ≡ count_expressions es → HaveTuples base w es → faults w false (names ls) es ≡ None → SolvesAll r f (pieces w ls n ts es).notes.equations
        → AreTypings w (ats ls) (map at ts) es (at (pieces w ls n ts es).tree) (from_ n (pieces w ls n ts es).notes.takers)
    all_typed no_expressions ls n [] l k u q s = (refl, refl)
    all_typed no_expressions ls n (t ∷ ts) l k u q s = absurd (omega (arith, k))
    all_typed (more_expressions a es) ls n [] l k u q s = absurd (omega (arith, k))
    all_typed (more_expressions a es) ls n (t ∷ ts) l k u q s =
        let h = none_both (fault w false (names ls) false a) (faults w false (names ls) es) q in
        let one = piece w ls n (Some t) a in
        let rest = pieces w ls (unknown_after n one) ts es in
        let z = parts_solved r f one.notes.equations rest.notes.equations s in
        both_typed {P = λ y c. IsTyping w (ats ls) (Some (at t)) a y c} {Q = λ y c. AreTypings w (ats ls) (map at ts) es y c} (Two HCell) f n one.notes.takers rest.notes.takers (at one.tree) (at rest.tree) (Two HCell (at one.tree) (at rest.tree)) refl
        (typed a ls n (Some t) l u.0 h.0 z.0) (all_typed es ls (unknown_after n one) ts (omega arith) (omega (arith, k)) u.1 h.1 z.1)

    triggers_typed : (gs : Expressions) (ls : List LocalTree) (n : ℕ) → r ≤ n → HaveTuples base w gs → triggers_fault w false (names ls) gs ≡ None → SolvesAll r f (triggers_notes w ls n gs).equations → AreTriggerTypings w (ats ls) gs (from_ n (triggers_notes w ls n gs).takers)
    triggers_typed no_expressions ls n l u q s = refl
    triggers_typed (more_expressions a gs) ls n l u q s =
        let b = is_formula_trigger w (names ls) a in
        let h = none_both (fault w false (names ls) (is_formula_trigger w (names ls) a) a) (triggers_fault w false (names ls) gs) q in
        let one = cond b (piece w ls n None a) (noted_before (noted [] (token a ∷ [])) (piece w ls (n + 1) (Some (unknown n)) a)) in
        let rest = triggers_notes w ls (unknown_after n one) gs in
        let z = parts_solved r f one.notes.equations rest.equations s in
        let x = either_typed b n (token a) (λ v y c. IsTyping w (ats ls) v a y c) (piece w ls n None a) (piece w ls (n + 1) (Some (unknown n)) a) l z.0
        (λ e g. typed a ls n None l u.0 (subst (λ (d : Bool). fault w false (names ls) d a ≡ None) e h.0) g)
        (λ e g. typed a ls (n + 1) (Some (unknown n)) (omega arith) u.0 (subst (λ (d : Bool). fault w false (names ls) d a ≡ None) e h.0) g) in (
          from_ n one.notes.takers,
          from_ (unknown_after n one) rest.takers,
          subst (λ (ws : List Word). IsTriggerTyping (is_formula_trigger w ws a) (token a) (λ v y c. IsTyping w (ats ls) v a y c) (from_ n one.notes.takers)) (sym ((names_at w sc r own f kinds) ls)) x,
          triggers_typed gs ls (unknown_after n one) (omega arith) u.1 h.1 z.1,
          choices_both f n one.notes.takers rest.takers,
        )

    branches_typed : (bs : MatchBranches) (ls : List LocalTree) (n : ℕ) (v : Tree) (t : Option Tree) → r ≤ n → BranchesTuples base w bs → branches_fault w false (names ls) (is_none t) bs ≡ None → SolvesAll r f (branches_arms w ls n v t bs).notes.equations
        → AreBranchTypings w (ats ls) (at v) (option_map at t) bs (map at (branches_arms w ls n v t bs).trees) (from_ n (branches_arms w ls n v t bs).notes.takers)
    branches_typed no_branches ls n v t l u q s = (refl, refl)
    branches_typed (more_branches ps b bs) ls n v t l u q s =
        let within = reverse (alternatives_names ps) ++ names ls in
        let h = none_both (alternatives_fault w ps) (first_of (fault w false within (is_none t) b) (branches_fault w false (names ls) (is_none t) bs)) q in
        let k = none_both (fault w false within (is_none t) b) (branches_fault w false (names ls) (is_none t) bs) h.1 in
        let ms = alternatives_pieces w n v ps in
        let o = n + taken (all_notes ms) in
        let vs = first_variables ms in
        let inside = reverse vs ++ ls in
        let body = piece w inside o t b in
        let m = unknown_after o body in
        let rest = branches_arms w ls m v t bs in
        let z = parts_solved r f ((all_notes ms).equations ++ body.notes.equations) rest.notes.equations s in
        let z' = parts_solved r f (all_notes ms).equations body.notes.equations z.0 in
        let ns : SameNames (names inside) within = names_within vs ls (alternatives_names ps) (first_names w n v ps h.0) in
        let same : ats inside ≡ reverse (first_bound (map at_matched ms)) ++ ats ls = (inside_at w sc r own f kinds) vs ls ∙ ap (λ (us : List LocalTree). reverse us ++ ats ls) ((first_at w sc r own f kinds) ms (map at_matched ms) (matched_self ms)) in
        let y = typed b inside o t (omega arith) u.1 (fault_same w b false (names inside) within (is_none t) ns ∙ k.0) z'.1 in
        let x = branches_typed bs ls m v t (omega arith) u.2 k.1 z.1 in
        let tk = (all_notes ms).takers ++ body.notes.takers in
        let e : n + length ((all_notes ms).takers ++ body.notes.takers) ≡ m = omega (arith, length-append (all_notes ms).takers body.notes.takers) in
        record {
          patterns = map at_matched ms;
          body = at body.tree;
          rest = map at rest.trees;
          patterns_chosen = from_ n (all_notes ms).takers;
          body_chosen = from_ o body.notes.takers;
          rest_chosen = from_ m rest.notes.takers;
          patterns_are = alternatives_typed ps n v l u.0 h.0 z'.0;
          body_is = subst (λ (us : List LocalTree). IsTyping w us (option_map at t) b (at body.tree) (from_ o body.notes.takers)) same y;
          rest_are = x;
          made = map-append at (arms body.tree ms) rest.trees ∙ ap (λ (as' : List Tree). as' ++ map at rest.trees) ((arms_at w sc r own f kinds) ms (map at_matched ms) body.tree (at body.tree) (matched_self ms) refl);
          chosen = choices_both f n ((all_notes ms).takers ++ body.notes.takers) rest.notes.takers ∙ cc (choices_both f n (all_notes ms).takers body.notes.takers, ap (λ (j : ℕ). from_ j rest.notes.takers) e);
        }

  -- ---- the law
  kinds_from : (n : ℕ) (xs : List ℕ) → AllByRecursion (λ (c : Choice). IsKind c.type) (from_ n xs)
  kinds_from n [] = tt
  kinds_from n (x ∷ xs) = (kinds n, kinds_from (n + 1) xs)

  pub has_typing : (ls : List LocalTree) (t : Option Tree) (a : Expression) → HasOwnTypes w r ls t → HasTuples base w a → fault w false (names ls) (is_none t) a ≡ None → SolvesAll r f (piece w ls r t a).notes.equations
      → ElaboratesTo w ls t a (at (piece w ls r t a).tree) (from_ r (piece w ls r t a).notes.takers)
  has_typing ls t a o u q s =
      let p = piece w ls r t a in
      let x = typed a ls r t (omega arith) u q s in
      let y = subst (λ (vs : List LocalTree). IsTyping w vs (option_map at t) a (at p.tree) (from_ r p.notes.takers)) (sym ((locals_own w sc r own f kinds) ls o.variables)) x in
      record { typing = subst (λ (z : Option Tree). IsTyping w ls z a (at p.tree) (from_ r p.notes.takers)) (sym ((wanted_own w sc r own f kinds) t o.wanted)) y; types = kinds_from r p.notes.takers }
