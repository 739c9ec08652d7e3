-- The type variables of a piece are the declaration's own and the unknowns that it takes.
use Rattle.std.proofs.Common.{◌≡◌, ℕ, ◌+◌, ◌≤◌, zero, suc, pos, map, Bool, true, false, not, List, [], ◌∷◌, ◌++◌, reverse, replicate, length, Option, Some, None, IfSome, arith, length-append}
use Rattle.std.specs.List.{AllByRecursion}
use Rattle.trees.specs.Tree.{Tree, Leaf, One, Two, Three, HCell, HEnd, HNum}
use Rattle.trees.specs.Sorts.{int_type}
use Rattle.trees.specs.Facts.{TyVarsBelow}
use Rattle.tasks.specs.Equations.{type_variables}
use Rattle.tasks.specs.Typing.{members}
use Rattle.surface.specs.Lexeme.{Word}
use Rattle.name_resolution.specs.Abstract.{Pattern, Patterns, wildcard_pattern, variable_pattern, constructor_pattern, tuple_pattern, alias_pattern, record_pattern, no_patterns, more_patterns, Alternatives, no_alternatives, more_alternatives, Expression, Expressions, MatchBranches, applied_expression, infix_expression, integer_expression, true_expression, false_expression, tuple_expression, cast_expression, field_expression, record_expression, not_expression, connected_expression, equality_expression, if_expression, let_expression, match_expression, quantified_expression, no_expressions, more_expressions, no_branches, more_branches, count_patterns, count_expressions}
use Rattle.name_resolution.specs.declared.NamingFault.TheVariants.{WrongKind}
use Rattle.name_resolution.specs.Faults.{first_of, fault_if, form_fault, name_fault, field_fault, record_fault, binders_fault, bound_names, alternatives_fault, alternatives_names, fault, faults, triggers_fault, branches_fault}
use Rattle.name_resolution.specs.Records.{record_named, places_named, put_at_places}
use Rattle.name_resolution.specs.Where.{Where}
use Rattle.name_resolution.proofs.Putting.{put_all}
use Rattle.open_types.specs.Patterns.{no_notes, follow, taken, LocalTree, local, first_or_int, rest_of, NumberedEntry, entry_of, Matched, part_types, constructed_by, place_types, PatternTree, tree_of_matched, side_by_side_trees, wildcard_tree, fields_piece, part_pieces, pattern_piece, patterns_piece, later_pieces, alternatives_pieces, all_notes, first_variables, places_among, later_arms, arms}
use Rattle.open_types.specs.Pieces.{type_at, NotedTree, unknown_after, unknown, noted_before, piece, pieces, triggers_notes, branches_arms, Arms, Use, Local', Symbol', use_of_name, tuple_use, field_use, record_use, field_places, values_placed, used_piece, use_vars, parameters, equality, binders_vars, quantify, names}
use Rattle.open_types.specs.Pieces as pieces_of
use Rattle.open_types.specs.Scoped.{IsScoped}
use Rattle.open_types.proofs.Below.{below_more, each, AreBelow, LocalsBelow, locals_more, wanted_more, list_more, both_all, reversed, reordered_below, variables_all, cells_below, first_below, rest_below, UseBelow, parameters_of, typed_use, quantified_below, symbol_scoped, use_below, form_below, bound_below}
use Rattle.open_types.proofs.Noting.{count_replicate}
use Rattle.open_types.proofs.Walking.{none_both}
use Rattle.open_types.proofs.Branching.{in_cases}

abbrev pub IsBelow : ℕ → NotedTree → Type 0
IsBelow n p = TyVarsBelow (unknown_after n p) p.tree

-- two parts, the second after the first
two_below : (n m : ℕ) (p q : NotedTree) → unknown_after (unknown_after n p) q ≤ m → IsBelow n p → IsBelow (unknown_after n p) q → TyVarsBelow m p.tree × TyVarsBelow m q.tree
two_below n m p q l a b = (below_more p.tree (unknown_after n p) m (omega arith) a, below_more q.tree (unknown_after (unknown_after n p) q) m l b)

-- ---- patterns
record MatchedBelow (n : ℕ) (m : Matched) : Type 0 where
  tree : TyVarsBelow (n + taken m.notes) m.tree
  variables : LocalsBelow (n + taken m.notes) m.variables

-- ---- the parts of a record
record PartBelow (n : ℕ) (p : PatternTree) : Type 0 where
  tree : TyVarsBelow n p.tree
  variables : LocalsBelow n p.variables

abbrev PartsBelow : ℕ → List Matched → Type 0
PartsBelow n ms = AllByRecursion (λ (m : Matched). PartBelow n (tree_of_matched m)) ms

parts_more : (ms : List Matched) (j k : ℕ) → j ≤ k → PartsBelow j ms → PartsBelow k ms
parts_more [] j k l h = tt
parts_more (x ∷ xs) j k l h = (record { tree = below_more x.tree j k l h.0.tree; variables = locals_more x.variables j k l h.0.variables }, parts_more xs j k l h.1)

parts_are : (n : ℕ) (ms : List Matched) → PartsBelow n ms → AllByRecursion (PartBelow n) (map tree_of_matched ms)
parts_are n [] h = tt
parts_are n (x ∷ xs) h = (h.0, parts_are n xs h.1)

wildcards_below : (n : ℕ) (ts : List Tree) → AreBelow n ts → AllByRecursion (PartBelow n) (map wildcard_tree ts)
wildcards_below n [] h = tt
wildcards_below n (t ∷ ts) h = (record { tree = h.0; variables = tt }, wildcards_below n ts h.1)

beside_below : (n : ℕ) (ps : List PatternTree) → AllByRecursion (PartBelow n) ps → PartBelow n (side_by_side_trees ps)
beside_below n [] h = record { tree = tt; variables = tt }
beside_below n (p ∷ ps) h =
    let rest = beside_below n ps h.1 in
    record { tree = (h.0.tree, rest.tree); variables = both_all (λ (v : LocalTree). TyVarsBelow n v.type) p.variables (side_by_side_trees ps).variables h.0.variables rest.variables }

fields_below : (n : ℕ) (places : List ℕ) (ts : List Tree) (ms : List Matched) → AreBelow n ts → PartsBelow (n + taken (all_notes ms)) ms → MatchedBelow n (fields_piece places ts ms)
fields_below n places ts ms h k =
    let m = n + taken (all_notes ms) in
    let all = put_all (PartBelow m) places (map tree_of_matched ms) (map wildcard_tree ts) (parts_are m ms k) (wildcards_below m ts (list_more ts n m (omega arith) h)) in
    let whole = beside_below m (put_at_places places (map tree_of_matched ms) (map wildcard_tree ts)) all in
    record { tree = whole.tree; variables = whole.variables }

places_below : (n : ℕ) (places : List ℕ) (ts : List Tree) → AreBelow n ts → AreBelow n (place_types places ts)
places_below n [] ts h = tt
places_below n (p ∷ ps) ts h = (each (TyVarsBelow n) ts h p int_type tt, places_below n ps ts h)

module _ (w : Where) (sc : IsScoped w) where
  constructed_below : (n i : ℕ) (t : Tree) (c : NumberedEntry) (parts : Matched) → TyVarsBelow n t → MatchedBelow (n + c.symbol.vars) parts → MatchedBelow n (constructed_by n i t c parts)
  constructed_below n i t c parts h p =
      let m = n + length (replicate c.symbol.vars i ++ parts.notes.takers) in
      let l : m ≡ n + c.symbol.vars + taken parts.notes = omega (arith, length-append (replicate c.symbol.vars i) parts.notes.takers, count_replicate c.symbol.vars i) in
      record {
        tree = (cells_below m (type_variables n c.symbol.vars) (variables_all n c.symbol.vars m (omega (arith, l))), below_more parts.tree (n + c.symbol.vars + taken parts.notes) m (omega (arith, l)) p.tree, below_more t n m (omega arith) h);
        variables = locals_more parts.variables (n + c.symbol.vars + taken parts.notes) m (omega (arith, l)) p.variables;
      }

  mutual
    pattern_below : (p : Pattern) (first : Option (List LocalTree)) (n : ℕ) (t : Tree) → TyVarsBelow n t → MatchedBelow n (pattern_piece w first n t p)
    pattern_below (wildcard_pattern i) first n t h = let l : n ≤ n + 0 = omega arith in record { tree = below_more t n (n + 0) l h; variables = tt }
    pattern_below (variable_pattern i x) first n t h = let l : n ≤ n + 0 = omega arith in record { tree = below_more t n (n + 0) l h; variables = (below_more t n (n + 0) l h, tt) }
    pattern_below (constructor_pattern i qs x ps) first n t h =
        let c = entry_of w.symbols (w.names qs x) in
        constructed_below n i t c (patterns_piece w first (n + c.symbol.vars) (part_types n c) ps) h (patterns_below ps first (n + c.symbol.vars) (part_types n c) (parameters_of n (Symbol' c) (symbol_scoped w sc (w.names qs x))))
    pattern_below (tuple_pattern i ps) first n t h =
        let c = entry_of w.symbols (w.tuples (count_patterns ps)) in
        constructed_below n i t c (patterns_piece w first (n + c.symbol.vars) (part_types n c) ps) h (patterns_below ps first (n + c.symbol.vars) (part_types n c) (parameters_of n (Symbol' c) (symbol_scoped w sc (w.tuples (count_patterns ps)))))
    pattern_below (alias_pattern p i x) first n t h =
        let inner = pattern_piece w first n t p in
        let b = pattern_below p first n t h in
        let m = n + length (inner.notes.takers ++ []) in
        let l : m ≡ n + taken inner.notes = omega (arith, length-append inner.notes.takers []) in
        record {
          tree = below_more inner.tree (n + taken inner.notes) m (omega (arith, l)) b.tree;
          variables = both_all (λ (v : LocalTree). TyVarsBelow m v.type) inner.variables (local x t ∷ []) (locals_more inner.variables (n + taken inner.notes) m (omega (arith, l)) b.variables) (below_more t n m (omega arith) h, tt);
        }
    pattern_below (record_pattern i fs ps) first n t h =
        let k = record_named w.symbols w.names fs in
        let c = entry_of w.symbols (Some k) in
        let places = places_named w.symbols w.names k fs in
        let ts = part_types n c in
        let ms = part_pieces w first (n + c.symbol.vars) (place_types places ts) ps in
        let below = parameters_of n (Symbol' c) (symbol_scoped w sc (Some k)) in
        constructed_below n i t c (fields_piece places ts ms) h (fields_below (n + c.symbol.vars) places ts ms below (parts_below ps first (n + c.symbol.vars) (place_types places ts) (places_below (n + c.symbol.vars) places ts below)))

    patterns_below : (ps : Patterns) (first : Option (List LocalTree)) (n : ℕ) (ts : List Tree) → AreBelow n ts → MatchedBelow n (patterns_piece w first n ts ps)
    patterns_below no_patterns first n ts h = record { tree = tt; variables = tt }
    patterns_below (more_patterns p ps) first n ts h =
        let one = pattern_piece w first n (first_or_int ts) p in
        let i = n + taken one.notes in
        let rest = patterns_piece w first i (rest_of ts) ps in
        let a = pattern_below p first n (first_or_int ts) (first_below n ts h) in
        let b = patterns_below ps first i (rest_of ts) (list_more (rest_of ts) n i (omega arith) (rest_below n ts h)) in
        let m = n + length (one.notes.takers ++ rest.notes.takers) in
        let l : m ≡ i + taken rest.notes = omega (arith, length-append one.notes.takers rest.notes.takers) in
        record {
          tree = (below_more one.tree i m (omega (arith, l)) a.tree, below_more rest.tree (i + taken rest.notes) m (omega (arith, l)) b.tree);
          variables = both_all (λ (v : LocalTree). TyVarsBelow m v.type) one.variables rest.variables (locals_more one.variables i m (omega (arith, l)) a.variables) (locals_more rest.variables (i + taken rest.notes) m (omega (arith, l)) b.variables);
        }

    parts_below : (ps : Patterns) (first : Option (List LocalTree)) (n : ℕ) (ts : List Tree) → AreBelow n ts → PartsBelow (n + taken (all_notes (part_pieces w first n ts ps))) (part_pieces w first n ts ps)
    parts_below no_patterns first n ts h = tt
    parts_below (more_patterns p ps) first n ts h =
        let one = pattern_piece w first n (first_or_int ts) p in
        let i = n + taken one.notes in
        let rest = part_pieces w first i (rest_of ts) ps in
        let a = pattern_below p first n (first_or_int ts) (first_below n ts h) in
        let b = parts_below ps first i (rest_of ts) (list_more (rest_of ts) n i (omega arith) (rest_below n ts h)) in
        let m = n + length (one.notes.takers ++ (all_notes rest).takers) in
        let l : m ≡ i + taken (all_notes rest) = omega (arith, length-append one.notes.takers (all_notes rest).takers) in
        (record { tree = below_more one.tree i m (omega (arith, l)) a.tree; variables = locals_more one.variables i m (omega (arith, l)) a.variables }, parts_more rest (i + taken (all_notes rest)) m (omega (arith, l)) b)

  -- the trees of alternatives
  abbrev pub TreesBelow : ℕ → List Matched → Type 0
  TreesBelow n ms = AllByRecursion (λ (m : Matched). TyVarsBelow n m.tree) ms

  later_below : (ps : Alternatives) (first : List LocalTree) (n : ℕ) (t : Tree) → TyVarsBelow n t → TreesBelow (n + taken (all_notes (later_pieces w first n t ps))) (later_pieces w first n t ps)
  later_below no_alternatives first n t h = tt
  later_below (more_alternatives i p ps) first n t h =
      let one = pattern_piece w (Some first) n t p in
      let j = n + taken one.notes in
      let rest = later_pieces w first j t ps in
      let m = n + length (one.notes.takers ++ (all_notes rest).takers) in
      let l : m ≡ j + taken (all_notes rest) = omega (arith, length-append one.notes.takers (all_notes rest).takers) in
      (below_more one.tree j m (omega (arith, l)) (pattern_below p (Some first) n t h).tree, trees_more rest (j + taken (all_notes rest)) m (omega (arith, l)) (later_below ps first j t (below_more t n j (omega arith) h)))
    where
      trees_more : (ms : List Matched) (j k : ℕ) → j ≤ k → TreesBelow j ms → TreesBelow k ms
      trees_more [] j k l h = tt
      trees_more (x ∷ xs) j k l h = (below_more x.tree j k l h.0, trees_more xs j k l h.1)

  pub trees_grow : (ms : List Matched) (j k : ℕ) → j ≤ k → TreesBelow j ms → TreesBelow k ms
  trees_grow [] j k l h = tt
  trees_grow (x ∷ xs) j k l h = (below_more x.tree j k l h.0, trees_grow xs j k l h.1)

  pub record AlternativesBelow (n : ℕ) (ms : List Matched) : Type 0 where
    pub trees : TreesBelow (n + taken (all_notes ms)) ms
    pub variables : LocalsBelow (n + taken (all_notes ms)) (first_variables ms)

  pub alternatives_below : (ps : Alternatives) (n : ℕ) (t : Tree) → TyVarsBelow n t → AlternativesBelow n (alternatives_pieces w n t ps)
  alternatives_below no_alternatives n t h = record { trees = tt; variables = tt }
  alternatives_below (more_alternatives i p ps) n t h =
      let one = pattern_piece w None n t p in
      let j = n + taken one.notes in
      let rest = later_pieces w one.variables j t ps in
      let m = n + length (one.notes.takers ++ (all_notes rest).takers) in
      let l : m ≡ j + taken (all_notes rest) = omega (arith, length-append one.notes.takers (all_notes rest).takers) in
      let a = pattern_below p None n t h in
      record {
        trees = (below_more one.tree j m (omega (arith, l)) a.tree, trees_grow rest (j + taken (all_notes rest)) m (omega (arith, l)) (later_below ps one.variables j t (below_more t n j (omega arith) h)));
        variables = locals_more one.variables j m (omega (arith, l)) a.variables;
      }

  later_arms_below : (m : ℕ) (first : List LocalTree) (body : Tree) (ms : List Matched) → TyVarsBelow m body → TreesBelow m ms → AreBelow m (later_arms first body ms)
  later_arms_below m first body [] h k = tt
  later_arms_below m first body (x ∷ xs) h k = ((k.0, reordered_below m (places_among (reverse first) (reverse x.variables)) 0 body h), later_arms_below m first body xs h k.1)

  arms_below : (m : ℕ) (body : Tree) (ms : List Matched) → TyVarsBelow m body → TreesBelow m ms → AreBelow m (arms body ms)
  arms_below m body [] h k = tt
  arms_below m body (x ∷ xs) h k = ((k.0, h), later_arms_below m x.variables body xs h k.1)

  equality_below : (m : ℕ) (same : Bool) (a b : Tree) → TyVarsBelow m a × TyVarsBelow m b → TyVarsBelow m (equality same a b)
  equality_below m true a b h = h
  equality_below m false a b h = h

  members_below : (n : ℕ) (e : Tree) → TyVarsBelow n e → AreBelow n (members e)
  members_below n (Two HCell a b) h = (h.0, members_below n b h.1)
  members_below n (Leaf k) h = tt
  members_below n (One k a) h = tt
  members_below n (Two _ a b) h = tt
  members_below n (Three k a b c) h = tt

  -- the values of a record
  values_below : (n : ℕ) (places : List ℕ) (count : ℕ) (e : Tree) → TyVarsBelow n e → TyVarsBelow n (values_placed places count e)
  values_below n places count e h = cells_below n (put_at_places places (members e) (replicate count (Leaf (HNum (pos 0))))) (put_all (TyVarsBelow n) places (members e) (replicate count (Leaf (HNum (pos 0)))) (members_below n e h) (numbers count))
    where
      numbers : (k : ℕ) → AreBelow n (replicate k (Leaf (HNum (pos 0))))
      numbers zero = tt
      numbers (suc k) = (tt, numbers k)

  -- ---- terms and formulas
  used_below : (n : ℕ) (t : Option Tree) (i : ℕ) (u : Use) (a : NotedTree) → UseBelow n u → IfSome t (TyVarsBelow n) → IsBelow (n + use_vars u) a → IsBelow n (used_piece n t i u a)
  used_below n t i (Local' p ty) a h o b = below_more ty n (n + 0) (omega arith) h
  used_below n t i (Symbol' e) a h o b =
      let m = n + length (replicate e.symbol.vars i ++ a.notes.takers) in
      let l : m ≡ n + e.symbol.vars + taken a.notes = omega (arith, length-append (replicate e.symbol.vars i) a.notes.takers, count_replicate e.symbol.vars i) in
      typed_use m e.number (type_variables n e.symbol.vars) t a.tree (variables_all n e.symbol.vars m (omega (arith, l))) (wanted_more t n m (omega (arith, l)) o) (below_more a.tree (n + e.symbol.vars + taken a.notes) m (omega (arith, l)) b)

  abbrev ArmsBelow : ℕ → Arms → Type 0
  ArmsBelow n a = AreBelow (n + taken a.notes) a.trees

  mutual
    pub bounded : (e : Expression) (ls : List LocalTree) (n : ℕ) (t : Option Tree) (ns : List Word) (due : Bool) → LocalsBelow n ls → IfSome t (TyVarsBelow n) → length w.vars ≤ n → fault w false ns due e ≡ None → IsBelow n (piece w ls n t e)
    bounded (applied_expression i qs x es) ls n t ns due h k o f =
        let p = none_both (name_fault w ns due i qs x (count_expressions es)) (faults w false ns es) f in
        let u = use_of_name w ls qs x in
        let b = use_below w sc n ls qs x h in
        let l : n ≤ n + use_vars u = omega arith in
        used_below n t i u (pieces w ls (n + use_vars u) (parameters n u) es) b k (all_bounded es ls (n + use_vars u) (parameters n u) ns (locals_more ls n (n + use_vars u) l h) (parameters_of n u b) (omega (arith, o)) p.1)
    bounded (infix_expression i x a b) ls n t ns due h k o f =
        let p = none_both (fault w false ns false a) (first_of (name_fault w ns due i [] x 2) (fault w false ns false b)) f in
        let q = none_both (name_fault w ns due i [] x 2) (fault w false ns false b) p.1 in
        let u = use_of_name w ls [] x in
        let ub = use_below w sc n ls [] x h in
        let m = n + use_vars u in
        let ts = parameters n u in
        let pb = parameters_of n u ub in
        let left = piece w ls m (Some (first_or_int ts)) a in
        let right = piece w ls (unknown_after m left) (Some (first_or_int (rest_of ts))) b in
        let lb = bounded a ls m (Some (first_or_int ts)) ns false (locals_more ls n m (omega arith) h) (first_below m ts pb) (omega (arith, o)) p.0 in
        let rb = bounded b ls (unknown_after m left) (Some (first_or_int (rest_of ts))) ns false (locals_more ls n (unknown_after m left) (omega arith) h) (below_more (first_or_int (rest_of ts)) m (unknown_after m left) (omega arith) (first_below m (rest_of ts) (rest_below m ts pb))) (omega (arith, o)) q.1 in
        let z = m + length (left.notes.takers ++ (right.notes.takers ++ [])) in
        let c = two_below m z left right (omega (arith, length-append left.notes.takers (right.notes.takers ++ []), length-append right.notes.takers [])) lb rb in
        used_below n t i u (record { tree = Two HCell left.tree (Two HCell right.tree (Leaf HEnd)); notes = follow left.notes (follow right.notes no_notes) }) ub k (c.0, (c.1, tt))
    bounded (integer_expression i z) ls n t ns due h k o f = tt
    bounded (true_expression i) ls n t ns due h k o f = tt
    bounded (false_expression i) ls n t ns due h k o f = tt
    bounded (tuple_expression i es) ls n t ns due h k o f =
        let p = none_both (fault_if due (WrongKind i)) (faults w false ns es) f in
        let u = tuple_use w (count_expressions es) in
        let b = symbol_scoped w sc (w.tuples (count_expressions es)) in
        let l : n ≤ n + use_vars u = omega arith in
        used_below n t i u (pieces w ls (n + use_vars u) (parameters n u) es) b k (all_bounded es ls (n + use_vars u) (parameters n u) ns (locals_more ls n (n + use_vars u) l h) (parameters_of n u b) (omega (arith, o)) p.1)
    bounded (cast_expression i e ty) ls n t ns due h k o f =
        let p = none_both (fault_if due (WrongKind i)) (first_of (fault w false ns false e) (form_fault w false ty)) f in
        let q = none_both (fault w false ns false e) (form_fault w false ty) p.1 in
        bounded e ls n (Some (type_at w ty)) ns false h (below_more (type_at w ty) (length w.vars) n o (form_below w sc ty q.1)) o q.0
    bounded (field_expression i e at qs x) ls n t ns due h k o f =
        let p = none_both (fault w false ns false e) (field_fault w due at (w.names qs x)) f in
        let u = field_use w qs x in
        let ub = symbol_scoped w sc (w.names qs x) in
        let m = n + use_vars u in
        let ts = parameters n u in
        let only = piece w ls m (Some (first_or_int ts)) e in
        let b = bounded e ls m (Some (first_or_int ts)) ns false (locals_more ls n m (omega arith) h) (first_below m ts (parameters_of n u ub)) (omega (arith, o)) p.0 in
        let z = m + length (only.notes.takers ++ []) in
        used_below n t i u (record { tree = Two HCell only.tree (Leaf HEnd); notes = follow only.notes no_notes }) ub k (below_more only.tree (unknown_after m only) z (omega (arith, length-append only.notes.takers [])) b, tt)
    bounded (record_expression i fs es) ls n t ns due h k o f =
        let p = none_both (fault_if due (WrongKind i)) (first_of (record_fault w true i (count_expressions es) fs) (faults w false ns es)) f in
        let q = none_both (record_fault w true i (count_expressions es) fs) (faults w false ns es) p.1 in
        let u = record_use w fs in
        let ub = symbol_scoped w sc (Some (record_named w.symbols w.names fs)) in
        let m = n + use_vars u in
        let ts = parameters n u in
        let pb = parameters_of n u ub in
        let all = pieces w ls m (place_types (field_places w fs) ts) es in
        let b = all_bounded es ls m (place_types (field_places w fs) ts) ns (locals_more ls n m (omega arith) h) (places_below m (field_places w fs) ts pb) (omega (arith, o)) q.1 in
        used_below n t i u (record { tree = values_placed (field_places w fs) (length ts) all.tree; notes = all.notes }) ub k (values_below (unknown_after m all) (field_places w fs) (length ts) all.tree b)
    bounded (not_expression i e) ls n t ns due h k o f =
        let p = none_both (fault_if (not due) (WrongKind i)) (fault w false ns true e) f in
        bounded e ls n None ns true h tt o p.1
    bounded (connected_expression i a op b) ls n t ns due h k o f =
        let p = none_both (fault w false ns true a) (first_of (fault_if (not due) (WrongKind i)) (fault w false ns true b)) f in
        let q = none_both (fault_if (not due) (WrongKind i)) (fault w false ns true b) p.1 in
        let x = piece w ls n None a in
        let y = piece w ls (unknown_after n x) None b in
        two_below n (n + length (x.notes.takers ++ y.notes.takers)) x y (omega (arith, length-append x.notes.takers y.notes.takers)) (bounded a ls n None ns true h tt o p.0)
        (bounded b ls (unknown_after n x) None ns true (locals_more ls n (unknown_after n x) (omega arith) h) tt (omega (arith, o)) q.1)
    bounded (equality_expression i same a b) ls n t ns due h k o f =
        let p = none_both (fault w false ns false a) (first_of (fault_if (not due) (WrongKind i)) (fault w false ns false b)) f in
        let q = none_both (fault_if (not due) (WrongKind i)) (fault w false ns false b) p.1 in
        let x = piece w ls (n + 1) (Some (unknown n)) a in
        let j = unknown_after (n + 1) x in
        let y = piece w ls j (Some (unknown n)) b in
        let m = n + length (i ∷ (x.notes.takers ++ y.notes.takers)) in
        equality_below m same x.tree y.tree (two_below (n + 1) m x y (omega (arith, length-append x.notes.takers y.notes.takers)) (bounded a ls (n + 1) (Some (unknown n)) ns false (locals_more ls n (n + 1) (omega arith) h) (omega arith) (omega (arith, o)) p.0)
        (bounded b ls j (Some (unknown n)) ns false (locals_more ls n j (omega arith) h) (omega arith) (omega (arith, o)) q.1))
    bounded (if_expression i c a b) ls n t ns due h k o f =
        let p = none_both (fault w false ns true c) (first_of (fault w false ns due a) (fault w false ns due b)) f in
        let q = none_both (fault w false ns due a) (fault w false ns due b) p.1 in
        let x = piece w ls n None c in
        let y = piece w ls (unknown_after n x) t a in
        let j = unknown_after (unknown_after n x) y in
        let z = piece w ls j t b in
        let m = n + length (x.notes.takers ++ (y.notes.takers ++ z.notes.takers)) in
        let e : m ≡ unknown_after j z = omega (arith, length-append x.notes.takers (y.notes.takers ++ z.notes.takers), length-append y.notes.takers z.notes.takers) in
        let r = two_below (unknown_after n x) m y z (omega (arith, e)) (bounded a ls (unknown_after n x) t ns due (locals_more ls n (unknown_after n x) (omega arith) h) (wanted_more t n (unknown_after n x) (omega arith) k) (omega (arith, o)) q.0)
        (bounded b ls j t ns due (locals_more ls n j (omega arith) h) (wanted_more t n j (omega arith) k) (omega (arith, o)) q.1) in
        (below_more x.tree (unknown_after n x) m (omega (arith, e)) (bounded c ls n None ns true h tt o p.0), r.0, r.1)
    bounded (let_expression i v a b) ls n t ns due h k o f =
        let p = none_both (fault w false ns false a) (fault w false (v ∷ ns) due b) f in
        let x = piece w ls (n + 1) (Some (unknown n)) a in
        let j = unknown_after (n + 1) x in
        let inside = local v (unknown n) ∷ ls in
        let y = piece w inside j t b in
        two_below (n + 1) (n + length (i ∷ (x.notes.takers ++ y.notes.takers))) x y (omega (arith, length-append x.notes.takers y.notes.takers)) (bounded a ls (n + 1) (Some (unknown n)) ns false (locals_more ls n (n + 1) (omega arith) h) (omega arith) (omega (arith, o)) p.0)
        (bounded b inside j t (v ∷ ns) due (omega arith, locals_more ls n j (omega arith) h) (wanted_more t n j (omega arith) k) (omega (arith, o)) p.1)
    bounded (match_expression i is_let e bs) ls n t ns due h k o f =
        let p = in_cases w ns due i is_let e bs f in
        let x = piece w ls (n + 1) (Some (unknown n)) e in
        let j = unknown_after (n + 1) x in
        let r = branches_arms w ls j (unknown n) t bs in
        let m = n + length (i ∷ (x.notes.takers ++ r.notes.takers)) in
        let l : m ≡ j + taken r.notes = omega (arith, length-append x.notes.takers r.notes.takers) in
        let a = bounded e ls (n + 1) (Some (unknown n)) ns false (locals_more ls n (n + 1) (omega arith) h) (omega arith) (omega (arith, o)) p.0 in
        let b = branches_bounded bs ls j (unknown n) t ns due (locals_more ls n j (omega arith) h) (omega arith) (wanted_more t n j (omega arith) k) (omega (arith, o)) p.2 in
        (below_more x.tree j m (omega (arith, l)) a, cells_below m r.trees (list_more r.trees (j + taken r.notes) m (omega (arith, l)) b))
    bounded (quantified_expression i all bs gs b) ls n t ns due h k o f =
        let within = reverse (bound_names bs) ++ ns in
        let p = none_both (fault_if (not due) (WrongKind i)) (first_of (binders_fault w false bs) (first_of (triggers_fault w false within gs) (fault w false within true b))) f in
        let q = none_both (binders_fault w false bs) (first_of (triggers_fault w false within gs) (fault w false within true b)) p.1 in
        let r = none_both (triggers_fault w false within gs) (fault w false within true b) q.1 in
        let j = n + binders_vars bs in
        let vs = pieces_of.bound w n bs in
        let inside = reverse vs ++ ls in
        let g = triggers_notes w inside j gs in
        let z = j + taken g in
        let y = piece w inside z None b in
        let m = n + length (replicate (binders_vars bs) i ++ (g.takers ++ y.notes.takers)) in
        let e : m ≡ unknown_after z y = omega (arith, length-append (replicate (binders_vars bs) i) (g.takers ++ y.notes.takers), length-append g.takers y.notes.takers, count_replicate (binders_vars bs) i) in
        quantified_below m all vs y.tree (bound_below w sc n m bs o (omega (arith, e)) q.0)
        (below_more y.tree (unknown_after z y) m (omega (arith, e)) (bounded b inside z None within true (both_all (λ (v : LocalTree). TyVarsBelow z v.type) (reverse vs) ls (reversed z vs (bound_below w sc n z bs o (omega arith) q.0)) (locals_more ls n z (omega arith) h)) tt (omega (arith, o)) r.1))

    all_bounded : (es : Expressions) (ls : List LocalTree) (n : ℕ) (ts : List Tree) (ns : List Word) → LocalsBelow n ls → AreBelow n ts → length w.vars ≤ n → faults w false ns es ≡ None → IsBelow n (pieces w ls n ts es)
    all_bounded no_expressions ls n ts ns h k o f = tt
    all_bounded (more_expressions e es) ls n ts ns h k o f =
        let p = none_both (fault w false ns false e) (faults w false ns es) f in
        let x = piece w ls n (Some (first_or_int ts)) e in
        let j = unknown_after n x in
        let y = pieces w ls j (rest_of ts) es in
        two_below n (n + length (x.notes.takers ++ y.notes.takers)) x y (omega (arith, length-append x.notes.takers y.notes.takers)) (bounded e ls n (Some (first_or_int ts)) ns false h (first_below n ts k) o p.0)
        (all_bounded es ls j (rest_of ts) ns (locals_more ls n j (omega arith) h) (list_more (rest_of ts) n j (omega arith) (rest_below n ts k)) (omega (arith, o)) p.1)

    branches_bounded : (bs : MatchBranches) (ls : List LocalTree) (n : ℕ) (subject : Tree) (t : Option Tree) (ns : List Word) (due : Bool) → LocalsBelow n ls → TyVarsBelow n subject → IfSome t (TyVarsBelow n) → length w.vars ≤ n → branches_fault w false ns due bs ≡ None
        → ArmsBelow n (branches_arms w ls n subject t bs)
    branches_bounded no_branches ls n subject t ns due h s k o f = tt
    branches_bounded (more_branches ps b bs) ls n subject t ns due h s k o f =
        let within = reverse (alternatives_names ps) ++ ns in
        let p = none_both (alternatives_fault w ps) (first_of (fault w false within due b) (branches_fault w false ns due bs)) f in
        let q = none_both (fault w false within due b) (branches_fault w false ns due bs) p.1 in
        let ms = alternatives_pieces w n subject ps in
        let a = alternatives_below ps n subject s in
        let j = n + taken (all_notes ms) in
        let inside = reverse (first_variables ms) ++ ls in
        let y = piece w inside j t b in
        let z = unknown_after j y in
        let r = branches_arms w ls z subject t bs in
        let m = n + length (((all_notes ms).takers ++ y.notes.takers) ++ r.notes.takers) in
        let e : m ≡ z + taken r.notes = omega (arith, length-append ((all_notes ms).takers ++ y.notes.takers) r.notes.takers, length-append (all_notes ms).takers y.notes.takers) in
        let c = bounded b inside j t within due (both_all (λ (v : LocalTree). TyVarsBelow j v.type) (reverse (first_variables ms)) ls (reversed j (first_variables ms) a.variables) (locals_more ls n j (omega arith) h)) (wanted_more t n j (omega arith) k) (omega (arith, o)) q.0 in
        let d = branches_bounded bs ls z subject t ns due (locals_more ls n z (omega arith) h) (below_more subject n z (omega arith) s) (wanted_more t n z (omega arith) k) (omega (arith, o)) q.1 in
        both_all (TyVarsBelow m) (arms y.tree ms) r.trees (arms_below m y.tree ms (below_more y.tree z m (omega (arith, e)) c) (trees_grow ms j m (omega (arith, e)) a.trees)) (list_more r.trees (z + taken r.notes) m (omega (arith, e)) d)
