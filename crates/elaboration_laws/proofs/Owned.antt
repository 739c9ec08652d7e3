-- The type variables of a piece and of its equations are the declaration's own and the unknowns that it takes: they have each
-- property that those have.
use Rattle.std.proofs.Common.{◌≡◌, ℕ, ◌+◌, ◌<◌, ◌≤◌, zero, suc, Bool, true, false, not, cond, List, [], ◌∷◌, ◌++◌, map, reverse, replicate, length, get_or, Option, Some, None, IfSome, option_map, arith, length-append}
use Rattle.std.specs.List.{AllByRecursion}
use Rattle.std.specs.Str.{bytes_eq}
use Rattle.std.proofs.lemmas.List.Elements.{recursion_from_All}
use mathlib.Core.List.{reverse-cons}
use Rattle.elab_groups.specs.trees.Tree.{Tree, Leaf, One, Two, Three, Head, HTyVar, HBound, HParam, HEnd, HCell, binders_over}
use Rattle.elab_groups.specs.trees.Binding.{change, leaf_by, one_by, typing, TyVar}
use Rattle.elab_groups.specs.trees.Facts.{TyVarsBelow, leaf_below}
use Rattle.elab_groups.specs.tasks.Task.{SymbolTree}
use Rattle.elab_groups.specs.tasks.Equations.{cells, type_variables}
use Rattle.elab_groups.specs.surface.Lexeme.{Word}
use Rattle.elab_groups.specs.name_resolution.Abstract.{TypeExpression, Pattern, Patterns, wildcard_pattern, variable_pattern, constructor_pattern, tuple_pattern, alias_pattern, record_pattern, no_patterns, more_patterns, Alternatives, no_alternatives, more_alternatives, BoundNames, Expression, Expressions, MatchBranches, applied_expression, infix_expression, integer_expression, true_expression, false_expression, tuple_expression, cast_expression, field_expression, record_expression, not_expression, connected_expression, equality_expression, if_expression, let_expression, match_expression, quantified_expression, no_expressions, more_expressions, no_branches, more_branches, count_patterns, count_expressions}
use Rattle.elab_groups.specs.name_resolution.declared.NamingFault.TheVariants.{WrongKind}
use Rattle.elab_groups.specs.name_resolution.Faults.{first_of, fault_if, form_fault, type_fault, name_fault, field_fault, record_fault, binders_fault, bound_names, alternatives_fault, alternatives_names, is_formula_trigger, token, fault, faults, triggers_fault, branches_fault}
use Rattle.elab_groups.specs.name_resolution.Records.{record_named, put_at_places}
use Rattle.elab_groups.specs.name_resolution.Where.{Where}
use Rattle.elab_groups.specs.open_types.Patterns.{noted, no_notes, follow, taken, LocalTree, local, local_type, variable_equations, at_unknowns, result_or_int, first_or_int, rest_of, NumberedEntry, entry_of, Matched, part_types, place_types, PatternTree, tree_of_matched, side_by_side_trees, wildcard_tree, fields_piece, part_pieces, constructed_by, pattern_piece, patterns_piece, later_pieces, alternatives_pieces, all_notes, first_variables, reordering, places_among, later_arms, arms}
use Rattle.elab_groups.specs.open_types.Pieces.{type_at, NotedTree, unknown_after, unknown, noted_before, wanting, piece, pieces, triggers_notes, branches_arms, Arms, Use, Local', Symbol', variable_named, found_local, use_or, use_of_name, field_use, tuple_use, record_use, field_places, values_placed, piece_under, symbol_at_types, used_piece, use_vars, parameters, equality, untyped, locals_of_type, binder_locals, binder_vars, binders_vars, quantify, names}
use Rattle.elab_groups.specs.open_types.Pieces as pieces_of
use Rattle.elab_groups.specs.open_types.Scoped.{IsScoped, IsScopedEntry}
use Rattle.elab_groups.specs.tasks.Typing.{members}
use Rattle.elab_groups.proofs.name_resolution.Putting.{put_all}
use Rattle.elab_groups.proofs.open_types.Below.{both_all, symbol_scoped, form_below}
use Rattle.elab_groups.proofs.open_types.Noting.{count_replicate}
use Rattle.elab_groups.proofs.open_types.Walking.{none_both}
use Rattle.elab_groups.proofs.open_types.Branching.{in_cases}
use Rattle.elaboration_laws.proofs.Placing.{no_value, places_all, fields_all}

module _ (P : ℕ → Type 0) where
  abbrev pub leaf_in : Head → Type 0
  leaf_in (HTyVar j) = P j
  leaf_in _ = Unit {0}

  -- each type variable has the property
  abbrev pub VariablesIn : Tree → Type 0
  VariablesIn (Leaf h) = leaf_in h
  VariablesIn (One h a) = VariablesIn a
  VariablesIn (Two h a b) = VariablesIn a × VariablesIn b
  VariablesIn (Three h a b c) = VariablesIn a × VariablesIn b × VariablesIn c

  abbrev pub AllIn : List Tree → Type 0
  AllIn ts = AllByRecursion VariablesIn ts

  abbrev pub LocalsIn : List LocalTree → Type 0
  LocalsIn ls = AllByRecursion (λ (l : LocalTree). VariablesIn l.type) ls

  abbrev pub EquationsIn : List (Tree × Tree) → Type 0
  EquationsIn es = AllByRecursion (λ (e : Tree × Tree). VariablesIn e.0 × VariablesIn e.1) es

  -- each unknown from one number to another one has it
  abbrev pub Takes : ℕ → ℕ → Type 0
  Takes a b = (j : ℕ) → a ≤ j → j < b → P j

  pub record PieceIn (p : NotedTree) : Type 0 where
    pub tree : VariablesIn p.tree
    pub equations : EquationsIn p.notes.equations

  record MatchedIn (m : Matched) : Type 0 where
    tree : VariablesIn m.tree
    equations : EquationsIn m.notes.equations
    variables : LocalsIn m.variables

  record ArmsIn (a : Arms) : Type 0 where
    trees : AllIn a.trees
    equations : EquationsIn a.notes.equations

  -- ---- unknowns of the first part, and of the second
  front : (n : ℕ) (xs ys : List ℕ) → Takes n (n + length (xs ++ ys)) → Takes n (n + length xs)
  front n xs ys f = λ j a b. f j a (omega (arith, length-append xs ys))

  back : (n : ℕ) (xs ys : List ℕ) → Takes n (n + length (xs ++ ys)) → Takes (n + length xs) (n + length xs + length ys)
  back n xs ys f = λ j a b. f j (omega arith) (omega (arith, length-append xs ys))

  first : (n i : ℕ) (ys : List ℕ) → Takes n (n + length (i ∷ ys)) → P n
  first n i ys f = f n (omega arith) (omega arith)

  others : (n i : ℕ) (ys : List ℕ) → Takes n (n + length (i ∷ ys)) → Takes (n + 1) (n + 1 + length ys)
  others n i ys f = λ j a b. f j (omega arith) (omega arith)

  own_takes : (n k i : ℕ) (ys : List ℕ) → Takes n (n + length (replicate k i ++ ys)) → Takes n (n + k)
  own_takes n k i ys f = λ j a b. f j a (omega (arith, length-append (replicate k i) ys, count_replicate k i))

  past_takes : (n k i : ℕ) (ys : List ℕ) → Takes n (n + length (replicate k i ++ ys)) → Takes (n + k) (n + k + length ys)
  past_takes n k i ys f = λ j a b. f j (omega arith) (omega (arith, length-append (replicate k i) ys, count_replicate k i))

  no_more : (n : ℕ) (xs : List ℕ) → Takes n (n + length (xs ++ [])) → Takes n (n + length xs)
  no_more n xs f = front n xs [] f

  -- ---- types
  leaf_of : (m : ℕ) (h : Head) → ((j : ℕ) → j < m → P j) → leaf_below h m → leaf_in h
  leaf_of m (HTyVar j) f b = f j b
  leaf_of m _ f b = tt

  pub below_in : (m : ℕ) (e : Tree) → ((j : ℕ) → j < m → P j) → TyVarsBelow m e → VariablesIn e
  below_in m (Leaf h) f b = leaf_of m h f b
  below_in m (One h a) f b = below_in m a f b
  below_in m (Two h a b) f x = (below_in m a f x.0, below_in m b f x.1)
  below_in m (Three h a b c) f x = (below_in m a f x.0, below_in m b f x.1, below_in m c f x.2)

  module _ (m : ℕ) (tys : List Tree) (g : (j : ℕ) → j < m → VariablesIn (get_or tys j (TyVar j))) where
    leaf_inst : (h : Head) → leaf_below h m → VariablesIn (leaf_by (typing tys) h)
    leaf_inst (HTyVar j) b = g j b
    leaf_inst _ b = tt

    one_inst : (d : ℕ) (h : Head) (a : Tree) → VariablesIn a → VariablesIn (one_by (typing tys) d h a)
    one_inst d (HBound i) a b = b
    one_inst d (HParam i) a b = b
    one_inst d _ a b = b

    inst_in : (d : ℕ) (e : Tree) → TyVarsBelow m e → VariablesIn (change (typing tys) d e)
    inst_in d (Leaf h) b = leaf_inst h b
    inst_in d (One h a) b = one_inst d h (change (typing tys) d a) (inst_in d a b)
    inst_in d (Two h a b) x = (inst_in d a x.0, inst_in (d + binders_over h a) b x.1)
    inst_in d (Three h a b c) x = (inst_in d a x.0, inst_in d b x.1, inst_in d c x.2)

  module _ (places : List ℕ) where
    leaf_reordered : (h : Head) → leaf_in h → VariablesIn (leaf_by (reordering places) h)
    leaf_reordered (HTyVar j) b = b
    leaf_reordered _ b = tt

    one_reordered : (d : ℕ) (h : Head) (a : Tree) → VariablesIn a → VariablesIn (one_by (reordering places) d h a)
    one_reordered d (HBound i) a b = b
    one_reordered d (HParam i) a b = b
    one_reordered d _ a b = b

    reordered_in : (d : ℕ) (e : Tree) → VariablesIn e → VariablesIn (change (reordering places) d e)
    reordered_in d (Leaf h) b = leaf_reordered h b
    reordered_in d (One h a) b = one_reordered d h (change (reordering places) d a) (reordered_in d a b)
    reordered_in d (Two h a b) x = (reordered_in d a x.0, reordered_in (d + binders_over h a) b x.1)
    reordered_in d (Three h a b c) x = (reordered_in d a x.0, reordered_in d b x.1, reordered_in d c x.2)

  variable_at : (n k : ℕ) → Takes n (n + k) → (j : ℕ) (d : Tree) → j < k → VariablesIn (get_or (type_variables n k) j d)
  variable_at n zero f j d b = absurd (omega arith)
  variable_at n (suc k) f zero d b = f n (omega arith) (omega arith)
  variable_at n (suc k) f (suc j) d b = variable_at (n + 1) k (λ i x y. f i (omega arith) (omega arith)) j d (omega arith)

  variables_in : (n k : ℕ) → Takes n (n + k) → AllIn (type_variables n k)
  variables_in n zero f = tt
  variables_in n (suc k) f = (f n (omega arith) (omega arith), variables_in (n + 1) k (λ i x y. f i (omega arith) (omega arith)))

  cells_in : (ts : List Tree) → AllIn ts → VariablesIn (cells ts)
  cells_in [] h = tt
  cells_in (t ∷ ts) h = (h.0, cells_in ts h.1)

  at_in : (n : ℕ) (e : SymbolTree) (t : Tree) → TyVarsBelow e.vars t → Takes n (n + e.vars) → VariablesIn (at_unknowns n e t)
  at_in n e t h f = inst_in e.vars (type_variables n e.vars) (λ j l. variable_at n e.vars f j (TyVar j) l) 0 t h

  all_at : (n : ℕ) (e : SymbolTree) (ts : List Tree) → AllByRecursion (TyVarsBelow e.vars) ts → Takes n (n + e.vars) → AllIn (map (at_unknowns n e) ts)
  all_at n e [] h f = tt
  all_at n e (t ∷ ts) h f = (at_in n e t h.0 f, all_at n e ts h.1 f)

  args_in : (n : ℕ) (e : SymbolTree) → IsScopedEntry e → Takes n (n + e.vars) → AllIn (map (at_unknowns n e) e.args)
  args_in n e h f = all_at n e e.args (recursion_from_All (TyVarsBelow e.vars) e.args h.args) f

  result_in : (n : ℕ) (e : SymbolTree) → IsScopedEntry e → Takes n (n + e.vars) → VariablesIn (at_unknowns n e (result_or_int e.result))
  result_in n e h f = at_in n e (result_or_int e.result) (of e.result h.result) f
    where
      of : (r : Option Tree) → IfSome r (TyVarsBelow e.vars) → TyVarsBelow e.vars (result_or_int r)
      of None k = tt
      of (Some t) k = k

  first_in : (ts : List Tree) → AllIn ts → VariablesIn (first_or_int ts)
  first_in [] h = tt
  first_in (t ∷ ts) h = h.0

  rest_in : (ts : List Tree) → AllIn ts → AllIn (rest_of ts)
  rest_in [] h = tt
  rest_in (t ∷ ts) h = h.1

  pub reversed_in : (ls : List LocalTree) → LocalsIn ls → LocalsIn (reverse ls)
  reversed_in [] h = h
  reversed_in (l ∷ ls) h = rw (reverse-cons l ls) (both_all (λ (x : LocalTree). VariablesIn x.type) (reverse ls) (l ∷ []) (reversed_in ls h.1) (h.0, tt))

  inside_in : (vs ls : List LocalTree) → LocalsIn vs → LocalsIn ls → LocalsIn (reverse vs ++ ls)
  inside_in vs ls h k = both_all (λ (x : LocalTree). VariablesIn x.type) (reverse vs) ls (reversed_in vs h) k

  -- ---- equations
  both_equations : (xs ys : List (Tree × Tree)) → EquationsIn xs → EquationsIn ys → EquationsIn (xs ++ ys)
  both_equations xs ys h k = both_all (λ (e : Tree × Tree). VariablesIn e.0 × VariablesIn e.1) xs ys h k

  wanting_in : (a : Tree) (t : Option Tree) → VariablesIn a → IfSome t VariablesIn → EquationsIn (wanting a t)
  wanting_in a None h o = tt
  wanting_in a (Some t) h o = ((h, o), tt)

  -- ---- names
  variable_found : (c : Word) (ls : List LocalTree) → LocalsIn ls → IfSome (variable_named c ls) (λ (p : ℕ × Tree). VariablesIn p.1)
  variable_found c [] h = tt
  variable_found c (l ∷ ls) h = of (bytes_eq l.name c) (variable_named c ls) (variable_found c ls h.1)
    where
      of : (b : Bool) (x : Option (ℕ × Tree)) → IfSome x (λ (p : ℕ × Tree). VariablesIn p.1) → IfSome (cond b (Some (0, l.type)) (option_map (λ (p : ℕ × Tree). (suc p.0, p.1)) x)) (λ (p : ℕ × Tree). VariablesIn p.1)
      of true x k = h.0
      of false None k = tt
      of false (Some p) k = k

  found_in : (qs : List Word) (c : Word) (ls : List LocalTree) → LocalsIn ls → IfSome (found_local qs c ls) (λ (p : ℕ × Tree). VariablesIn p.1)
  found_in [] c ls h = variable_found c ls h
  found_in (q ∷ qs) c ls h = tt

  type_named : (x : Word) (ls : List LocalTree) → LocalsIn ls → VariablesIn (local_type x ls)
  type_named x [] h = tt
  type_named x (l ∷ ls) h = of (bytes_eq l.name x) (type_named x ls h.1)
    where
      of : (b : Bool) → VariablesIn (local_type x ls) → VariablesIn (cond b l.type (local_type x ls))
      of true k = h.0
      of false k = k

  bind_in : (before : Option (List LocalTree)) (x : Word) (t : Tree) → IfSome before LocalsIn → VariablesIn t → EquationsIn (variable_equations before x t)
  bind_in None x t h k = tt
  bind_in (Some ls) x t h k = ((type_named x ls h, k), tt)

  abbrev UseIn : Use → Type 0
  UseIn (Local' i ty) = VariablesIn ty
  UseIn (Symbol' e) = IsScopedEntry e.symbol

  parameters_in : (n : ℕ) (u : Use) → UseIn u → Takes n (n + use_vars u) → AllIn (parameters n u)
  parameters_in n (Local' i ty) h f = tt
  parameters_in n (Symbol' e) h f = args_in n e.symbol h f

  typed_in : (k : ℕ) (ts : List Tree) (t : Option Tree) (a : Tree) → AllIn ts → IfSome t VariablesIn → VariablesIn a → VariablesIn (symbol_at_types k ts t a)
  typed_in k ts None a h o b = (cells_in ts h, b)
  typed_in k ts (Some x) a h o b = (cells_in ts h, b, o)

  -- a use, whose arguments are of use where it is one of a symbol
  used_in : (n : ℕ) (t : Option Tree) (i : ℕ) (u : Use) (a : NotedTree) → UseIn u → IfSome t VariablesIn → Takes n (unknown_after n (used_piece n t i u a))
      → (Takes n (n + use_vars u) → Takes (n + use_vars u) (unknown_after (n + use_vars u) a) → PieceIn a) → PieceIn (used_piece n t i u a)
  used_in n t i (Local' p ty) a h o f g = record { tree = h; equations = both_equations (wanting ty t) [] (wanting_in ty t h o) tt }
  used_in n t i (Symbol' e) a h o f g =
      let k = e.symbol.vars in
      let own = own_takes n k i a.notes.takers f in
      let r = g own (past_takes n k i a.notes.takers f) in
      let result = at_unknowns n e.symbol (result_or_int e.symbol.result) in
      record {
        tree = typed_in e.number (type_variables n k) t a.tree (variables_in n k own) o r.tree;
        equations = both_equations (wanting result t) a.notes.equations (wanting_in result t (result_in n e.symbol h own) o) r.equations;
      }

  -- ---- forms
  equality_in : (same : Bool) (a b : Tree) → VariablesIn a × VariablesIn b → VariablesIn (equality same a b)
  equality_in true a b h = h
  equality_in false a b h = h

  quantified_in : (all : Bool) (ls : List LocalTree) (e : Tree) → LocalsIn ls → VariablesIn e → VariablesIn (quantify all ls e)
  quantified_in all [] e h k = k
  quantified_in true (l ∷ ls) e h k = (h.0, quantified_in true ls e h.1 k)
  quantified_in false (l ∷ ls) e h k = (h.0, quantified_in false ls e h.1 k)

  -- one of two pieces
  either_in : (b : Bool) (x y : NotedTree) (n : ℕ) → Takes n (unknown_after n (cond b x y)) → (Takes n (unknown_after n x) → EquationsIn x.notes.equations) → (Takes n (unknown_after n y) → EquationsIn y.notes.equations) → EquationsIn (cond b x y).notes.equations
  either_in true x y n f a b = a f
  either_in false x y n f a b = b f

  -- ---- patterns
  constructed_in : (n i : ℕ) (t : Tree) (c : NumberedEntry) (parts : Matched) → VariablesIn t → IsScopedEntry c.symbol → Takes n (n + taken (constructed_by n i t c parts).notes)
      → (Takes n (n + c.symbol.vars) → Takes (n + c.symbol.vars) (n + c.symbol.vars + taken parts.notes) → MatchedIn parts) → MatchedIn (constructed_by n i t c parts)
  constructed_in n i t c parts h s f g =
      let k = c.symbol.vars in
      let own = own_takes n k i parts.notes.takers f in
      let r = g own (past_takes n k i parts.notes.takers f) in
      record {
        tree = (cells_in (type_variables n k) (variables_in n k own), r.tree, h);
        equations = ((result_in n c.symbol s own, h), r.equations);
        variables = r.variables;
      }

  -- the parts of a record
  record PiecesIn (ms : List Matched) : Type 0 where
    trees : AllByRecursion (λ (p : PatternTree). VariablesIn p.tree) (map tree_of_matched ms)
    variables : AllByRecursion (λ (p : PatternTree). LocalsIn p.variables) (map tree_of_matched ms)
    equations : EquationsIn (all_notes ms).equations

  sides_in : (ps : List PatternTree) → AllByRecursion (λ (p : PatternTree). VariablesIn p.tree) ps → VariablesIn (side_by_side_trees ps).tree
  sides_in [] h = tt
  sides_in (p ∷ ps) h = (h.0, sides_in ps h.1)

  wildcards_in : (ts : List Tree) → AllIn ts → AllByRecursion (λ (p : PatternTree). VariablesIn p.tree) (map wildcard_tree ts)
  wildcards_in [] h = tt
  wildcards_in (t ∷ ts) h = (h.0, wildcards_in ts h.1)

  fields_in : (places : List ℕ) (ts : List Tree) (ms : List Matched) → AllIn ts → PiecesIn ms → MatchedIn (fields_piece places ts ms)
  fields_in places ts ms h k = record {
    tree = sides_in (put_at_places places (map tree_of_matched ms) (map wildcard_tree ts)) (put_all (λ (p : PatternTree). VariablesIn p.tree) places (map tree_of_matched ms) (map wildcard_tree ts) k.trees (wildcards_in ts h));
    equations = k.equations;
    variables = fields_all (λ (v : LocalTree). VariablesIn v.type) places ts (map tree_of_matched ms) k.variables;
  }

  -- the values of one
  members_in : (e : Tree) → VariablesIn e → AllIn (members e)
  members_in (Two HCell a b) h = (h.0, members_in b h.1)
  members_in (Leaf k) h = tt
  members_in (One k a) h = tt
  members_in (Two _ a b) h = tt
  members_in (Three k a b c) h = tt

  no_values_in : (n : ℕ) → AllIn (replicate n no_value)
  no_values_in zero = tt
  no_values_in (suc n) = (tt, no_values_in n)

  values_in : (places : List ℕ) (count : ℕ) (e : Tree) → VariablesIn e → VariablesIn (values_placed places count e)
  values_in places count e h = cells_in (put_at_places places (members e) (replicate count no_value)) (put_all VariablesIn places (members e) (replicate count no_value) (members_in e h) (no_values_in count))

  abbrev TreesIn : List Matched → Type 0
  TreesIn ms = AllByRecursion (λ (m : Matched). VariablesIn m.tree) ms

  record LaterIn (ms : List Matched) : Type 0 where
    trees : TreesIn ms
    equations : EquationsIn (all_notes ms).equations

  record AlternativesIn (ms : List Matched) : Type 0 where
    trees : TreesIn ms
    equations : EquationsIn (all_notes ms).equations
    variables : LocalsIn (first_variables ms)

  later_arms_in : (before : List LocalTree) (body : Tree) (ms : List Matched) → VariablesIn body → TreesIn ms → AllIn (later_arms before body ms)
  later_arms_in before body [] h k = tt
  later_arms_in before body (x ∷ xs) h k = ((k.0, reordered_in (places_among (reverse before) (reverse x.variables)) 0 body h), later_arms_in before body xs h k.1)

  arms_in : (body : Tree) (ms : List Matched) → VariablesIn body → TreesIn ms → AllIn (arms body ms)
  arms_in body [] h k = tt
  arms_in body (x ∷ xs) h k = ((k.0, h), later_arms_in x.variables body xs h k.1)

  module _ (w : Where) (sc : IsScoped w) (own : (j : ℕ) → j < length w.vars → P j) where
    form_in : (f : TypeExpression) → form_fault w false f ≡ None → VariablesIn (type_at w f)
    form_in f q = below_in (length w.vars) (type_at w f) own (form_below w sc f q)

    use_in : (ls : List LocalTree) (qs : List Word) (c : Word) → LocalsIn ls → UseIn (use_of_name w ls qs c)
    use_in ls qs c h = of (found_local qs c ls) (found_in qs c ls h)
      where
        of : (x : Option (ℕ × Tree)) → IfSome x (λ (p : ℕ × Tree). VariablesIn p.1) → UseIn (use_or x (Symbol' (entry_of w.symbols (w.names qs c))))
        of None k = symbol_scoped w sc (w.names qs c)
        of (Some p) k = k

    -- ---- binders
    untyped_in : (n : ℕ) (xs : List Word) → Takes n (n + length xs) → LocalsIn (untyped n xs)
    untyped_in n [] f = tt
    untyped_in n (x ∷ xs) f = (f n (omega arith) (omega arith), untyped_in (suc n) xs (λ j a b. f j (omega arith) (omega arith)))

    all_typed : (t : Tree) (xs : List Word) → VariablesIn t → LocalsIn (locals_of_type t xs)
    all_typed t [] h = tt
    all_typed t (x ∷ xs) h = (h, all_typed t xs h)

    binder_in : (n : ℕ) (xs : List Word) (f : Option TypeExpression) → type_fault w false f ≡ None → Takes n (n + binder_vars xs f) → LocalsIn (binder_locals w n xs f)
    binder_in n xs None q f = untyped_in n xs f
    binder_in n xs (Some t) q f = all_typed (type_at w t) xs (form_in t q)

    bound_in : (n : ℕ) (bs : List BoundNames) → binders_fault w false bs ≡ None → Takes n (n + binders_vars bs) → LocalsIn (pieces_of.bound w n bs)
    bound_in n [] q f = tt
    bound_in n (b ∷ bs) q f =
        let p = none_both (type_fault w false b.of_type) (binders_fault w false bs) q in
        let k = binder_vars b.names b.of_type in
        both_all (λ (x : LocalTree). VariablesIn x.type) (binder_locals w n b.names b.of_type) (pieces_of.bound w (n + k) bs)
        (binder_in n b.names b.of_type p.0 (λ j x y. f j x (omega arith))) (bound_in (n + k) bs p.1 (λ j x y. f j (omega arith) (omega arith)))

    -- ---- patterns
    mutual
      pattern_in : (p : Pattern) (before : Option (List LocalTree)) (n : ℕ) (t : Tree) → IfSome before LocalsIn → VariablesIn t → Takes n (n + taken (pattern_piece w before n t p).notes) → MatchedIn (pattern_piece w before n t p)
      pattern_in (wildcard_pattern i) before n t o h f = record { tree = h; equations = tt; variables = tt }
      pattern_in (variable_pattern i x) before n t o h f = record { tree = h; equations = bind_in before x t o h; variables = (h, tt) }
      pattern_in (constructor_pattern i qs x ps) before n t o h f =
          let c = entry_of w.symbols (w.names qs x) in
          let s = symbol_scoped w sc (w.names qs x) in
          constructed_in n i t c (patterns_piece w before (n + c.symbol.vars) (part_types n c) ps) h s f (λ a b. patterns_in ps before (n + c.symbol.vars) (part_types n c) o (args_in n c.symbol s a) b)
      pattern_in (tuple_pattern i ps) before n t o h f =
          let c = entry_of w.symbols (w.tuples (count_patterns ps)) in
          let s = symbol_scoped w sc (w.tuples (count_patterns ps)) in
          constructed_in n i t c (patterns_piece w before (n + c.symbol.vars) (part_types n c) ps) h s f (λ a b. patterns_in ps before (n + c.symbol.vars) (part_types n c) o (args_in n c.symbol s a) b)
      pattern_in (alias_pattern p i x) before n t o h f =
          let inner = pattern_piece w before n t p in
          let r = pattern_in p before n t o h (no_more n inner.notes.takers f) in
          record {
            tree = r.tree;
            equations = both_equations inner.notes.equations (variable_equations before x t) r.equations (bind_in before x t o h);
            variables = both_all (λ (v : LocalTree). VariablesIn v.type) inner.variables (local x t ∷ []) r.variables (h, tt);
          }
      pattern_in (record_pattern i fs ps) before n t o h f =
          let k = record_named w.symbols w.names fs in
          let c = entry_of w.symbols (Some k) in
          let s = symbol_scoped w sc (Some k) in
          let places = field_places w fs in
          let ts = part_types n c in
          let m = n + c.symbol.vars in
          let ms = part_pieces w before m (place_types places ts) ps in
          constructed_in n i t c (fields_piece places ts ms) h s f (λ a b. let own' = args_in n c.symbol s a in fields_in places ts ms own' (parts_in ps before m (place_types places ts) o (places_all VariablesIn tt places ts own') b))

      patterns_in : (ps : Patterns) (before : Option (List LocalTree)) (n : ℕ) (ts : List Tree) → IfSome before LocalsIn → AllIn ts → Takes n (n + taken (patterns_piece w before n ts ps).notes) → MatchedIn (patterns_piece w before n ts ps)
      patterns_in no_patterns before n ts o h f = record { tree = tt; equations = tt; variables = tt }
      patterns_in (more_patterns p ps) before n ts o h f =
          let one = pattern_piece w before n (first_or_int ts) p in
          let i = n + taken one.notes in
          let rest = patterns_piece w before i (rest_of ts) ps in
          let a = pattern_in p before n (first_or_int ts) o (first_in ts h) (front n one.notes.takers rest.notes.takers f) in
          let b = patterns_in ps before i (rest_of ts) o (rest_in ts h) (back n one.notes.takers rest.notes.takers f) in
          record {
            tree = (a.tree, b.tree);
            equations = both_equations one.notes.equations rest.notes.equations a.equations b.equations;
            variables = both_all (λ (v : LocalTree). VariablesIn v.type) one.variables rest.variables a.variables b.variables;
          }

      parts_in : (ps : Patterns) (before : Option (List LocalTree)) (n : ℕ) (ts : List Tree) → IfSome before LocalsIn → AllIn ts → Takes n (n + taken (all_notes (part_pieces w before n ts ps))) → PiecesIn (part_pieces w before n ts ps)
      parts_in no_patterns before n ts o h f = record { trees = tt; variables = tt; equations = tt }
      parts_in (more_patterns p ps) before n ts o h f =
          let one = pattern_piece w before n (first_or_int ts) p in
          let i = n + taken one.notes in
          let rest = all_notes (part_pieces w before i (rest_of ts) ps) in
          let a = pattern_in p before n (first_or_int ts) o (first_in ts h) (front n one.notes.takers rest.takers f) in
          let b = parts_in ps before i (rest_of ts) o (rest_in ts h) (back n one.notes.takers rest.takers f) in
          record { trees = (a.tree, b.trees); variables = (a.variables, b.variables); equations = both_equations one.notes.equations rest.equations a.equations b.equations }

    later_in : (ps : Alternatives) (before : List LocalTree) (n : ℕ) (t : Tree) → LocalsIn before → VariablesIn t → Takes n (n + taken (all_notes (later_pieces w before n t ps))) → LaterIn (later_pieces w before n t ps)
    later_in no_alternatives before n t o h f = record { trees = tt; equations = tt }
    later_in (more_alternatives i p ps) before n t o h f =
        let one = pattern_piece w (Some before) n t p in
        let j = n + taken one.notes in
        let rest = later_pieces w before j t ps in
        let a = pattern_in p (Some before) n t o h (front n one.notes.takers (all_notes rest).takers f) in
        let b = later_in ps before j t o h (back n one.notes.takers (all_notes rest).takers f) in
        record { trees = (a.tree, b.trees); equations = both_equations one.notes.equations (all_notes rest).equations a.equations b.equations }

    alternatives_in : (ps : Alternatives) (n : ℕ) (t : Tree) → VariablesIn t → Takes n (n + taken (all_notes (alternatives_pieces w n t ps))) → AlternativesIn (alternatives_pieces w n t ps)
    alternatives_in no_alternatives n t h f = record { trees = tt; equations = tt; variables = tt }
    alternatives_in (more_alternatives i p ps) n t h f =
        let one = pattern_piece w None n t p in
        let j = n + taken one.notes in
        let rest = later_pieces w one.variables j t ps in
        let a = pattern_in p None n t tt h (front n one.notes.takers (all_notes rest).takers f) in
        let b = later_in ps one.variables j t a.variables h (back n one.notes.takers (all_notes rest).takers f) in
        record { trees = (a.tree, b.trees); equations = both_equations one.notes.equations (all_notes rest).equations a.equations b.equations; variables = a.variables }

    -- ---- terms and formulas
    mutual
      pub owned : (e : Expression) (ls : List LocalTree) (n : ℕ) (t : Option Tree) (ns : List Word) (due : Bool) → LocalsIn ls → IfSome t VariablesIn → fault w false ns due e ≡ None → Takes n (unknown_after n (piece w ls n t e)) → PieceIn (piece w ls n t e)
      owned (applied_expression i qs x es) ls n t ns due h k q f =
          let p = none_both (name_fault w ns due i qs x (count_expressions es)) (faults w false ns es) q in
          let u = use_of_name w ls qs x in
          let z = use_in ls qs x h in
          used_in n t i u (pieces w ls (n + use_vars u) (parameters n u) es) z k f (λ a b. all_owned es ls (n + use_vars u) (parameters n u) ns h (parameters_in n u z a) p.1 b)
      owned (infix_expression i x a b) ls n t ns due h k q f =
          let p = none_both (fault w false ns false a) (first_of (name_fault w ns due i [] x 2) (fault w false ns false b)) q in
          let r = none_both (name_fault w ns due i [] x 2) (fault w false ns false b) p.1 in
          let u = use_of_name w ls [] x in
          let z = use_in ls [] x h in
          let m = n + use_vars u in
          let ts = parameters n u in
          let left = piece w ls m (Some (first_or_int ts)) a in
          let right = piece w ls (unknown_after m left) (Some (first_or_int (rest_of ts))) b in
          let args : NotedTree = record { tree = Two HCell left.tree (Two HCell right.tree (Leaf HEnd)); notes = follow left.notes (follow right.notes no_notes) } in
          used_in n t i u args z k f (λ c d.
          let o = parameters_in n u z c in
          let l = owned a ls m (Some (first_or_int ts)) ns false h (first_in ts o) p.0 (front m left.notes.takers (right.notes.takers ++ []) d) in
          let s = owned b ls (unknown_after m left) (Some (first_or_int (rest_of ts))) ns false h (first_in (rest_of ts) (rest_in ts o)) r.1 (no_more (unknown_after m left) right.notes.takers (back m left.notes.takers (right.notes.takers ++ []) d)) in
          record {
            tree = (l.tree, (s.tree, tt));
            equations = both_equations left.notes.equations (right.notes.equations ++ []) l.equations (both_equations right.notes.equations [] s.equations tt);
          })
      owned (integer_expression i z) ls n t ns due h k q f = record { tree = tt; equations = both_equations (wanting _ t) [] (wanting_in _ t tt k) tt }
      owned (true_expression i) ls n t ns due h k q f = record { tree = tt; equations = tt }
      owned (false_expression i) ls n t ns due h k q f = record { tree = tt; equations = tt }
      owned (tuple_expression i es) ls n t ns due h k q f =
          let p = none_both (fault_if due (WrongKind i)) (faults w false ns es) q in
          let u = tuple_use w (count_expressions es) in
          let z = symbol_scoped w sc (w.tuples (count_expressions es)) in
          used_in n t i u (pieces w ls (n + use_vars u) (parameters n u) es) z k f (λ a b. all_owned es ls (n + use_vars u) (parameters n u) ns h (parameters_in n u z a) p.1 b)
      owned (cast_expression i e ty) ls n t ns due h k q f =
          let p = none_both (fault_if due (WrongKind i)) (first_of (fault w false ns false e) (form_fault w false ty)) q in
          let r = none_both (fault w false ns false e) (form_fault w false ty) p.1 in
          let o = form_in ty r.1 in
          let x = owned e ls n (Some (type_at w ty)) ns false h o r.0 f in
          record { tree = x.tree; equations = both_equations (wanting (type_at w ty) t) (piece w ls n (Some (type_at w ty)) e).notes.equations (wanting_in (type_at w ty) t o k) x.equations }
      owned (field_expression i e c qs x) ls n t ns due h k q f =
          let p = none_both (fault w false ns false e) (field_fault w due c (w.names qs x)) q in
          let u = field_use w qs x in
          let z = symbol_scoped w sc (w.names qs x) in
          let m = n + use_vars u in
          let ts = parameters n u in
          let inner = piece w ls m (Some (first_or_int ts)) e in
          let args : NotedTree = record { tree = Two HCell inner.tree (Leaf HEnd); notes = follow inner.notes no_notes } in
          used_in n t i u args z k f (λ a b.
          let r = owned e ls m (Some (first_or_int ts)) ns false h (first_in ts (parameters_in n u z a)) p.0 (no_more m inner.notes.takers b) in
          record { tree = (r.tree, tt); equations = both_equations inner.notes.equations [] r.equations tt })
      owned (record_expression i fs es) ls n t ns due h k q f =
          let p = none_both (fault_if due (WrongKind i)) (first_of (record_fault w true i (count_expressions es) fs) (faults w false ns es)) q in
          let r = none_both (record_fault w true i (count_expressions es) fs) (faults w false ns es) p.1 in
          let u = record_use w fs in
          let z = symbol_scoped w sc (Some (record_named w.symbols w.names fs)) in
          let m = n + use_vars u in
          let places = field_places w fs in
          let ts = parameters n u in
          let all = pieces w ls m (place_types places ts) es in
          used_in n t i u (piece_under (values_placed places (length ts)) all) z k f (λ a b.
          let y = all_owned es ls m (place_types places ts) ns h (places_all VariablesIn tt places ts (parameters_in n u z a)) r.1 b in
          record { tree = values_in places (length ts) all.tree y.tree; equations = y.equations })
      owned (not_expression i e) ls n t ns due h k q f =
          let p = none_both (fault_if (not due) (WrongKind i)) (fault w false ns true e) q in
          let x = owned e ls n None ns true h tt p.1 f in
          record { tree = x.tree; equations = x.equations }
      owned (connected_expression i a op b) ls n t ns due h k q f =
          let p = none_both (fault w false ns true a) (first_of (fault_if (not due) (WrongKind i)) (fault w false ns true b)) q in
          let r = none_both (fault_if (not due) (WrongKind i)) (fault w false ns true b) p.1 in
          let x = piece w ls n None a in
          let y = piece w ls (unknown_after n x) None b in
          let c = owned a ls n None ns true h tt p.0 (front n x.notes.takers y.notes.takers f) in
          let d = owned b ls (unknown_after n x) None ns true h tt r.1 (back n x.notes.takers y.notes.takers f) in
          record { tree = (c.tree, d.tree); equations = both_equations x.notes.equations y.notes.equations c.equations d.equations }
      owned (equality_expression i same a b) ls n t ns due h k q f =
          let p = none_both (fault w false ns false a) (first_of (fault_if (not due) (WrongKind i)) (fault w false ns false b)) q in
          let r = none_both (fault_if (not due) (WrongKind i)) (fault w false ns false b) p.1 in
          let x = piece w ls (n + 1) (Some (unknown n)) a in
          let y = piece w ls (unknown_after (n + 1) x) (Some (unknown n)) b in
          let o : P n = first n i (x.notes.takers ++ y.notes.takers) f in
          let g = others n i (x.notes.takers ++ y.notes.takers) f in
          let c = owned a ls (n + 1) (Some (unknown n)) ns false h o p.0 (front (n + 1) x.notes.takers y.notes.takers g) in
          let d = owned b ls (unknown_after (n + 1) x) (Some (unknown n)) ns false h o r.1 (back (n + 1) x.notes.takers y.notes.takers g) in
          record { tree = equality_in same x.tree y.tree (c.tree, d.tree); equations = both_equations x.notes.equations y.notes.equations c.equations d.equations }
      owned (if_expression i c a b) ls n t ns due h k q f =
          let p = none_both (fault w false ns true c) (first_of (fault w false ns due a) (fault w false ns due b)) q in
          let r = none_both (fault w false ns due a) (fault w false ns due b) p.1 in
          let x = piece w ls n None c in
          let y = piece w ls (unknown_after n x) t a in
          let z = piece w ls (unknown_after (unknown_after n x) y) t b in
          let g = back n x.notes.takers (y.notes.takers ++ z.notes.takers) f in
          let d = owned c ls n None ns true h tt p.0 (front n x.notes.takers (y.notes.takers ++ z.notes.takers) f) in
          let e = owned a ls (unknown_after n x) t ns due h k r.0 (front (unknown_after n x) y.notes.takers z.notes.takers g) in
          let s = owned b ls (unknown_after (unknown_after n x) y) t ns due h k r.1 (back (unknown_after n x) y.notes.takers z.notes.takers g) in
          record {
            tree = (d.tree, e.tree, s.tree);
            equations = both_equations x.notes.equations (y.notes.equations ++ z.notes.equations) d.equations (both_equations y.notes.equations z.notes.equations e.equations s.equations);
          }
      owned (let_expression i v a b) ls n t ns due h k q f =
          let p = none_both (fault w false ns false a) (fault w false (v ∷ ns) due b) q in
          let x = piece w ls (n + 1) (Some (unknown n)) a in
          let inside = local v (unknown n) ∷ ls in
          let y = piece w inside (unknown_after (n + 1) x) t b in
          let o : P n = first n i (x.notes.takers ++ y.notes.takers) f in
          let g = others n i (x.notes.takers ++ y.notes.takers) f in
          let c = owned a ls (n + 1) (Some (unknown n)) ns false h o p.0 (front (n + 1) x.notes.takers y.notes.takers g) in
          let d = owned b inside (unknown_after (n + 1) x) t (v ∷ ns) due (o, h) k p.1 (back (n + 1) x.notes.takers y.notes.takers g) in
          record { tree = (c.tree, d.tree); equations = both_equations x.notes.equations y.notes.equations c.equations d.equations }
      owned (match_expression i is_let e bs) ls n t ns due h k q f =
          let p = in_cases w ns due i is_let e bs q in
          let x = piece w ls (n + 1) (Some (unknown n)) e in
          let r = branches_arms w ls (unknown_after (n + 1) x) (unknown n) t bs in
          let o : P n = first n i (x.notes.takers ++ r.notes.takers) f in
          let g = others n i (x.notes.takers ++ r.notes.takers) f in
          let a = owned e ls (n + 1) (Some (unknown n)) ns false h o p.0 (front (n + 1) x.notes.takers r.notes.takers g) in
          let b = branches_owned bs ls (unknown_after (n + 1) x) (unknown n) t ns due h o k p.2 (back (n + 1) x.notes.takers r.notes.takers g) in
          record { tree = (a.tree, cells_in r.trees b.trees); equations = both_equations x.notes.equations r.notes.equations a.equations b.equations }
      owned (quantified_expression i all bs gs b) ls n t ns due h k q f =
          let within = reverse (bound_names bs) ++ ns in
          let p = none_both (fault_if (not due) (WrongKind i)) (first_of (binders_fault w false bs) (first_of (triggers_fault w false within gs) (fault w false within true b))) q in
          let r = none_both (binders_fault w false bs) (first_of (triggers_fault w false within gs) (fault w false within true b)) p.1 in
          let s = none_both (triggers_fault w false within gs) (fault w false within true b) r.1 in
          let j = binders_vars bs in
          let vs = pieces_of.bound w n bs in
          let inside = reverse vs ++ ls in
          let g = triggers_notes w inside (n + j) gs in
          let z = n + j + taken g in
          let y = piece w inside z None b in
          let bound' = bound_in n bs r.0 (own_takes n j i (g.takers ++ y.notes.takers) f) in
          let h' = inside_in vs ls bound' h in
          let rest = past_takes n j i (g.takers ++ y.notes.takers) f in
          let c = triggers_owned gs inside (n + j) within h' s.0 (front (n + j) g.takers y.notes.takers rest) in
          let d = owned b inside z None within true h' tt s.1 (back (n + j) g.takers y.notes.takers rest) in
          record { tree = quantified_in all vs y.tree bound' d.tree; equations = both_equations g.equations y.notes.equations c d.equations }

      all_owned : (es : Expressions) (ls : List LocalTree) (n : ℕ) (ts : List Tree) (ns : List Word) → LocalsIn ls → AllIn ts → faults w false ns es ≡ None → Takes n (unknown_after n (pieces w ls n ts es)) → PieceIn (pieces w ls n ts es)
      all_owned no_expressions ls n ts ns h k q f = record { tree = tt; equations = tt }
      all_owned (more_expressions e es) ls n ts ns h k q f =
          let p = none_both (fault w false ns false e) (faults w false ns es) q in
          let x = piece w ls n (Some (first_or_int ts)) e in
          let y = pieces w ls (unknown_after n x) (rest_of ts) es in
          let a = owned e ls n (Some (first_or_int ts)) ns false h (first_in ts k) p.0 (front n x.notes.takers y.notes.takers f) in
          let b = all_owned es ls (unknown_after n x) (rest_of ts) ns h (rest_in ts k) p.1 (back n x.notes.takers y.notes.takers f) in
          record { tree = (a.tree, b.tree); equations = both_equations x.notes.equations y.notes.equations a.equations b.equations }

      triggers_owned : (gs : Expressions) (ls : List LocalTree) (n : ℕ) (ns : List Word) → LocalsIn ls → triggers_fault w false ns gs ≡ None → Takes n (n + taken (triggers_notes w ls n gs)) → EquationsIn (triggers_notes w ls n gs).equations
      triggers_owned no_expressions ls n ns h q f = tt
      triggers_owned (more_expressions e es) ls n ns h q f =
          let due = is_formula_trigger w ns e in
          let p = none_both (fault w false ns due e) (triggers_fault w false ns es) q in
          let b = is_formula_trigger w (names ls) e in
          let x = piece w ls n None e in
          let z = piece w ls (n + 1) (Some (unknown n)) e in
          let y = noted_before (noted [] (token e ∷ [])) z in
          let one = cond b x y in
          let rest = triggers_notes w ls (unknown_after n one) es in
          both_equations one.notes.equations rest.equations
          (either_in b x y n (front n one.notes.takers rest.takers f) (λ g. (owned e ls n None ns due h tt p.0 g).equations)
          (λ g. (owned e ls (n + 1) (Some (unknown n)) ns due h (first n (token e) z.notes.takers g) p.0 (others n (token e) z.notes.takers g)).equations))
          (triggers_owned es ls (unknown_after n one) ns h p.1 (back n one.notes.takers rest.takers f))

      branches_owned : (bs : MatchBranches) (ls : List LocalTree) (n : ℕ) (subject : Tree) (t : Option Tree) (ns : List Word) (due : Bool) → LocalsIn ls → VariablesIn subject → IfSome t VariablesIn → branches_fault w false ns due bs ≡ None
          → Takes n (n + taken (branches_arms w ls n subject t bs).notes) → ArmsIn (branches_arms w ls n subject t bs)
      branches_owned no_branches ls n subject t ns due h s k q f = record { trees = tt; equations = tt }
      branches_owned (more_branches ps b bs) ls n subject t ns due h s k q f =
          let within = reverse (alternatives_names ps) ++ ns in
          let p = none_both (alternatives_fault w ps) (first_of (fault w false within due b) (branches_fault w false ns due bs)) q in
          let r = none_both (fault w false within due b) (branches_fault w false ns due bs) p.1 in
          let ms = alternatives_pieces w n subject ps in
          let j = n + taken (all_notes ms) in
          let vs = first_variables ms in
          let inside = reverse vs ++ ls in
          let y = piece w inside j t b in
          let one = (all_notes ms).takers ++ y.notes.takers in
          let rest = branches_arms w ls (unknown_after j y) subject t bs in
          let g = front n one rest.notes.takers f in
          let l : n + length one ≡ unknown_after j y = omega (arith, length-append (all_notes ms).takers y.notes.takers) in
          let a = alternatives_in ps n subject s (front n (all_notes ms).takers y.notes.takers g) in
          let c = owned b inside j t within due (inside_in vs ls a.variables h) k r.0 (back n (all_notes ms).takers y.notes.takers g) in
          let d = branches_owned bs ls (unknown_after j y) subject t ns due h s k r.1 (λ i u v. back n one rest.notes.takers f i (omega arith) (omega arith)) in
          record {
            trees = both_all VariablesIn (arms y.tree ms) rest.trees (arms_in y.tree ms c.tree a.trees) d.trees;
            equations = both_equations ((all_notes ms).equations ++ y.notes.equations) rest.notes.equations (both_equations (all_notes ms).equations y.notes.equations a.equations c.equations) d.equations;
          }
