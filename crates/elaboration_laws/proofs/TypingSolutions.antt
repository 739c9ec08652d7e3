-- Each typing of an expression is its piece at a solution of its type equations.
use Rattle.std.proofs.Common.{◌≡◌, ℕ, ◌+◌, ◌-◌, ◌<◌, ◌≤◌, zero, suc, Bool, true, false, not, cond, List, [], ◌∷◌, ◌++◌, map, reverse, replicate, length, get_or, Option, Some, None, IfSome, option_map, refl, sym, ap, subst, ◌∙◌, inl, arith, append-nil, length-append}
use Rattle.std.specs.Option.{is_some, is_none}
use Rattle.std.specs.Str.{bytes_eq}
use Rattle.std.specs.List.{AllByRecursion}
use Rattle.std.proofs.lemmas.List.{map-append}
use Rattle.std.proofs.Math.ListN.{length-map}
use Rattle.std.proofs.lemmas.List.Elements.{recursion_from_All}
use mathlib.Core.List.{reverse-cons}
use Rattle.elab_groups.specs.trees.Tree.{Tree, Leaf, One, Two, Three, Head, HTyVar, HEnd, HCell, HBound, HNot, HJoin, HLet, HForall, HExists, HPatAlias}
use Rattle.elab_groups.specs.trees.Sorts.{int_type}
use Rattle.elab_groups.specs.trees.Binding.{inst_types}
use Rattle.elab_groups.specs.trees.Facts.{TyVarsBelow, leaf_below}
use Rattle.elab_groups.specs.tasks.Task.{SymbolTree}
use Rattle.elab_groups.specs.tasks.Equations.{cells, type_variables}
use Rattle.elab_groups.specs.open_types.unify_types.Assigned.{assign, leaf_assigned}
use Rattle.elab_groups.specs.open_types.unify_types.Pairs.{IsKind, SolvesAll}
use Rattle.elab_groups.proofs.open_types.unify_types.Assigning.{assign-unknown, assign-rigid}
use Rattle.elab_groups.specs.surface.Lexeme.{Word}
use Rattle.elab_groups.specs.name_resolution.Abstract.{TypeExpression, Pattern, Patterns, wildcard_pattern, variable_pattern, constructor_pattern, tuple_pattern, alias_pattern, record_pattern, no_patterns, more_patterns, Alternatives, no_alternatives, more_alternatives, BoundNames, Expression, Expressions, MatchBranches, applied_expression, infix_expression, integer_expression, true_expression, false_expression, tuple_expression, cast_expression, field_expression, record_expression, not_expression, connected_expression, equality_expression, if_expression, let_expression, match_expression, quantified_expression, no_expressions, more_expressions, no_branches, more_branches, count_patterns, count_expressions}
use Rattle.elab_groups.specs.name_resolution.Faults.{first_of, fault_if, name_fault, field_fault, constructor_fault, record_fault, pattern_names, pattern_fault, patterns_fault, same_names, later_fault, alternatives_fault, form_fault, type_fault, binders_fault, bound_names, is_formula_trigger, token, fault, faults, triggers_fault, branches_fault, alternatives_names}
use Rattle.elab_groups.specs.name_resolution.declared.NamingFault.TheVariants.{WrongKind, Duplicate}
use Rattle.elab_groups.specs.name_resolution.Records.{record_named}
use Rattle.elab_groups.specs.name_resolution.Where.{Where, place_of}
use Rattle.elab_groups.specs.open_types.Patterns.{pattern_tree, Notes, noted, no_notes, follow, taken, LocalTree, local, at_unknowns, result_or_int, first_or_int, rest_of, NumberedEntry, entry_of, Matched, part_types, place_types, tree_of_matched, fields_tree, fields_piece, part_pieces, constructed_by, local_type, variable_equations, pattern_piece, patterns_piece, later_pieces, alternatives_pieces, all_notes, first_variables, place_among, places_among, reordered, later_arms, arms}
use Rattle.elab_groups.specs.open_types.Pieces.{type_at, NotedTree, unknown_after, unknown, wanting, noted_before, both_pieces, bare_piece, piece, pieces, triggers_notes, branches_arms, Arms, Use, Local', Symbol', variable_named, found_local, use_or, use_of_name, field_use, tuple_use, record_use, field_places, values_placed, piece_under, used_piece, local_piece, use_vars, parameters, symbol_at_types, equality, binder_locals, binder_vars, binders_vars, bound, untyped, locals_of_type, quantify, names}
use Rattle.elab_groups.specs.open_types.Scoped.{IsScoped, IsScopedEntry}
use Rattle.elaboration_laws.specs.Typings.{IsDueResult, Choice, choices_at, tokens, Both, Choosing, SymbolUsed, IsUseTyping, IsSingle, pair_cells, IsPair, ValuesPlaced, PatternTree, Constructed, PartsPlaced, IsPatternTyping, ArePatternTypings, AreFieldTypings, AgreeWith, AreLaterTypings, AreAlternativeTypings, first_bound, arms_after, arms_of_patterns, IsBinderTyping, AreBinderTypings, IsTriggerTyping, if_tree, case_tree, IsTyping, AreTypings, AreTriggerTypings, AreBranchTypings, IsPieceAt, HasOwnTypes}
use Rattle.elab_groups.specs.Groups.{typed_locals}
use Rattle.elab_groups.proofs.open_types.Below.{below_more, form_below, symbol_scoped}
use Rattle.elab_groups.proofs.open_types.Noting.{count_replicate, replicate_both}
use Rattle.elab_groups.proofs.open_types.Walking.{none_both, in_cast, in_negation, in_joined, in_equated, in_choice, in_binding, in_tuple, in_record}
use Rattle.elab_groups.proofs.open_types.Branching.{in_cases, in_branches, in_alternatives}
use Rattle.elab_groups.proofs.open_types.Quantified.{in_quantified}
use Rattle.elaboration_laws.proofs.Instances.{inst_assigned, cells_assigned}
use Rattle.elaboration_laws.proofs.Ordered.{order_at}
use Rattle.elab_groups.proofs.name_resolution.Fielded.{AreNewPlaces, is_fielded}
use Rattle.elaboration_laws.proofs.Placing.{new_among, fields_long, places_long, types_at, fields_back, pieces_cells, values_at, tree_assigned, fields_assigned}
use Rattle.elaboration_laws.proofs.Reordering as order
pub use Rattle.elaboration_laws.proofs.Bodies.{both_solved as solves_both}
pub use Rattle.theory_states.proofs.goal_tasks.TuplesMade.{variables_count as count_variables}
pub use Rattle.elab_groups.proofs.plain_laws.Options.{same_some as some_same}

-- ---- lists
pub tokens_both : (cs ds : List Choice) → tokens (cs ++ ds) ≡ tokens cs ++ tokens ds
tokens_both cs ds = map-append (λ (c : Choice). c.token) cs ds

tokens_at : (i : ℕ) (ts : List Tree) → tokens (choices_at i ts) ≡ replicate (length ts) i
tokens_at i [] = refl
tokens_at i (t ∷ ts) = ap (λ (xs : List ℕ). i ∷ xs) (tokens_at i ts)

pub count_tokens : (xs : List ℕ) (cs : List Choice) → xs ≡ tokens cs → length xs ≡ length cs
count_tokens xs cs e = ap length e ∙ length-map cs (λ (c : Choice). c.token)

count_choices : (i : ℕ) (ts : List Tree) → length (choices_at i ts) ≡ length ts
count_choices i ts = length-map ts (λ (t : Tree). record { token = i; type = t })

module _ (w : Where) (sc : IsScoped w) (r : ℕ) (own : length w.vars ≤ r) (f : ℕ → Tree) (kinds : (j : ℕ) → IsKind (f j)) where
  abbrev pub at : Tree → Tree
  at e = assign r f e

  abbrev pub at_local : LocalTree → LocalTree
  at_local l = local l.name (at l.type)

  abbrev pub at_locals : List LocalTree → List LocalTree
  at_locals ls = map at_local ls

  -- ---- what has no unknowns
  own_leaf : (h : Head) → leaf_below h r → leaf_assigned r f h ≡ Leaf h
  own_leaf (HTyVar j) l = assign-rigid r f j l
  own_leaf _ l = refl

  pub own_at : (e : Tree) → TyVarsBelow r e → at e ≡ e
  own_at (Leaf h) l = own_leaf h l
  own_at (One h a) l = ap (One h) (own_at a l)
  own_at (Two h a b) l = cc (own_at a l.0, own_at b l.1)
  own_at (Three h a b c) l = cc (own_at a l.0, own_at b l.1, own_at c l.2)

  pub locals_own : (ls : List LocalTree) → AllByRecursion (λ (l : LocalTree). TyVarsBelow r l.type) ls → ls ≡ at_locals ls
  locals_own [] h = refl
  locals_own (l ∷ ls) h = ap (λ (z : Tree). local l.name z ∷ ls) (sym (own_at l.type h.0)) ∙ ap (λ (vs : List LocalTree). at_local l ∷ vs) (locals_own ls h.1)

  pub wanted_own : (t : Option Tree) → IfSome t (TyVarsBelow r) → t ≡ option_map at t
  wanted_own None h = refl
  wanted_own (Some t) h = ap (λ (z : Tree). Some z) (sym (own_at t h))

  -- ---- the values of unknowns in order
  abbrev pub Meets : ℕ → List Choice → Type 0
  Meets n [] = Unit {0}
  Meets n (c ∷ cs) = (f n ≡ c.type) × Meets (n + 1) cs

  meets_from : (n m : ℕ) (cs : List Choice) → n ≡ m → Meets n cs → Meets m cs
  meets_from n m cs e h = subst (λ (k : ℕ). Meets k cs) e h

  meets_both : (n : ℕ) (cs ds : List Choice) → Meets n (cs ++ ds) → Meets n cs × Meets (n + length cs) ds
  meets_both n [] ds h = (tt, meets_from n (n + 0) ds (omega arith) h)
  meets_both n (c ∷ cs) ds h = let k = meets_both (n + 1) cs ds h.1 in ((h.0, k.0), meets_from (n + 1 + length cs) (n + length (c ∷ cs)) ds (omega arith) k.1)

  -- in two parts, the second after what the first one takes
  meets_parts : (n : ℕ) (cs ds es : List Choice) (xs : List ℕ) → cs ≡ ds ++ es → Meets n cs → (Meets n ds → xs ≡ tokens ds) → Meets n ds × Meets (n + length xs) es
  meets_parts n cs ds es xs e h g =
      let k = meets_both n ds es (subst (Meets n) e h) in
      (k.0, meets_from (n + length ds) (n + length xs) es (omega (arith, count_tokens xs ds (g k.0))) k.1)

  pub record At (p : NotedTree) (e : Tree) (cs : List Choice) : Type 0 where
    pub solves : SolvesAll r f p.notes.equations
    pub tree : at p.tree ≡ e
    pub takers : p.notes.takers ≡ tokens cs

  record NotesAt (ns : Notes) (cs : List Choice) : Type 0 where
    solves : SolvesAll r f ns.equations
    takers : ns.takers ≡ tokens cs

  notes_of : (p : NotedTree) (e : Tree) (cs : List Choice) → At p e cs → NotesAt p.notes cs
  notes_of p e cs a = record { solves = a.solves; takers = a.takers }

  follow_at : (a b : Notes) (cs ds es : List Choice) → es ≡ cs ++ ds → NotesAt a cs → NotesAt b ds → NotesAt (follow a b) es
  follow_at a b cs ds es e x y = record {
    solves = solves_both r f a.equations b.equations x.solves y.solves;
    takers = cc (x.takers, y.takers, e, tokens_both cs ds);
  }

  noted_at : (es : List (Tree × Tree)) (ts : List ℕ) (cs : List Choice) → SolvesAll r f es → ts ≡ tokens cs → NotesAt (noted es ts) cs
  noted_at es ts cs s e = record { solves = s; takers = e }

  with_tree : (p : NotedTree) (e : Tree) (cs : List Choice) → NotesAt p.notes cs → at p.tree ≡ e → At p e cs
  with_tree p e cs n q = record { solves = n.solves; tree = q; takers = n.takers }

  nothing_at : (cs : List Choice) → cs ≡ [] → NotesAt no_notes cs
  nothing_at cs e = record { solves = tt; takers = ap tokens (sym e) }

  -- ---- two parts
  both_at : {P Q : Tree → List Choice → Type 0} (make : Tree → Tree → Tree) (n : ℕ) (p q : NotedTree) (e : Tree) (cs : List Choice) → ((a b : Tree) → at (make a b) ≡ make (at a) (at b)) → Both P Q make e cs → Meets n cs
      → ((y : Tree) (c : List Choice) → P y c → Meets n c → At p y c) → ((y : Tree) (c : List Choice) → Q y c → Meets (unknown_after n p) c → At q y c) → At (both_pieces make p q) e cs
  both_at make n p q e cs same d m g h =
      let ms = meets_both n d.first_chosen d.second_chosen (subst (Meets n) d.chosen m) in
      let x = g d.first d.first_chosen d.first_is ms.0 in
      let y = h d.second d.second_chosen d.second_is (meets_from (n + length d.first_chosen) (unknown_after n p) d.second_chosen (omega (arith, count_tokens p.notes.takers d.first_chosen x.takers)) ms.1) in
      with_tree (both_pieces make p q) e cs (follow_at p.notes q.notes d.first_chosen d.second_chosen cs d.chosen (notes_of p d.first d.first_chosen x) (notes_of q d.second d.second_chosen y))
      (same p.tree q.tree ∙ cc (x.tree, y.tree, d.made))

  -- after the choice of a type for the next unknown
  record Chosen {A : Type 0} (n i : ℕ) (Rest : Tree → A → List Choice → Type 0) (it : A) (cs : List Choice) : Type 0 where
    more : List Choice
    rest : Rest (at (unknown n)) it more
    meets : Meets (n + 1) more
    tokens_are : i ∷ tokens more ≡ tokens cs

  chosen_at : {A : Type 0} (n i : ℕ) (Rest : Tree → A → List Choice → Type 0) (it : A) (cs : List Choice) → r ≤ n → Choosing i Rest it cs → Meets n cs → Chosen n i Rest it cs
  chosen_at n i Rest it cs l d m =
      let k : Meets n (record { token = i; type = d.type } ∷ d.more) = subst (Meets n) d.chosen m in
      let e : at (unknown n) ≡ d.type = assign-unknown r f n l ∙ k.0 in
      record { more = d.more; rest = subst (λ (x : Tree). Rest x it d.more) (sym e) d.rest; meets = k.1; tokens_are = sym (ap tokens d.chosen) }

  -- ---- variables
  at_place : ℕ × Tree → ℕ × Tree
  at_place p = (p.0, at p.1)

  variable_same : (x : Word) (ls : List LocalTree) → variable_named x (at_locals ls) ≡ option_map (λ (p : ℕ × Tree). (p.0, at p.1)) (variable_named x ls)
  variable_same x [] = refl
  variable_same x (l ∷ ls) = of (bytes_eq l.name x) (variable_named x (at_locals ls)) (variable_named x ls) (variable_same x ls)
    where
      of : (b : Bool) (u v : Option (ℕ × Tree)) → u ≡ option_map (λ (p : ℕ × Tree). (p.0, at p.1)) v
          → cond {A = Option (ℕ × Tree)} b (Some (0, at l.type)) (option_map (λ (p : ℕ × Tree). (suc p.0, p.1)) u) ≡ option_map (λ (p : ℕ × Tree). (p.0, at p.1)) (cond {A = Option (ℕ × Tree)} b (Some (0, l.type)) (option_map (λ (p : ℕ × Tree). (suc p.0, p.1)) v))
      of true u v h = refl
      of false u None h = ap (option_map (λ (p : ℕ × Tree). (suc p.0, p.1))) h
      of false u (Some p) h = ap (option_map (λ (q : ℕ × Tree). (suc q.0, q.1))) h

  abbrev pub at_use : Use → Use
  at_use (Local' i ty) = Local' i (at ty)
  at_use (Symbol' e) = Symbol' e

  pub use_same : (ls : List LocalTree) (qs : List Word) (x : Word) → use_of_name w (at_locals ls) qs x ≡ at_use (use_of_name w ls qs x)
  use_same ls [] x = of (variable_named x (at_locals ls)) (variable_named x ls) (variable_same x ls)
    where
      of : (u v : Option (ℕ × Tree)) → u ≡ option_map (λ (p : ℕ × Tree). (p.0, at p.1)) v → use_or u (Symbol' (entry_of w.symbols (w.names [] x))) ≡ at_use (use_or v (Symbol' (entry_of w.symbols (w.names [] x))))
      of u None h = ap (λ (z : Option (ℕ × Tree)). use_or z (Symbol' (entry_of w.symbols (w.names [] x)))) h
      of u (Some p) h = ap (λ (z : Option (ℕ × Tree)). use_or z (Symbol' (entry_of w.symbols (w.names [] x)))) h
  use_same ls (q ∷ qs) x = refl

  pub names_at : (ls : List LocalTree) → names (at_locals ls) ≡ names ls
  names_at [] = refl
  names_at (l ∷ ls) = ap (λ (xs : List Word). l.name ∷ xs) (names_at ls)

  reverse_at : (ls : List LocalTree) → at_locals (reverse ls) ≡ reverse (at_locals ls)
  reverse_at [] = refl
  reverse_at (l ∷ ls) = rw (reverse-cons l ls, reverse-cons (at_local l) (at_locals ls)) (map-append at_local (reverse ls) (l ∷ []) ∙ ap (λ (xs : List LocalTree). xs ++ at_local l ∷ []) (reverse_at ls))

  pub inside_at : (vs ls : List LocalTree) → at_locals (reverse vs ++ ls) ≡ reverse (at_locals vs) ++ at_locals ls
  inside_at vs ls = map-append at_local (reverse vs) ls ∙ ap (λ (xs : List LocalTree). xs ++ at_locals ls) (reverse_at vs)

  pub type_same : (x : Word) (ls : List LocalTree) → local_type x (at_locals ls) ≡ at (local_type x ls)
  type_same x [] = refl
  type_same x (l ∷ ls) = of (bytes_eq l.name x) (local_type x (at_locals ls)) (local_type x ls) (type_same x ls)
    where
      of : (b : Bool) (u v : Tree) → u ≡ at v → cond b (at l.type) u ≡ at (cond b l.type v)
      of true u v h = refl
      of false u v h = h

  abbrev pub UseScoped : Use → Type 0
  UseScoped (Local' i ty) = Unit {0}
  UseScoped (Symbol' e) = IsScopedEntry e.symbol

  pub use_scoped : (ls : List LocalTree) (qs : List Word) (x : Word) → UseScoped (use_of_name w ls qs x)
  use_scoped ls qs x = of (found_local qs x ls)
    where
      of : (v : Option (ℕ × Tree)) → UseScoped (use_or v (Symbol' (entry_of w.symbols (w.names qs x))))
      of None = symbol_scoped w sc (w.names qs x)
      of (Some p) = tt

  -- ---- an entry at types
  variables_at : (n k i : ℕ) (ts : List Tree) → r ≤ n → length ts ≡ k → Meets n (choices_at i ts) → map at (type_variables n k) ≡ ts
  variables_at n zero i [] l e m = refl
  variables_at n zero i (t ∷ ts) l e m = absurd (omega (arith, e))
  variables_at n (suc k) i [] l e m = absurd (omega (arith, e))
  variables_at n (suc k) i (t ∷ ts) l e m = cc (assign-unknown r f n l, m.0, variables_at (n + 1) k i ts (omega arith) (omega (arith, e)) m.1)

  pub one_at : (n : ℕ) (e : SymbolTree) (ts : List Tree) → map at (type_variables n e.vars) ≡ ts → (a : Tree) → TyVarsBelow e.vars a → at (at_unknowns n e a) ≡ inst_types a ts
  one_at n e ts q a h = inst_assigned r f (type_variables n e.vars) a (subst (λ (k : ℕ). TyVarsBelow k a) (sym (count_variables n e.vars)) h) ∙ ap (inst_types a) q

  pub parameters_at : (n : ℕ) (e : SymbolTree) (ts : List Tree) → map at (type_variables n e.vars) ≡ ts → (as' : List Tree) → AllByRecursion (TyVarsBelow e.vars) as' → map (λ (a : Tree). inst_types a ts) as' ≡ map at (map (at_unknowns n e) as')
  parameters_at n e ts q [] h = refl
  parameters_at n e ts q (a ∷ as') h = cc (one_at n e ts q a h.0, parameters_at n e ts q as' h.1)

  result_at : (n : ℕ) (e : SymbolTree) (ts : List Tree) (t : Tree) → map at (type_variables n e.vars) ≡ ts → IsScopedEntry e → option_map (λ (x : Tree). inst_types x ts) e.result ≡ Some (at t) → at (at_unknowns n e (result_or_int e.result)) ≡ at t
  result_at n e ts t q s h = of e.result s.result h
    where
      of : (x : Option Tree) → IfSome x (TyVarsBelow e.vars) → option_map (λ (y : Tree). inst_types y ts) x ≡ Some (at t) → at (at_unknowns n e (result_or_int x)) ≡ at t
      of None k g = absurd (cc (g))
      of (Some x) k g = one_at n e ts q x k ∙ some_same (inst_types x ts) (at t) g

  wanting_at : (n : ℕ) (e : SymbolTree) (ts : List Tree) (t : Option Tree) → map at (type_variables n e.vars) ≡ ts → IsScopedEntry e → IsDueResult e ts (option_map at t)
      → SolvesAll r f (wanting (at_unknowns n e (result_or_int e.result)) t)
  wanting_at n e ts None q s h = tt
  wanting_at n e ts (Some t) q s h = (result_at n e ts t q s h.1, tt)

  pub types_tree : (k : ℕ) (us ts : List Tree) (t : Option Tree) (a b : Tree) → map at us ≡ ts → at a ≡ b → at (symbol_at_types k us t a) ≡ symbol_at_types k ts (option_map at t) b
  types_tree k us ts None a b q h = cc (cells_assigned r f us, q, h)
  types_tree k us ts (Some t) a b q h = cc (cells_assigned r f us, q, h)

  symbol_at : (n i : ℕ) (t : Option Tree) (u : NumberedEntry) (Args : List Tree → Tree → List Choice → Type 0) (p : NotedTree) (e : Tree) (cs : List Choice) → r ≤ n → IsScopedEntry u.symbol → SymbolUsed u i Args (option_map at t) e cs → Meets n cs
      → ((a : Tree) (c : List Choice) → Args (map at (map (at_unknowns n u.symbol) u.symbol.args)) a c → Meets (n + u.symbol.vars) c → At p a c) → At (used_piece n t i (Symbol' u) p) e cs
  symbol_at n i t u Args p e cs l s d m g =
      let ms = meets_both n (choices_at i d.types) d.more (subst (Meets n) d.chosen m) in
      let q : map at (type_variables n u.symbol.vars) ≡ d.types = variables_at n u.symbol.vars i d.types l d.count ms.0 in
      let ps : map (λ (a : Tree). inst_types a d.types) u.symbol.args ≡ map at (map (at_unknowns n u.symbol) u.symbol.args) = parameters_at n u.symbol d.types q u.symbol.args (recursion_from_All (TyVarsBelow u.symbol.vars) u.symbol.args s.args) in
      let x = g d.args d.more (subst (λ (ts : List Tree). Args ts d.args d.more) ps d.args_are) (meets_from (n + length (choices_at i d.types)) (n + u.symbol.vars) d.more (omega (arith, count_choices i d.types, d.count)) ms.1) in
      let k : replicate u.symbol.vars i ≡ tokens (choices_at i d.types) = ap (λ (j : ℕ). replicate j i) (sym d.count) ∙ sym (tokens_at i d.types) in
      with_tree (used_piece n t i (Symbol' u) p) e cs
      (follow_at (noted (wanting (at_unknowns n u.symbol (result_or_int u.symbol.result)) t) (replicate u.symbol.vars i)) p.notes (choices_at i d.types) d.more cs d.chosen
      (noted_at (wanting (at_unknowns n u.symbol (result_or_int u.symbol.result)) t) (replicate u.symbol.vars i) (choices_at i d.types) (wanting_at n u.symbol d.types t q s d.result) k) (notes_of p d.args d.more x))
      (types_tree u.number (type_variables n u.symbol.vars) d.types t p.tree d.args q x.tree ∙ sym d.made)

  local_at : (p : ℕ) (ty : Tree) (t : Option Tree) (e : Tree) (cs : List Choice) → option_map at t ≡ Some (at ty) → e ≡ One (HBound p) (at ty) → cs ≡ [] → At (local_piece p ty t) e cs
  local_at p ty None e cs a b c = absurd (cc (a))
  local_at p ty (Some t) e cs a b c = record { solves = (sym (some_same (at t) (at ty) a), tt); tree = sym b; takers = ap tokens (sym c) }

  used_at : (n i : ℕ) (t : Option Tree) (u : Use) (Args : List Tree → Tree → List Choice → Type 0) (p : NotedTree) (e : Tree) (cs : List Choice) → r ≤ n → UseScoped u → IsUseTyping (at_use u) i Args (option_map at t) e cs → Meets n cs
      → ((a : Tree) (c : List Choice) → Args (map at (parameters n u)) a c → Meets (n + use_vars u) c → At p a c) → At (used_piece n t i u p) e cs
  used_at n i t (Local' k ty) Args p e cs l s d m g = local_at k ty t e cs d.1 d.2 d.3
  used_at n i t (Symbol' u) Args p e cs l s d m g = symbol_at n i t u Args p e cs l s d m g

  -- ---- patterns
  abbrev Binds : Option (List LocalTree) → List LocalTree → Type 0
  Binds None vs = Unit {0}
  Binds (Some first) vs = AgreeWith (at_locals first) vs

  binds_none : (first : Option (List LocalTree)) → Binds first []
  binds_none None = tt
  binds_none (Some first) = tt

  agree_parts : (first us vs : List LocalTree) → AgreeWith first (us ++ vs) → AgreeWith first us × AgreeWith first vs
  agree_parts first [] vs h = (tt, h)
  agree_parts first (u ∷ us) vs h = let k = agree_parts first us vs h.1 in ((h.0, k.0), k.1)

  binds_parts : (first : Option (List LocalTree)) (us vs ws : List LocalTree) → ws ≡ us ++ vs → Binds first ws → Binds first us × Binds first vs
  binds_parts None us vs ws e h = (tt, tt)
  binds_parts (Some first) us vs ws e h = agree_parts (at_locals first) us vs (subst (AgreeWith (at_locals first)) e h)

  variable_meets : (first : Option (List LocalTree)) (x : Word) (t : Tree) → Binds first (local x (at t) ∷ []) → SolvesAll r f (variable_equations first x t)
  variable_meets None x t h = tt
  variable_meets (Some first) x t h = (sym (type_same x first) ∙ h.0, tt)

  -- each pattern at the places of a record's fields
  fields_bind : (first : Option (List LocalTree)) (places : List ℕ) (ts : List Tree) (ps : List PatternTree) → AreNewPlaces (replicate (length ts) false) places → length places ≡ length ps → Binds first (fields_tree places ts ps).variables
      → AllByRecursion (λ (p : PatternTree). Binds first p.variables) ps
  fields_bind None places ts ps n c h = nothing ps
    where
      nothing : (qs : List PatternTree) → AllByRecursion (λ (p : PatternTree). Unit {0}) qs
      nothing [] = tt
      nothing (q ∷ qs) = (tt, nothing qs)
  fields_bind (Some first) places ts ps n c h = fields_back (λ (v : LocalTree). local_type v.name (at_locals first) ≡ v.type) places ts ps n c h

  fields_typed_long : (ps : Patterns) (ts : List Tree) (qs : List PatternTree) (cs : List Choice) → AreFieldTypings w ts ps qs cs → length qs ≡ length ts
  fields_typed_long no_patterns [] qs cs d = ap length d.0
  fields_typed_long no_patterns (t ∷ ts) qs cs d = absurd d
  fields_typed_long (more_patterns p ps) [] qs cs d = absurd d
  fields_typed_long (more_patterns p ps) (t ∷ ts) qs cs d = ap length d.made ∙ ap suc (fields_typed_long ps ts d.second d.second_chosen d.second_is)

  record MatchedAt (m : Matched) (p : PatternTree) (cs : List Choice) : Type 0 where
    notes : NotesAt m.notes cs
    tree : at m.tree ≡ p.tree
    variables : at_locals m.variables ≡ p.variables

  -- the parts of a record
  abbrev at_matched : Matched → PatternTree
  at_matched m = record { tree = at m.tree; variables = at_locals m.variables }

  record FieldsAt (ms : List Matched) (ps : List PatternTree) (cs : List Choice) : Type 0 where
    notes : NotesAt (all_notes ms) cs
    trees : map at_matched ms ≡ ps

  trees_of : (ms : List Matched) → map (tree_assigned r f) (map tree_of_matched ms) ≡ map at_matched ms
  trees_of [] = refl
  trees_of (m ∷ ms) = ap (λ (ps : List PatternTree). at_matched m ∷ ps) (trees_of ms)

  pub whole_at : (places : List ℕ) (ts : List Tree) (ms : List Matched) → at_matched (fields_piece places ts ms) ≡ fields_tree places (map at ts) (map at_matched ms)
  whole_at places ts ms = fields_assigned r f places ts (map tree_of_matched ms) ∙ ap (fields_tree places (map at ts)) (trees_of ms)

  fields_at : (places : List ℕ) (ts : List Tree) (ms : List Matched) (ps : List PatternTree) (p : PatternTree) (cs : List Choice) → FieldsAt ms ps cs → p ≡ fields_tree places (map at ts) ps → MatchedAt (fields_piece places ts ms) p cs
  fields_at places ts ms ps p cs x e =
      let q : at_matched (fields_piece places ts ms) ≡ p = whole_at places ts ms ∙ ap (fields_tree places (map at ts)) x.trees ∙ sym e in
      record { notes = x.notes; tree = ap (λ (z : PatternTree). z.tree) q; variables = ap (λ (z : PatternTree). z.variables) q }

  built_at : (n i : ℕ) (t : Tree) (u : NumberedEntry) (first : Option (List LocalTree)) (Parts : List Tree → PatternTree → List Choice → Type 0) (m : Matched) (p : PatternTree) (cs : List Choice) → r ≤ n → IsScopedEntry u.symbol → Constructed u i Parts (at t) p cs → Binds first p.variables → Meets n cs
      → ((q : PatternTree) (c : List Choice) → Parts (map at (part_types n u)) q c → Binds first q.variables → Meets (n + u.symbol.vars) c → MatchedAt m q c) → MatchedAt (constructed_by n i t u m) p cs
  built_at n i t u first Parts m p cs l s d b k g =
      let ms = meets_both n (choices_at i d.types) d.more (subst (Meets n) d.chosen k) in
      let q : map at (type_variables n u.symbol.vars) ≡ d.types = variables_at n u.symbol.vars i d.types l d.count ms.0 in
      let ps : map (λ (a : Tree). inst_types a d.types) u.symbol.args ≡ map at (part_types n u) = parameters_at n u.symbol d.types q u.symbol.args (recursion_from_All (TyVarsBelow u.symbol.vars) u.symbol.args s.args) in
      let x = g d.parts d.more (subst (λ (ts : List Tree). Parts ts d.parts d.more) ps d.parts_are) (subst (Binds first) (ap (λ (z : PatternTree). z.variables) d.made) b)
      (meets_from (n + length (choices_at i d.types)) (n + u.symbol.vars) d.more (omega (arith, count_choices i d.types, d.count)) ms.1) in
      let e : replicate u.symbol.vars i ≡ tokens (choices_at i d.types) = ap (λ (j : ℕ). replicate j i) (sym d.count) ∙ sym (tokens_at i d.types) in
      let es : List (Tree × Tree) = (at_unknowns n u.symbol (result_or_int u.symbol.result), t) ∷ [] in
      record {
        notes = follow_at (noted es (replicate u.symbol.vars i)) m.notes (choices_at i d.types) d.more cs d.chosen (noted_at es (replicate u.symbol.vars i) (choices_at i d.types) (result_at n u.symbol d.types t q s d.result, tt) e) x.notes;
        tree = cc (cells_assigned r f (type_variables n u.symbol.vars), q, x.tree, d.made);
        variables = cc (x.variables, d.made);
      }

  mutual
    pattern_at : (p : Pattern) (first : Option (List LocalTree)) (n : ℕ) (t : Tree) (seen : List Word) (q : PatternTree) (cs : List Choice) → r ≤ n → pattern_fault w seen p ≡ None → IsPatternTyping w (at t) p q cs → Binds first q.variables → Meets n cs → MatchedAt (pattern_piece w first n t p) q cs
    pattern_at (wildcard_pattern i) first n t seen q cs l h d b m = record { notes = nothing_at cs d.1; tree = ap (λ (z : PatternTree). z.tree) (sym d.0); variables = ap (λ (z : PatternTree). z.variables) (sym d.0) }
    pattern_at (variable_pattern i x) first n t seen q cs l h d b m = record {
      notes = noted_at (variable_equations first x t) [] cs (variable_meets first x t (subst (Binds first) (ap (λ (z : PatternTree). z.variables) d.0) b)) (ap tokens (sym d.1));
      tree = ap (λ (z : PatternTree). z.tree) (sym d.0);
      variables = ap (λ (z : PatternTree). z.variables) (sym d.0);
    }
    pattern_at (constructor_pattern i qs x ps) first n t seen q cs l h d b m =
        let u = entry_of w.symbols (w.names qs x) in
        let j = none_both (constructor_fault w i (count_patterns ps) (w.names qs x)) (patterns_fault w seen ps) h in
        built_at n i t u first (λ ts y c. ArePatternTypings w ts ps y c) (patterns_piece w first (n + u.symbol.vars) (part_types n u) ps) q cs l (symbol_scoped w sc (w.names qs x)) d b m
        (λ y c e g k. patterns_at ps first (n + u.symbol.vars) (part_types n u) seen y c (omega arith) j.1 e g k)
    pattern_at (tuple_pattern i ps) first n t seen q cs l h d b m =
        let u = entry_of w.symbols (w.tuples (count_patterns ps)) in
        built_at n i t u first (λ ts y c. ArePatternTypings w ts ps y c) (patterns_piece w first (n + u.symbol.vars) (part_types n u) ps) q cs l (symbol_scoped w sc (w.tuples (count_patterns ps))) d b m
        (λ y c e g k. patterns_at ps first (n + u.symbol.vars) (part_types n u) seen y c (omega arith) h e g k)
    pattern_at (alias_pattern a i x) first n t seen q cs l h d b m =
        let j = none_both (pattern_fault w seen a) (fault_if (is_some (place_of x (seen ++ pattern_names a))) (Duplicate i)) h in
        let inner = pattern_piece w first n t a in
        let e : q.variables ≡ d.0.variables ++ local x (at t) ∷ [] = ap (λ (z : PatternTree). z.variables) d.2 in
        let bs = binds_parts first d.0.variables (local x (at t) ∷ []) q.variables e b in
        let y = pattern_at a first n t seen d.0 cs l j.0 d.1 bs.0 m in
        record {
          notes = follow_at inner.notes (noted (variable_equations first x t) []) cs [] cs (sym (append-nil cs)) y.notes (noted_at (variable_equations first x t) [] [] (variable_meets first x t bs.1) refl);
          tree = ap (One HPatAlias) y.tree ∙ ap (λ (z : PatternTree). z.tree) (sym d.2);
          variables = map-append at_local inner.variables (local x t ∷ []) ∙ ap (λ (vs : List LocalTree). vs ++ local x (at t) ∷ []) y.variables ∙ sym e;
        }
    pattern_at (record_pattern i fs ps) first n t seen q cs l h d b m =
        let j = none_both (record_fault w false i (count_patterns ps) fs) (patterns_fault w seen ps) h in
        let it = is_fielded w false i (count_patterns ps) fs j.0 in
        let k = record_named w.symbols w.names fs in
        let u = entry_of w.symbols (Some k) in
        let places = field_places w fs in
        let ts = part_types n u in
        let us : List Tree = map at ts in
        let o = n + u.symbol.vars in
        let ms = part_pieces w first o (place_types places ts) ps in
        let count : length us ≡ length u.symbol.args = length-map ts at ∙ length-map u.symbol.args (at_unknowns n u.symbol) in
        built_at n i t u first (PartsPlaced places (λ ts' ys c. AreFieldTypings w ts' ps ys c)) (fields_piece places ts ms) q cs l (symbol_scoped w sc (Some k)) d b m
        (λ y c e g z.
        let long : length places ≡ length e.parts = sym (places_long places us) ∙ sym (fields_typed_long ps (place_types places us) e.parts c e.parts_are) in
        let binds = fields_bind first places us e.parts (new_among w false (count_patterns ps) fs (length us) it count) long (subst (Binds first) (ap (λ (x : PatternTree). x.variables) e.made) g) in
        let typed = subst (λ (ts' : List Tree). AreFieldTypings w ts' ps e.parts c) (types_at r f places ts) e.parts_are in
        fields_at places ts ms e.parts y c (each_at ps first o (place_types places ts) seen e.parts c (omega arith) j.1 typed binds z) e.made)

    patterns_at : (ps : Patterns) (first : Option (List LocalTree)) (n : ℕ) (ts : List Tree) (seen : List Word) (q : PatternTree) (cs : List Choice) → r ≤ n → patterns_fault w seen ps ≡ None → ArePatternTypings w (map at ts) ps q cs → Binds first q.variables → Meets n cs → MatchedAt (patterns_piece w first n ts ps) q cs
    patterns_at no_patterns first n [] seen q cs l h d b m = record { notes = nothing_at cs d.1; tree = ap (λ (z : PatternTree). z.tree) (sym d.0); variables = ap (λ (z : PatternTree). z.variables) (sym d.0) }
    patterns_at no_patterns first n (t ∷ ts) seen q cs l h d b m = absurd d
    patterns_at (more_patterns p ps) first n [] seen q cs l h d b m = absurd d
    patterns_at (more_patterns p ps) first n (t ∷ ts) seen q cs l h d b m =
        let j = none_both (pattern_fault w seen p) (patterns_fault w (seen ++ pattern_names p) ps) h in
        let one = pattern_piece w first n t p in
        let rest = patterns_piece w first (n + taken one.notes) ts ps in
        let e : q.variables ≡ d.first.variables ++ d.second.variables = ap (λ (z : PatternTree). z.variables) d.made in
        let bs = binds_parts first d.first.variables d.second.variables q.variables e b in
        let ms = meets_both n d.first_chosen d.second_chosen (subst (Meets n) d.chosen m) in
        let x = pattern_at p first n t seen d.first d.first_chosen l j.0 d.first_is bs.0 ms.0 in
        let k = meets_from (n + length d.first_chosen) (n + taken one.notes) d.second_chosen (omega (arith, count_tokens one.notes.takers d.first_chosen x.notes.takers)) ms.1 in
        let y = patterns_at ps first (n + taken one.notes) ts (seen ++ pattern_names p) d.second d.second_chosen (omega arith) j.1 d.second_is bs.1 k in
        record {
          notes = follow_at one.notes rest.notes d.first_chosen d.second_chosen cs d.chosen x.notes y.notes;
          tree = cc (x.tree, y.tree) ∙ ap (λ (z : PatternTree). z.tree) (sym d.made);
          variables = map-append at_local one.variables rest.variables ∙ cc (x.variables, y.variables) ∙ sym e;
        }

    -- the parts of a record
    each_at : (ps : Patterns) (first : Option (List LocalTree)) (n : ℕ) (ts : List Tree) (seen : List Word) (qs : List PatternTree) (cs : List Choice) → r ≤ n → patterns_fault w seen ps ≡ None → AreFieldTypings w (map at ts) ps qs cs → AllByRecursion (λ (q : PatternTree). Binds first q.variables) qs → Meets n cs
        → FieldsAt (part_pieces w first n ts ps) qs cs
    each_at no_patterns first n [] seen qs cs l h d b m = record { notes = nothing_at cs d.1; trees = sym d.0 }
    each_at no_patterns first n (t ∷ ts) seen qs cs l h d b m = absurd d
    each_at (more_patterns p ps) first n [] seen qs cs l h d b m = absurd d
    each_at (more_patterns p ps) first n (t ∷ ts) seen qs cs l h d b m =
        let j = none_both (pattern_fault w seen p) (patterns_fault w (seen ++ pattern_names p) ps) h in
        let one = pattern_piece w first n t p in
        let bs = subst (AllByRecursion (λ (q : PatternTree). Binds first q.variables)) d.made b in
        let ms = meets_both n d.first_chosen d.second_chosen (subst (Meets n) d.chosen m) in
        let x = pattern_at p first n t seen d.first d.first_chosen l j.0 d.first_is bs.0 ms.0 in
        let k = meets_from (n + length d.first_chosen) (n + taken one.notes) d.second_chosen (omega (arith, count_tokens one.notes.takers d.first_chosen x.notes.takers)) ms.1 in
        let y = each_at ps first (n + taken one.notes) ts (seen ++ pattern_names p) d.second d.second_chosen (omega arith) j.1 d.second_is bs.1 k in
        let q : at_matched one ≡ d.first = ap (λ (t : Tree). pattern_tree t (at_locals one.variables)) x.tree ∙ ap (pattern_tree d.first.tree) x.variables in
        record {
          notes = follow_at one.notes (all_notes (part_pieces w first (n + taken one.notes) ts ps)) d.first_chosen d.second_chosen cs d.chosen x.notes y.notes;
          trees = cc (q, y.trees, d.made);
        }

  -- ---- alternatives
  abbrev pub AreMatchedAt : List Matched → List PatternTree → Type 0
  AreMatchedAt [] [] = Unit {0}
  AreMatchedAt (m ∷ ms) (p ∷ ps) = (at m.tree ≡ p.tree) × (at_locals m.variables ≡ p.variables) × AreMatchedAt ms ps
  AreMatchedAt _ _ = ⊥

  record AllMatchedAt (ms : List Matched) (ps : List PatternTree) (cs : List Choice) : Type 0 where
    notes : NotesAt (all_notes ms) cs
    each : AreMatchedAt ms ps

  no_alternatives_at : (ps : List PatternTree) (cs : List Choice) → ps ≡ [] → cs ≡ [] → AllMatchedAt [] ps cs
  no_alternatives_at ps cs a b = record { notes = nothing_at cs b; each = subst (AreMatchedAt []) (sym a) tt }

  later_at : (as' : Alternatives) (first : List LocalTree) (ns : List Word) (n : ℕ) (t : Tree) (ps : List PatternTree) (cs : List Choice) → r ≤ n → later_fault w ns as' ≡ None → AreLaterTypings w (at_locals first) (at t) as' ps cs → Meets n cs → AllMatchedAt (later_pieces w first n t as') ps cs
  later_at no_alternatives first ns n t ps cs l h d m = no_alternatives_at ps cs d.0 d.1
  later_at (more_alternatives i a as') first ns n t ps cs l h d m =
      let j = none_both (fault_if (not (same_names ns (pattern_names a))) (WrongKind i)) (first_of (pattern_fault w [] a) (later_fault w ns as')) h in
      let o = none_both (pattern_fault w [] a) (later_fault w ns as') j.1 in
      let one = pattern_piece w (Some first) n t a in
      let ms = meets_both n d.first_chosen d.second_chosen (subst (Meets n) d.chosen m) in
      let x = pattern_at a (Some first) n t [] d.first d.first_chosen l o.0 d.first_is.0 d.first_is.1 ms.0 in
      let k = meets_from (n + length d.first_chosen) (n + taken one.notes) d.second_chosen (omega (arith, count_tokens one.notes.takers d.first_chosen x.notes.takers)) ms.1 in
      let y = later_at as' first ns (n + taken one.notes) t d.second d.second_chosen (omega arith) o.1 d.second_is k in
      record {
        notes = follow_at one.notes (all_notes (later_pieces w first (n + taken one.notes) t as')) d.first_chosen d.second_chosen cs d.chosen x.notes y.notes;
        each = subst (AreMatchedAt (one ∷ later_pieces w first (n + taken one.notes) t as')) (sym d.made) (x.tree, x.variables, y.each);
      }

  alternatives_at : (as' : Alternatives) (n : ℕ) (t : Tree) (ps : List PatternTree) (cs : List Choice) → r ≤ n → alternatives_fault w as' ≡ None → AreAlternativeTypings w (at t) as' ps cs → Meets n cs → AllMatchedAt (alternatives_pieces w n t as') ps cs
  alternatives_at no_alternatives n t ps cs l h d m = no_alternatives_at ps cs d.0 d.1
  alternatives_at (more_alternatives i a as') n t ps cs l h d m =
      let j = none_both (pattern_fault w [] a) (later_fault w (pattern_names a) as') h in
      let one = pattern_piece w None n t a in
      let ms = meets_both n d.first_chosen d.later_chosen (subst (Meets n) d.chosen m) in
      let x = pattern_at a None n t [] d.first d.first_chosen l j.0 d.first_is tt ms.0 in
      let k = meets_from (n + length d.first_chosen) (n + taken one.notes) d.later_chosen (omega (arith, count_tokens one.notes.takers d.first_chosen x.notes.takers)) ms.1 in
      let y = later_at as' one.variables (pattern_names a) (n + taken one.notes) t d.later d.later_chosen (omega arith) j.1 (subst (λ (vs : List LocalTree). AreLaterTypings w vs (at t) as' d.later d.later_chosen) (sym x.variables) d.later_are) k in
      record {
        notes = follow_at one.notes (all_notes (later_pieces w one.variables (n + taken one.notes) t as')) d.first_chosen d.later_chosen cs d.chosen x.notes y.notes;
        each = subst (AreMatchedAt (one ∷ later_pieces w one.variables (n + taken one.notes) t as')) (sym d.made) (x.tree, x.variables, y.each);
      }

  pub first_at : (ms : List Matched) (ps : List PatternTree) → AreMatchedAt ms ps → at_locals (first_variables ms) ≡ first_bound ps
  first_at [] [] h = refl
  first_at [] (p ∷ ps) h = absurd h
  first_at (m ∷ ms) [] h = absurd h
  first_at (m ∷ ms) (p ∷ ps) h = h.1

  place_same : (x : Word) (ls : List LocalTree) → place_among x (at_locals ls) ≡ place_among x ls
  place_same x [] = refl
  place_same x (l ∷ ls) = ap (λ (k : ℕ). cond (bytes_eq l.name x) 0 (suc k)) (place_same x ls)

  places_same : (vs ls : List LocalTree) → places_among (at_locals vs) (at_locals ls) ≡ places_among vs ls
  places_same [] ls = refl
  places_same (v ∷ vs) ls = cc (place_same v.name ls, places_same vs ls)

  reordered_at : (us vs : List LocalTree) (e : Tree) → at (reordered us vs e) ≡ reordered (at_locals us) (at_locals vs) (at e)
  reordered_at us vs e =
      let p : places_among (reverse (at_locals us)) (reverse (at_locals vs)) ≡ places_among (reverse us) (reverse vs) = rw (sym (reverse_at us), sym (reverse_at vs)) (places_same (reverse us) (reverse vs)) in
      order_at r f kinds (places_among (reverse us) (reverse vs)) 0 e ∙ ap (λ (ps : List ℕ). order.at ps 0 (at e)) (sym p)

  later_arms_at : (first : List LocalTree) (ms : List Matched) (ps : List PatternTree) (b c : Tree) → AreMatchedAt ms ps → at b ≡ c → map at (later_arms first b ms) ≡ arms_after (at_locals first) c ps
  later_arms_at first [] [] b c h q = refl
  later_arms_at first [] (p ∷ ps) b c h q = absurd h
  later_arms_at first (m ∷ ms) [] b c h q = absurd h
  later_arms_at first (m ∷ ms) (p ∷ ps) b c h q = cc (h.0, h.1, q, reordered_at first m.variables b, later_arms_at first ms ps b c h.2 q)

  pub arms_at : (ms : List Matched) (ps : List PatternTree) (b c : Tree) → AreMatchedAt ms ps → at b ≡ c → map at (arms b ms) ≡ arms_of_patterns c ps
  arms_at [] [] b c h q = refl
  arms_at [] (p ∷ ps) b c h q = absurd h
  arms_at (m ∷ ms) [] b c h q = absurd h
  arms_at (m ∷ ms) (p ∷ ps) b c h q = cc (h.0, h.1, q, later_arms_at m.variables ms ps b c h.2 q)

  -- ---- binders
  untyped_at : (n i : ℕ) (xs : List Word) (ts : List Tree) → r ≤ n → length ts ≡ length xs → Meets n (choices_at i ts) → at_locals (untyped n xs) ≡ typed_locals xs ts
  untyped_at n i [] ts l e m = refl
  untyped_at n i (x ∷ xs) [] l e m = absurd (omega (arith, e))
  untyped_at n i (x ∷ xs) (t ∷ ts) l e m =
      cc (assign-unknown r f n l, m.0, untyped_at (suc n) i xs ts (omega arith) (omega (arith, e)) (meets_from (n + 1) (suc n) (choices_at i ts) (omega arith) m.1))

  pub typed_at : (t : Tree) (xs : List Word) → at t ≡ t → at_locals (locals_of_type t xs) ≡ locals_of_type t xs
  typed_at t [] e = refl
  typed_at t (x ∷ xs) e = cc (e, typed_at t xs e)

  pub form_at : (g : TypeExpression) → form_fault w false g ≡ None → at (type_at w g) ≡ type_at w g
  form_at g h = own_at (type_at w g) (below_more (type_at w g) (length w.vars) r own (form_below w sc g h))

  record BoundAt (us : List LocalTree) (k i : ℕ) (vs : List LocalTree) (cs : List Choice) : Type 0 where
    variables : vs ≡ at_locals us
    takers : replicate k i ≡ tokens cs

  binder_at : (n i : ℕ) (xs : List Word) (g : Option TypeExpression) (vs : List LocalTree) (cs : List Choice) → r ≤ n → type_fault w false g ≡ None → IsBinderTyping w i xs g vs cs → Meets n cs → BoundAt (binder_locals w n xs g) (binder_vars xs g) i vs cs
  binder_at n i xs None vs cs l q d m = record {
    variables = d.2 ∙ sym (untyped_at n i xs d.0 l d.1 (subst (Meets n) d.3 m));
    takers = ap (λ (k : ℕ). replicate k i) (sym d.1) ∙ sym (tokens_at i d.0) ∙ ap tokens (sym d.3);
  }
  binder_at n i xs (Some g) vs cs l q d m = record { variables = d.0 ∙ sym (typed_at (type_at w g) xs (form_at g q)); takers = ap tokens (sym d.1) }

  binders_at : (n i : ℕ) (bs : List BoundNames) (vs : List LocalTree) (cs : List Choice) → r ≤ n → binders_fault w false bs ≡ None → AreBinderTypings w i bs vs cs → Meets n cs → BoundAt (bound w n bs) (binders_vars bs) i vs cs
  binders_at n i [] vs cs l q d m = record { variables = d.0; takers = ap tokens (sym d.1) }
  binders_at n i (b ∷ bs) vs cs l q d m =
      let h = none_both (type_fault w false b.of_type) (binders_fault w false bs) q in
      let k = binder_vars b.names b.of_type in
      let ms = meets_both n d.first_chosen d.second_chosen (subst (Meets n) d.chosen m) in
      let x = binder_at n i b.names b.of_type d.first d.first_chosen l h.0 d.first_is ms.0 in
      let c = count_tokens (replicate k i) d.first_chosen x.takers in
      let y = binders_at (n + k) i bs d.second d.second_chosen (omega arith) h.1 d.second_is (meets_from (n + length d.first_chosen) (n + k) d.second_chosen (omega (arith, c, count_replicate k i)) ms.1) in
      record {
        variables = d.made ∙ cc (x.variables, y.variables) ∙ sym (map-append at_local (binder_locals w n b.names b.of_type) (bound w (n + k) bs));
        takers = replicate_both k (binders_vars bs) i ∙ cc (x.takers, y.takers, d.chosen, tokens_both d.first_chosen d.second_chosen);
      }

  pub quantify_at : (all : Bool) (vs : List LocalTree) (e : Tree) → at (quantify all vs e) ≡ quantify all (at_locals vs) (at e)
  quantify_at all [] e = refl
  quantify_at true (v ∷ vs) e = ap (Two HForall (at v.type)) (quantify_at true vs e)
  quantify_at false (v ∷ vs) e = ap (Two HExists (at v.type)) (quantify_at false vs e)

  pub equality_at : (same : Bool) (a b : Tree) → at (equality same a b) ≡ equality same (at a) (at b)
  equality_at true a b = refl
  equality_at false a b = refl

  -- ---- one argument, and two
  single_at : (n : ℕ) (ts : List Tree) (p : NotedTree) (Is : Option Tree → Tree → List Choice → Type 0) (e : Tree) (cs : List Choice) → IsSingle Is (map at ts) e cs → Meets n cs
      → ((y : Tree) (c : List Choice) → Is (Some (at (first_or_int ts))) y c → Meets n c → At p y c) → At (both_pieces (Two HCell) p (bare_piece (Leaf HEnd))) e cs
  single_at n [] p Is e cs d m g = absurd d
  single_at n (t ∷ u ∷ ts) p Is e cs d m g = absurd d
  single_at n (t ∷ []) p Is e cs d m g =
      let x = g d.0 cs d.1 m in
      record {
        solves = subst (SolvesAll r f) (sym (append-nil p.notes.equations)) x.solves;
        tree = ap (λ (y : Tree). Two HCell y (Leaf HEnd)) x.tree ∙ sym d.2;
        takers = append-nil p.notes.takers ∙ x.takers;
      }

  two_at : (n : ℕ) (ts : List Tree) (p q : NotedTree) (Left Right : Option Tree → Tree → List Choice → Type 0) (e : Tree) (cs : List Choice) → IsPair Left Right (map at ts) e cs → Meets n cs
      → ((y : Tree) (c : List Choice) → Left (Some (at (first_or_int ts))) y c → Meets n c → At p y c) → ((y : Tree) (c : List Choice) → Right (Some (at (first_or_int (rest_of ts)))) y c → Meets (unknown_after n p) c → At q y c)
      → At (both_pieces (Two HCell) p (both_pieces (Two HCell) q (bare_piece (Leaf HEnd)))) e cs
  two_at n [] p q Left Right e cs d m g h = absurd d
  two_at n (t ∷ []) p q Left Right e cs d m g h = absurd d
  two_at n (t ∷ u ∷ v ∷ ts) p q Left Right e cs d m g h = absurd d
  two_at n (t ∷ u ∷ []) p q Left Right e cs d m g h =
      let x = both_at {P = Left (Some (at t))} {Q = Right (Some (at u))} pair_cells n p q e cs (λ a b. refl) d m g h in
      record {
        solves = subst (SolvesAll r f) (ap (λ (es : List (Tree × Tree)). p.notes.equations ++ es) (sym (append-nil q.notes.equations))) x.solves;
        tree = x.tree;
        takers = ap (λ (is : List ℕ). p.notes.takers ++ is) (append-nil q.notes.takers) ∙ x.takers;
      }

  record ArmsAt (a : Arms) (es : List Tree) (cs : List Choice) : Type 0 where
    notes : NotesAt a.notes cs
    trees : map at a.trees ≡ es

  cells_of : (a : Arms) (es : List Tree) → map at a.trees ≡ es → at (cells a.trees) ≡ cells es
  cells_of a es q = cells_assigned r f a.trees ∙ ap cells q

  -- a trigger
  either_at : (b : Bool) (n i : ℕ) (Is : Option Tree → Tree → List Choice → Type 0) (p q : NotedTree) (cs : List Choice) → r ≤ n → IsTriggerTyping b i Is cs → Meets n cs
      → ((y : Tree) (c : List Choice) → Is None y c → Meets n c → At p y c) → ((y : Tree) (c : List Choice) → Is (Some (at (unknown n))) y c → Meets (n + 1) c → At q y c)
      → NotesAt (cond b p (noted_before (noted [] (i ∷ [])) q)).notes cs
  either_at true n i Is p q cs l d m g h = notes_of p d.0 cs (g d.0 cs d.1 m)
  either_at false n i Is p q cs l d m g h =
      let c = chosen_at n i (λ u x more. Is (Some u) x more) d.0 cs l d.1 m in
      let y = h d.0 c.more c.rest c.meets in
      record { solves = y.solves; takers = ap (λ (xs : List ℕ). i ∷ xs) y.takers ∙ c.tokens_are }

  mutual
    pub meets : (a : Expression) (ls : List LocalTree) (n : ℕ) (t : Option Tree) (ns : List Word) (due : Bool) (e : Tree) (cs : List Choice) → r ≤ n → fault w false ns due a ≡ None → IsTyping w (at_locals ls) (option_map at t) a e cs → Meets n cs → At (piece w ls n t a) e cs
    meets (applied_expression i qs x es) ls n t ns due e cs l q d m =
        let h = none_both (name_fault w ns due i qs x (count_expressions es)) (faults w false ns es) q in
        let u = use_of_name w ls qs x in
        let k = subst (λ (z : Use). IsUseTyping z i (λ ts a c. AreTypings w (at_locals ls) ts es a c) (option_map at t) e cs) (use_same ls qs x) d in
        used_at n i t u (λ ts a c. AreTypings w (at_locals ls) ts es a c) (pieces w ls (n + use_vars u) (parameters n u) es) e cs l (use_scoped ls qs x) k m
        (λ a c b g. all_meet es ls (n + use_vars u) (parameters n u) ns a c (omega arith) h.1 b g)
    meets (infix_expression i x a b) ls n t ns due e cs l q d m =
        let h = none_both (fault w false ns false a) (first_of (name_fault w ns due i [] x 2) (fault w false ns false b)) q in
        let j = none_both (name_fault w ns due i [] x 2) (fault w false ns false b) h.1 in
        let u = use_of_name w ls [] x in
        let ts = parameters n u in
        let o = n + use_vars u in
        let left = piece w ls o (Some (first_or_int ts)) a in
        let right = piece w ls (unknown_after o left) (Some (first_or_int (rest_of ts))) b in
        let Args = IsPair (λ v y c. IsTyping w (at_locals ls) v a y c) (λ v y c. IsTyping w (at_locals ls) v b y c) in
        let k = subst (λ (z : Use). IsUseTyping z i (IsPair (λ v y c. IsTyping w (at_locals ls) v a y c) (λ v y c. IsTyping w (at_locals ls) v b y c)) (option_map at t) e cs) (use_same ls [] x) d in
        used_at n i t u (IsPair (λ v y c. IsTyping w (at_locals ls) v a y c) (λ v y c. IsTyping w (at_locals ls) v b y c)) (both_pieces (Two HCell) left (both_pieces (Two HCell) right (bare_piece (Leaf HEnd)))) e cs l (use_scoped ls [] x) k m
        (λ y c p g. two_at o ts left right (λ v z f'. IsTyping w (at_locals ls) v a z f') (λ v z f'. IsTyping w (at_locals ls) v b z f') y c p g
        (λ z f' v s. meets a ls o (Some (first_or_int ts)) ns false z f' (omega arith) h.0 v s)
        (λ z f' v s. meets b ls (unknown_after o left) (Some (first_or_int (rest_of ts))) ns false z f' (omega arith) j.1 v s))
    meets (integer_expression i z) ls n None ns due e cs l q d m = absurd (cc (d.0))
    meets (integer_expression i z) ls n (Some t) ns due e cs l q d m = record { solves = (sym (some_same (at t) int_type d.0), tt); tree = sym d.1; takers = ap tokens (sym d.2) }
    meets (true_expression i) ls n t ns due e cs l q d m = record { solves = tt; tree = sym d.1; takers = ap tokens (sym d.2) }
    meets (false_expression i) ls n t ns due e cs l q d m = record { solves = tt; tree = sym d.1; takers = ap tokens (sym d.2) }
    meets (tuple_expression i es) ls n t ns due e cs l q d m =
        let h = in_tuple w false ns due i es q in
        let u = tuple_use w (count_expressions es) in
        used_at n i t u (λ ts a c. AreTypings w (at_locals ls) ts es a c) (pieces w ls (n + use_vars u) (parameters n u) es) e cs l (symbol_scoped w sc (w.tuples (count_expressions es))) d m
        (λ a c b g. all_meet es ls (n + use_vars u) (parameters n u) ns a c (omega arith) h.1 b g)
    meets (cast_expression i a g) ls n t ns due e cs l q d m =
        let h = in_cast w false ns due i a g q in
        let o = form_at g h.2 in
        let x = meets a ls n (Some (type_at w g)) ns false e cs l h.1 (subst (λ (z : Tree). IsTyping w (at_locals ls) (Some z) a e cs) (sym o) d.1) m in
        record { solves = solves_both r f (wanting (type_at w g) t) (piece w ls n (Some (type_at w g)) a).notes.equations (cast_at t (type_at w g) o d.0) x.solves; tree = x.tree; takers = x.takers }
      where
        cast_at : (t : Option Tree) (u : Tree) → at u ≡ u → option_map at t ≡ Some u → SolvesAll r f (wanting u t)
        cast_at None u o h = tt
        cast_at (Some t) u o h = (o ∙ sym (some_same (at t) u h), tt)
    meets (field_expression i a k qs x) ls n t ns due e cs l q d m =
        let h = none_both (fault w false ns false a) (field_fault w due k (w.names qs x)) q in
        let u = field_use w qs x in
        let ts = parameters n u in
        let o = n + use_vars u in
        let inner = piece w ls o (Some (first_or_int ts)) a in
        used_at n i t u (IsSingle (λ v y c. IsTyping w (at_locals ls) v a y c)) (both_pieces (Two HCell) inner (bare_piece (Leaf HEnd))) e cs l (symbol_scoped w sc (w.names qs x)) d m
        (λ y c p g. single_at o ts inner (λ v z f'. IsTyping w (at_locals ls) v a z f') y c p g (λ z f' v s. meets a ls o (Some (first_or_int ts)) ns false z f' (omega arith) h.0 v s))
    meets (record_expression i fs es) ls n t ns due e cs l q d m =
        let h = in_record w false ns due i fs es q in
        let u = record_use w fs in
        let places = field_places w fs in
        let ts = parameters n u in
        let o = n + use_vars u in
        let all = pieces w ls o (place_types places ts) es in
        used_at n i t u (ValuesPlaced places (λ ts' a c. AreTypings w (at_locals ls) ts' es a c)) (piece_under (values_placed places (length ts)) all) e cs l (symbol_scoped w sc (Some (record_named w.symbols w.names fs))) d m
        (λ y c p g.
        let x = all_meet es ls o (place_types places ts) ns p.values c (omega arith) h.2 (subst (λ (ts' : List Tree). AreTypings w (at_locals ls) ts' es p.values c) (types_at r f places ts) p.values_are) g in
        record {
          solves = x.solves;
          tree = values_at r f places (length ts) all.tree (pieces_cells w ls o (place_types places ts) es)
              ∙ ap (values_placed places (length ts)) x.tree ∙ ap (λ (k : ℕ). values_placed places k p.values) (sym (length-map ts at)) ∙ sym p.made;
          takers = x.takers;
        })
    meets (not_expression i a) ls n t ns due e cs l q d m =
        let h = in_negation w false ns due i a q in
        let x = meets a ls n None ns true d.1.0 cs l h.1 d.1.1 m in
        record { solves = x.solves; tree = ap (One HNot) x.tree ∙ sym d.1.2; takers = x.takers }
    meets (connected_expression i a op b) ls n t ns due e cs l q d m =
        let h = in_joined w false ns due i a b op q in
        let left = piece w ls n None a in
        both_at (Two (HJoin op)) n left (piece w ls (unknown_after n left) None b) e cs (λ x y. refl) d.1 m
        (λ y c k g. meets a ls n None ns true y c l h.1 k g) (λ y c k g. meets b ls (unknown_after n left) None ns true y c (omega arith) h.2 k g)
    meets (equality_expression i same a b) ls n t ns due e cs l q d m =
        let h = in_equated w false ns due i same a b q in
        let left = piece w ls (n + 1) (Some (unknown n)) a in
        let right = piece w ls (unknown_after (n + 1) left) (Some (unknown n)) b in
        let c = chosen_at n i (λ u it more. Both (λ y s. IsTyping w (at_locals ls) (Some u) a y s) (λ y s. IsTyping w (at_locals ls) (Some u) b y s) (equality same) it more) e cs l d.1 m in
        let x = both_at (equality same) (n + 1) left right e c.more (equality_at same) c.rest c.meets
        (λ y s k g. meets a ls (n + 1) (Some (unknown n)) ns false y s (omega arith) h.1 k g) (λ y s k g. meets b ls (unknown_after (n + 1) left) (Some (unknown n)) ns false y s (omega arith) h.2 k g) in
        record { solves = x.solves; tree = x.tree; takers = ap (λ (xs : List ℕ). i ∷ xs) x.takers ∙ c.tokens_are }
    meets (if_expression i c a b) ls n t ns due e cs l q d m =
        let h = in_choice w false ns due i c a b q in
        let test = piece w ls n None c in
        let left = piece w ls (unknown_after n test) t a in
        let o = unknown_after (unknown_after n test) left in
        let right = piece w ls o t b in
        let ms = meets_both n d.first_chosen d.second_chosen (subst (Meets n) d.chosen m) in
        let x = meets c ls n None ns true d.first d.first_chosen l h.0 d.first_is ms.0 in
        let ks = meets_from (n + length d.first_chosen) (unknown_after n test) d.second_chosen (omega (arith, count_tokens test.notes.takers d.first_chosen x.takers)) ms.1 in
        let s = d.second_is in
        let js = meets_both (unknown_after n test) s.first_chosen s.second_chosen (subst (Meets (unknown_after n test)) s.chosen ks) in
        let y = meets a ls (unknown_after n test) t ns due s.first s.first_chosen (omega arith) h.1 s.first_is js.0 in
        let z = meets b ls o t ns due s.second s.second_chosen (omega arith) h.2 s.second_is (meets_from (unknown_after n test + length s.first_chosen) o s.second_chosen (omega (arith, count_tokens left.notes.takers s.first_chosen y.takers)) js.1) in
        with_tree (piece w ls n t (if_expression i c a b)) e cs
        (follow_at test.notes (follow left.notes right.notes) d.first_chosen d.second_chosen cs d.chosen (notes_of test d.first d.first_chosen x)
        (follow_at left.notes right.notes s.first_chosen s.second_chosen d.second_chosen s.chosen (notes_of left s.first s.first_chosen y) (notes_of right s.second s.second_chosen z)))
        (cc (x.tree, y.tree, z.tree) ∙ ap (if_tree d.first) (sym s.made) ∙ sym d.made)
    meets (let_expression i v a b) ls n t ns due e cs l q d m =
        let h = in_binding w false ns due i v a b q in
        let left = piece w ls (n + 1) (Some (unknown n)) a in
        let inside = local v (unknown n) ∷ ls in
        let c = chosen_at n i (λ u it more. Both (λ y s. IsTyping w (at_locals ls) (Some u) a y s) (λ y s. IsTyping w (local v u ∷ at_locals ls) (option_map at t) b y s) (Two HLet) it more) e cs l d m in
        let x = both_at (Two HLet) (n + 1) left (piece w inside (unknown_after (n + 1) left) t b) e c.more (λ y z. refl) c.rest c.meets
        (λ y s k g. meets a ls (n + 1) (Some (unknown n)) ns false y s (omega arith) h.0 k g) (λ y s k g. meets b inside (unknown_after (n + 1) left) t (v ∷ ns) due y s (omega arith) h.1 k g) in
        record { solves = x.solves; tree = x.tree; takers = ap (λ (xs : List ℕ). i ∷ xs) x.takers ∙ c.tokens_are }
    meets (match_expression i is_let a bs) ls n t ns due e cs l q d m =
        let h = in_cases w ns due i is_let a bs q in
        let subject = piece w ls (n + 1) (Some (unknown n)) a in
        let o = unknown_after (n + 1) subject in
        let arms' = branches_arms w ls o (unknown n) t bs in
        let c = chosen_at n i (λ u it more. Both (λ y s. IsTyping w (at_locals ls) (Some u) a y s) (λ as' s. AreBranchTypings w (at_locals ls) u (option_map at t) bs as' s) case_tree it more) e cs l d m in
        let s = c.rest in
        let ms = meets_both (n + 1) s.first_chosen s.second_chosen (subst (Meets (n + 1)) s.chosen c.meets) in
        let x = meets a ls (n + 1) (Some (unknown n)) ns false s.first s.first_chosen (omega arith) h.0 s.first_is ms.0 in
        let y = branches_meet bs ls o (unknown n) t ns due s.second s.second_chosen (omega arith) h.2 s.second_is (meets_from (n + 1 + length s.first_chosen) o s.second_chosen (omega (arith, count_tokens subject.notes.takers s.first_chosen x.takers)) ms.1) in
        let z = follow_at subject.notes arms'.notes s.first_chosen s.second_chosen c.more s.chosen (notes_of subject s.first s.first_chosen x) y.notes in
        record {
          solves = z.solves;
          tree = cc (x.tree, cells_of arms' s.second y.trees) ∙ sym s.made;
          takers = ap (λ (xs : List ℕ). i ∷ xs) z.takers ∙ c.tokens_are;
        }
    meets (quantified_expression i all bs gs b) ls n t ns due e cs l q d m =
        let h = in_quantified w ns due i all bs gs b q in
        let s = d.1 in
        let vs = bound w n bs in
        let inside = reverse vs ++ ls in
        let o = n + binders_vars bs in
        let tr = triggers_notes w inside o gs in
        let ms = meets_both n s.bound_chosen (s.triggers_chosen ++ s.body_chosen) (subst (Meets n) s.chosen m) in
        let x = binders_at n i bs s.variables s.bound_chosen l h.0 s.bound ms.0 in
        let js = meets_both o s.triggers_chosen s.body_chosen (meets_from (n + length s.bound_chosen) o (s.triggers_chosen ++ s.body_chosen) (omega (arith, count_tokens (replicate (binders_vars bs) i) s.bound_chosen x.takers, count_replicate (binders_vars bs) i)) ms.1) in
        let same : reverse s.variables ++ at_locals ls ≡ at_locals inside = ap (λ (us : List LocalTree). reverse us ++ at_locals ls) x.variables ∙ sym (inside_at vs ls) in
        let within = reverse (bound_names bs) ++ ns in
        let y = triggers_meet gs inside o within s.triggers_chosen (omega arith) h.1 (subst (λ (us : List LocalTree). AreTriggerTypings w us gs s.triggers_chosen) same s.triggers) js.0 in
        let z = meets b inside (o + taken tr) None within true s.body s.body_chosen (omega arith) h.2 (subst (λ (us : List LocalTree). IsTyping w us None b s.body s.body_chosen) same s.body_is)
        (meets_from (o + length s.triggers_chosen) (o + taken tr) s.body_chosen (omega (arith, count_tokens tr.takers s.triggers_chosen y.takers)) js.1) in
        let body = piece w inside (o + taken tr) None b in
        with_tree (piece w ls n t (quantified_expression i all bs gs b)) e cs
        (follow_at (noted [] (replicate (binders_vars bs) i)) (follow tr body.notes) s.bound_chosen (s.triggers_chosen ++ s.body_chosen) cs s.chosen (noted_at [] (replicate (binders_vars bs) i) s.bound_chosen tt x.takers)
        (follow_at tr body.notes s.triggers_chosen s.body_chosen (s.triggers_chosen ++ s.body_chosen) refl y (notes_of body s.body s.body_chosen z)))
        (quantify_at all vs body.tree ∙ cc (z.tree, x.variables) ∙ sym s.made)

    all_meet : (es : Expressions) (ls : List LocalTree) (n : ℕ) (ts : List Tree) (ns : List Word) (e : Tree) (cs : List Choice) → r ≤ n → faults w false ns es ≡ None → AreTypings w (at_locals ls) (map at ts) es e cs → Meets n cs → At (pieces w ls n ts es) e cs
    all_meet no_expressions ls n [] ns e cs l q d m = record { solves = tt; tree = sym d.0; takers = ap tokens (sym d.1) }
    all_meet no_expressions ls n (t ∷ ts) ns e cs l q d m = absurd d
    all_meet (more_expressions a es) ls n [] ns e cs l q d m = absurd d
    all_meet (more_expressions a es) ls n (t ∷ ts) ns e cs l q d m =
        let h = none_both (fault w false ns false a) (faults w false ns es) q in
        let first = piece w ls n (Some t) a in
        both_at (Two HCell) n first (pieces w ls (unknown_after n first) ts es) e cs (λ x y. refl) d m
        (λ y c k g. meets a ls n (Some t) ns false y c l h.0 k g) (λ y c k g. all_meet es ls (unknown_after n first) ts ns y c (omega arith) h.1 k g)

    triggers_meet : (gs : Expressions) (ls : List LocalTree) (n : ℕ) (ns : List Word) (cs : List Choice) → r ≤ n → triggers_fault w false ns gs ≡ None → AreTriggerTypings w (at_locals ls) gs cs → Meets n cs → NotesAt (triggers_notes w ls n gs) cs
    triggers_meet no_expressions ls n ns cs l q d m = nothing_at cs d
    triggers_meet (more_expressions a gs) ls n ns cs l q d m =
        let b = is_formula_trigger w (names ls) a in
        let h = none_both (fault w false ns (is_formula_trigger w ns a) a) (triggers_fault w false ns gs) q in
        let one = cond b (piece w ls n None a) (noted_before (noted [] (token a ∷ [])) (piece w ls (n + 1) (Some (unknown n)) a)) in
        let ms = meets_both n d.0 d.1 (subst (Meets n) d.4 m) in
        let k = subst (λ (us : List Word). IsTriggerTyping (is_formula_trigger w us a) (token a) (λ u y c. IsTyping w (at_locals ls) u a y c) d.0) (names_at ls) d.2 in
        let x = either_at b n (token a) (λ u y c. IsTyping w (at_locals ls) u a y c) (piece w ls n None a) (piece w ls (n + 1) (Some (unknown n)) a) d.0 l k ms.0
        (λ y c p g. meets a ls n None ns (is_formula_trigger w ns a) y c l h.0 p g) (λ y c p g. meets a ls (n + 1) (Some (unknown n)) ns (is_formula_trigger w ns a) y c (omega arith) h.0 p g) in
        let y = triggers_meet gs ls (unknown_after n one) ns d.1 (omega arith) h.1 d.3 (meets_from (n + length d.0) (unknown_after n one) d.1 (omega (arith, count_tokens one.notes.takers d.0 x.takers)) ms.1) in
        follow_at one.notes (triggers_notes w ls (unknown_after n one) gs) d.0 d.1 cs d.4 x y

    branches_meet : (bs : MatchBranches) (ls : List LocalTree) (n : ℕ) (u : Tree) (t : Option Tree) (ns : List Word) (due : Bool) (es : List Tree) (cs : List Choice) → r ≤ n → branches_fault w false ns due bs ≡ None
        → AreBranchTypings w (at_locals ls) (at u) (option_map at t) bs es cs → Meets n cs → ArmsAt (branches_arms w ls n u t bs) es cs
    branches_meet no_branches ls n u t ns due es cs l q d m = record { notes = nothing_at cs d.1; trees = sym d.0 }
    branches_meet (more_branches ps b bs) ls n u t ns due es cs l q d m =
        let h = in_branches w ns due ps b bs q in
        let ms = alternatives_pieces w n u ps in
        let o = n + taken (all_notes ms) in
        let inside = reverse (first_variables ms) ++ ls in
        let body = piece w inside o t b in
        let rest = branches_arms w ls (unknown_after o body) u t bs in
        let js = meets_both n (d.patterns_chosen ++ d.body_chosen) d.rest_chosen (subst (Meets n) d.chosen m) in
        let ks = meets_both n d.patterns_chosen d.body_chosen js.0 in
        let x = alternatives_at ps n u d.patterns d.patterns_chosen l (in_alternatives w ns due ps b bs q) d.patterns_are ks.0 in
        let same : reverse (first_bound d.patterns) ++ at_locals ls ≡ at_locals inside = ap (λ (us : List LocalTree). reverse us ++ at_locals ls) (sym (first_at ms d.patterns x.each)) ∙ sym (inside_at (first_variables ms) ls) in
        let c = count_tokens (all_notes ms).takers d.patterns_chosen x.notes.takers in
        let y = meets b inside o t (reverse (alternatives_names ps) ++ ns) due d.body d.body_chosen (omega arith) h.0 (subst (λ (us : List LocalTree). IsTyping w us (option_map at t) b d.body d.body_chosen) same d.body_is)
        (meets_from (n + length d.patterns_chosen) o d.body_chosen (omega (arith, c)) ks.1) in
        let k = length-append d.patterns_chosen d.body_chosen in
        let z = branches_meet bs ls (unknown_after o body) u t ns due d.rest d.rest_chosen (omega arith) h.1 d.rest_are
        (meets_from (n + length (d.patterns_chosen ++ d.body_chosen)) (unknown_after o body) d.rest_chosen (omega (arith, c, k, count_tokens body.notes.takers d.body_chosen y.takers)) js.1) in
        record {
          notes = follow_at (follow (all_notes ms) body.notes) rest.notes (d.patterns_chosen ++ d.body_chosen) d.rest_chosen cs d.chosen
              (follow_at (all_notes ms) body.notes d.patterns_chosen d.body_chosen (d.patterns_chosen ++ d.body_chosen) refl x.notes (notes_of body d.body d.body_chosen y)) z.notes;
          trees = map-append at (arms body.tree ms) rest.trees ∙ cc (arms_at ms d.patterns body.tree d.body x.each y.tree, z.trees) ∙ sym d.made;
        }

-- ---- the law
abbrev pub value : List Choice → ℕ → Tree
value [] k = int_type
value (c ∷ cs) zero = c.type
value (c ∷ cs) (suc k) = value cs k

pub value_kind : (cs : List Choice) → AllByRecursion (λ (c : Choice). IsKind c.type) cs → (k : ℕ) → IsKind (value cs k)
value_kind [] h k = (((refl, inl refl), tt), refl)
value_kind (c ∷ cs) h zero = h.0
value_kind (c ∷ cs) h (suc k) = value_kind cs h.1 k

pub value_got : (cs : List Choice) (k : ℕ) (d : Choice) → k < length cs → value cs k ≡ (get_or cs k d).type
value_got [] k d l = absurd (omega arith)
value_got (c ∷ cs) zero d l = refl
value_got (c ∷ cs) (suc k) d l = value_got cs k d (omega arith)

module _ (w : Where) (sc : IsScoped w) (r : ℕ) (own : length w.vars ≤ r) (cs : List Choice) (kinds : AllByRecursion (λ (c : Choice). IsKind c.type) cs) where
  abbrev chosen : ℕ → Tree
  chosen j = value cs (j - r)

  chosen_kind : (j : ℕ) → IsKind (value cs (j - r))
  chosen_kind j = value_kind cs kinds (j - r)

  values_meet : (k : ℕ) (ds : List Choice) → ((j : ℕ) → j < length ds → value cs (k + j) ≡ value ds j) → Meets w sc r own chosen chosen_kind (r + k) ds
  values_meet k [] h = tt
  values_meet k (c ∷ ds) h =
      let e : (r + k) - r ≡ k + 0 = omega arith in
      let rest = values_meet (k + 1) ds (λ j l. let o : k + 1 + j ≡ k + suc j = omega arith in ap (value cs) o ∙ h (suc j) (omega (arith, l))) in
      (ap (value cs) e ∙ h 0 (omega arith), meets_from w sc r own chosen chosen_kind (r + (k + 1)) (r + k + 1) ds (omega arith) rest)

  pub is_piece_at : (ls : List LocalTree) (t : Option Tree) (a : Expression) (e : Tree) → HasOwnTypes w r ls t → fault w false (names ls) (is_none t) a ≡ None → IsTyping w ls t a e cs → IsPieceAt r (piece w ls r t a) e cs
  is_piece_at ls t a e o q d =
      let k : IsTyping w (at_locals w sc r own chosen chosen_kind ls) (option_map (assign r chosen) t) a e cs =
      subst (λ (vs : List LocalTree). IsTyping w vs (option_map (assign r chosen) t) a e cs) (locals_own w sc r own chosen chosen_kind ls o.variables) (subst (λ (z : Option Tree). IsTyping w ls z a e cs) (wanted_own w sc r own chosen chosen_kind t o.wanted) d) in
      let m = meets_from w sc r own chosen chosen_kind (r + 0) r cs (omega arith) (values_meet 0 cs (λ j l. let z : 0 + j ≡ j = omega arith in ap (value cs) z)) in
      let x = meets w sc r own chosen chosen_kind a ls r t (names ls) (is_none t) e cs (omega arith) q k m in
      record {
        assigned = chosen;
        solution = record { types = chosen_kind; solves = x.solves };
        tree = x.tree;
        takers = x.takers;
        types = λ j d l. let z : (r + j) - r ≡ j = omega arith in ap (value cs) z ∙ value_got cs j d l;
      }
