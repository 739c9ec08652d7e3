-- Each pattern is well typed at each solution of its equations, with its variables of their types.
use Rattle.std.proofs.Common.{◌≡◌, ℕ, ◌+◌, Bool, true, false, not, cond, ◌==◌, List, [], ◌∷◌, ◌++◌, map, reverse, replicate, length, Option, Some, None, IfSome, IsSomeAnd, IsTrue, refl, sym, ap, ◌∙◌}
use Rattle.std.specs.Option.{is_some}
use Rattle.std.specs.List.{AllByRecursion}
use Rattle.std.specs.Str.{bytes_eq}
use Rattle.std.proofs.lemmas.Bool.{eqb-true}
use Rattle.std.proofs.lemmas.List.{map-append, reverse-append}
use Rattle.std.proofs.Math.ListN.{length-map}
use Rattle.elab_groups.specs.trees.Tree.{Tree}
use Rattle.elab_groups.specs.trees.Sorts.{int_type}
use Rattle.elab_groups.specs.trees.Binding.{inst_types}
use Rattle.elab_groups.specs.tasks.declared.signature.SymbolKind.TheVariants.{Constructor}
use Rattle.elab_groups.specs.tasks.Equations.{type_variables}
use Rattle.elab_groups.specs.tasks.Task.{symbol_or}
use Rattle.elab_groups.specs.tasks.Vocabulary.{Vocabulary, is_constructor_kind}
use Rattle.elab_groups.specs.tasks.Typing.{MakesTerms}
use Rattle.elab_groups.specs.open_types.unify_types.Assigned.{assign}
use Rattle.elab_groups.specs.open_types.unify_types.Pairs.{SolvesAll}
use Rattle.elab_groups.specs.surface.Lexeme.{Word}
use Rattle.elab_groups.specs.name_resolution.Abstract.{FieldName, Pattern, Patterns, wildcard_pattern, variable_pattern, constructor_pattern, tuple_pattern, alias_pattern, record_pattern, no_patterns, more_patterns, count_patterns}
use Rattle.elab_groups.specs.name_resolution.declared.NamingFault.TheVariants.{WrongKind, Arity, Duplicate}
use Rattle.elab_groups.specs.name_resolution.Faults.{fault_if, pattern_names, constructor_fault, record_fault, pattern_fault, patterns_fault}
use Rattle.elab_groups.specs.name_resolution.Records.{record_named, put_at_places}
use Rattle.elab_groups.specs.name_resolution.Where.{Where, place_of}
use Rattle.elab_groups.specs.open_types.Patterns.{noted, LocalTree, local, taken, at_unknowns, result_or_int, NumberedEntry, entry_of, Matched, local_type, variable_equations, constructed_by, part_types, place_types, PatternTree, tree_of_matched, side_by_side_trees, wildcard_tree, fields_piece, all_notes, part_pieces, pattern_piece, patterns_piece}
use Rattle.elab_groups.specs.open_types.Pieces.{field_places}
use Rattle.elab_groups.proofs.name_resolution.Putting.{ArePaired, put_paired, put_all}
use Rattle.elab_groups.proofs.name_resolution.Fielded.{is_fielded, fielded_kind}
use Rattle.elab_groups.proofs.open_types.Walking.{none_both, must_be}
use Rattle.elaboration_laws.specs.Signature.{IsSymbol, IsTuple, IsWellFormed, PatternTuples, PatternsTuples}
use Rattle.elaboration_laws.specs.Typed.{assigned_types}
use Rattle.elaboration_laws.proofs.Over.{IsOver, AreOver, type_over, over_assigned}
use Rattle.elaboration_laws.proofs.Instances.{inst_over, variables_over, cells_assigned, all_assigned_over}
use Rattle.elaboration_laws.proofs.Forms.{PatternTyped, PartsTyped, wild_typed, bound_typed, alias_typed, no_parts, more_parts, constructor_typed}
use Rattle.elaboration_laws.proofs.Signed.{IsEntry, named_symbol, named_matched, parameters_over, instance_at, at_assigned, parameters_assigned, int_over}
use Rattle.elaboration_laws.proofs.Placing.{places_long, places_over, fields_long}
pub use Rattle.elaboration_laws.proofs.Sound.{constructor_is}
use Rattle.elaboration_laws.proofs.Sound.{record_symbol, AreNoted, noted_sound, both_noted, none_noted, suc_same, EquationsOver, first_solved, rest_solved, LocalsOver, both_locals, sig, result_is, result_typed, count_at}

-- the types of variables, innermost first
abbrev pub inner_types : ℕ → (ℕ → Tree) → List LocalTree → List Tree
inner_types r f vs = assigned_types r f (reverse vs)

inner_both : (r : ℕ) (f : ℕ → Tree) (xs ys : List LocalTree) → inner_types r f (xs ++ ys) ≡ inner_types r f ys ++ inner_types r f xs
inner_both r f xs ys = ap (assigned_types r f) (reverse-append xs ys) ∙ map-append (λ (l : LocalTree). assign r f l.type) (reverse ys) (reverse xs)

type_in_over : (v : Vocabulary) (x : Word) (ls : List LocalTree) → IsOver v true int_type → LocalsOver v ls → IsOver v true (local_type x ls)
type_in_over v x [] i h = i
type_in_over v x (l ∷ ls) i h = of (bytes_eq l.name x) (type_in_over v x ls i h.1)
  where
    of : (b : Bool) → IsOver v true (local_type x ls) → IsOver v true (cond b l.type (local_type x ls))
    of true k = h.0
    of false k = k

abbrev pub FirstOver : Vocabulary → Option (List LocalTree) → Type 0
FirstOver v first = IfSome first (LocalsOver v)

bind_over : (v : Vocabulary) (first : Option (List LocalTree)) (x : Word) (t : Tree) → IsOver v true int_type → FirstOver v first → IsOver v true t → EquationsOver v (variable_equations first x t)
bind_over v None x t i h o = tt
bind_over v (Some ls) x t i h o = ((type_in_over v x ls i h, o), tt)

module _ (base : Vocabulary) (w : Where) (good : IsWellFormed base w) (rigid : ℕ) where
  abbrev v : Vocabulary
  v = sig base w

  abbrev r : ℕ
  r = rigid

  pub record IsMatched (t : Tree) (m : Matched) : Type 0 where
    pub notes : AreNoted base w rigid m.notes
    pub variables : LocalsOver v m.variables
    pub typed : (f : ℕ → Tree) → ((j : ℕ) → IsOver v true (f j)) → SolvesAll r f m.notes.equations → (types : List Tree)
        → PatternTyped v types (assign r f t) (inner_types r f m.variables) (assign r f m.tree)

  -- parts of these types
  pub record AreMatched (ts : List Tree) (m : Matched) : Type 0 where
    pub notes : AreNoted base w rigid m.notes
    pub variables : LocalsOver v m.variables
    pub typed : (f : ℕ → Tree) → ((j : ℕ) → IsOver v true (f j)) → SolvesAll r f m.notes.equations → (types : List Tree)
        → PartsTyped v types (map (assign r f) ts) (inner_types r f m.variables) (assign r f m.tree)

  -- a constructor with as many parts
  abbrev IsConstructor : ℕ → NumberedEntry → Type 0
  IsConstructor n c = IsEntry v c × (c.symbol.kind ≡ Constructor) × IsTrue (v.matched c.number) × (length c.symbol.args ≡ n)

  constructor_named : (i n : ℕ) (m : Option ℕ) → IfSome m (IsSymbol v) → constructor_fault w i n m ≡ None → IsConstructor n (entry_of w.symbols m)
  constructor_named i n None s h = absurd (cc)
  constructor_named i n (Some k) s h =
      let e = symbol_or w.symbols k in
      let p = none_both (fault_if (not (is_constructor_kind e.kind)) (WrongKind i)) (fault_if (not (length e.args == n)) (Arity i)) h in
      let q = constructor_is e.kind (must_be (is_constructor_kind e.kind) (WrongKind i) p.0) in
      (named_symbol v k s, q, named_matched base w good k s q, eqb-true (length e.args) n (must_be (length e.args == n) (Arity i) p.1))

  constructor_record : (whole : Bool) (i n : ℕ) (fs : List FieldName) → record_fault w whole i n fs ≡ None
      → IsConstructor (length (symbol_or w.symbols (record_named w.symbols w.names fs)).args) (entry_of w.symbols (Some (record_named w.symbols w.names fs)))
  constructor_record whole i n fs h =
      let c = record_named w.symbols w.names fs in
      let k = fielded_kind w whole n fs (is_fielded w whole i n fs h) in
      let s = record_symbol base w good rigid fs k in
      let q = constructor_is (symbol_or w.symbols c).kind k in
      (named_symbol v c s, q, named_matched base w good c s q, refl)

  constructor_tuple : (n : ℕ) (m : Option ℕ) → IsSomeAnd m (IsTuple v n) → IsConstructor n (entry_of w.symbols m)
  constructor_tuple n None s = absurd s
  constructor_tuple n (Some k) s = (named_symbol v k s.symbol, s.kind, named_matched base w good k s.symbol s.kind, s.args)

  constructed_sound : (n i k : ℕ) (t : Tree) (c : NumberedEntry) (m : Matched) → IsConstructor k c → IsOver v true t → AreMatched (part_types n c) m → IsMatched t (constructed_by n i t c m)
  constructed_sound n i k t c m it o a =
      let e = c.symbol in
      let named = it.0 in
      let makes : MakesTerms e.kind = rw it.1 tt in
      let x = result_is base w good rigid c named makes in
      let z = result_typed base w good rigid c named e.result x.0 x.1 named.types.result in
      let u : at_unknowns n e (result_or_int e.result) ≡ at_unknowns n e x.0 = ap (λ (y : Option Tree). at_unknowns n e (result_or_int y)) x.1 in
      record {
        notes =
            let from = at_unknowns n e (result_or_int e.result) in
            both_noted base w rigid (noted ((from, t) ∷ []) (replicate e.vars i)) m.notes
            (noted_sound base w rigid ((from, t) ∷ []) (replicate e.vars i) ((rw u (inst_over v true (type_variables n e.vars) (variables_over v n e.vars) x.0 (type_over v e.vars x.0 z)), o), tt)) a.notes;
        variables = a.variables;
        typed = λ f g s types.
            let ts = instance_at v e named.types n r f in
            let y = a.typed f g s.1 types in
            let same : inst_types x.0 ts ≡ assign r f t = sym (at_assigned v e named.types n r f x.0 z) ∙ ap (assign r f) (sym u) ∙ s.0 in
            let parts : PartsTyped v types (map (λ b. inst_types b ts) e.args) (inner_types r f m.variables) (assign r f m.tree) = rw (sym (parameters_assigned v e named.types n r f)) y in
            rw (cells_assigned r f (type_variables n e.vars)) (constructor_typed v types c.number e ts (inner_types r f m.variables) (assign r f m.tree) x.0 (assign r f t) it.2 named.entry it.1 (count_at base w good rigid c named n f)
            (all_assigned_over v r f g (type_variables n e.vars) (variables_over v n e.vars)) parts x.1 same (over_assigned v r f g true t o));
      }

  parts_count : (n k : ℕ) (c : NumberedEntry) → IsConstructor k c → length (part_types n c) ≡ k
  parts_count n k c it = length-map c.symbol.args (at_unknowns n c.symbol) ∙ it.3

  -- ---- the parts of a record
  module _ (f : ℕ → Tree) (g : (j : ℕ) → IsOver v true (f j)) (types : List Tree) where
    abbrev IsPart : Tree → PatternTree → Type 0
    IsPart t p = PatternTyped v types (assign r f t) (inner_types r f p.variables) (assign r f p.tree)

    parts_typed : (ts : List Tree) (ms : List Matched) → ArePaired IsMatched ts ms → SolvesAll r f (all_notes ms).equations → ArePaired IsPart ts (map tree_of_matched ms)
    parts_typed [] [] h s = tt
    parts_typed [] (m ∷ ms) h s = absurd h
    parts_typed (t ∷ ts) [] h s = absurd h
    parts_typed (t ∷ ts) (m ∷ ms) h s =
        (h.0.typed f g (first_solved r f m.notes.equations (all_notes ms).equations s) types, parts_typed ts ms h.1 (rest_solved r f m.notes.equations (all_notes ms).equations s))

    wildcards_typed : (ts : List Tree) → AreOver v ts → ArePaired IsPart ts (map wildcard_tree ts)
    wildcards_typed [] o = tt
    wildcards_typed (t ∷ ts) o = (wild_typed v types (assign r f t) (over_assigned v r f g true t o.0), wildcards_typed ts o.1)

    sides_typed : (ts : List Tree) (ps : List PatternTree) → ArePaired IsPart ts ps
        → PartsTyped v types (map (assign r f) ts) (inner_types r f (side_by_side_trees ps).variables) (assign r f (side_by_side_trees ps).tree)
    sides_typed [] [] h = no_parts v types
    sides_typed [] (p ∷ ps) h = absurd h
    sides_typed (t ∷ ts) [] h = absurd h
    sides_typed (t ∷ ts) (p ∷ ps) h =
        let rest = side_by_side_trees ps in
        rw (inner_both r f p.variables rest.variables)
        (more_parts v types (assign r f t) (map (assign r f) ts) (inner_types r f p.variables) (inner_types r f rest.variables) (assign r f p.tree) (assign r f rest.tree) h.0 (sides_typed ts ps h.1))

  abbrev BoundOver : PatternTree → Type 0
  BoundOver p = LocalsOver v p.variables

  parts_over : (ts : List Tree) (ms : List Matched) → ArePaired IsMatched ts ms → AllByRecursion BoundOver (map tree_of_matched ms)
  parts_over [] [] h = tt
  parts_over [] (m ∷ ms) h = absurd h
  parts_over (t ∷ ts) [] h = absurd h
  parts_over (t ∷ ts) (m ∷ ms) h = (h.0.variables, parts_over ts ms h.1)

  wildcards_over : (ts : List Tree) → AllByRecursion BoundOver (map wildcard_tree ts)
  wildcards_over [] = tt
  wildcards_over (t ∷ ts) = (tt, wildcards_over ts)

  sides_over : (ps : List PatternTree) → AllByRecursion BoundOver ps → LocalsOver v (side_by_side_trees ps).variables
  sides_over [] h = tt
  sides_over (p ∷ ps) h = both_locals v p.variables (side_by_side_trees ps).variables h.0 (sides_over ps h.1)

  parts_noted : (ts : List Tree) (ms : List Matched) → ArePaired IsMatched ts ms → AreNoted base w rigid (all_notes ms)
  parts_noted [] [] h = none_noted base w rigid
  parts_noted [] (m ∷ ms) h = absurd h
  parts_noted (t ∷ ts) [] h = absurd h
  parts_noted (t ∷ ts) (m ∷ ms) h = both_noted base w rigid m.notes (all_notes ms) h.0.notes (parts_noted ts ms h.1)

  fields_sound : (places : List ℕ) (ts : List Tree) (ms : List Matched) → AreOver v ts → ArePaired IsMatched (place_types places ts) ms → AreMatched ts (fields_piece places ts ms)
  fields_sound places ts ms o h = record {
    notes = parts_noted (place_types places ts) ms h;
    variables = sides_over (put_at_places places (map tree_of_matched ms) (map wildcard_tree ts)) (put_all BoundOver places (map tree_of_matched ms) (map wildcard_tree ts) (parts_over (place_types places ts) ms h) (wildcards_over ts));
    typed = λ f g s types.
        sides_typed f g types ts (put_at_places places (map tree_of_matched ms) (map wildcard_tree ts))
        (put_paired (IsPart f g types) int_type places ts (map tree_of_matched ms) (map wildcard_tree ts) (wildcards_typed f g types ts o) (parts_typed f g types (place_types places ts) ms h s));
  }

  mutual
    pub pattern_sound : (p : Pattern) (first : Option (List LocalTree)) (n : ℕ) (t : Tree) (seen : List Word) → FirstOver v first → IsOver v true t → PatternTuples base w p → pattern_fault w seen p ≡ None → IsMatched t (pattern_piece w first n t p)
    pattern_sound (wildcard_pattern i) first n t seen h o u q = record { notes = none_noted base w rigid; variables = tt; typed = λ f g s types. wild_typed v types (assign r f t) (over_assigned v r f g true t o) }
    pattern_sound (variable_pattern i x) first n t seen h o u q = record {
      notes = noted_sound base w rigid (variable_equations first x t) [] (bind_over v first x t (int_over base w good) h o);
      variables = (o, tt);
      typed = λ f g s types. bound_typed v types (assign r f t) (over_assigned v r f g true t o);
    }
    pattern_sound (constructor_pattern i qs x ps) first n t seen h o u q =
        let p = none_both (constructor_fault w i (count_patterns ps) (w.names qs x)) (patterns_fault w seen ps) q in
        let c = entry_of w.symbols (w.names qs x) in
        let it = constructor_named i (count_patterns ps) (w.names qs x) (good.names qs x) p.0 in
        constructed_sound n i (count_patterns ps) t c (patterns_piece w first (n + c.symbol.vars) (part_types n c) ps) it o
        (patterns_sound ps first (n + c.symbol.vars) (part_types n c) seen (parts_count n (count_patterns ps) c it) h (parameters_over v c.symbol it.0.types n) u p.1)
    pattern_sound (tuple_pattern i ps) first n t seen h o u q =
        let c = entry_of w.symbols (w.tuples (count_patterns ps)) in
        let it = constructor_tuple (count_patterns ps) (w.tuples (count_patterns ps)) u.0 in
        constructed_sound n i (count_patterns ps) t c (patterns_piece w first (n + c.symbol.vars) (part_types n c) ps) it o
        (patterns_sound ps first (n + c.symbol.vars) (part_types n c) seen (parts_count n (count_patterns ps) c it) h (parameters_over v c.symbol it.0.types n) u.1 q)
    pattern_sound (alias_pattern p i x) first n t seen h o u q =
        let k = none_both (pattern_fault w seen p) (fault_if (is_some (place_of x (seen ++ pattern_names p))) (Duplicate i)) q in
        let inner = pattern_piece w first n t p in
        let y = pattern_sound p first n t seen h o u k.0 in
        record {
          notes = both_noted base w rigid inner.notes (noted (variable_equations first x t) []) y.notes (noted_sound base w rigid (variable_equations first x t) [] (bind_over v first x t (int_over base w good) h o));
          variables = both_locals v inner.variables (local x t ∷ []) y.variables (o, tt);
          typed = λ f g s types. rw (inner_both r f inner.variables (local x t ∷ []))
              (alias_typed v types (assign r f t) (inner_types r f inner.variables) (assign r f inner.tree) (y.typed f g (first_solved r f inner.notes.equations (variable_equations first x t) s) types));
        }
    pattern_sound (record_pattern i fs ps) first n t seen h o u q =
        let p = none_both (record_fault w false i (count_patterns ps) fs) (patterns_fault w seen ps) q in
        let k = record_named w.symbols w.names fs in
        let c = entry_of w.symbols (Some k) in
        let it = constructor_record false i (count_patterns ps) fs p.0 in
        let places = field_places w fs in
        let ts = part_types n c in
        let over' = parameters_over v c.symbol it.0.types n in
        let m = n + c.symbol.vars in
        let count : length (place_types places ts) ≡ count_patterns ps = places_long places ts ∙ fields_long w false (count_patterns ps) fs (is_fielded w false i (count_patterns ps) fs p.0) in
        constructed_sound n i (length c.symbol.args) t c (fields_piece places ts (part_pieces w first m (place_types places ts) ps)) it o
        (fields_sound places ts (part_pieces w first m (place_types places ts) ps) over' (parts_sound ps first m (place_types places ts) seen count h (places_over v (int_over base w good) places ts over') u p.1))

    patterns_sound : (ps : Patterns) (first : Option (List LocalTree)) (n : ℕ) (ts : List Tree) (seen : List Word) → length ts ≡ count_patterns ps → FirstOver v first → AreOver v ts → PatternsTuples base w ps → patterns_fault w seen ps ≡ None
        → AreMatched ts (patterns_piece w first n ts ps)
    patterns_sound no_patterns first n [] seen l h o u q = record { notes = none_noted base w rigid; variables = tt; typed = λ f g s types. no_parts v types }
    patterns_sound no_patterns first n (t ∷ ts) seen l h o u q = absurd (cc)
    patterns_sound (more_patterns p ps) first n [] seen l h o u q = absurd (cc)
    patterns_sound (more_patterns p ps) first n (t ∷ ts) seen l h o u q =
        let k = none_both (pattern_fault w seen p) (patterns_fault w (seen ++ pattern_names p) ps) q in
        let one = pattern_piece w first n t p in
        let rest = patterns_piece w first (n + taken one.notes) ts ps in
        let x = pattern_sound p first n t seen h o.0 u.0 k.0 in
        let y = patterns_sound ps first (n + taken one.notes) ts (seen ++ pattern_names p) (suc_same l) h o.1 u.1 k.1 in
        record {
          notes = both_noted base w rigid one.notes rest.notes x.notes y.notes;
          variables = both_locals v one.variables rest.variables x.variables y.variables;
          typed = λ f g s types. rw (inner_both r f one.variables rest.variables)
              (more_parts v types (assign r f t) (map (assign r f) ts) (inner_types r f one.variables) (inner_types r f rest.variables) (assign r f one.tree) (assign r f rest.tree)
              (x.typed f g (first_solved r f one.notes.equations rest.notes.equations s) types) (y.typed f g (rest_solved r f one.notes.equations rest.notes.equations s) types));
        }

    parts_sound : (ps : Patterns) (first : Option (List LocalTree)) (n : ℕ) (ts : List Tree) (seen : List Word) → length ts ≡ count_patterns ps → FirstOver v first → AreOver v ts → PatternsTuples base w ps → patterns_fault w seen ps ≡ None
        → ArePaired IsMatched ts (part_pieces w first n ts ps)
    parts_sound no_patterns first n [] seen l h o u q = tt
    parts_sound no_patterns first n (t ∷ ts) seen l h o u q = absurd (cc)
    parts_sound (more_patterns p ps) first n [] seen l h o u q = absurd (cc)
    parts_sound (more_patterns p ps) first n (t ∷ ts) seen l h o u q =
        let k = none_both (pattern_fault w seen p) (patterns_fault w (seen ++ pattern_names p) ps) q in
        (pattern_sound p first n t seen h o.0 u.0 k.0, parts_sound ps first (n + taken (pattern_piece w first n t p).notes) ts (seen ++ pattern_names p) (suc_same l) h o.1 u.1 k.1)
