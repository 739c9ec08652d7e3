-- What it is for a piece to be well typed at each solution of its equations, and how the parts of a form make it so.
use Rattle.std.proofs.Common.{◌≡◌, ℕ, ◌==◌, suc, Bool, true, false, not, cond, List, [], ◌∷◌, ◌++◌, map, replicate, length, slice_get, Option, Some, None, IfSome, IsSomeAnd, option_map, refl, sym, ap, subst, ◌∙◌, arith}
use Rattle.std.specs.Option.{is_some, is_none}
use Rattle.std.specs.List.{AllByRecursion}
use Rattle.std.specs.Str.{bytes_eq}
use Rattle.std.proofs.lemmas.Bool.{eqb-true}
use Rattle.std.proofs.Math.ListN.{length-map}
use Rattle.elab_groups.specs.trees.declared.Sort.TheVariants.{Term, Pattern}
use Rattle.elab_groups.specs.trees.Tree.{Tree, Leaf, One, Two, HEnd, HCell, HBound}
use Rattle.elab_groups.specs.trees.Sorts.{int_type, sort_of, type_of}
use Rattle.elab_groups.specs.trees.Binding.{inst_types}
use Rattle.elab_groups.specs.trees.Facts.{IndicesFit}
use Rattle.elab_groups.specs.tasks.declared.signature.SymbolKind.{SymbolKind}
use Rattle.elab_groups.specs.tasks.declared.signature.SymbolKind.TheVariants.{Kind, Predicate, Constructor}
use Rattle.elab_groups.specs.tasks.Task.{SymbolTree, symbol_or, int_symbol}
use Rattle.elab_groups.specs.tasks.Vocabulary.{Vocabulary, is_constructor_kind}
use Rattle.elab_groups.specs.tasks.Equations.{cells, type_variables}
use Rattle.elab_groups.specs.tasks.Typing.{MakesTerms, members}
use Rattle.elab_groups.specs.tasks.Valid.{IsTypeIn}
use Rattle.elab_groups.specs.open_types.unify_types.Assigned.{assign}
use Rattle.elab_groups.specs.open_types.unify_types.Pairs.{SolvesAll}
use Rattle.elab_groups.specs.surface.Lexeme.{Word}
use Rattle.elab_groups.specs.name_resolution.Abstract.{FieldName}
use Rattle.elab_groups.specs.name_resolution.declared.NamingFault.TheVariants.{WrongKind, Arity}
use Rattle.elab_groups.specs.name_resolution.Faults.{fault_if, name_fault, field_fault, local_fault, symbol_fault, is_predicate, is_projection, differ, entry_fault, record_fault}
use Rattle.elab_groups.specs.name_resolution.Records.{constructor_before, record_with, record_named, entry_of_field, put_at_places, named_after, each_named}
use Rattle.elab_groups.specs.name_resolution.Where.{Where}
use Rattle.elab_groups.specs.open_types.Patterns.{Notes, noted, no_notes, follow, LocalTree, at_unknowns, result_or_int, first_or_int, rest_of, place_types, NumberedEntry, entry_of}
use Rattle.elab_groups.specs.open_types.Pieces.{NotedTree, bare_piece, both_pieces, Use, Local', Symbol', variable_named, found_local, use_or, use_of_name, field_use, tuple_use, record_use, values_placed, piece_under, parameters, used_piece, names}
use Rattle.elab_groups.proofs.name_resolution.Fielded.{AreNewPlaces, is_fielded, fielded_kind}
use Rattle.elab_groups.proofs.open_types.Below.{both_all}
use Rattle.elab_groups.proofs.open_types.Walking.{none_both, not_if, must_be}
use Rattle.elaboration_laws.specs.Signature.{with_entries, IsSymbol, IsTuple, IsWellFormed, HasTuple}
use Rattle.elaboration_laws.specs.Typed.{assigned_types}
use Rattle.elaboration_laws.proofs.Over.{IsGood, IsOver, AreOver, type_over, over_assigned}
use Rattle.elaboration_laws.proofs.Instances.{inst_over, variables_over, cells_assigned, all_assigned_over}
use Rattle.elaboration_laws.proofs.Forms.{TypedAs, ListTyped, variable_typed, predicate_typed, function_typed, end_typed, cell_typed}
use Rattle.elaboration_laws.proofs.Placing.{IsCells, no_value, types_at, cells_at, placed_at, placed_values}
use Rattle.elaboration_laws.proofs.Signed.{IsEntry, named_symbol, parameters_over, instance_at, at_assigned, parameters_assigned, is_predicate_kind, makes_terms}
use Rattle.elab_groups.proofs.open_types.Arguments.{found_name}
use Rattle.theory_states.proofs.goal_tasks.TuplesMade.{variables_count as count_variables}

pub suc_same : {m n : ℕ} → suc m ≡ suc n → m ≡ n
suc_same h = omega (arith, h)

-- ---- equations
abbrev pub EquationsOver : Vocabulary → List (Tree × Tree) → Type 0
EquationsOver v [] = Unit {0}
EquationsOver v (e ∷ es) = (IsOver v true e.0 × IsOver v true e.1) × EquationsOver v es

pub more_over : (v : Vocabulary) (xs ys : List (Tree × Tree)) → EquationsOver v xs → EquationsOver v ys → EquationsOver v (xs ++ ys)
more_over v [] ys h k = k
more_over v (x ∷ xs) ys h k = (h.0, more_over v xs ys h.1 k)

pub first_solved : (r : ℕ) (f : ℕ → Tree) (xs ys : List (Tree × Tree)) → SolvesAll r f (xs ++ ys) → SolvesAll r f xs
first_solved r f [] ys h = tt
first_solved r f (x ∷ xs) ys h = (h.0, first_solved r f xs ys h.1)

pub rest_solved : (r : ℕ) (f : ℕ → Tree) (xs ys : List (Tree × Tree)) → SolvesAll r f (xs ++ ys) → SolvesAll r f ys
rest_solved r f [] ys h = h
rest_solved r f (x ∷ xs) ys h = rest_solved r f xs ys h.1

-- ---- variables
abbrev pub LocalsOver : Vocabulary → List LocalTree → Type 0
LocalsOver v [] = Unit {0}
LocalsOver v (l ∷ ls) = IsOver v true l.type × LocalsOver v ls

pub both_locals : (v : Vocabulary) (xs ys : List LocalTree) → LocalsOver v xs → LocalsOver v ys → LocalsOver v (xs ++ ys)
both_locals v [] ys h k = k
both_locals v (x ∷ xs) ys h k = (h.0, both_locals v xs ys h.1 k)

-- a variable by its name, or none
abbrev IsFound : Vocabulary → List LocalTree → Option (ℕ × Tree) → Type 0
IsFound v ls o = IfSome o (λ (p : ℕ × Tree). IsOver v true p.1 × ((r : ℕ) (f : ℕ → Tree) → slice_get (assigned_types r f ls) p.0 ≡ Some (assign r f p.1)))

variable_found : (v : Vocabulary) (x : Word) (ls : List LocalTree) → LocalsOver v ls → IsFound v ls (variable_named x ls)
variable_found v x [] h = tt
variable_found v x (l ∷ ls) h = of (bytes_eq l.name x) (variable_named x ls) (variable_found v x ls h.1)
  where
    of : (b : Bool) (o : Option (ℕ × Tree)) → IsFound v ls o → IsFound v (l ∷ ls) (cond b (Some (0, l.type)) (option_map (λ (p : ℕ × Tree). (suc p.0, p.1)) o))
    of true o k = (h.0, λ r f. refl)
    of false None k = tt
    of false (Some p) k = (k.0, λ r f. k.1 r f)

is_found : (v : Vocabulary) (qs : List Word) (x : Word) (ls : List LocalTree) → LocalsOver v ls → IsFound v ls (found_local qs x ls)
is_found v [] x ls h = variable_found v x ls h
is_found v (q ∷ qs) x ls h = tt

-- ---- what is due
abbrev pub KindFits : Bool → SymbolKind → Type 0
KindFits true k = k ≡ Predicate
KindFits false k = is_predicate k ≡ false

kind_fits : (due : Bool) (k : SymbolKind) → differ due (is_predicate k) ≡ false → KindFits due k
kind_fits true k h = is_predicate_kind k (of (is_predicate k) h)
  where
    of : (b : Bool) → not b ≡ false → b ≡ true
    of true q = refl
    of false q = absurd (cc)
kind_fits false k h = h

-- a use with so many arguments
abbrev pub IsUsable : Vocabulary → List LocalTree → Bool → ℕ → Use → Type 0
IsUsable v ls due n (Local' p ty) = (due ≡ false) × (n ≡ 0) × IsOver v true ty × ((r : ℕ) (f : ℕ → Tree) → slice_get (assigned_types r f ls) p ≡ Some (assign r f ty))
IsUsable v ls due n (Symbol' e) = IsEntry v e × KindFits due e.symbol.kind × (length e.symbol.args ≡ n)

abbrev pub WantedOver : Vocabulary → Option Tree → Type 0
WantedOver v t = IfSome t (IsOver v true)

pub first_over : (v : Vocabulary) (ts : List Tree) → IsOver v true int_type → AreOver v ts → IsOver v true (first_or_int ts)
first_over v [] i h = i
first_over v (t ∷ ts) i h = h.0

pub rest_over : (v : Vocabulary) (ts : List Tree) → AreOver v ts → AreOver v (rest_of ts)
rest_over v [] h = tt
rest_over v (t ∷ ts) h = h.1

pub parameters_count : (v : Vocabulary) (ls : List LocalTree) (due : Bool) (n m : ℕ) (u : Use) → IsUsable v ls due n u → length (parameters m u) ≡ n
parameters_count v ls due n m (Local' p ty) h = sym h.1
parameters_count v ls due n m (Symbol' e) h = length-map e.symbol.args (at_unknowns m e.symbol) ∙ h.2

pub usable_over : (v : Vocabulary) (ls : List LocalTree) (due : Bool) (n m : ℕ) (u : Use) → IsUsable v ls due n u → AreOver v (parameters m u)
usable_over v ls due n m (Local' p ty) h = tt
usable_over v ls due n m (Symbol' e) h = parameters_over v e.symbol h.0.types m

abbrev pub sig : Vocabulary → Where → Vocabulary
sig base w = with_entries base w.symbols

-- a field's name without a fault is that of a symbol of one argument
pub field_applied : (w : Where) (due : Bool) (i : ℕ) (m : Option ℕ) → field_fault w due i m ≡ None → symbol_fault w due i 1 m ≡ None
field_applied w due i None h = absurd (cc (h))
field_applied w due i (Some k) h = let e = symbol_or w.symbols k in (none_both (fault_if (not (is_projection e.kind)) (WrongKind i)) (entry_fault due i 1 e) h).1

pub constructor_is : (k : SymbolKind) → is_constructor_kind k ≡ true → k ≡ Constructor
constructor_is Constructor q = refl
constructor_is _ q = absurd (cc)

-- ---- notes
module _ (base : Vocabulary) (w : Where) (rigid : ℕ) where
  -- a pattern of a type
  abbrev pub IsPatternAt : Tree → Tree → Type 0
  IsPatternAt t e = IsGood (sig base w) [] e × (sort_of e ≡ Pattern) × (type_of e ≡ Some t)

  -- patterns of one type, at assigned unknowns
  abbrev pub ArePatternsAt : (ℕ → Tree) → List Tree → Type 0
  ArePatternsAt f ps = (t : Tree) × IsOver (sig base w) true t × AllByRecursion (IsPatternAt t) (map (assign rigid f) ps)

  -- equations between types over the signature, and matches whose patterns are of one type
  pub record AreNoted (ns : Notes) : Type 0 where
    pub equations : EquationsOver (sig base w) ns.equations
    pub matches : (f : ℕ → Tree) → ((j : ℕ) → IsOver (sig base w) true (f j)) → SolvesAll rigid f ns.equations → AllByRecursion (λ (m : ℕ × List Tree). ArePatternsAt f m.1) ns.matches

  pub noted_sound : (es : List (Tree × Tree)) (ts : List ℕ) → EquationsOver (sig base w) es → AreNoted (noted es ts)
  noted_sound es ts h = record { equations = h; matches = λ f o s. tt }

  pub both_noted : (a b : Notes) → AreNoted a → AreNoted b → AreNoted (follow a b)
  both_noted a b x y = record {
    equations = more_over (sig base w) a.equations b.equations x.equations y.equations;
    matches = λ f o s. both_all (λ (m : ℕ × List Tree). ArePatternsAt f m.1) a.matches b.matches (x.matches f o (first_solved rigid f a.equations b.equations s)) (y.matches f o (rest_solved rigid f a.equations b.equations s));
  }

  pub none_noted : AreNoted no_notes
  none_noted = noted_sound [] [] tt

module _ (base : Vocabulary) (w : Where) (good : IsWellFormed base w) (rigid : ℕ) where
  -- an entry that a name leads to
  symbol_usable : (ls : List LocalTree) (due : Bool) (i n : ℕ) (m : Option ℕ) → IfSome m (IsSymbol (sig base w)) → symbol_fault w due i n m ≡ None → IsUsable (sig base w) ls due n (Symbol' (entry_of w.symbols m))
  symbol_usable ls due i n None s h = absurd (cc)
  symbol_usable ls due i n (Some k) s h =
      let e = symbol_or w.symbols k in
      let p = none_both (fault_if (differ due (is_predicate e.kind)) (WrongKind i)) (fault_if (not (length e.args == n)) (Arity i)) h in
      (named_symbol (sig base w) k s, kind_fits due e.kind (not_if (differ due (is_predicate e.kind)) (WrongKind i) p.0), eqb-true (length e.args) n (must_be (length e.args == n) (Arity i) p.1))

  pub named_usable : (ls : List LocalTree) (due : Bool) (i n : ℕ) (qs : List Word) (x : Word) → LocalsOver (sig base w) ls → name_fault w (names ls) due i qs x n ≡ None → IsUsable (sig base w) ls due n (use_of_name w ls qs x)
  named_usable ls due i n qs x h q = of (found_local qs x ls) (is_found (sig base w) qs x ls h) (ap (λ (b : Bool). cond b (local_fault due i n) (symbol_fault w due i n (w.names qs x))) (sym (found_name qs x ls)) ∙ q)
    where
      of : (o : Option (ℕ × Tree)) → IsFound (sig base w) ls o → cond (is_some o) (local_fault due i n) (symbol_fault w due i n (w.names qs x)) ≡ None → IsUsable (sig base w) ls due n (use_or o (Symbol' (entry_of w.symbols (w.names qs x))))
      of None k z = symbol_usable ls due i n (w.names qs x) (good.names qs x) z
      of (Some p) k z =
          let l = none_both (fault_if due (WrongKind i)) (fault_if (not (n == 0)) (Arity i)) z in
          (not_if due (WrongKind i) l.0, eqb-true n 0 (must_be (n == 0) (Arity i) l.1), k.0, k.1)

  pub field_usable : (ls : List LocalTree) (due : Bool) (i : ℕ) (qs : List Word) (x : Word) → field_fault w due i (w.names qs x) ≡ None → IsUsable (sig base w) ls due 1 (field_use w qs x)
  field_usable ls due i qs x h = symbol_usable ls due i 1 (w.names qs x) (good.names qs x) (field_applied w due i (w.names qs x) h)

  -- the first entry is no constructor
  first_kind : (es : List SymbolTree) → slice_get es 0 ≡ Some int_symbol → (symbol_or es 0).kind ≡ Kind
  first_kind [] h = absurd (cc (h))
  first_kind (e ∷ es) h = let q : e ≡ int_symbol = cc (h) in ap (λ (i : SymbolTree). i.kind) q

  first_none : is_constructor_kind (symbol_or w.symbols 0).kind ≡ true → ⊥
  first_none h = let q : is_constructor_kind Kind ≡ true = ap is_constructor_kind (sym (first_kind w.symbols good.int)) ∙ h in cc (q)

  -- the constructor of the record to which fields belong
  pub record_symbol : (fs : List FieldName) → is_constructor_kind (symbol_or w.symbols (record_named w.symbols w.names fs)).kind ≡ true → IsSymbol (sig base w) (record_named w.symbols w.names fs)
  record_symbol [] h = absurd (first_none h)
  record_symbol (f ∷ fs) h = of (entry_of_field w.names f) (good.names f.scopes f.text) h
    where
      of : (m : Option ℕ) → IfSome m (IsSymbol (sig base w)) → is_constructor_kind (symbol_or w.symbols (record_with w.symbols m)).kind ≡ true → IsSymbol (sig base w) (record_with w.symbols m)
      of None s k = absurd (first_none k)
      of (Some j) s k = good.records j s (constructor_is (symbol_or w.symbols (constructor_before w.symbols j)).kind k)

  pub record_usable : (ls : List LocalTree) (whole : Bool) (i n : ℕ) (fs : List FieldName) → record_fault w whole i n fs ≡ None
      → IsUsable (sig base w) ls false (length (symbol_or w.symbols (record_named w.symbols w.names fs)).args) (record_use w fs)
  record_usable ls whole i n fs h =
      let c = record_named w.symbols w.names fs in
      let k = fielded_kind w whole n fs (is_fielded w whole i n fs h) in
      (named_symbol (sig base w) c (record_symbol fs k), ap is_predicate (constructor_is (symbol_or w.symbols c).kind k), refl)

  pub tuple_usable : (ls : List LocalTree) (n : ℕ) → HasTuple base w n → IsUsable (sig base w) ls false n (tuple_use w n)
  tuple_usable ls n h = of (w.tuples n) h
    where
      of : (m : Option ℕ) → IsSomeAnd m (IsTuple (sig base w) n) → IsUsable (sig base w) ls false n (Symbol' (entry_of w.symbols m))
      of None x = absurd x
      of (Some k) x = (named_symbol (sig base w) k x.symbol, ap is_predicate x.kind, x.args)

  -- ---- pieces
  pub record IsSound (ls : List LocalTree) (t : Option Tree) (p : NotedTree) : Type 0 where
    pub notes : AreNoted base w rigid p.notes
    pub typed : (f : ℕ → Tree) → ((j : ℕ) → IsOver (sig base w) true (f j)) → SolvesAll rigid f p.notes.equations → IndicesFit (assign rigid f p.tree)
        → TypedAs (sig base w) (assigned_types rigid f ls) (option_map (assign rigid f) t) (assign rigid f p.tree)

  -- arguments, of which these types are wanted
  pub record AreSound (ls : List LocalTree) (ts : List Tree) (p : NotedTree) : Type 0 where
    pub notes : AreNoted base w rigid p.notes
    pub typed : (f : ℕ → Tree) → ((j : ℕ) → IsOver (sig base w) true (f j)) → SolvesAll rigid f p.notes.equations → IndicesFit (assign rigid f p.tree)
        → ListTyped (sig base w) Term (assigned_types rigid f ls) (map (assign rigid f) ts) (assign rigid f p.tree)

  pub no_arguments : (ls : List LocalTree) → AreSound ls [] (bare_piece (Leaf HEnd))
  no_arguments ls = record { notes = none_noted base w rigid; typed = λ f o s i. end_typed (sig base w) (assigned_types rigid f ls) Term }

  pub more_arguments : (ls : List LocalTree) (t : Tree) (ts : List Tree) (p q : NotedTree) → IsSound ls (Some t) p → AreSound ls ts q → AreSound ls (t ∷ ts) (both_pieces (Two HCell) p q)
  more_arguments ls t ts p q x y = record {
    notes = both_noted base w rigid p.notes q.notes x.notes y.notes;
    typed = λ f o s i.
        let a = x.typed f o (first_solved rigid f p.notes.equations q.notes.equations s) i.0 in
        let b = y.typed f o (rest_solved rigid f p.notes.equations q.notes.equations s) i.1 in
        cell_typed (sig base w) (assigned_types rigid f ls) Term (assign rigid f t) (map (assign rigid f) ts) (assign rigid f p.tree) (assign rigid f q.tree) (λ e. cc) a.0 a.1.0 a.1.1 b;
  }

  pub one_argument : (ls : List LocalTree) (ts : List Tree) (p : NotedTree) → length ts ≡ 1 → IsSound ls (Some (first_or_int ts)) p → AreSound ls ts (both_pieces (Two HCell) p (bare_piece (Leaf HEnd)))
  one_argument ls [] p n x = absurd (cc)
  one_argument ls (t ∷ []) p n x = more_arguments ls t [] p _ x (no_arguments ls)
  one_argument ls (t ∷ u ∷ ts) p n x = absurd (cc)

  -- the values of all fields of a record
  pub values_sound : (ls : List LocalTree) (places : List ℕ) (ts : List Tree) (p : NotedTree) → IsCells p.tree → AreNewPlaces (replicate (length ts) false) places → length places ≡ length (members p.tree)
      → each_named (named_after places (replicate (length ts) false)) ≡ true → AreSound ls (place_types places ts) p → AreSound ls ts (piece_under (values_placed places (length ts)) p)
  values_sound ls places ts p z new c all x = record {
    notes = x.notes;
    typed = λ f o s i.
        let v = sig base w in
        let types = assigned_types rigid f ls in
        let es = map (assign rigid f) (members p.tree) in
        let us = map (assign rigid f) ts in
        let count : length (map (assign rigid f) ts) ≡ length ts = length-map ts (assign rigid f) in
        let long : length places ≡ length (map (assign rigid f) (members p.tree)) = c ∙ sym (length-map (members p.tree) (assign rigid f)) in
        let tree : assign rigid f p.tree ≡ cells (map (assign rigid f) (members p.tree)) = cells_at rigid f p.tree z in
        let same : assign rigid f (values_placed places (length ts) p.tree) ≡ cells (put_at_places places (map (assign rigid f) (members p.tree)) (replicate (length (map (assign rigid f) ts)) no_value)) =
        placed_at rigid f places ts p.tree z in
        let y = placed_values v types places us es (subst (λ (k : ℕ). AreNewPlaces (replicate k false) places) (sym count) new) long (subst (λ (k : ℕ). each_named (named_after places (replicate k false)) ≡ true) (sym count) all)
        (subst IndicesFit same i)
        (λ fit. subst (λ (xs : List Tree). ListTyped v Term types xs (cells es)) (sym (types_at rigid f places ts))
        (subst (ListTyped v Term types (map (assign rigid f) (place_types places ts))) tree (x.typed f o s (subst IndicesFit (sym tree) fit)))) in
        subst (ListTyped v Term types us) (sym same) y;
  }

  -- two operands
  pub two_arguments : (ls : List LocalTree) (ts : List Tree) (p q : NotedTree) → length ts ≡ 2 → IsSound ls (Some (first_or_int ts)) p → IsSound ls (Some (first_or_int (rest_of ts))) q → AreSound ls ts (both_pieces (Two HCell) p (both_pieces (Two HCell) q (bare_piece (Leaf HEnd))))
  two_arguments ls [] p q n x y = absurd (cc)
  two_arguments ls (t ∷ []) p q n x y = absurd (cc)
  two_arguments ls (t ∷ u ∷ []) p q n x y = more_arguments ls t (u ∷ []) p _ x (more_arguments ls u [] q _ y (no_arguments ls))
  two_arguments ls (t ∷ u ∷ z ∷ zs) p q n x y = absurd (cc)

  -- ---- uses
  local_sound : (ls : List LocalTree) (n : ℕ) (t : Option Tree) (i c p : ℕ) (ty : Tree) (args : NotedTree) → WantedOver (sig base w) t → IsUsable (sig base w) ls (is_none t) c (Local' p ty) → IsSound ls t (used_piece n t i (Local' p ty) args)
  local_sound ls n None i c p ty args k u = absurd (cc (u.0))
  local_sound ls n (Some t) i c p ty args k u = record {
    notes = both_noted base w rigid (noted ((ty, t) ∷ []) []) no_notes (noted_sound base w rigid ((ty, t) ∷ []) [] ((u.2, k), tt)) (none_noted base w rigid);
    typed = λ f o s x. subst (λ (z : Tree). TypedAs (sig base w) (assigned_types rigid f ls) (Some z) (One (HBound p) (assign rigid f ty))) s.0
        (variable_typed (sig base w) (assigned_types rigid f ls) p (assign rigid f ty) x.0 (u.3 rigid f) (over_assigned (sig base w) rigid f o true ty u.2));
  }

  module _ (e : NumberedEntry) (it : IsEntry (sig base w) e) where
    pub result_is : MakesTerms e.symbol.kind → (r : Tree) × (e.symbol.result ≡ Some r)
    result_is m = of e.symbol.result (it.result m)
      where
        of : (o : Option Tree) → IsSomeAnd o (λ t. Unit {0}) → (r : Tree) × (o ≡ Some r)
        of None x = absurd x
        of (Some r) x = (r, refl)

    pub result_typed : (o : Option Tree) (r : Tree) → o ≡ Some r → IfSome o (IsTypeIn (sig base w) e.symbol.vars) → IsTypeIn (sig base w) e.symbol.vars r
    result_typed o r q h = rw q at h

    pub count_at : (n : ℕ) (f : ℕ → Tree) → length (instance_at (sig base w) e.symbol it.types n rigid f) ≡ e.symbol.vars
    count_at n f = length-map (type_variables n e.symbol.vars) (assign rigid f) ∙ count_variables n e.symbol.vars

    given_at : (ls : List LocalTree) (n : ℕ) (f : ℕ → Tree) (a : Tree) → ListTyped (sig base w) Term (assigned_types rigid f ls) (map (assign rigid f) (map (at_unknowns n e.symbol) e.symbol.args)) a
        → ListTyped (sig base w) Term (assigned_types rigid f ls) (map (λ x. inst_types x (instance_at (sig base w) e.symbol it.types n rigid f)) e.symbol.args) a
    given_at ls n f a h = subst (λ (ts : List Tree). ListTyped (sig base w) Term (assigned_types rigid f ls) ts a) (parameters_assigned (sig base w) e.symbol it.types n rigid f) h

    predicate_sound : (ls : List LocalTree) (n i : ℕ) (args : NotedTree) → e.symbol.kind ≡ Predicate → AreSound ls (map (at_unknowns n e.symbol) e.symbol.args) args → IsSound ls None (used_piece n None i (Symbol' e) args)
    predicate_sound ls n i args q a = record {
      notes = both_noted base w rigid (noted [] (replicate e.symbol.vars i)) args.notes (noted_sound base w rigid [] (replicate e.symbol.vars i) tt) a.notes;
      typed = λ f o s x.
          let ts = instance_at (sig base w) e.symbol it.types n rigid f in
          let g = given_at ls n f (assign rigid f args.tree) (a.typed f o s x.1) in
          rw (cells_assigned rigid f (type_variables n e.symbol.vars)) (predicate_typed (sig base w) (assigned_types rigid f ls) e.number e.symbol ts (assign rigid f args.tree) it.usable it.entry q (count_at n f)
          (all_assigned_over (sig base w) rigid f o (type_variables n e.symbol.vars) (variables_over (sig base w) n e.symbol.vars)) g);
    }

    function_sound : (ls : List LocalTree) (n i : ℕ) (t : Tree) (args : NotedTree) → is_predicate e.symbol.kind ≡ false → IsOver (sig base w) true t → AreSound ls (map (at_unknowns n e.symbol) e.symbol.args) args → IsSound ls (Some t) (used_piece n (Some t) i (Symbol' e) args)
    function_sound ls n i t args q k a =
        let m = makes_terms e.symbol.kind it.kind q in
        let r = result_is m in
        let z = result_typed e.symbol.result r.0 r.1 it.types.result in
        let u : at_unknowns n e.symbol (result_or_int e.symbol.result) ≡ at_unknowns n e.symbol r.0 = ap (λ (o : Option Tree). at_unknowns n e.symbol (result_or_int o)) r.1 in
        record {
          notes =
              let from = at_unknowns n e.symbol (result_or_int e.symbol.result) in
              both_noted base w rigid (noted ((from, t) ∷ []) (replicate e.symbol.vars i)) args.notes
              (noted_sound base w rigid ((from, t) ∷ []) (replicate e.symbol.vars i) ((rw u (inst_over (sig base w) true (type_variables n e.symbol.vars) (variables_over (sig base w) n e.symbol.vars) r.0 (type_over (sig base w) e.symbol.vars r.0 z)), k), tt)) a.notes;
          typed = λ f o s x.
              let ts = instance_at (sig base w) e.symbol it.types n rigid f in
              let g = given_at ls n f (assign rigid f args.tree) (a.typed f o s.1 x.1) in
              let same : inst_types r.0 ts ≡ assign rigid f t = sym (at_assigned (sig base w) e.symbol it.types n rigid f r.0 z) ∙ ap (assign rigid f) (sym u) ∙ s.0 in
              rw (cells_assigned rigid f (type_variables n e.symbol.vars)) (function_typed (sig base w) (assigned_types rigid f ls) e.number e.symbol ts (assign rigid f args.tree) r.0 (assign rigid f t) it.usable it.entry m (count_at n f)
              (all_assigned_over (sig base w) rigid f o (type_variables n e.symbol.vars) (variables_over (sig base w) n e.symbol.vars)) g r.1 same (over_assigned (sig base w) rigid f o true t k));
        }

  -- a use, of which a type or a formula is wanted
  pub used_sound : (ls : List LocalTree) (n : ℕ) (t : Option Tree) (i c : ℕ) (u : Use) (args : NotedTree) → WantedOver (sig base w) t → IsUsable (sig base w) ls (is_none t) c u → AreSound ls (parameters n u) args → IsSound ls t (used_piece n t i u args)
  used_sound ls n t i c (Local' p ty) args k h a = local_sound ls n t i c p ty args k h
  used_sound ls n None i c (Symbol' e) args k h a = predicate_sound e h.0 ls n i args h.1 a
  used_sound ls n (Some t) i c (Symbol' e) args k h a = function_sound e h.0 ls n i t args h.1 k a
