-- The arms of a branch: each alternative is well typed, and the body is under the variables of each in its order.
use Rattle.std.proofs.Common.{◌≡◌, ℕ, ◌+◌, zero, suc, Bool, true, false, not, cond, List, [], ◌∷◌, ◌++◌, map, reverse, length, get_or, slice_get, Option, Some, None, option_map, refl, sym, ap, subst, ◌∙◌, arith, append_assoc}
use Rattle.std.specs.Option.{is_some}
use Rattle.std.specs.Str.{bytes_eq}
use Rattle.std.specs.List.{AllByRecursion}
use Rattle.std.proofs.lemmas.List.{map-append, length-reverse}
use Rattle.std.proofs.Math.ListN.{length-map}
use mathlib.Core.List.{reverse-cons}
use Rattle.elab_groups.specs.trees.Tree.{Tree}
use Rattle.elab_groups.specs.trees.Facts.{IndicesFit}
use Rattle.elab_groups.specs.open_types.unify_types.Assigned.{assign}
use Rattle.elab_groups.specs.open_types.unify_types.Pairs.{SolvesAll}
use Rattle.elab_groups.specs.surface.Lexeme.{Word}
use Rattle.elab_groups.specs.tasks.Vocabulary.{Vocabulary}
use Rattle.elab_groups.specs.name_resolution.Abstract.{Pattern, Patterns, wildcard_pattern, variable_pattern, constructor_pattern, tuple_pattern, alias_pattern, record_pattern, no_patterns, more_patterns, Alternatives, no_alternatives, more_alternatives, count_patterns}
use Rattle.elab_groups.specs.name_resolution.declared.NamingFault.TheVariants.{WrongKind}
use Rattle.elab_groups.specs.name_resolution.Faults.{first_of, fault_if, pattern_names, pattern_fault, all_among, same_names, later_fault, alternatives_fault}
use Rattle.elab_groups.specs.name_resolution.Records.{record_named}
use Rattle.elab_groups.specs.name_resolution.Where.{Where, place_of}
use Rattle.elab_groups.specs.open_types.Patterns.{LocalTree, local, taken, first_or_int, rest_of, entry_of, part_types, place_types, PatternTree, tree_of_matched, part_pieces, Matched, local_type, variable_equations, pattern_piece, patterns_piece, later_pieces, alternatives_pieces, all_notes, pattern_trees, first_variables, place_among, places_among, reordered, later_arms, arms}
use Rattle.elab_groups.specs.open_types.Pieces.{field_places, names}
use Rattle.elab_groups.proofs.name_resolution.SameNames.{SameNames}
use Rattle.elab_groups.proofs.open_types.Walking.{none_both, must_be}
use Rattle.elab_groups.proofs.open_types.Below.{both_all}
use Rattle.elab_groups.proofs.open_types.Branching.{pattern_variables}
use Rattle.elaboration_laws.specs.Signature.{IsWellFormed, AlternativesTuples}
use Rattle.elaboration_laws.specs.Typed.{assigned_types}
use Rattle.elaboration_laws.proofs.Words.{same_word, self_word, is_in, is_in_reverse, AreNew, pattern_new, same_new, same_among, among_count}
use Rattle.elaboration_laws.proofs.Over.{IsOver, IsGood}
use Rattle.elaboration_laws.proofs.Forms.{TypedAs}
use Rattle.elaboration_laws.proofs.Sound.{IsPatternAt, AreNoted, both_noted, none_noted, first_solved, rest_solved, LocalsOver, sig}
use Rattle.elaboration_laws.proofs.Placing.{fields_all}
use Rattle.elaboration_laws.proofs.Patterns.{inner_types, IsMatched, pattern_sound}
use Rattle.elaboration_laws.proofs.Arms.{AreArms, arm_typed, order_assigned}
use Rattle.elaboration_laws.proofs.Reordering.{sort_at, type_at, reordered_good}
use Rattle.elaboration_laws.proofs.Reordering as order
use Rattle.elab_groups.proofs.tasks.Closing.{typed_sorted}
use Rattle.elab_groups.proofs.open_types.Arguments.{names_both}
use Rattle.elab_groups.proofs.plain_laws.Bools.{and_both as both_true}

pub reversed_all : {A : Type 0} (P : A → Type 0) (xs : List A) → AllByRecursion P xs → AllByRecursion P (reverse xs)
reversed_all P [] h = tt
reversed_all P (x ∷ xs) h = rw (reverse-cons x xs) (both_all P (reverse xs) (x ∷ []) (reversed_all P xs h.1) (h.0, tt))

pub names_reverse : (xs : List LocalTree) → names (reverse xs) ≡ reverse (names xs)
names_reverse [] = refl
names_reverse (x ∷ xs) = rw (reverse-cons x xs, reverse-cons x.name (names xs)) (names_both (reverse xs) (x ∷ []) ∙ ap (λ (r : List Word). r ++ x.name ∷ []) (names_reverse xs))

-- ---- the type of a name among variables
skip : (x : Word) (front rest : List LocalTree) → is_in x (names front) ≡ false → local_type x (front ++ rest) ≡ local_type x rest
skip x [] rest h = refl
skip x (l ∷ ls) rest h = of (bytes_eq l.name x) (place_of x (names ls)) h (λ k. skip x ls rest k)
  where
    of : (b : Bool) (o : Option ℕ) → is_some (cond b (Some 0) (option_map suc o)) ≡ false → (is_some o ≡ false → local_type x (ls ++ rest) ≡ local_type x rest) → cond b l.type (local_type x (ls ++ rest)) ≡ local_type x rest
    of true o k f = absurd (cc)
    of false None k f = f refl
    of false (Some n) k f = absurd (cc)

first_here : (x : LocalTree) (rest : List LocalTree) → local_type x.name (x ∷ rest) ≡ x.type
first_here x rest = ap (λ (b : Bool). cond b x.type (local_type x.name rest)) (self_word x.name)

own_types : (front rest : List LocalTree) → AreNew (names front) (names rest) → AllByRecursion (λ (x : LocalTree). local_type x.name (front ++ rest) ≡ x.type) rest
own_types front [] h = tt
own_types front (x ∷ rest) h =
    let k : AreNew (names (front ++ x ∷ [])) (names rest) = rw (names_both front (x ∷ [])) h.1 in
    (skip x.name front (x ∷ rest) h.0 ∙ first_here x rest, subst (λ (z : List LocalTree). AllByRecursion (λ (y : LocalTree). local_type y.name z ≡ y.type) rest) (append_assoc front (x ∷ []) rest) (own_types (front ++ x ∷ []) rest k))

-- ---- variables at their places
module _ (r : ℕ) (f : ℕ → Tree) (first : List LocalTree) where
  -- a variable's type is that of its name among those of the first alternative
  abbrev pub HasFirst : LocalTree → Type 0
  HasFirst l = assign r f (local_type l.name first) ≡ assign r f l.type

  found_place : (x : Word) (others : List LocalTree) → AllByRecursion HasFirst others → is_in x (names others) ≡ true → slice_get (assigned_types r f others) (place_among x others) ≡ Some (assign r f (local_type x first))
  found_place x [] h k = absurd (cc)
  found_place x (l ∷ ls) h k = of (bytes_eq l.name x) refl (place_of x (names ls)) k (λ z. found_place x ls h.1 z)
    where
      of : (b : Bool) → bytes_eq l.name x ≡ b → (o : Option ℕ) → is_some (cond b (Some 0) (option_map suc o)) ≡ true
          → (is_some o ≡ true → slice_get (assigned_types r f ls) (place_among x ls) ≡ Some (assign r f (local_type x first))) → slice_get (assigned_types r f (l ∷ ls)) (cond b 0 (suc (place_among x ls))) ≡ Some (assign r f (local_type x first))
      of true q o z g = ap (λ (t : Tree). Some t) (sym h.0 ∙ ap (λ (y : Word). assign r f (local_type y first)) (same_word l.name x q))
      of false q None z g = absurd (cc)
      of false q (Some n) z g = g refl

  pub same_place : (vs others : List LocalTree) → AllByRecursion (λ (x : LocalTree). local_type x.name first ≡ x.type) vs → AllByRecursion (λ (x : LocalTree). is_in x.name (names others) ≡ true) vs → AllByRecursion HasFirst others
      → (i : ℕ) (a : Tree) → slice_get (assigned_types r f vs) i ≡ Some a → slice_get (assigned_types r f others) (get_or (places_among vs others) i 0) ≡ Some a
  same_place [] others h k g i a q = absurd (cc)
  same_place (x ∷ vs) others h k g zero a q = found_place x.name others g k.0 ∙ ap (λ (t : Tree). Some (assign r f t)) h.0 ∙ q
  same_place (x ∷ vs) others h k g (suc i) a q = same_place vs others h.1 k.1 g i a q

count_places : (vs others : List LocalTree) → length (places_among vs others) ≡ length vs
count_places [] others = refl
count_places (x ∷ vs) others = ap suc (count_places vs others)

each_among : (vs : List LocalTree) (ys : List Word) → all_among (names vs) ys ≡ true → AllByRecursion (λ (x : LocalTree). is_in x.name ys ≡ true) vs
each_among [] ys h = tt
each_among (x ∷ vs) ys h = let p = both_true (is_in x.name ys) (all_among (names vs) ys) h in (p.0, each_among vs ys p.1)

-- ---- the equations of a later alternative
module _ (w : Where) (r : ℕ) (f : ℕ → Tree) (first : List LocalTree) where
  mutual
    pub pattern_binds : (p : Pattern) (n : ℕ) (t : Tree) → SolvesAll r f (pattern_piece w (Some first) n t p).notes.equations → AllByRecursion (HasFirst r f first) (pattern_piece w (Some first) n t p).variables
    pattern_binds (wildcard_pattern i) n t s = tt
    pattern_binds (variable_pattern i x) n t s = (s.0, tt)
    pattern_binds (constructor_pattern i qs x ps) n t s = let c = entry_of w.symbols (w.names qs x) in patterns_bind ps (n + c.symbol.vars) (part_types n c) s.1
    pattern_binds (tuple_pattern i ps) n t s = let c = entry_of w.symbols (w.tuples (count_patterns ps)) in patterns_bind ps (n + c.symbol.vars) (part_types n c) s.1
    pattern_binds (alias_pattern p i x) n t s =
        let inner = pattern_piece w (Some first) n t p in
        let b = variable_equations (Some first) x t in
        both_all (HasFirst r f first) inner.variables (local x t ∷ []) (pattern_binds p n t (first_solved r f inner.notes.equations b s)) ((rest_solved r f inner.notes.equations b s).0, tt)
    pattern_binds (record_pattern i fs ps) n t s =
        let c = entry_of w.symbols (Some (record_named w.symbols w.names fs)) in
        let places = field_places w fs in
        let ts = part_types n c in
        fields_all (HasFirst r f first) places ts (map tree_of_matched (part_pieces w (Some first) (n + c.symbol.vars) (place_types places ts) ps)) (parts_bind ps (n + c.symbol.vars) (place_types places ts) s.1)

    patterns_bind : (ps : Patterns) (n : ℕ) (ts : List Tree) → SolvesAll r f (patterns_piece w (Some first) n ts ps).notes.equations → AllByRecursion (HasFirst r f first) (patterns_piece w (Some first) n ts ps).variables
    patterns_bind no_patterns n ts s = tt
    patterns_bind (more_patterns p ps) n ts s =
        let one = pattern_piece w (Some first) n (first_or_int ts) p in
        let rest = patterns_piece w (Some first) (n + taken one.notes) (rest_of ts) ps in
        both_all (HasFirst r f first) one.variables rest.variables (pattern_binds p n (first_or_int ts) (first_solved r f one.notes.equations rest.notes.equations s))
        (patterns_bind ps (n + taken one.notes) (rest_of ts) (rest_solved r f one.notes.equations rest.notes.equations s))

    parts_bind : (ps : Patterns) (n : ℕ) (ts : List Tree) → SolvesAll r f (all_notes (part_pieces w (Some first) n ts ps)).equations
        → AllByRecursion (λ (q : PatternTree). AllByRecursion (HasFirst r f first) q.variables) (map tree_of_matched (part_pieces w (Some first) n ts ps))
    parts_bind no_patterns n ts s = tt
    parts_bind (more_patterns p ps) n ts s =
        let one = pattern_piece w (Some first) n (first_or_int ts) p in
        let rest = all_notes (part_pieces w (Some first) (n + taken one.notes) (rest_of ts) ps) in
        (pattern_binds p n (first_or_int ts) (first_solved r f one.notes.equations rest.equations s), parts_bind ps (n + taken one.notes) (rest_of ts) (rest_solved r f one.notes.equations rest.equations s))

-- ---- the arms of a branch
module _ (base : Vocabulary) (w : Where) (good : IsWellFormed base w) (rigid : ℕ) where
  -- a later alternative, by its variables and those of the first one
  record IsLater (first : List LocalTree) (t : Tree) (m : Matched) : Type 0 where
    matched : IsMatched base w good rigid t m
    binds : (f : ℕ → Tree) → SolvesAll rigid f m.notes.equations → AllByRecursion (HasFirst rigid f first) m.variables
    among : all_among (names first) (names m.variables) ≡ true
    back : all_among (names m.variables) (names first) ≡ true
    new : AreNew [] (names m.variables)

  abbrev AreLater : List LocalTree → Tree → List Matched → Type 0
  AreLater first t ms = AllByRecursion (IsLater first t) ms

  later_sound : (ps : Alternatives) (first : List LocalTree) (ns : List Word) (n : ℕ) (t : Tree) → SameNames (names first) ns → LocalsOver (sig base w) first → IsOver (sig base w) true t → AlternativesTuples base w ps → later_fault w ns ps ≡ None → AreLater first t (later_pieces w first n t ps)
  later_sound no_alternatives first ns n t b h o u q = tt
  later_sound (more_alternatives i p ps) first ns n t b h o u q =
      let same = same_names ns (pattern_names p) in
      let k = none_both (fault_if (not same) (WrongKind i)) (first_of (pattern_fault w [] p) (later_fault w ns ps)) q in
      let l = none_both (pattern_fault w [] p) (later_fault w ns ps) k.1 in
      let z = both_true (all_among ns (pattern_names p)) (all_among (pattern_names p) ns) (must_be same (WrongKind i) k.0) in
      let one = pattern_piece w (Some first) n t p in
      let e : SameNames (names one.variables) (pattern_names p) = pattern_variables w (Some first) n t p [] l.0 in
      let it : IsLater first t one = record {
        matched = pattern_sound base w good rigid p (Some first) n t [] h o u.0 l.0;
        binds = λ f s. pattern_binds w rigid f first p n t s;
        among = same_among (names first) (names one.variables) ns (pattern_names p) b e z.0;
        back = same_among (names one.variables) (names first) (pattern_names p) ns e b z.1;
        new = same_new (names one.variables) (pattern_names p) e (pattern_new w p [] l.0);
      } in
      (it, later_sound ps first ns (n + taken one.notes) t b h o u.1 l.1)

  count_names : (vs : List LocalTree) → length (names vs) ≡ length vs
  count_names vs = length-map vs (λ (l : LocalTree). l.name)

  count_inner : (f : ℕ → Tree) (vs : List LocalTree) → length (inner_types rigid f vs) ≡ length vs
  count_inner f vs = length-map (reverse vs) (λ (l : LocalTree). assign rigid f l.type) ∙ length-reverse vs

  -- the body under the variables of a later alternative
  reordered_typed : (f : ℕ → Tree) (first : List LocalTree) (ls : List LocalTree) (s : Tree) (t : Option Tree) (m : Matched) (body : Tree) → ((j : ℕ) → IsOver (sig base w) true (f j)) → AreNew [] (names first) → IsLater first s m → SolvesAll rigid f m.notes.equations
      → TypedAs (sig base w) (inner_types rigid f first ++ assigned_types rigid f ls) t (assign rigid f body) → IndicesFit (assign rigid f (reordered first m.variables body))
      → TypedAs (sig base w) (inner_types rigid f m.variables ++ assigned_types rigid f ls) t (assign rigid f (reordered first m.variables body))
  reordered_typed f first ls s t m body o new it solves x i =
      let r = rigid in
      let places = places_among (reverse first) (reverse m.variables) in
      let q : assign r f (reordered first m.variables body) ≡ order.at places 0 (assign r f body) = order_assigned (sig base w) r f o places 0 body in
      let xs = inner_types r f first in
      let ys = inner_types r f m.variables in
      let zs = assigned_types r f ls in
      let a : length places ≡ length xs = count_places (reverse first) (reverse m.variables) ∙ sym (length-map (reverse first) (λ (l : LocalTree). assign r f l.type)) in
      let le = among_count [] (names first) (names m.variables) new it.among in
      let ge = among_count [] (names m.variables) (names first) it.new it.back in
      let b : length ys ≡ length xs = omega (arith, le, ge, count_inner f first, count_inner f m.variables, count_names first, count_names m.variables) in
      let own = reversed_all (λ (l : LocalTree). local_type l.name first ≡ l.type) first (own_types [] first new) in
      let e : names (reverse m.variables) ≡ reverse (names m.variables) = names_reverse m.variables in
      let there = reversed_all (λ (l : LocalTree). is_in l.name (names (reverse m.variables)) ≡ true) first (inside e first (each_among first (names m.variables) it.among)) in
      let bound = reversed_all (HasFirst r f first) m.variables (it.binds f solves) in
      let same = same_place r f first (reverse first) (reverse m.variables) own there bound in
      let sorted = typed_sorted (sig base w) (xs ++ zs) (assign r f body) x.0.0 in
      let g : IsGood (sig base w) (ys ++ zs) (order.at places 0 (assign r f body)) = reordered_good (sig base w) places xs ys zs a b same (assign r f body) 0 [] refl x.0 (rw q at i) in
      let z : TypedAs (sig base w) (ys ++ zs) t (order.at places 0 (assign r f body)) = (g, (sort_at places 0 (assign r f body) ∙ x.1.0, type_at places 0 (assign r f body) sorted ∙ x.1.1)) in
      rw q z
    where
      inside : names (reverse m.variables) ≡ reverse (names m.variables) → (vs : List LocalTree) → AllByRecursion (λ (l : LocalTree). is_in l.name (names m.variables) ≡ true) vs → AllByRecursion (λ (l : LocalTree). is_in l.name (names (reverse m.variables)) ≡ true) vs
      inside e [] h = tt
      inside e (v ∷ vs) h = (ap (is_in v.name) e ∙ is_in_reverse v.name (names m.variables) ∙ h.0, inside e vs h.1)

  later_typed : (f : ℕ → Tree) (first : List LocalTree) (ls : List LocalTree) (s : Tree) (t : Option Tree) (body : Tree) (ms : List Matched) → ((j : ℕ) → IsOver (sig base w) true (f j)) → AreNew [] (names first) → AreLater first s ms
      → SolvesAll rigid f (all_notes ms).equations → TypedAs (sig base w) (inner_types rigid f first ++ assigned_types rigid f ls) t (assign rigid f body)
      → AllByRecursion IndicesFit (map (assign rigid f) (later_arms first body ms)) → AreArms (sig base w) (assigned_types rigid f ls) (assign rigid f s) t (map (assign rigid f) (later_arms first body ms))
  later_typed f first ls s t body [] o new its solves x i = tt
  later_typed f first ls s t body (m ∷ ms) o new its solves x i =
      let r = rigid in
      let mine = first_solved r f m.notes.equations (all_notes ms).equations solves in
      let p = its.0.matched.typed f o mine (assigned_types r f ls) in
      let b = reordered_typed f first ls s t m body o new its.0 mine x i.0.1 in (
        arm_typed (sig base w) (assigned_types r f ls) (assign r f s) t (inner_types r f m.variables) (assign r f m.tree) (assign r f (reordered first m.variables body)) p b,
        later_typed f first ls s t body ms o new its.1 (rest_solved r f m.notes.equations (all_notes ms).equations solves) x i.1,
      )

  later_patterns : (f : ℕ → Tree) (first : List LocalTree) (s : Tree) (ms : List Matched) → ((j : ℕ) → IsOver (sig base w) true (f j)) → AreLater first s ms → SolvesAll rigid f (all_notes ms).equations
      → AllByRecursion (IsPatternAt base w rigid (assign rigid f s)) (map (assign rigid f) (pattern_trees ms))
  later_patterns f first s [] o h z = tt
  later_patterns f first s (m ∷ ms) o h z =
      let c = h.0.matched.typed f o (first_solved rigid f m.notes.equations (all_notes ms).equations z) [] in
      ((c.0, c.1, c.2), later_patterns f first s ms o h.1 (rest_solved rigid f m.notes.equations (all_notes ms).equations z))

  later_over : (first : List LocalTree) (t : Tree) (ms : List Matched) → AreLater first t ms → AreNoted base w rigid (all_notes ms)
  later_over first t [] h = none_noted base w rigid
  later_over first t (m ∷ ms) h = both_noted base w rigid m.notes (all_notes ms) h.0.matched.notes (later_over first t ms h.1)

  -- the alternatives of a branch that takes a type
  pub record IsBranch (s : Tree) (ms : List Matched) : Type 0 where
    pub notes : AreNoted base w rigid (all_notes ms)
    pub patterns : (f : ℕ → Tree) → ((j : ℕ) → IsOver (sig base w) true (f j)) → SolvesAll rigid f (all_notes ms).equations → AllByRecursion (IsPatternAt base w rigid (assign rigid f s)) (map (assign rigid f) (pattern_trees ms))
    pub variables : LocalsOver (sig base w) (first_variables ms)
    pub typed : (f : ℕ → Tree) → ((j : ℕ) → IsOver (sig base w) true (f j)) → SolvesAll rigid f (all_notes ms).equations → (ls : List LocalTree) (t : Option Tree) (body : Tree)
        → (IndicesFit (assign rigid f body) → TypedAs (sig base w) (assigned_types rigid f (reverse (first_variables ms) ++ ls)) t (assign rigid f body))
        → AllByRecursion IndicesFit (map (assign rigid f) (arms body ms)) → AreArms (sig base w) (assigned_types rigid f ls) (assign rigid f s) t (map (assign rigid f) (arms body ms))

  pub alternatives_sound : (ps : Alternatives) (n : ℕ) (s : Tree) → IsOver (sig base w) true s → AlternativesTuples base w ps → alternatives_fault w ps ≡ None → IsBranch s (alternatives_pieces w n s ps)
  alternatives_sound no_alternatives n s o u q = record { notes = none_noted base w rigid; patterns = λ f g z. tt; variables = tt; typed = λ f g z ls t body x i. tt }
  alternatives_sound (more_alternatives i p ps) n s o u q =
      let k = none_both (pattern_fault w [] p) (later_fault w (pattern_names p) ps) q in
      let one = pattern_piece w None n s p in
      let e : SameNames (names one.variables) (pattern_names p) = pattern_variables w None n s p [] k.0 in
      let x = pattern_sound base w good rigid p None n s [] tt o u.0 k.0 in
      let new : AreNew [] (names one.variables) = same_new (names one.variables) (pattern_names p) e (pattern_new w p [] k.0) in
      let ms = later_pieces w one.variables (n + taken one.notes) s ps in
      let y = later_sound ps one.variables (pattern_names p) (n + taken one.notes) s e x.variables o u.1 k.1 in
      record {
        notes = both_noted base w rigid one.notes (all_notes ms) x.notes (later_over one.variables s ms y);
        patterns = λ f g z.
            let c = x.typed f g (first_solved rigid f one.notes.equations (all_notes ms).equations z) [] in
            ((c.0, c.1, c.2), later_patterns f one.variables s ms g y (rest_solved rigid f one.notes.equations (all_notes ms).equations z));
        variables = x.variables;
        typed = λ f g z ls t body b j.
            let r = rigid in
            let m : assigned_types r f (reverse one.variables ++ ls) ≡ inner_types r f one.variables ++ assigned_types r f ls = map-append (λ (l : LocalTree). assign r f l.type) (reverse one.variables) ls in
            let c : TypedAs (sig base w) (inner_types r f one.variables ++ assigned_types r f ls) t (assign r f body) = rw (sym m) (b j.0.1) in (
              arm_typed (sig base w) (assigned_types r f ls) (assign r f s) t (inner_types r f one.variables) (assign r f one.tree) (assign r f body)
                  (x.typed f g (first_solved r f one.notes.equations (all_notes ms).equations z) (assigned_types r f ls)) c,
              later_typed f one.variables ls s t body ms g new y (rest_solved r f one.notes.equations (all_notes ms).equations z) c j.1,
            );
      }
