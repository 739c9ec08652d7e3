-- The type variables of the patterns of a piece's matches are the declaration's own and the unknowns that it takes.
use Rattle.std.proofs.Common.{◌≡◌, ℕ, ◌+◌, ◌<◌, ◌≤◌, Bool, true, false, cond, List, [], ◌∷◌, ◌++◌, reverse, replicate, length, Option, Some, None, refl, sym, ap, subst, ◌∙◌, arith, length-append}
use Rattle.std.specs.List.{AllByRecursion}
use Rattle.tasks.specs.trees.Tree.{Tree, Two, Leaf, HCell, HEnd}
use Rattle.tasks.specs.trees.Facts.{TyVarsBelow}
use Rattle.name_resolution.specs.Abstract.{Pattern, Patterns, wildcard_pattern, variable_pattern, constructor_pattern, tuple_pattern, alias_pattern, record_pattern, no_patterns, more_patterns, Alternatives, no_alternatives, more_alternatives, Expression, Expressions, MatchBranches, applied_expression, infix_expression, integer_expression, true_expression, false_expression, tuple_expression, cast_expression, field_expression, record_expression, not_expression, connected_expression, equality_expression, if_expression, let_expression, match_expression, quantified_expression, no_expressions, more_expressions, no_branches, more_branches, count_patterns, count_expressions}
use Rattle.name_resolution.specs.Faults.{is_formula_trigger, token}
use Rattle.name_resolution.specs.Records.{record_named}
use Rattle.name_resolution.specs.Where.{Where}
use Rattle.open_types.specs.Patterns.{Notes, noted, no_notes, follow, taken, LocalTree, local, at_unknowns, result_or_int, first_or_int, rest_of, entry_of, Matched, part_types, place_types, part_pieces, pattern_piece, patterns_piece, later_pieces, alternatives_pieces, all_notes, first_variables, pattern_trees}
use Rattle.open_types.specs.Pieces.{type_at, wanting, NotedTree, unknown_after, unknown, noted_before, bare_piece, both_pieces, piece, pieces, triggers_notes, branches_arms, Arms, Use, Local', Symbol', use_of_name, field_use, tuple_use, record_use, field_places, values_placed, piece_under, used_piece, use_vars, parameters, binders_vars, names}
use Rattle.open_types.specs.Pieces as pieces_of
use Rattle.open_types.specs.Scoped.{IsScoped}
use Rattle.open_types.proofs.Below.{below_more, AreBelow, list_more, both_all}
use Rattle.open_types.proofs.Bounded.{TreesBelow, alternatives_below}
use Rattle.open_types.proofs.Noting.{count_replicate}

abbrev pub MatchesBelow : ℕ → List (ℕ × List Tree) → Type 0
MatchesBelow n ms = AllByRecursion (λ (m : ℕ × List Tree). AreBelow n m.1) ms

matches_more : (ms : List (ℕ × List Tree)) (j k : ℕ) → j ≤ k → MatchesBelow j ms → MatchesBelow k ms
matches_more [] j k l h = tt
matches_more (m ∷ ms) j k l h = (list_more m.1 j k l h.0, matches_more ms j k l h.1)

matches_both : (n : ℕ) (ms ns : List (ℕ × List Tree)) → MatchesBelow n ms → MatchesBelow n ns → MatchesBelow n (ms ++ ns)
matches_both n ms ns h k = both_all (λ (m : ℕ × List Tree). AreBelow n m.1) ms ns h k

-- of notes that begin after n
abbrev pub NotesBelow : ℕ → Notes → Type 0
NotesBelow n ns = MatchesBelow (n + taken ns) ns.matches

pub followed : (n : ℕ) (a b : Notes) → NotesBelow n a → NotesBelow (n + taken a) b → NotesBelow n (follow a b)
followed n a b h k =
    let m = n + length (a.takers ++ b.takers) in
    let l : m ≡ n + taken a + taken b = omega (arith, length-append a.takers b.takers) in
    matches_both m a.matches b.matches (matches_more a.matches (n + taken a) m (omega (arith, l)) h) (matches_more b.matches (n + taken a + taken b) m (omega (arith, l)) k)

-- notes without matches go before
led : (n k : ℕ) (es : List (Tree × Tree)) (ts : List ℕ) (b : Notes) → k ≡ n + length ts → NotesBelow k b → NotesBelow n (follow (noted es ts) b)
led n k es ts b e h = followed n (noted es ts) b tt (subst (λ (m : ℕ). NotesBelow m b) e h)

-- ---- patterns have no matches
mutual
  pattern_without : (w : Where) (p : Pattern) (first : Option (List LocalTree)) (n : ℕ) (t : Tree) → (pattern_piece w first n t p).notes.matches ≡ []
  pattern_without w (wildcard_pattern i) first n t = refl
  pattern_without w (variable_pattern i x) first n t = refl
  pattern_without w (constructor_pattern i qs x ps) first n t = let c = entry_of w.symbols (w.names qs x) in patterns_without w ps first (n + c.symbol.vars) (part_types n c)
  pattern_without w (tuple_pattern i ps) first n t = let c = entry_of w.symbols (w.tuples (count_patterns ps)) in patterns_without w ps first (n + c.symbol.vars) (part_types n c)
  pattern_without w (alias_pattern p i x) first n t = ap (λ (ms : List (ℕ × List Tree)). ms ++ []) (pattern_without w p first n t)
  pattern_without w (record_pattern i fs ps) first n t =
      let c = entry_of w.symbols (Some (record_named w.symbols w.names fs)) in
      parts_without w ps first (n + c.symbol.vars) (place_types (field_places w fs) (part_types n c))

  patterns_without : (w : Where) (ps : Patterns) (first : Option (List LocalTree)) (n : ℕ) (ts : List Tree) → (patterns_piece w first n ts ps).notes.matches ≡ []
  patterns_without w no_patterns first n ts = refl
  patterns_without w (more_patterns p ps) first n ts =
      let one = pattern_piece w first n (first_or_int ts) p in
      let rest = patterns_piece w first (n + taken one.notes) (rest_of ts) ps in
      ap (λ (ms : List (ℕ × List Tree)). ms ++ rest.notes.matches) (pattern_without w p first n (first_or_int ts)) ∙ patterns_without w ps first (n + taken one.notes) (rest_of ts)

  parts_without : (w : Where) (ps : Patterns) (first : Option (List LocalTree)) (n : ℕ) (ts : List Tree) → (all_notes (part_pieces w first n ts ps)).matches ≡ []
  parts_without w no_patterns first n ts = refl
  parts_without w (more_patterns p ps) first n ts =
      let one = pattern_piece w first n (first_or_int ts) p in
      let rest = part_pieces w first (n + taken one.notes) (rest_of ts) ps in
      ap (λ (ms : List (ℕ × List Tree)). ms ++ (all_notes rest).matches) (pattern_without w p first n (first_or_int ts)) ∙ parts_without w ps first (n + taken one.notes) (rest_of ts)

later_without : (w : Where) (ps : Alternatives) (first : List LocalTree) (n : ℕ) (t : Tree) → (all_notes (later_pieces w first n t ps)).matches ≡ []
later_without w no_alternatives first n t = refl
later_without w (more_alternatives i p ps) first n t =
    let one = pattern_piece w (Some first) n t p in
    let rest = later_pieces w first (n + taken one.notes) t ps in
    ap (λ (ms : List (ℕ × List Tree)). ms ++ (all_notes rest).matches) (pattern_without w p (Some first) n t) ∙ later_without w ps first (n + taken one.notes) t

alternatives_without : (w : Where) (ps : Alternatives) (n : ℕ) (t : Tree) → (all_notes (alternatives_pieces w n t ps)).matches ≡ []
alternatives_without w no_alternatives n t = refl
alternatives_without w (more_alternatives i p ps) n t =
    let one = pattern_piece w None n t p in
    let rest = later_pieces w one.variables (n + taken one.notes) t ps in
    ap (λ (ms : List (ℕ × List Tree)). ms ++ (all_notes rest).matches) (pattern_without w p None n t) ∙ later_without w ps one.variables (n + taken one.notes) t

either_piece : (n : ℕ) (b : Bool) (p q : NotedTree) → NotesBelow n p.notes → NotesBelow n q.notes → NotesBelow n (cond b p q).notes
either_piece n true p q h k = h
either_piece n false p q h k = k

module _ (w : Where) (sc : IsScoped w) where
  -- the patterns of alternatives
  trees_below : (m : ℕ) (ms : List Matched) → TreesBelow w sc m ms → AreBelow m (pattern_trees ms)
  trees_below m [] h = tt
  trees_below m (x ∷ xs) h = (h.0, trees_below m xs h.1)

  record ArmsBelow (n : ℕ) (a : Arms) : Type 0 where
    patterns : AreBelow (n + taken a.notes) a.patterns
    notes : NotesBelow n a.notes

  used_matches : (n : ℕ) (t : Option Tree) (i : ℕ) (u : Use) (a : NotedTree) → NotesBelow (n + use_vars u) a.notes → NotesBelow n (used_piece n t i u a).notes
  used_matches n t i (Local' p ty) a h = tt
  used_matches n t i (Symbol' e) a h = led n (n + e.symbol.vars) (wanting (at_unknowns n e.symbol (result_or_int e.symbol.result)) t) (replicate e.symbol.vars i) a.notes (ap (λ (k : ℕ). n + k) (sym (count_replicate e.symbol.vars i))) h

  mutual
    pub matches_bounded : (e : Expression) (ls : List LocalTree) (n : ℕ) (t : Option Tree) → NotesBelow n (piece w ls n t e).notes
    matches_bounded (applied_expression i qs x es) ls n t =
        let u = use_of_name w ls qs x in
        used_matches n t i u (pieces w ls (n + use_vars u) (parameters n u) es) (all_matches es ls (n + use_vars u) (parameters n u))
    matches_bounded (infix_expression i x a b) ls n t =
        let u = use_of_name w ls [] x in
        let m = n + use_vars u in
        let left = piece w ls m (Some (first_or_int (parameters n u))) a in
        let right = piece w ls (unknown_after m left) (Some (first_or_int (rest_of (parameters n u)))) b in
        used_matches n t i u (both_pieces (Two HCell) left (both_pieces (Two HCell) right (bare_piece (Leaf HEnd))))
        (followed m left.notes (follow right.notes no_notes) (matches_bounded a ls m (Some (first_or_int (parameters n u))))
        (followed (unknown_after m left) right.notes no_notes (matches_bounded b ls (unknown_after m left) (Some (first_or_int (rest_of (parameters n u))))) tt))
    matches_bounded (integer_expression i z) ls n t = tt
    matches_bounded (true_expression i) ls n t = tt
    matches_bounded (false_expression i) ls n t = tt
    matches_bounded (tuple_expression i es) ls n t =
        let u = tuple_use w (count_expressions es) in
        used_matches n t i u (pieces w ls (n + use_vars u) (parameters n u) es) (all_matches es ls (n + use_vars u) (parameters n u))
    matches_bounded (cast_expression i e f) ls n t = led n n (wanting (type_at w f) t) [] (piece w ls n (Some (type_at w f)) e).notes (let l : n ≡ n + 0 = omega arith in l) (matches_bounded e ls n (Some (type_at w f)))
    matches_bounded (field_expression i e k qs x) ls n t =
        let u = field_use w qs x in
        let m = n + use_vars u in
        let inner = piece w ls m (Some (first_or_int (parameters n u))) e in
        used_matches n t i u (both_pieces (Two HCell) inner (bare_piece (Leaf HEnd))) (followed m inner.notes no_notes (matches_bounded e ls m (Some (first_or_int (parameters n u)))) tt)
    matches_bounded (record_expression i fs es) ls n t =
        let u = record_use w fs in
        let m = n + use_vars u in
        let ts = parameters n u in
        used_matches n t i u (piece_under (values_placed (field_places w fs) (length ts)) (pieces w ls m (place_types (field_places w fs) ts) es)) (all_matches es ls m (place_types (field_places w fs) ts))
    matches_bounded (not_expression i e) ls n t = matches_bounded e ls n None
    matches_bounded (connected_expression i a o b) ls n t =
        let left = piece w ls n None a in
        followed n left.notes (piece w ls (unknown_after n left) None b).notes (matches_bounded a ls n None) (matches_bounded b ls (unknown_after n left) None)
    matches_bounded (equality_expression i same a b) ls n t =
        let left = piece w ls (n + 1) (Some (unknown n)) a in
        let right = piece w ls (unknown_after (n + 1) left) (Some (unknown n)) b in
        led n (n + 1) [] (i ∷ []) (follow left.notes right.notes) refl (followed (n + 1) left.notes right.notes (matches_bounded a ls (n + 1) (Some (unknown n))) (matches_bounded b ls (unknown_after (n + 1) left) (Some (unknown n))))
    matches_bounded (if_expression i c a b) ls n t =
        let test = piece w ls n None c in
        let left = piece w ls (unknown_after n test) t a in
        let right = piece w ls (unknown_after (unknown_after n test) left) t b in
        followed n test.notes (follow left.notes right.notes) (matches_bounded c ls n None) (followed (unknown_after n test) left.notes right.notes (matches_bounded a ls (unknown_after n test) t) (matches_bounded b ls (unknown_after (unknown_after n test) left) t))
    matches_bounded (let_expression i x a b) ls n t =
        let value = piece w ls (n + 1) (Some (unknown n)) a in
        let body = piece w (local x (unknown n) ∷ ls) (unknown_after (n + 1) value) t b in
        led n (n + 1) [] (i ∷ []) (follow value.notes body.notes) refl (followed (n + 1) value.notes body.notes (matches_bounded a ls (n + 1) (Some (unknown n))) (matches_bounded b (local x (unknown n) ∷ ls) (unknown_after (n + 1) value) t))
    matches_bounded (match_expression i is_let e bs) ls n t =
        let subject = piece w ls (n + 1) (Some (unknown n)) e in
        let j = unknown_after (n + 1) subject in
        let r = branches_arms w ls j (unknown n) t bs in
        let a = branches_matches bs ls j (unknown n) t (let l : n < j = omega arith in l) in
        let m = n + length (i ∷ (subject.notes.takers ++ r.notes.takers)) in
        let l : m ≡ j + taken r.notes = omega (arith, length-append subject.notes.takers r.notes.takers) in
        let k : NotesBelow (n + 1) (follow subject.notes r.notes) = followed (n + 1) subject.notes r.notes (matches_bounded e ls (n + 1) (Some (unknown n))) a.notes in
        let z : m ≡ n + 1 + length (subject.notes.takers ++ r.notes.takers) = omega arith in
        (list_more r.patterns (j + taken r.notes) m (omega (arith, l)) a.patterns, subst (λ (y : ℕ). MatchesBelow y (subject.notes.matches ++ r.notes.matches)) (sym z) k)
    matches_bounded (quantified_expression i all bs gs b) ls n t =
        let inside = reverse (pieces_of.bound w n bs) ++ ls in
        let j = n + binders_vars bs in
        let g = triggers_notes w inside j gs in
        let y = piece w inside (j + taken g) None b in
        led n j [] (replicate (binders_vars bs) i) (follow g y.notes) (ap (λ (k : ℕ). n + k) (sym (count_replicate (binders_vars bs) i))) (followed j g y.notes (triggers_matches gs inside j) (matches_bounded b inside (j + taken g) None))

    all_matches : (es : Expressions) (ls : List LocalTree) (n : ℕ) (ts : List Tree) → NotesBelow n (pieces w ls n ts es).notes
    all_matches no_expressions ls n ts = tt
    all_matches (more_expressions e es) ls n ts =
        let first = piece w ls n (Some (first_or_int ts)) e in
        followed n first.notes (pieces w ls (unknown_after n first) (rest_of ts) es).notes (matches_bounded e ls n (Some (first_or_int ts))) (all_matches es ls (unknown_after n first) (rest_of ts))

    triggers_matches : (es : Expressions) (ls : List LocalTree) (n : ℕ) → NotesBelow n (triggers_notes w ls n es)
    triggers_matches no_expressions ls n = tt
    triggers_matches (more_expressions e es) ls n =
        let formula = piece w ls n None e in
        let term = noted_before (noted [] (token e ∷ [])) (piece w ls (n + 1) (Some (unknown n)) e) in
        let one = cond (is_formula_trigger w (names ls) e) formula term in
        followed n one.notes (triggers_notes w ls (unknown_after n one) es)
        (either_piece n (is_formula_trigger w (names ls) e) formula term (matches_bounded e ls n None) (led n (n + 1) [] (token e ∷ []) (piece w ls (n + 1) (Some (unknown n)) e).notes refl (matches_bounded e ls (n + 1) (Some (unknown n)))))
        (triggers_matches es ls (unknown_after n one))

    branches_matches : (bs : MatchBranches) (ls : List LocalTree) (n : ℕ) (subject : Tree) (t : Option Tree) → TyVarsBelow n subject → ArmsBelow n (branches_arms w ls n subject t bs)
    branches_matches no_branches ls n subject t s = record { patterns = tt; notes = tt }
    branches_matches (more_branches ps b bs) ls n subject t s =
        let ms = alternatives_pieces w n subject ps in
        let a = alternatives_below w sc ps n subject s in
        let j = n + taken (all_notes ms) in
        let inside = reverse (first_variables ms) ++ ls in
        let y = piece w inside j t b in
        let z = unknown_after j y in
        let r = branches_arms w ls z subject t bs in
        let d = branches_matches bs ls z subject t (below_more subject n z (omega arith) s) in
        let m = n + length (((all_notes ms).takers ++ y.notes.takers) ++ r.notes.takers) in
        let e : m ≡ z + taken r.notes = omega (arith, length-append ((all_notes ms).takers ++ y.notes.takers) r.notes.takers, length-append (all_notes ms).takers y.notes.takers) in
        let q : n + taken (follow (all_notes ms) y.notes) ≡ z = omega (arith, length-append (all_notes ms).takers y.notes.takers) in
        let none_here : NotesBelow n (all_notes ms) = subst (λ (xs : List (ℕ × List Tree)). MatchesBelow j xs) (sym (alternatives_without w ps n subject)) tt in
        record {
          patterns = both_all (TyVarsBelow m) (pattern_trees ms) r.patterns (list_more (pattern_trees ms) j m (omega (arith, e)) (trees_below j ms a.trees)) (list_more r.patterns (z + taken r.notes) m (omega (arith, e)) d.patterns);
          notes = followed n (follow (all_notes ms) y.notes) r.notes (followed n (all_notes ms) y.notes none_here (matches_bounded b inside j t)) (subst (λ (k : ℕ). NotesBelow k r.notes) (sym q) d.notes);
        }
