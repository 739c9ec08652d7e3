-- Walks of branches: their parts, told of the whole.
use Rattle.std.proofs.Common.{◌≡◌, ℕ, ◌+◌, ◌<◌, suc, slice_set, Bool, true, false, not, List, [], ◌∷◌, ◌++◌, map, reverse, replicate, length, get_or, Option, Some, None, option_map, inl, refl, sym, ap, subst, ◌∙◌, arith, append_assoc, append-nil}
use Rattle.std.specs.List.{All}
use Rattle.std.proofs.lemmas.List.{reverse-append}
use Rattle.std.proofs.lemmas.List.Elements.{All-append, All-cons, All-nil}
use Rattle.trees.specs.declared.TermId.{TermId}
use Rattle.trees.specs.declared.Sort.{Sort}
use Rattle.trees.specs.declared.Sort.TheVariants.{Kind, Term, Formula, Pattern, Branch}
use Rattle.trees.specs.declared.Sort.TheVariants as sorts
use Rattle.trees.specs.Tree.{Tree, Leaf, Two, HTyVar, HEnd, HCell, HArm, HCase, head_of}
use Rattle.trees.specs.Node.{tree_at, Holds, Grows}
use Rattle.trees.specs.Sorts.{Fits, sort_of, yield, IsList}
use Rattle.trees.proofs.Nodes.{tree_at-grows, Grows_trans}
use Rattle.tasks.specs.Meaning.{trees_at}
use Rattle.tasks.specs.Equations.{cells}
use Rattle.surface.specs.Lexeme.{Word}
use Rattle.name_resolution.specs.Abstract as abstract
use Rattle.surface.specs.declared.patterns.Pat.{Pat}
use Rattle.surface.specs.Surface as code
use Rattle.name_resolution.proofs.Nodes.{patterns_are}
use Rattle.name_resolution.specs.Abstract.{first_form, side_by_side, grouped_patterns, patterns_of, Patterns, wildcard_pattern, variable_pattern, constructor_pattern, tuple_pattern, alias_pattern, record_pattern, no_patterns, more_patterns, Alternatives, no_alternatives, more_alternatives, Expression, MatchBranches, match_expression, no_branches, more_branches, count_patterns}
use Rattle.name_resolution.specs.declared.NamingFault.TheVariants.{WrongKind, Duplicate}
use Rattle.name_resolution.specs.declared.world.World.{World}
use Rattle.name_resolution.specs.Faults.{fault_if, fault, branches_fault, record_fault, constructor_fault, pattern_fault, patterns_fault, later_fault, alternatives_fault, alternatives_names, pattern_names, patterns_names, first_pattern_fault, has_alternative}
use Rattle.name_resolution.specs.Naming.{where_at}
use Rattle.name_resolution.specs.Records.{record_named, places_named}
use Rattle.name_resolution.specs.Where.{Where, place_of}
use Rattle.name_resolution.proofs.Fielded.{AreNewPlaces, is_fielded, places_count}
use Rattle.name_resolution.proofs.SameNames.{occurrences, occurs_both, SameNames, same_names_self, same_both, same_reverse}
use Rattle.open_types.specs.declared.draft.Constraints.{Constraints}
use Rattle.open_types.specs.declared.locals.Local.{Local}
use Rattle.open_types.specs.declared.locals.Locals.{Locals}
use Rattle.open_types.specs.declared.patterns.BranchPatterns.{BranchPatterns}
use Rattle.open_types.specs.declared.patterns.LaterPattern.{LaterPattern}
use Rattle.open_types.specs.Patterns.{Notes, no_notes, noted, with_match, follow, taken, LocalTree, local, entry_of, Matched, pattern_piece, patterns_piece, part_types, at_unknowns, place_types, tree_of_matched, part_pieces, first_or_int, rest_of, alternatives_pieces, later_pieces, first_variables, pattern_trees, places_among, arms, later_arms, reordered, cells_onto}
use Rattle.open_types.specs.Pieces.{NotedTree, unknown_after, piece, unknown, Arms, with_branch, branches_arms, names}
use Rattle.open_types.specs.Drafts.{HoldsType, WorldHeld, HoldsPattern, LaterHeld, PatternsHeld, IsMade, IsNoted, IsMatched, IsWalked, IsSet, CanWalk, LocalsHeld, IsLater, AreLater, AreDraftedAlternatives, AreArms, later_at, later_of, later_arm, branch_trees, branch_arms, local_at, local_name, locals_at, names_of_locals, is_due, due}
use Rattle.open_types.proofs.Growing.{held_grows, world_stays, locals_stay, locals_grow, each_stays, type_stays, wanted_stays}
use Rattle.open_types.proofs.Noting.{follow_nothing, more_noted, noted_as, noted_before, next, filled_noted}
use Rattle.open_types.proofs.Walking.{none_both, must_be, as_begun}
use Rattle.open_types.proofs.Quantified.{local_names}
use Rattle.open_types.proofs.Binding.{mapped_both}
use Rattle.open_types.proofs.Arguments.{names_both}
use Rattle.open_types.proofs.FieldNames.{bound_by, bound_beside, fields_bound}
use Rattle.std.proofs.Math.ListN.{length-map}
use Rattle.std.specs.Option.{is_some}
use Rattle.tasks.proofs.Growth.{map_agree as map_same}

-- ---- the names that patterns bind

pub parts_count : (w : Where) (first : Option (List LocalTree)) (n : ℕ) (ts : List Tree) (ps : Patterns) → length (part_pieces w first n ts ps) ≡ count_patterns ps
parts_count w first n ts no_patterns = refl
parts_count w first n ts (more_patterns p ps) = ap suc (parts_count w first (n + taken (pattern_piece w first n (first_or_int ts) p).notes) (rest_of ts) ps)

mutual
  pub pattern_variables : (w : Where) (first : Option (List LocalTree)) (n : ℕ) (t : Tree) (p : abstract.Pattern) (seen : List Word) → pattern_fault w seen p ≡ None → SameNames (names (pattern_piece w first n t p).variables) (pattern_names p)
  pattern_variables w first n t (wildcard_pattern i) seen h = λ y. refl
  pattern_variables w first n t (variable_pattern i x) seen h = λ y. refl
  pattern_variables w first n t (constructor_pattern i qs x ps) seen h =
      let c = entry_of w.symbols (w.names qs x) in
      patterns_variables w first (n + c.symbol.vars) (part_types n c) ps seen (none_both (constructor_fault w i (count_patterns ps) (w.names qs x)) (patterns_fault w seen ps) h).1
  pattern_variables w first n t (tuple_pattern i ps) seen h = let c = entry_of w.symbols (w.tuples (count_patterns ps)) in patterns_variables w first (n + c.symbol.vars) (part_types n c) ps seen h
  pattern_variables w first n t (alias_pattern p i x) seen h =
      let k = pattern_variables w first n t p seen (none_both (pattern_fault w seen p) (fault_if (is_some (place_of x (seen ++ pattern_names p))) (Duplicate i)) h).0 in
      λ y. ap (occurrences y) (names_both (pattern_piece w first n t p).variables (local x t ∷ [])) ∙ same_both (names (pattern_piece w first n t p).variables) (x ∷ []) (pattern_names p) (x ∷ []) k (same_names_self (x ∷ [])) y
  pattern_variables w first n t (record_pattern i fs ps) seen h =
      let k = record_named w.symbols w.names fs in
      let c = entry_of w.symbols (Some k) in
      let q = none_both (record_fault w false i (count_patterns ps) fs) (patterns_fault w seen ps) h in
      let f = is_fielded w false i (count_patterns ps) fs q.0 in
      let places = places_named w.symbols w.names k fs in
      let ts = part_types n c in
      let ms = part_pieces w first (n + c.symbol.vars) (place_types places ts) ps in
      let none : AreNewPlaces (replicate (length ts) false) places = subst (λ (j : ℕ). AreNewPlaces (replicate j false) places) (sym (length-map c.symbol.args (at_unknowns n c.symbol))) f.places in
      let count : length places ≡ length (map tree_of_matched ms) = places_count w.symbols w.names k fs ∙ f.count ∙ sym (parts_count w first (n + c.symbol.vars) (place_types places ts) ps) ∙ sym (length-map ms tree_of_matched) in
      λ y. fields_bound y places ts (map tree_of_matched ms) none count ∙ parts_variables w first (n + c.symbol.vars) (place_types places ts) ps seen q.1 y

  patterns_variables : (w : Where) (first : Option (List LocalTree)) (n : ℕ) (ts : List Tree) (ps : Patterns) (seen : List Word) → patterns_fault w seen ps ≡ None → SameNames (names (patterns_piece w first n ts ps).variables) (patterns_names ps)
  patterns_variables w first n ts no_patterns seen h = λ y. refl
  patterns_variables w first n ts (more_patterns p ps) seen h =
      let one = pattern_piece w first n (first_or_int ts) p in
      let rest = patterns_piece w first (n + taken one.notes) (rest_of ts) ps in
      let q = none_both (pattern_fault w seen p) (patterns_fault w (seen ++ pattern_names p) ps) h in
      let a = pattern_variables w first n (first_or_int ts) p seen q.0 in
      let b = patterns_variables w first (n + taken one.notes) (rest_of ts) ps (seen ++ pattern_names p) q.1 in
      λ y. ap (occurrences y) (names_both one.variables rest.variables) ∙ same_both (names one.variables) (names rest.variables) (pattern_names p) (patterns_names ps) a b y

  parts_variables : (w : Where) (first : Option (List LocalTree)) (n : ℕ) (ts : List Tree) (ps : Patterns) (seen : List Word) → patterns_fault w seen ps ≡ None
      → (y : Word) → bound_by y (map tree_of_matched (part_pieces w first n ts ps)) ≡ occurrences y (patterns_names ps)
  parts_variables w first n ts no_patterns seen h y = refl
  parts_variables w first n ts (more_patterns p ps) seen h y =
      let one = pattern_piece w first n (first_or_int ts) p in
      let rest = part_pieces w first (n + taken one.notes) (rest_of ts) ps in
      let q = none_both (pattern_fault w seen p) (patterns_fault w (seen ++ pattern_names p) ps) h in
      let a = pattern_variables w first n (first_or_int ts) p seen q.0 y in
      let b = parts_variables w first (n + taken one.notes) (rest_of ts) ps (seen ++ pattern_names p) q.1 y in
      bound_beside y (tree_of_matched one) (map tree_of_matched rest) ∙ cc (a, b) ∙ sym (occurs_both y (pattern_names p) (patterns_names ps))

pub first_names : (w : Where) (n : ℕ) (t : Tree) (ps : Alternatives) → alternatives_fault w ps ≡ None → SameNames (names (first_variables (alternatives_pieces w n t ps))) (alternatives_names ps)
first_names w n t no_alternatives h = λ y. refl
first_names w n t (more_alternatives i p ps) h = pattern_variables w None n t p [] (none_both (pattern_fault w [] p) (later_fault w (pattern_names p) ps) h).0

-- ---- no fault in a whole, none in its parts
pub in_cases : (w : Where) (ls : List Word) (b : Bool) (i : ℕ) (is_let : Bool) (e : Expression) (bs : MatchBranches) → fault w false ls b (match_expression i is_let e bs) ≡ None → (fault w false ls false e ≡ None) × (has_alternative bs ≡ true) × (branches_fault w false ls b bs ≡ None)
in_cases w ls b i is_let e bs h =
    let o = none_both (first_pattern_fault w is_let bs) _ h in
    let p = none_both (fault w false ls false e) _ o.1 in
    let q = none_both (fault_if (not (has_alternative bs)) (WrongKind i)) _ p.1 in
    (p.0, must_be (has_alternative bs) (WrongKind i) q.0, q.1)

pub in_branches : (w : Where) (ls : List Word) (b : Bool) (ps : Alternatives) (e : Expression) (bs : MatchBranches) → branches_fault w false ls b (more_branches ps e bs) ≡ None → (fault w false (reverse (alternatives_names ps) ++ ls) b e ≡ None) × (branches_fault w false ls b bs ≡ None)
in_branches w ls b ps e bs h =
    let p = none_both (alternatives_fault w ps) _ h in
    none_both (fault w false (reverse (alternatives_names ps) ++ ls) b e) _ p.1

pub in_alternatives : (w : Where) (ls : List Word) (b : Bool) (ps : Alternatives) (e : Expression) (bs : MatchBranches) → branches_fault w false ls b (more_branches ps e bs) ≡ None → alternatives_fault w ps ≡ None
in_alternatives w ls b ps e bs h = (none_both (alternatives_fault w ps) _ h).0

-- ---- lists of arms
pub onto_cells : (xs ys : List Tree) (e : Tree) → e ≡ cells ys → cells_onto xs e ≡ cells (xs ++ ys)
onto_cells [] ys e h = h
onto_cells (x ∷ xs) ys e h = ap (Two HCell x) (onto_cells xs ys e h)

pub arm_fits : (s : List Tree) (arm list : TermId) → sort_of (tree_at s arm) ≡ Branch → IsList Branch (tree_at s list) → Fits (Two HCell (tree_at s arm) (tree_at s list))
arm_fits s arm list h l = ((λ e. no_list (sym h ∙ e), rw h l), tt)
  where
    no_list : Branch ≡ sorts.List → ⊥
    no_list e = cc

-- ---- what is held where the store grows
pub pattern_grows : (s s' : List Tree) → Grows s s' → (id : TermId) → HoldsPattern s id → HoldsPattern s' id
pattern_grows s s' g id h = record { held = held_grows s s' g id h.held; sort = rw (tree_at-grows s s' id g h.held) h.sort }

pub later_grows : (s s' : List Tree) → Grows s s' → (ls : List LaterPattern) → All (LaterHeld s) ls → All (LaterHeld s') ls
later_grows s s' g ls h = λ k e l. pattern_grows s s' g (get_or ls k e).pattern (h k e l)

pub first_later : (s : List Tree) (xs ys : List LaterPattern) (y : LaterPattern) → xs ≡ y ∷ ys → All (LaterHeld s) xs → LaterHeld s y
first_later s xs ys y e h = (subst (All (LaterHeld s)) e h) 0 y (let m : 0 < length (y ∷ ys) = omega arith in m)

pub later_stay : (s s' : List Tree) → Grows s s' → (ls : List LaterPattern) → All (LaterHeld s) ls → map (later_at s') ls ≡ map (later_at s) ls
later_stay s s' g ls h = map_same (later_at s') (later_at s) ls (λ k e l. same (get_or ls k e) (h k e l))
  where
    same : (x : LaterPattern) → LaterHeld s x → later_at s' x ≡ later_at s x
    same x p = ap (λ (t : Tree). (t, x.places)) (tree_at-grows s s' x.pattern g p.held)

pub patterns_grow : (s s' : List Tree) → Grows s s' → (b : BranchPatterns) → PatternsHeld s b → PatternsHeld s' b
patterns_grow s s' g b h = record { first = pattern_grows s s' g b.first h.first; later = later_grows s s' g b.later h.later }

pub branch_stays : (s s' : List Tree) → Grows s s' → (b : BranchPatterns) → PatternsHeld s b → (e e' : Tree) → e' ≡ e → branch_arms s' b e' ≡ branch_arms s b e
branch_stays s s' g b h e e' q = cc (tree_at-grows s s' b.first g h.first.held, later_stay s s' g b.later h.later, q)

-- ---- later alternatives
pub later_none : (first : List LocalTree) {s : List Tree} {d : Constraints} (ls : List LaterPattern) → All (LaterHeld s) ls → IsNoted s d s d no_notes → AreLater [] first s d ls s d ls
later_none first {s} ls h n = record { held = h; are = sym (append-nil (map (later_at s) ls)); noted = n }

mapped_later : (s : List Tree) (ls : List LaterPattern) (l : LaterPattern) → map (later_at s) (ls ++ l ∷ []) ≡ map (later_at s) ls ++ later_at s l ∷ []
mapped_later s [] l = refl
mapped_later s (x ∷ xs) l = ap (λ (r : List (Tree × List ℕ)). later_at s x ∷ r) (mapped_later s xs l)

pub later_pushed : {s s1 : List Tree} (ls : List LaterPattern) (l : LaterPattern) → Grows s s1 → All (LaterHeld s) ls → LaterHeld s1 l → All (LaterHeld s1) (ls ++ l ∷ [])
later_pushed {s} {s1} ls l g h k = All-append (LaterHeld s1) ls (l ∷ []) (later_grows s s1 g ls h) (All-cons (LaterHeld s1) l [] k (All-nil (LaterHeld s1)))

pub later_more : {m : Matched} {ms : List Matched} {first : List LocalTree} {s s1 s2 : List Tree} {d d1 d2 : Constraints} {ls ls' : List LaterPattern} (l : LaterPattern)
    → Grows s s1 → All (LaterHeld s) ls → IsLater m first s d s1 d1 l → AreLater ms first s1 d1 (ls ++ l ∷ []) s2 d2 ls' → AreLater (m ∷ ms) first s d ls s2 d2 ls'
later_more {m} {ms} {first} {s} {s1} {ls = ls} l g h a b = record {
  held = b.held;
  are = b.are ∙ (rw (mapped_later s1 ls l, later_stay s s1 g ls h, a.is) (append_assoc (map (later_at s) ls) (later_of first m ∷ []) (map (later_of first) ms)));
  noted = more_noted a.noted b.noted;
}

-- ---- alternatives
arms_are : (first : List LocalTree) (body : Tree) (ms : List Matched) → map (later_arm body) (map (later_of first) ms) ≡ later_arms first body ms
arms_are first body [] = refl
arms_are first body (m ∷ ms) = ap (λ (r : List Tree). Two HArm m.tree (reordered first m.variables body) ∷ r) (arms_are first body ms)

trees_are : (first : List LocalTree) (ms : List Matched) → map (λ (p : Tree × List ℕ). p.0) (map (later_of first) ms) ≡ pattern_trees ms
trees_are first [] = refl
trees_are first (m ∷ ms) = ap (λ (r : List Tree). m.tree ∷ r) (trees_are first ms)

later_trees : (s : List Tree) (ls : List LaterPattern) → map (λ (p : Tree × List ℕ). p.0) (map (later_at s) ls) ≡ map (λ (l : LaterPattern). tree_at s l.pattern) ls
later_trees s [] = refl
later_trees s (l ∷ ls) = ap (λ (r : List Tree). tree_at s l.pattern ∷ r) (later_trees s ls)

pub alternatives_made : {m : Matched} {ms : List Matched} {s s1 s2 : List Tree} {d d1 d2 : Constraints} {id : TermId} {locals : List Local} {ls : List LaterPattern}
    → HoldsPattern s1 id → tree_at s1 id ≡ m.tree → All (λ (l : Local). HoldsType s1 l.ty) locals → map (local_at s1) locals ≡ m.variables → IsNoted s d s1 d1 m.notes
    → Grows s1 s2 → AreLater ms m.variables s1 d1 [] s2 d2 ls → All (λ (l : Local). HoldsType s2 l.ty) locals → AreDraftedAlternatives (m ∷ ms) s d s2 d2 locals (record { first = id; later = ls })
alternatives_made {m} {ms} {s1 = s1} {s2 = s2} {id = id} {locals} {ls} p t h v n g a k =
    let tree : tree_at s2 id ≡ m.tree = tree_at-grows s1 s2 id g p.held ∙ t in
    record {
      patterns = record { first = pattern_grows s1 s2 g id p; later = a.held };
      trees = cc (tree, sym (later_trees s2 ls) ∙ ap (map (λ (q : Tree × List ℕ). q.0)) a.are ∙ trees_are m.variables ms);
      arms = λ body. cc (tree, ap (map (later_arm body)) a.are ∙ arms_are m.variables body ms);
      held = k;
      locals = each_stays s1 s2 g locals h ∙ v;
      noted = more_noted n a.noted;
    }

-- of a later alternative, whose variables stand by themselves
pub later_made : {m : Matched} {s s1 : List Tree} {d d1 : Constraints} {own : List Local} {id : TermId} {places : List ℕ} (first : List Local) → Grows s s1 → All (λ (l : Local). HoldsType s l.ty) first
    → IsMatched m s d [] s1 d1 own id → places ≡ places_among (reverse (map (local_at s1) first)) (reverse (map (local_at s1) own)) → IsLater m (map (local_at s) first) s d s1 d1 (record { pattern = id; places = places })
later_made {m} {s} {s1} {own = own} {places = places} first g h a p =
    let vars : map (local_at s1) own ≡ m.variables = a.bound.locals in
    let where' : places ≡ places_among (reverse (map (local_at s) first)) (reverse m.variables) = p ∙ cc (each_stays s s1 g first h, vars) in
    record { held = record { held = a.held; sort = a.sort }; is = cc (a.tree, where'); noted = a.bound.noted }

pub last_reversed : (s : List Tree) (rest : List Local) (last : Local) → reverse (map (local_at s) (rest ++ last ∷ [])) ≡ local_at s last ∷ reverse (map (local_at s) rest)
last_reversed s rest last = ap reverse (mapped_both s rest (last ∷ [])) ∙ reverse-append (map (local_at s) rest) (local_at s last ∷ [])

-- patterns side by side in other words
pub side_is : (ps : List Pat) → side_by_side (code.patterns ps) ≡ grouped_patterns (first_form (code.patterns ps)) (patterns_of ps)
side_is ps = ap (grouped_patterns (first_form (code.patterns ps))) (patterns_are ps)

pub as_later : {s : List Tree} {w : World} (ty : TermId) → WorldHeld s w → HoldsType s ty → {s1 : List Tree} → Grows s s1 → {d1 : Constraints} (vs : List Local) (vars : List LocalTree) (n : ℕ) (ps : Alternatives) → map (local_at s1) vs ≡ vars → length d1.takers ≡ n
    → {ls : List LaterPattern} {s2 : List Tree} {d2 : Constraints} {ls2 : List LaterPattern}
    → AreLater (later_pieces (where_at s1 w) (map (local_at s1) vs) (length d1.takers) (tree_at s1 ty) ps) (map (local_at s1) vs) s1 d1 ls s2 d2 ls2 → AreLater (later_pieces (where_at s w) vars n (tree_at s ty) ps) vars s1 d1 ls s2 d2 ls2
as_later {s} {w} ty world wanted {s1} g {d1} vs vars n ps own l {ls} {s2} {d2} {ls2} h =
    let same : later_pieces (where_at s1 w) (map (local_at s1) vs) (length d1.takers) (tree_at s1 ty) ps ≡ later_pieces (where_at s w) vars n (tree_at s ty) ps = cc (world_stays s s1 g w world, own, l, type_stays s s1 g ty wanted) in
    subst (λ (vs' : List LocalTree). AreLater (later_pieces (where_at s w) vars n (tree_at s ty) ps) vs' s1 d1 ls s2 d2 ls2) own (subst (λ (ms : List Matched). AreLater ms (map (local_at s1) vs) s1 d1 ls s2 d2 ls2) same h)

-- ---- branches
-- the trees of numbers, one after another
pub trees_both : (s : List Tree) (xs ys : List TermId) → trees_at s (xs ++ ys) ≡ trees_at s xs ++ trees_at s ys
trees_both s [] ys = refl
trees_both s (x ∷ xs) ys = ap (λ (ts : List Tree). tree_at s x ∷ ts) (trees_both s xs ys)

branch_numbers : (s : List Tree) (b : BranchPatterns) → trees_at s (b.first ∷ map (λ (l : LaterPattern). l.pattern) b.later) ≡ branch_trees s b
branch_numbers s b = ap (λ (ts : List Tree). tree_at s b.first ∷ ts) (same b.later)
  where
    same : (ls : List LaterPattern) → trees_at s (map (λ (l : LaterPattern). l.pattern) ls) ≡ map (λ (l : LaterPattern). tree_at s l.pattern) ls
    same [] = refl
    same (l ∷ ls) = ap (λ (ts : List Tree). tree_at s l.pattern ∷ ts) (same ls)

pub ids_grow : (s s' : List Tree) → Grows s s' → (ids : List TermId) → All (Holds s) ids → All (Holds s') ids
ids_grow s s' g ids h = λ k e l. held_grows s s' g (get_or ids k e) (h k e l)

ids_stay : (s s' : List Tree) → Grows s s' → (ids : List TermId) → All (Holds s) ids → trees_at s' ids ≡ trees_at s ids
ids_stay s s' g ids h = map_same (tree_at s') (tree_at s) ids (λ k e l. tree_at-grows s s' (get_or ids k e) g (h k e l))

pub numbers_held : {s s1 : List Tree} → Grows s s1 → (ids : List TermId) (b : BranchPatterns) → All (Holds s) ids → PatternsHeld s1 b → All (Holds s1) (ids ++ b.first ∷ map (λ (l : LaterPattern). l.pattern) b.later)
numbers_held {s} {s1} g ids b h p = All-append (Holds s1) ids _ (ids_grow s s1 g ids h) (All-cons (Holds s1) b.first _ p.first.held (each b.later p.later))
  where
    each : (ls : List LaterPattern) → All (LaterHeld s1) ls → All (Holds s1) (map (λ (l : LaterPattern). l.pattern) ls)
    each [] k = All-nil (Holds s1)
    each (l ∷ ls) k = All-cons (Holds s1) l.pattern _ (let z = k 0 l (omega arith) in z.held) (each ls (λ j e i. k (suc j) e (omega (arith, i))))

-- the arms of a branch before those of others
pub branch_walked : {ms : List Matched} {p : NotedTree} {rest : Arms} {k : Sort} {s s1 s2 s3 s4 : List Tree} {d d1 d2 d3 : Constraints} {locals : List Local} {b : BranchPatterns} {ids ids2 : List TermId} {body list id : TermId}
    → All (Holds s) ids → Grows s s1 → AreDraftedAlternatives ms s d s1 d1 locals b → IsWalked p k s1 d1 s2 d2 body → Grows s1 s2
    → AreArms rest k s2 d2 (ids ++ b.first ∷ map (λ (l : LaterPattern). l.pattern) b.later) s3 d3 ids2 list → Grows s2 s3
    → Holds s4 id → tree_at s4 id ≡ cells_onto (branch_arms s3 b (tree_at s3 body)) (tree_at s3 list) → IsList Branch (tree_at s4 id) → yield (tree_at s3 body) ≡ k → Grows s3 s4
    → AreArms (with_branch ms p rest) k s d ids s4 d3 ids2 id
branch_walked {ms} {p} {rest} {k} {s} {s1} {s2} {s3} {s4} {b = b} {ids} {ids2} {body} {list} {id} h g a w g1 r g2 held t l y g3 =
    let far : Grows s s2 = Grows_trans s s1 s2 g g1 in
    let deep : Grows s1 s3 = Grows_trans s1 s2 s3 g1 g2 in
    let inside : tree_at s3 body ≡ p.tree = tree_at-grows s2 s3 body g2 w.held ∙ w.tree in
    let own : branch_arms s3 b (tree_at s3 body) ≡ arms p.tree ms = branch_stays s1 s3 deep b a.patterns p.tree (tree_at s3 body) inside ∙ a.arms p.tree in
    let whole : tree_at s4 id ≡ cells (arms p.tree ms ++ rest.trees) = t ∙ ap (λ (xs : List Tree). cells_onto xs (tree_at s3 list)) own ∙ onto_cells (arms p.tree ms) rest.trees (tree_at s3 list) r.tree in
    let numbers : List TermId = b.first ∷ map (λ (q : LaterPattern). q.pattern) b.later in
    let old : trees_at s2 ids ≡ trees_at s ids = ids_stay s s2 far ids h in
    let new : trees_at s2 numbers ≡ pattern_trees ms = branch_numbers s2 b ∙ (branch_again s1 s2 g1 b a.patterns ∙ a.trees) in
    record {
      held = held;
      tree = whole;
      branches = l;
      bodies = λ e. ap yield t ∙ y;
      patterns = ids_grow s3 s4 g3 ids2 r.patterns;
      trees = ids_stay s3 s4 g3 ids2 r.patterns ∙ r.trees ∙ (rw (trees_both s2 ids numbers, old, new) (append_assoc (trees_at s ids) (pattern_trees ms) rest.patterns));
      noted = noted_before (more_noted (more_noted a.noted w.noted) r.noted) g3;
    }
  where
    branch_again : (s s' : List Tree) → Grows s s' → (b : BranchPatterns) → PatternsHeld s b → branch_trees s' b ≡ branch_trees s b
    branch_again s s' g b h = cc (tree_at-grows s s' b.first g h.first.held, map_same (λ (l : LaterPattern). tree_at s' l.pattern) (λ (l : LaterPattern). tree_at s l.pattern) b.later (λ k e l. tree_at-grows s s' (get_or b.later k e).pattern g (h.later k e l).held))

-- ---- a `match`
pub has_arm : (w : Where) (ls : List LocalTree) (subject : Tree) (t : Option Tree) (bs : MatchBranches) (n : ℕ) → has_alternative bs ≡ true → head_of (cells (branches_arms w ls n subject t bs).trees) ≡ HCell
has_arm w ls subject t no_branches n h = absurd (cc)
has_arm w ls subject t (more_branches no_alternatives b bs) n h = has_arm w ls subject t bs _ h
has_arm w ls subject t (more_branches (more_alternatives i p ps) b bs) n h = refl

pub case_fits : (a b : Tree) → sort_of a ≡ Term → IsList Branch b → head_of b ≡ HCell → Fits (Two HCase a b)
case_fits a b h l q = ((h, l), q)

-- the arms of branches, told by what the whole began with
pub as_arms : {s : List Tree} {d : Constraints} {w : World} {ls : Locals} → IsSet s d w ls → {s1 : List Tree} → Grows s s1 → {d1 : Constraints} (wanted' : Option TermId) (subject : TermId) (bs : MatchBranches)
    → (n : ℕ) (u : Tree) (t : Option Tree) → length d1.takers ≡ n → tree_at s1 subject ≡ u → option_map (tree_at s1) wanted' ≡ t → {k : Sort} {ps : List TermId} {s2 : List Tree} {d2 : Constraints} {ps2 : List TermId} {x : TermId}
    → AreArms (branches_arms (where_at s1 w) (locals_at s1 ls) (length d1.takers) (tree_at s1 subject) (option_map (tree_at s1) wanted') bs) k s1 d1 ps s2 d2 ps2 x → AreArms (branches_arms (where_at s w) (locals_at s ls) n u t bs) k s1 d1 ps s2 d2 ps2 x
as_arms {s} {w = w} {ls = ls} c {s1} g {d1} wanted' subject bs n u t l o q {k} {ps} {s2} {d2} {ps2} {x} h =
    let same : branches_arms (where_at s1 w) (locals_at s1 ls) (length d1.takers) (tree_at s1 subject) (option_map (tree_at s1) wanted') bs ≡ branches_arms (where_at s w) (locals_at s ls) n u t bs = cc (world_stays s s1 g w c.world, locals_stay s s1 g ls c.locals, l, o, q) in
    subst (λ (a : Arms). AreArms a k s1 d1 ps s2 d2 ps2 x) same h

-- a branch without alternatives makes no arm
pub branch_dropped : {p : NotedTree} {rest : Arms} {k l : Sort} {s s1 s2 : List Tree} {d d1 d2 : Constraints} {ids ids2 : List TermId} {body id : TermId}
    → All (Holds s) ids → IsWalked p l s d s1 d1 body → Grows s s1 → AreArms rest k s1 d1 ids s2 d2 ids2 id → AreArms (with_branch [] p rest) k s d ids s2 d2 ids2 id
branch_dropped {rest = rest} {s = s} {s1 = s1} {ids = ids} h w g r = record {
  held = r.held;
  tree = r.tree;
  branches = r.branches;
  bodies = r.bodies;
  patterns = r.patterns;
  trees = r.trees ∙ ap (λ (ts : List Tree). ts ++ rest.patterns) (ids_stay s s1 g ids h);
  noted = more_noted w.noted r.noted;
}

pub no_arms : {k : Sort} {s s1 : List Tree} {d : Constraints} (ids : List TermId) {id : TermId} → Grows s s1 → All (Holds s) ids → IsMade s d s1 (Leaf HEnd) id → AreArms (record { trees = []; patterns = []; notes = no_notes }) k s d ids s1 d ids id
no_arms {k} {s} {s1} {d} ids {id} g h m = record {
  held = m.held;
  tree = m.tree;
  branches = rw m.tree (refl, inl refl);
  bodies = λ e. absurd (no_cell (sym (ap head_of m.tree) ∙ e));
  patterns = ids_grow s s1 g ids h;
  trees = ids_stay s s1 g ids h ∙ sym (append-nil (trees_at s ids));
  noted = record { notes = m.notes ∙ sym (follow_nothing _); ready = m.ready };
}
  where
    no_cell : HEnd ≡ HCell → ⊥
    no_cell e = cc

-- under the variables of the first alternative
module _ {s s1 : List Tree} {d d1 : Constraints} {w : World} {ls : Locals} {vs : List Local} {b : BranchPatterns} (n : ℕ) (t : Tree) (ps : Alternatives) (set : IsSet s d w ls) (g : Grows s s1)
    (a : AreDraftedAlternatives (alternatives_pieces (where_at s w) n t ps) s d s1 d1 vs b) where
  pub branch_names : alternatives_fault (where_at s w) ps ≡ None → SameNames (reverse (map local_name vs) ++ names_of_locals ls) (reverse (alternatives_names ps) ++ names_of_locals ls)
  branch_names h =
      let e : map local_name vs ≡ names (first_variables (alternatives_pieces (where_at s w) n t ps)) = sym (local_names s1 vs) ∙ ap names a.locals in
      let same : SameNames (map local_name vs) (alternatives_names ps) = λ y. ap (occurrences y) e ∙ first_names (where_at s w) n t ps h y in
      same_both (reverse (map local_name vs)) (names_of_locals ls) (reverse (alternatives_names ps)) (names_of_locals ls) (same_reverse (map local_name vs) (alternatives_names ps) same) (same_names_self (names_of_locals ls))

  pub branch_held : All (λ (l : Local). HoldsType s1 l.ty) vs × LocalsHeld s1 ls
  branch_held = (a.held, locals_grow s s1 g ls set.locals)

  pub branch_locals : reverse (map (local_at s1) vs) ++ locals_at s1 ls ≡ reverse (first_variables (alternatives_pieces (where_at s w) n t ps)) ++ locals_at s ls
  branch_locals = cc (a.locals, locals_stay s s1 g ls set.locals)

pub match_walked : {s : List Tree} {d : Constraints} {w : World} {ls : Locals} {t : Option TermId} (i : ℕ) (is_let : Bool) (e : Expression) (bs : MatchBranches) → CanWalk s d w ls t (match_expression i is_let e bs)
    → {s1 s2 s3 s4 : List Tree} {d1 d2 d3 d4 d5 : Constraints} {ty x y id : TermId} {ids : List TermId} (place : ℕ) → place ≡ length d.matches → IsNoted s d s d1 (with_match i [])
    → tree_at s1 ty ≡ Leaf (HTyVar (length d1.takers)) → HoldsType s1 ty → IsNoted s d1 s1 d2 (noted [] (i ∷ [])) → Grows s s1
    → IsWalked (piece (where_at s1 w) (locals_at s1 ls) (length d2.takers) (Some (tree_at s1 ty)) e) Term s1 d2 s2 d3 x → Grows s1 s2
    → AreArms (branches_arms (where_at s2 w) (locals_at s2 ls) (length d3.takers) (tree_at s2 ty) (option_map (tree_at s2) t) bs) (due t) s2 d3 [] s3 d4 ids y → Grows s2 s3
    → d5.equations ≡ d4.equations → d5.takers ≡ d4.takers → d5.matches ≡ slice_set d4.matches place (record { token = i; patterns = ids })
    → IsMade s3 d5 s4 (Two HCase (tree_at s3 x) (tree_at s3 y)) id
    → IsWalked (piece (where_at s w) (locals_at s ls) (length d.takers) (option_map (tree_at s) t) (match_expression i is_let e bs)) (due t) s d s4 d5 id
match_walked {s} {d} {w} {ls} {t} i is_let e bs can {s1} {s2} {s3} {s4} {d1} {d2} {d3} {d4} {d5} {ty} {x} {y} {id} {ids} place p n1 u hu n2 g1 a g2 r g3 qe qt qm m =
    let n : ℕ = length d.takers in
    let len1 : length d1.takers ≡ n = next n1 ∙ (let z : n + 0 ≡ n = omega arith in z) in
    let len2 : length d2.takers ≡ n + 1 = next n2 ∙ ap (λ (j : ℕ). j + 1) len1 in
    let own : tree_at s1 ty ≡ unknown n = u ∙ ap unknown len1 in
    let subject : NotedTree = piece (where_at s w) (locals_at s ls) (n + 1) (Some (unknown n)) e in
    let sub : IsWalked subject Term s1 d2 s2 d3 x = as_begun can.set g1 (Some ty) e (n + 1) (Some (unknown n)) len2 (ap Some own) a in
    let far : Grows s s2 = Grows_trans s s1 s2 g1 g2 in
    let len3 : length d3.takers ≡ unknown_after (n + 1) subject = next sub.noted ∙ ap (λ (j : ℕ). j + taken subject.notes) len2 in
    let at2 : tree_at s2 ty ≡ unknown n = type_stays s1 s2 g2 ty hu ∙ own in
    let whole : Arms = branches_arms (where_at s w) (locals_at s ls) (unknown_after (n + 1) subject) (unknown n) (option_map (tree_at s) t) bs in
    let arm : AreArms whole (due t) s2 d3 [] s3 d4 ids y = as_arms can.set far t ty bs (unknown_after (n + 1) subject) (unknown n) (option_map (tree_at s) t) len3 at2 (wanted_stays s s2 far t can.wanted) r in
    let rest : Notes = follow (noted [] (i ∷ [])) (follow subject.notes whole.notes) in
    let noted4 : IsNoted s d s3 d4 (follow (with_match i []) rest) = more_noted n1 (more_noted n2 (more_noted sub.noted arm.noted)) in
    let noted5 : IsNoted s d s3 d5 (follow (with_match i (trees_at s3 ids)) rest) = filled_noted i place ids rest p noted4 arm.patterns qe qt qm in
    let done : IsNoted s d s3 d5 (follow (with_match i whole.patterns) rest) = noted_as noted5 (follow (with_match i whole.patterns) rest) (ap (λ (ts : List Tree). follow (with_match i ts) rest) arm.trees) in
    let inside : tree_at s3 x ≡ subject.tree = tree_at-grows s2 s3 x g3 sub.held ∙ sub.tree in
    let cell : head_of (tree_at s3 y) ≡ HCell = ap head_of arm.tree ∙ has_arm (where_at s w) (locals_at s ls) (unknown n) (option_map (tree_at s) t) bs (unknown_after (n + 1) subject) (in_cases (where_at s w) (names_of_locals ls) (is_due t) i is_let e bs can.resolved).1 in
    record {
      held = m.held;
      tree = m.tree ∙ cc (inside, arm.tree);
      sort = ap sort_of m.tree ∙ arm.bodies cell;
      noted = record { notes = m.notes ∙ done.notes; ready = m.ready };
    }
