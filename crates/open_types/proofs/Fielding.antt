-- Walks of the fields of records: their parts, told of the whole.
use Rattle.std.proofs.Common.{◌≡◌, ℕ, ◌+◌, ◌<◌, zero, suc, pos, List, [], ◌∷◌, ◌++◌, map, replicate, length, take, get_or, slice_set, Option, Some, None, option_map, inl, inr, refl, sym, ap, subst, ◌∙◌, ⊎_elim, arith, append_assoc}
use Rattle.std.specs.List.{All}
use Rattle.std.proofs.lemmas.List.{map-append, map-set}
use Rattle.std.proofs.lemmas.List.Elements.{All-append, All-nil, All-set, All-replicate, All-push, All-head, All-tail, All-from_recursion, recursion_from_All}
use Rattle.std.proofs.Math.ListN.{length-map as count_map}
use Rattle.trees.specs.declared.TermId.{TermId}
use Rattle.trees.specs.declared.Sort.{Sort}
use Rattle.trees.specs.declared.Sort.TheVariants.{Term, Pattern}
use Rattle.trees.specs.declared.Sort.TheVariants as sorts
use Rattle.trees.specs.Tree.{Tree, Leaf, One, Two, Three, HEnd, HCell, HNum, HPatAny, HPatCon}
use Rattle.trees.specs.Node.{tree_at, Holds, Grows}
use Rattle.trees.specs.Sorts.{Fits, sort_of, IsList, int_type}
use Rattle.trees.proofs.Nodes.{tree_at-grows, Grows_trans}
use Rattle.tasks.specs.Task.{SymbolTree, symbol_or}
use Rattle.tasks.specs.Meaning.{trees_at}
use Rattle.tasks.specs.Equations.{cells, type_variables}
use Rattle.tasks.specs.Typing.{members}
use Rattle.name_resolution.specs.Abstract.{Expressions, Pattern as OnePattern, Patterns, more_patterns, FieldName, record_expression, record_pattern}
use Rattle.name_resolution.specs.declared.world.World.{World}
use Rattle.name_resolution.specs.Naming.{where_at}
use Rattle.name_resolution.specs.Records.{put_at_places, or_first, field_place, entry_of_field, places_named, record_named}
use Rattle.name_resolution.specs.Where.{Where}
use Rattle.open_types.specs.declared.draft.Constraints.{Constraints}
use Rattle.open_types.specs.declared.locals.Local.{Local}
use Rattle.open_types.specs.declared.locals.Locals.{Locals}
use Rattle.open_types.specs.declared.patterns.Alternative.{Alternative}
use Rattle.open_types.specs.declared.patterns.Part.{Part}
use Rattle.open_types.specs.Patterns.{Notes, no_notes, noted, follow, taken, LocalTree, NumberedEntry, entry_of, at_unknowns, part_types, place_types, result_or_int, Matched, PatternTree, pattern_tree, tree_of_matched, beside, side_by_side_trees, wildcard_tree, fields_tree, fields_piece, constructed_by, all_notes, pattern_piece, part_pieces}
use Rattle.open_types.specs.Pieces.{NotedTree, piece, pieces, Symbol', used_piece, piece_under, symbol_at_types, values_placed, field_places, parameters, use_vars}
use Rattle.trees.specs.binders.Visits.{HoldsTerm}
use Rattle.open_types.specs.Drafts.{HoldsType, WorldHeld, IsReady, IsMade, IsNoted, IsBegun, AreBound, IsMatched, IsWalked, AreWalked, CanUse, CanMatch, CanMatchFields, EarlierHeld, earlier_variables, instances, local_at, locals_at, due, part_at, PartHeld, ArePartsJoined, ArePut}
use Rattle.open_types.proofs.Growing.{held_grows, type_stays, types_stay, types_grow, wanted_stays, world_stays, world_grows, locals_stay, each_stays, each_grows}
use Rattle.open_types.proofs.Noting.{nothing_noted, more_noted, noted_after, noted_before, noted_as, next, count_replicate, follow_nothing}
use Rattle.open_types.proofs.Arguments.{at_sort}
use Rattle.open_types.proofs.Matching.{earlier_stays, earlier_grows, none_bound, more_bound, bound_grows}
use Rattle.open_types.proofs.Binding.{mapped_both}
use Rattle.open_types.proofs.Taking.{mapped_more}
use Rattle.name_resolution.proofs.Putting.{put_all, put_map}
use Rattle.open_types.proofs.Branching.{pattern_grows}
use Rattle.open_types.proofs.Walking.{grown_sort}
use Rattle.tasks.proofs.Growth.{map_agree as map_same}

-- ---- terms
pub term_grows : (s s' : List Tree) → Grows s s' → (id : TermId) → HoldsTerm s id → HoldsTerm s' id
term_grows s s' g id h = (held_grows s s' g id h.0, rw (tree_at-grows s s' id g h.0) h.1)

pub terms_grow : (s s' : List Tree) → Grows s s' → (ids : List TermId) → All (HoldsTerm s) ids → All (HoldsTerm s') ids
terms_grow s s' g ids h = λ k e l. term_grows s s' g (get_or ids k e) (h k e l)

pub terms_stay : (s s' : List Tree) → Grows s s' → (ids : List TermId) → All (HoldsTerm s) ids → trees_at s' ids ≡ trees_at s ids
terms_stay s s' g ids h = map_same (tree_at s') (tree_at s) ids (λ k e l. tree_at-grows s s' (get_or ids k e) g (h k e l).0)

pub first_term : (s : List Tree) (xs ys : List TermId) (y : TermId) → xs ≡ y ∷ ys → All (HoldsTerm s) xs → HoldsTerm s y
first_term s xs ys y e h = (subst (All (HoldsTerm s)) e h) 0 y (let m : 0 < length (y ∷ ys) = omega arith in m)

pub split_types : (s : List Tree) (xs ys : List TermId) (y : TermId) → xs ≡ y ∷ ys → All (HoldsType s) xs → HoldsType s y × All (HoldsType s) ys
split_types s xs ys y e h = let k = subst (All (HoldsType s)) e h in (All-head (HoldsType s) y ys k, All-tail (HoldsType s) y ys k)

-- a list of terms that has a member
pub cell_terms : (e a b : Tree) → e ≡ Two HCell a b → Fits e → IsList Term e → (sort_of a ≡ Term) × IsList Term b
cell_terms e a b q fits list =
    let f : Fits (Two HCell a b) = subst Fits q fits in
    let l : IsList Term (Two HCell a b) = subst (IsList Term) q list in
    let k : sort_of a ≡ Term = ⊎_elim (λ n. absurd (none' n)) (λ z. some_term z) l.1 in
    (k, subst (λ (z : Sort). IsList z b) k f.0.1)
  where
    none' : {x : Sort} → Some x ≡ None → ⊥
    none' n = cc

    some_term : {x y : Sort} → Some x ≡ Some y → x ≡ y
    some_term z = cc

pub term_push : (s : List Tree) (ids new : List TermId) (id : TermId) → new ≡ ids ++ id ∷ [] → All (HoldsTerm s) ids → Holds s id → sort_of (tree_at s id) ≡ Term → All (HoldsTerm s) new
term_push s ids new id q h k o = rw q (All-push (HoldsTerm s) ids id h (k, o))

-- ---- the values of a record
pub members_cells : (ts : List Tree) → members (cells ts) ≡ ts
members_cells [] = refl
members_cells (t ∷ ts) = ap (λ (r : List Tree). t ∷ r) (members_cells ts)

-- a use of a record's constructor, whose values are a list that is put in the order of the fields
pub record_walked : {s : List Tree} {d : Constraints} {w : World} {ls : Locals} {t : Option TermId} {i : ℕ} {es : Expressions} → CanUse s d w ls t es
    → {s1 s2 s3 s4 s5 : List Tree} {d1 d3 : Constraints} {types : List TermId} {x id : TermId} (ids args own : List TermId) (y : TermId) (k : ℕ) (places : List ℕ) (e : SymbolTree)
    → symbol_or (where_at s w).symbols k ≡ e → IsBegun s d s1 d1 i e (option_map (tree_at s) t) types → Grows s s1 → Grows s1 s2
    → trees_at s2 ids ≡ instances (trees_at s1 types) (trees_at s1 args) → trees_at s1 args ≡ e.args → trees_at s2 own ≡ place_types places (trees_at s2 ids)
    → AreWalked (pieces (where_at s2 w) (locals_at s2 ls) (length d1.takers) (trees_at s2 own) es) s2 d1 s3 d3 x → Grows s2 s3
    → Grows s3 s4 → tree_at s4 y ≡ values_placed places (length ids) (tree_at s3 x)
    → IsMade s4 d3 s5 (symbol_at_types k (trees_at s4 types) (option_map (tree_at s4) t) (tree_at s4 y)) id
    → IsWalked (used_piece (length d.takers) (option_map (tree_at s) t) i (Symbol' (entry_of (where_at s w).symbols (Some k)))
    (piece_under (values_placed places (length (parameters (length d.takers) (Symbol' (entry_of (where_at s w).symbols (Some k))))))
    (pieces (where_at s w) (locals_at s ls) (length d.takers + use_vars (Symbol' (entry_of (where_at s w).symbols (Some k)))) (place_types places (parameters (length d.takers) (Symbol' (entry_of (where_at s w).symbols (Some k))))) es)))
    (due t) s d s5 d3 id
record_walked {s} {d} {w} {ls} {t} {i} {es} can {s1} {s2} {s3} {s4} {s5} {d1} {d3} {types} {x} {id} ids args own y k places e q b g h p a o r j u v m =
    let n : ℕ = length d.takers in
    let ww : Where = where_at s w in
    let ll : List LocalTree = locals_at s ls in
    let tt' : Option Tree = option_map (tree_at s) t in
    let z = Grows_trans s s1 s2 g h in
    let len : length d1.takers ≡ n + e.vars = next b.noted ∙ ap (λ (c : ℕ). n + c) (count_replicate e.vars i) in
    let ps : List Tree = map (at_unknowns n e) e.args in
    let want : trees_at s2 ids ≡ ps = rw (p, b.trees, a) refl in
    let chosen : trees_at s2 own ≡ place_types places ps = o ∙ ap (place_types places) want in
    let count : length ids ≡ length ps = sym (count_map ids (tree_at s2)) ∙ ap length want in
    let all : NotedTree = pieces ww ll (n + e.vars) (place_types places ps) es in
    let same : pieces (where_at s2 w) (locals_at s2 ls) (length d1.takers) (trees_at s2 own) es ≡ all = cc (world_stays s s2 z w can.set.world, locals_stay s s2 z ls can.set.locals, len, chosen) in
    let f : IsWalked all sorts.List s2 d1 s3 d3 x = subst (λ (c : NotedTree). IsWalked c sorts.List s2 d1 s3 d3 x) same r.walked in
    let ty : trees_at s4 types ≡ type_variables n e.vars = types_stay s1 s4 (Grows_trans s1 s3 s4 (Grows_trans s1 s2 s3 h j) u) types b.held ∙ b.trees in
    let wa : option_map (tree_at s4) t ≡ tt' = wanted_stays s s4 (Grows_trans s s3 s4 (Grows_trans s s2 s3 z j) u) t can.wanted in
    let put' : tree_at s4 y ≡ values_placed places (length ps) all.tree = v ∙ cc (count, f.tree) in
    let entry : record { number = k; symbol = e } ≡ entry_of ww.symbols (Some k) = cc q in
    let under : NotedTree = piece_under (values_placed places (length ps)) all in
    let whole : IsWalked (used_piece n tt' i (Symbol' (record { number = k; symbol = e })) under) (due t) s d s5 d3 id = record {
      held = m.held;
      tree = m.tree ∙ cc (ty, wa, put');
      sort = ap sort_of m.tree ∙ at_sort k (trees_at s4 types) t s4 (tree_at s4 y);
      noted = record { notes = m.notes ∙ (noted_before (more_noted b.noted (noted_after h b.noted.ready f.noted)) u).notes; ready = m.ready };
    } in
    subst (λ (c : NumberedEntry). IsWalked (used_piece n tt' i (Symbol' c) (piece_under (values_placed places (length (parameters n (Symbol' c)))) (pieces ww ll (n + use_vars (Symbol' c)) (place_types places (parameters n (Symbol' c))) es))) (due t) s d s5 d3 id) entry whole

-- an expression of a record, by its fields: the use of the constructor of the record to which they belong
pub record_written : {s s' : List Tree} {d d' : Constraints} {id : TermId} (w : World) (ls : Locals) (t : Option TermId) (i : ℕ) (es : Expressions) (fs : List FieldName) (k : ℕ) (places : List ℕ)
    → k ≡ record_named (where_at s w).symbols (where_at s w).names fs → places ≡ places_named (where_at s w).symbols (where_at s w).names k fs
    → IsWalked (used_piece (length d.takers) (option_map (tree_at s) t) i (Symbol' (entry_of (where_at s w).symbols (Some k)))
    (piece_under (values_placed places (length (parameters (length d.takers) (Symbol' (entry_of (where_at s w).symbols (Some k))))))
    (pieces (where_at s w) (locals_at s ls) (length d.takers + use_vars (Symbol' (entry_of (where_at s w).symbols (Some k)))) (place_types places (parameters (length d.takers) (Symbol' (entry_of (where_at s w).symbols (Some k))))) es)))
    (due t) s d s' d' id
    → IsWalked (piece (where_at s w) (locals_at s ls) (length d.takers) (option_map (tree_at s) t) (record_expression i fs es)) (due t) s d s' d' id
record_written {s} {s'} {d} {d'} {id} w ls t i es fs k places q p walked =
    let n : ℕ = length d.takers in
    let ww : Where = where_at s w in
    let two : (k, places) ≡ (record_named ww.symbols ww.names fs, field_places ww fs) = cc (q, p ∙ ap (λ (j : ℕ). places_named ww.symbols ww.names j fs) q) in
    subst (λ (c : ℕ × List ℕ). IsWalked (used_piece n (option_map (tree_at s) t) i (Symbol' (entry_of ww.symbols (Some c.0)))
    (piece_under (values_placed c.1 (length (parameters n (Symbol' (entry_of ww.symbols (Some c.0))))))
    (pieces ww (locals_at s ls) (n + use_vars (Symbol' (entry_of ww.symbols (Some c.0)))) (place_types c.1 (parameters n (Symbol' (entry_of ww.symbols (Some c.0))))) es)))
    (due t) s d s' d' id) two walked

-- ---- the parts of a record's pattern
pub part_grows : (s s' : List Tree) → Grows s s' → (p : Part) → PartHeld s p → PartHeld s' p
part_grows s s' g p h = record { pattern = pattern_grows s s' g p.pattern h.pattern; variables = each_grows s s' g p.variables h.variables }

pub parts_grow : (s s' : List Tree) → Grows s s' → (ps : List Part) → All (PartHeld s) ps → All (PartHeld s') ps
parts_grow s s' g ps h = λ k e l. part_grows s s' g (get_or ps k e) (h k e l)

pub part_stays : (s s' : List Tree) → Grows s s' → (p : Part) → PartHeld s p → part_at s' p ≡ part_at s p
part_stays s s' g p h = cc (tree_at-grows s s' p.pattern g h.pattern.held, each_stays s s' g p.variables h.variables)

pub parts_stay : (s s' : List Tree) → Grows s s' → (ps : List Part) → All (PartHeld s) ps → map (part_at s') ps ≡ map (part_at s) ps
parts_stay s s' g ps h = map_same (part_at s') (part_at s) ps (λ k e l. part_stays s s' g (get_or ps k e) (h k e l))

pub split_parts : (s : List Tree) (xs ys : List Part) (y : Part) → xs ≡ y ∷ ys → All (PartHeld s) xs → PartHeld s y × All (PartHeld s) ys
split_parts s xs ys y e h = let k = subst (All (PartHeld s)) e h in (All-head (PartHeld s) y ys k, All-tail (PartHeld s) y ys k)

-- what a walk of further fields asks for
pub fields_on : {s : List Tree} {d : Constraints} {w : World} {parts : List Part} {ids : List TermId} {a : Alternative} → CanMatchFields s d w parts ids a
    → {s' : List Tree} {d' : Constraints} {parts' : List Part} → Grows s s' → IsReady s' d' → All (PartHeld s') parts' → CanMatchFields s' d' w parts' ids a
fields_on {s} {w = w} {ids = ids} {a} c {s'} g r h = record { world = world_grows s s' g w c.world; ready = r; held = h; wanted = types_grow s s' g ids c.wanted; earlier = earlier_grows s s' g a c.earlier }

pub field_match : {s : List Tree} {d : Constraints} {w : World} {parts : List Part} {ids : List TermId} {a : Alternative} → CanMatchFields s d w parts ids a → (ls : List Local) → ls ≡ [] → (ty : TermId) → HoldsType s ty → CanMatch s d w ls ty a
field_match {s} c ls e ty h = record { world = c.world; ready = c.ready; held = rw e (All-nil (λ (l : Local). HoldsType s l.ty)); wanted = h; earlier = c.earlier }

-- the part that a walk made
pub part_made : {m : Matched} {s s1 : List Tree} {d d1 : Constraints} {ls ls1 : List Local} {id : TermId} → ls ≡ [] → IsMatched m s d ls s1 d1 ls1 id → (p : Part) → p.pattern ≡ id → p.variables ≡ ls1
    → PartHeld s1 p × (part_at s1 p ≡ tree_of_matched m)
part_made {m} {s} {s1} {ls = ls} {ls1} {id} e a p q r = (
  record { pattern = rw q (record { held = a.held; sort = a.sort }); variables = rw r a.bound.held },
  cc (ap (tree_at s1) q ∙ a.tree, ap (map (local_at s1)) r ∙ a.bound.locals ∙ ap (λ (x : List Local). map (local_at s) x ++ m.variables) e),
)

pub none_put : {s : List Tree} {d : Constraints} {w : World} {parts : List Part} {ids : List TermId} {a : Alternative} → CanMatchFields s d w parts ids a → ArePut [] [] s d parts s d parts
none_put {s} {d} c = record { held = c.held; trees = refl; noted = nothing_noted s d c.ready }

-- one part, then others
pub more_put : {m : Matched} {ms : List Matched} {s s1 s2 : List Tree} {d d1 d2 : Constraints} {parts parts1 parts2 : List Part} (places : List ℕ) (place : ℕ) (p : Part)
    → Grows s s1 → All (PartHeld s) parts → IsNoted s d s1 d1 m.notes → part_at s1 p ≡ tree_of_matched m → parts1 ≡ slice_set parts place p → ArePut places ms s1 d1 parts1 s2 d2 parts2
    → ArePut (place ∷ places) (m ∷ ms) s d parts s2 d2 parts2
more_put {m} {ms} {s} {s1} {parts = parts} {parts1} places place p g h n q e a = record {
  held = a.held;
  trees = a.trees
      ∙ ap (put_at_places places (map tree_of_matched ms)) (ap (map (part_at s1)) e ∙ map-set (part_at s1) parts place p ∙ cc (parts_stay s s1 g parts h, q));
  noted = more_noted n a.noted;
}

pub put_held : (s : List Tree) (parts parts' : List Part) (place : ℕ) (p : Part) → All (PartHeld s) parts → PartHeld s p → parts' ≡ slice_set parts place p → All (PartHeld s) parts'
put_held s parts parts' place p h k e = rw e (All-set (PartHeld s) parts place p k h)

-- further fields, told of what was there before the first one
pub as_put : {s s1 s2 : List Tree} {d1 d2 : Constraints} {w : World} {parts1 parts2 : List Part} (a : Alternative) (ids : List TermId) (k n : ℕ) (fs : List FieldName) (ps : Patterns) → WorldHeld s w → EarlierHeld s a → All (HoldsType s) ids → Grows s s1 → length d1.takers ≡ n
    → ArePut (places_named (where_at s1 w).symbols (where_at s1 w).names k fs) (part_pieces (where_at s1 w) (earlier_variables s1 a) (length d1.takers) (place_types (places_named (where_at s1 w).symbols (where_at s1 w).names k fs) (trees_at s1 ids)) ps) s1 d1 parts1 s2 d2 parts2
    → ArePut (places_named (where_at s w).symbols (where_at s w).names k fs) (part_pieces (where_at s w) (earlier_variables s a) n (place_types (places_named (where_at s w).symbols (where_at s w).names k fs) (trees_at s ids)) ps) s1 d1 parts1 s2 d2 parts2
as_put {s} {s1} {s2} {d1} {d2} {w} {parts1} {parts2} a ids k n fs ps h e th g q p =
    let there : where_at s1 w ≡ where_at s w = world_stays s s1 g w h in
    let all : (where_at s1 w, (earlier_variables s1 a, (length d1.takers, trees_at s1 ids))) ≡ (where_at s w, (earlier_variables s a, (n, trees_at s ids))) = cc (there, earlier_stays s s1 g a e, q, types_stay s s1 g ids th) in
    subst (λ (c : Where × (Option (List LocalTree) × (ℕ × List Tree))). ArePut (places_named c.0.symbols c.0.names k fs) (part_pieces c.0 c.1.0 c.1.1.0 (place_types (places_named c.0.symbols c.0.names k fs) c.1.1.1) ps) s1 d1 parts1 s2 d2 parts2) all p

-- one field, then others
pub more_fields : {s s1 s2 : List Tree} {d d1 d2 : Constraints} {w : World} {ls ls1 : List Local} {id : TermId} {parts parts1 parts2 : List Part} {ids : List TermId} {a : Alternative} → CanMatchFields s d w parts ids a
    → (f : FieldName) (fs : List FieldName) (q : OnePattern) (ps : Patterns) (k place : ℕ) (ty : TermId) (p : Part) → place ≡ or_first (field_place (where_at s w).symbols k (entry_of_field (where_at s w).names f)) → tree_at s ty ≡ get_or (trees_at s ids) place int_type → Grows s s1
    → IsMatched (pattern_piece (where_at s w) (earlier_variables s a) (length d.takers) (tree_at s ty) q) s d ls s1 d1 ls1 id → part_at s1 p ≡ tree_of_matched (pattern_piece (where_at s w) (earlier_variables s a) (length d.takers) (tree_at s ty) q) → parts1 ≡ slice_set parts place p
    → ArePut (places_named (where_at s1 w).symbols (where_at s1 w).names k fs) (part_pieces (where_at s1 w) (earlier_variables s1 a) (length d1.takers) (place_types (places_named (where_at s1 w).symbols (where_at s1 w).names k fs) (trees_at s1 ids)) ps) s1 d1 parts1 s2 d2 parts2
    → ArePut (places_named (where_at s w).symbols (where_at s w).names k (f ∷ fs)) (part_pieces (where_at s w) (earlier_variables s a) (length d.takers) (place_types (places_named (where_at s w).symbols (where_at s w).names k (f ∷ fs)) (trees_at s ids)) (more_patterns q ps)) s d parts s2 d2 parts2
more_fields {s} {s1} {s2} {d} {d1} {d2} {w} {parts = parts} {parts1} {parts2} {ids} {a} can f fs q ps k place ty p pe te g matched pm e rest =
    let n : ℕ = length d.takers in
    let ww : Where = where_at s w in
    let first : Option (List LocalTree) = earlier_variables s a in
    let ts : List Tree = trees_at s ids in
    let places : List ℕ = places_named ww.symbols ww.names k fs in
    let here : ℕ = or_first (field_place ww.symbols k (entry_of_field ww.names f)) in
    let m : Matched = pattern_piece ww first n (tree_at s ty) q in
    let tail : ArePut places (part_pieces ww first (n + taken m.notes) (place_types places ts) ps) s1 d1 parts1 s2 d2 parts2 = as_put a ids k (n + taken m.notes) fs ps can.world can.earlier can.wanted g (next matched.bound.noted) rest in
    let it : ArePut (place ∷ places) (m ∷ part_pieces ww first (n + taken m.notes) (place_types places ts) ps) s d parts s2 d2 parts2 = more_put places place p g can.held matched.bound.noted pm e tail in
    let two : (place, tree_at s ty) ≡ (here, get_or ts here int_type) = cc (pe, te) in
    subst (λ (c : ℕ × Tree). ArePut (c.0 ∷ places) (pattern_piece ww first n c.1 q ∷ part_pieces ww first (n + taken (pattern_piece ww first n c.1 q).notes) (place_types places ts) ps) s d parts s2 d2 parts2) two it

-- ---- wildcards
pub wildcard_part : {s s1 : List Tree} {d : Constraints} {id : TermId} (ty : TermId) → IsMade s d s1 (One HPatAny (tree_at s ty)) id → (p : Part) → p.pattern ≡ id → p.variables ≡ []
    → PartHeld s1 p × (part_at s1 p ≡ wildcard_tree (tree_at s ty))
wildcard_part {s} {s1} {id = id} ty m p q r = (
  record { pattern = rw q (record { held = m.held; sort = ap sort_of m.tree }); variables = rw r (All-nil (λ (l : Local). HoldsType s1 l.ty)) },
  cc (ap (tree_at s1) q ∙ m.tree, ap (map (local_at s1)) r),
)

pub wildcards_held : (s s1 : List Tree) (parts parts1 : List Part) (p : Part) → Grows s s1 → All (PartHeld s) parts → PartHeld s1 p → parts1 ≡ parts ++ p ∷ [] → All (PartHeld s1) parts1
wildcards_held s s1 parts parts1 p g h k e = rw e (All-push (PartHeld s1) parts p (parts_grow s s1 g parts h) k)

pub wildcards_more : (s s1 s2 : List Tree) (parts parts1 parts2 : List Part) (p : Part) (ty : TermId) (ids : List TermId) → Grows s s1 → All (PartHeld s) parts → All (HoldsType s) ids → parts1 ≡ parts ++ p ∷ [] → part_at s1 p ≡ wildcard_tree (tree_at s ty)
    → map (part_at s2) parts2 ≡ map (part_at s1) parts1 ++ map wildcard_tree (trees_at s1 ids) → map (part_at s2) parts2 ≡ map (part_at s) parts ++ map wildcard_tree (trees_at s (ty ∷ ids))
wildcards_more s s1 s2 parts parts1 parts2 p ty ids g h th e w q =
    let old : map (part_at s1) parts ≡ map (part_at s) parts = parts_stay s s1 g parts h in
    let one : map (part_at s1) parts1 ≡ map (part_at s) parts ++ wildcard_tree (tree_at s ty) ∷ [] = ap (map (part_at s1)) e ∙ map-append (part_at s1) parts (p ∷ []) ∙ cc (old, w) in
    let more : trees_at s1 ids ≡ trees_at s ids = types_stay s s1 g ids th in
    q ∙ cc (one, more) ∙ append_assoc (map (part_at s) parts) (wildcard_tree (tree_at s ty) ∷ []) (map wildcard_tree (trees_at s ids))

-- ---- the parts side by side
pub none_joined : {s s1 : List Tree} {d : Constraints} {ls : List Local} {id : TermId} → Grows s s1 → IsReady s d → All (λ (l : Local). HoldsType s l.ty) ls → IsMade s d s1 (Leaf HEnd) id
    → ArePartsJoined (pattern_tree (Leaf HEnd) []) s d ls s1 ls id
none_joined {s} {d = d} {ls} g r h m = record { held = m.held; tree = m.tree; patterns = rw m.tree (refl, inl refl); bound = none_bound ls g h (noted_before (nothing_noted s d r) g) }

pub more_joined : {q : PatternTree} {s s1 s2 : List Tree} {d : Constraints} {ls ls1 ls2 : List Local} {y id : TermId} (p : Part) → PartHeld s p → IsReady s d → All (λ (l : Local). HoldsType s l.ty) ls → ls1 ≡ ls ++ p.variables
    → ArePartsJoined q s d ls1 s1 ls2 y → Grows s s1 → IsMade s1 d s2 (Two HCell (tree_at s1 p.pattern) (tree_at s1 y)) id → Grows s1 s2 → ArePartsJoined (beside (part_at s p) q) s d ls s2 ls2 id
more_joined {q} {s} {s1} {s2} {d} {ls} {ls1} {ls2} p h r k e a g m u = record {
  held = m.held;
  tree = let x = tree_at-grows s s1 p.pattern g h.pattern.held in cc (m.tree, x, a.tree);
  patterns = rw m.tree (refl, inr (ap Some (grown_sort s s1 g h.pattern.held h.pattern.sort)));
  bound =
      let first : AreBound s d ls s d ls1 no_notes (map (local_at s) p.variables) = record {
        held = rw e (All-append (λ (l : Local). HoldsType s l.ty) ls p.variables k h.variables);
        locals = ap (map (local_at s)) e ∙ mapped_both s ls p.variables;
        noted = nothing_noted s d r;
      } in
      bound_grows (more_bound first a.bound) u;
}

-- ---- the whole pattern
pub record_matched : {s : List Tree} {d : Constraints} {w : World} {ls : List Local} {ty : TermId} {a : Alternative} {token : ℕ} (ps : Patterns) (fs : List FieldName) → CanMatch s d w ls ty a
    → {s1 s2 s3 s4 s5 s6 s7 : List Tree} {d1 d4 : Constraints} {types : List TermId} {x id : TermId} {ls5 : List Local} {parts parts' : List Part} (ids args : List TermId) (list : TermId) (k : ℕ) (e : SymbolTree)
    → record_named (where_at s w).symbols (where_at s w).names fs ≡ k → symbol_or (where_at s w).symbols k ≡ e → IsBegun s d s1 d1 token e (Some (tree_at s ty)) types → Grows s s1 → Grows s1 s2
    → trees_at s2 ids ≡ instances (trees_at s1 types) (trees_at s1 args) → trees_at s1 args ≡ e.args
    → map (part_at s3) parts ≡ map wildcard_tree (trees_at s2 ids) → IsNoted s2 d1 s3 d1 no_notes → Grows s2 s3 → All (HoldsType s2) ids
    → ArePut (places_named (where_at s3 w).symbols (where_at s3 w).names k fs) (part_pieces (where_at s3 w) (earlier_variables s3 a) (length d1.takers) (place_types (places_named (where_at s3 w).symbols (where_at s3 w).names k fs) (trees_at s3 ids)) ps) s3 d1 parts s4 d4 parts'
    → Grows s3 s4 → ArePartsJoined (side_by_side_trees (map (part_at s4) parts')) s4 d4 ls s5 ls5 x → Grows s4 s5
    → Grows s5 s6 → tree_at s6 list ≡ cells (trees_at s5 types) → IsMade s6 d4 s7 (Three (HPatCon k) (tree_at s6 list) (tree_at s6 x) (tree_at s6 ty)) id → Grows s6 s7
    → IsMatched (pattern_piece (where_at s w) (earlier_variables s a) (length d.takers) (tree_at s ty) (record_pattern token fs ps)) s d ls s7 d4 ls5 id
record_matched {s} {d} {w} {ls} {ty} {a} {token} ps fs can {s1} {s2} {s3} {s4} {s5} {s6} {s7} {d1} {d4} {types} {x} {id} {ls5} {parts} {parts'} ids args list k e rn y b g h p q wild wn o th r j jn u v l m z =
    let n : ℕ = length d.takers in
    let t : Tree = tree_at s ty in
    let ww : Where = where_at s w in
    let first : Option (List LocalTree) = earlier_variables s a in
    let one : NumberedEntry = record { number = k; symbol = e } in
    let g2 = Grows_trans s s1 s2 g h in
    let g3 = Grows_trans s s2 s3 g2 o in
    let g4 = Grows_trans s s3 s4 g3 j in
    let g5 = Grows_trans s s4 s5 g4 u in
    let g6 = Grows_trans s s5 s6 g5 v in
    let len : length d1.takers ≡ n + e.vars = next b.noted ∙ ap (λ (i : ℕ). n + i) (count_replicate e.vars token) in
    let ts : List Tree = part_types n one in
    let want : trees_at s2 ids ≡ ts = rw (p, b.trees, q) refl in
    let want3 : trees_at s3 ids ≡ ts = types_stay s2 s3 o ids th ∙ want in
    let places : List ℕ = places_named ww.symbols ww.names k fs in
    let there : where_at s3 w ≡ ww = world_stays s s3 g3 w can.world in
    let same : places_named (where_at s3 w).symbols (where_at s3 w).names k fs ≡ places = ap (λ (c : Where). places_named c.symbols c.names k fs) there in
    let ms : List Matched = part_pieces ww first (n + e.vars) (place_types places ts) ps in
    let made : part_pieces (where_at s3 w) (earlier_variables s3 a) (length d1.takers) (place_types (places_named (where_at s3 w).symbols (where_at s3 w).names k fs) (trees_at s3 ids)) ps ≡ ms =
    cc (there, same, earlier_stays s s3 g3 a can.earlier, len, want3) in
    let put' : ArePut places ms s3 d1 parts s4 d4 parts' = subst (λ (c : List ℕ × List Matched). ArePut c.0 c.1 s3 d1 parts s4 d4 parts') (cc (same, made)) r in
    let trees : map (part_at s4) parts' ≡ put_at_places places (map tree_of_matched ms) (map wildcard_tree ts) = put'.trees ∙ ap (put_at_places places (map tree_of_matched ms)) (wild ∙ ap (map wildcard_tree) want) in
    let whole : PatternTree = fields_tree places ts (map tree_of_matched ms) in
    let joined : ArePartsJoined whole s4 d4 ls s5 ls5 x = subst (λ (c : List PatternTree). ArePartsJoined (side_by_side_trees c) s4 d4 ls s5 ls5 x) trees jn in
    let typed : trees_at s5 types ≡ type_variables n e.vars = types_stay s1 s5 (Grows_trans s1 s3 s5 (Grows_trans s1 s2 s3 h o) (Grows_trans s3 s4 s5 j u)) types b.held ∙ b.trees in
    let inside : tree_at s6 x ≡ tree_at s5 x = tree_at-grows s5 s6 x v joined.held in
    let own : tree_at s6 ty ≡ t = type_stays s s6 g6 ty can.wanted in
    let first_notes : Notes = noted ((at_unknowns n e (result_or_int e.result), t) ∷ []) (replicate e.vars token) in
    let begun : IsNoted s d s3 d1 first_notes = noted_as (more_noted b.noted (noted_after h b.noted.ready wn)) first_notes (follow_nothing first_notes) in
    let noted' : IsNoted s d s5 d4 (follow first_notes (all_notes ms)) = noted_as (more_noted (more_noted begun put'.noted) joined.bound.noted) (follow first_notes (all_notes ms)) (follow_nothing (follow first_notes (all_notes ms))) in
    let entry : one ≡ entry_of ww.symbols (Some k) = cc y in
    let it : IsMatched (constructed_by n token t one (fields_piece places ts ms)) s d ls s7 d4 ls5 id = record {
      held = m.held;
      tree = m.tree ∙ cc (l, typed, inside, joined.tree, own);
      sort = ap sort_of m.tree;
      bound = bound_grows (record { held = joined.bound.held; locals = joined.bound.locals ∙ ap (λ (xs : List LocalTree). xs ++ whole.variables) (each_stays s s4 g4 ls can.held); noted = noted' }) (Grows_trans s5 s6 s7 v z);
    } in
    let as_entry : IsMatched (constructed_by n token t (entry_of ww.symbols (Some k)) (fields_piece places (part_types n (entry_of ww.symbols (Some k))) (part_pieces ww first (n + (entry_of ww.symbols (Some k)).symbol.vars) (place_types places (part_types n (entry_of ww.symbols (Some k)))) ps))) s d ls s7 d4 ls5 id =
    subst (λ (c : NumberedEntry). IsMatched (constructed_by n token t c (fields_piece places (part_types n c) (part_pieces ww first (n + c.symbol.vars) (place_types places (part_types n c)) ps))) s d ls s7 d4 ls5 id) entry it in
    subst (λ (i : ℕ). IsMatched (constructed_by n token t (entry_of ww.symbols (Some i)) (fields_piece (places_named ww.symbols ww.names i fs) (part_types n (entry_of ww.symbols (Some i))) (part_pieces ww first (n + (entry_of ww.symbols (Some i)).symbol.vars) (place_types (places_named ww.symbols ww.names i fs) (part_types n (entry_of ww.symbols (Some i)))) ps))) s d ls s7 d4 ls5 id) (sym rn) as_entry

-- ---- types at places
pub place_more : (s : List Tree) (items : List TermId) (x : TermId) (ts : List Tree) (places : List ℕ) (i d : ℕ) → i < length places → tree_at s x ≡ get_or ts (get_or places i d) int_type
    → trees_at s items ≡ place_types (take i places) ts → trees_at s (items ++ x ∷ []) ≡ place_types (take (i + 1) places) ts
place_more s items x ts places i d l q e =
    mapped_more s items x ∙ cc (e, q) ∙ sym (places_both (take i places) (get_or places i d ∷ [])) ∙ ap (λ (ps : List ℕ). place_types ps ts) (sym (take_more places i l))
    ∙ ap (λ (j : ℕ). place_types (take j places) ts) (let z : suc i ≡ i + 1 = omega arith in z)
  where
    places_both : (ps qs : List ℕ) → place_types (ps ++ qs) ts ≡ place_types ps ts ++ place_types qs ts
    places_both [] qs = refl
    places_both (p ∷ ps) qs = ap (λ (r : List Tree). get_or ts p int_type ∷ r) (places_both ps qs)

    take_more : (ps : List ℕ) (i : ℕ) → i < length ps → take (suc i) ps ≡ take i ps ++ get_or ps i d ∷ []
    take_more [] i l = absurd (omega (arith, l))
    take_more (p ∷ ps) zero l = refl
    take_more (p ∷ ps) (suc i) l = ap (λ (r : List ℕ). p ∷ r) (take_more ps i (omega (arith, l)))

-- ---- values at places
pub values_put : (s : List Tree) (places : List ℕ) (values items : List TermId) (none : TermId) (count : ℕ) (e : Tree) → items ≡ put_at_places places values (replicate count none) → trees_at s values ≡ members e → tree_at s none ≡ Leaf (HNum (pos 0))
    → cells (trees_at s items) ≡ values_placed places count e
values_put s places values items none count e q v n =
    ap (λ (xs : List TermId). cells (trees_at s xs)) q ∙ ap cells (put_map (tree_at s) places values (replicate count none))
    ∙ ap (λ (xs : List Tree). cells (put_at_places places (trees_at s values) xs)) (same count) ∙ ap (λ (xs : List Tree). cells (put_at_places places xs (replicate count (Leaf (HNum (pos 0)))))) v
  where
    same : (k : ℕ) → trees_at s (replicate k none) ≡ replicate k (Leaf (HNum (pos 0)))
    same zero = refl
    same (suc k) = cc (n, same k)

pub values_held : (s : List Tree) (places : List ℕ) (values items : List TermId) (none : TermId) (count : ℕ) → items ≡ put_at_places places values (replicate count none) → All (HoldsTerm s) values → HoldsTerm s none → All (HoldsTerm s) items
values_held s places values items none count q h k =
    rw q (All-from_recursion (HoldsTerm s) (put_at_places places values (replicate count none)) (put_all (HoldsTerm s) places values (replicate count none) (recursion_from_All (HoldsTerm s) values h) (recursion_from_All (HoldsTerm s) (replicate count none) (All-replicate (HoldsTerm s) count none k))))
