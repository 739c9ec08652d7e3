-- Walks of patterns.
use Rattle.std.proofs.Common.{◌≡◌, ℕ, ◌+◌, List, [], ◌∷◌, ◌++◌, map, length, get_or, Option, Some, inl, inr, refl, sym, ap, subst, ◌∙◌, append_assoc, append-nil}
use Rattle.std.specs.List.{All}
use Rattle.trees.specs.declared.TermId.{TermId}
use Rattle.trees.specs.declared.Sort.TheVariants.{Kind, Pattern}
use Rattle.trees.specs.declared.Sort.TheVariants as sorts
use Rattle.trees.specs.Tree.{Tree, Leaf, Two, Three, HEnd, HCell, HPatCon}
use Rattle.trees.specs.Node.{tree_at, Grows}
use Rattle.trees.specs.Sorts.{Fits, sort_of, IsList}
use Rattle.trees.proofs.Nodes.{tree_at-grows, Grows_refl, Grows_trans}
use Rattle.tasks.specs.Task.{SymbolTree, symbol_or}
use Rattle.tasks.specs.Meaning.{trees_at}
use Rattle.tasks.specs.Equations.{cells, type_variables}
use Rattle.surface.specs.declared.patterns.Pat.{Pat}
use Rattle.name_resolution.specs.Abstract as abstract
use Rattle.name_resolution.specs.Abstract.{Patterns, grouped_patterns, tuple_pattern, abstract_pattern_of, patterns_of}
use Rattle.name_resolution.specs.declared.world.World.{World}
use Rattle.name_resolution.specs.Naming.{where_at}
use Rattle.name_resolution.specs.Where.{Where}
use Rattle.open_types.specs.declared.draft.Constraints.{Constraints}
use Rattle.open_types.specs.declared.locals.Local.{Local}
use Rattle.open_types.specs.declared.patterns.Alternative.{Alternative}
use Rattle.open_types.specs.declared.patterns.Alternative.TheVariants.{First, Later}
use Rattle.open_types.specs.Patterns.{Notes, no_notes, follow, LocalTree, NumberedEntry, entry_of, rest_of, Matched, matched_piece, pattern_piece, patterns_piece, part_types, constructor_piece}
use Rattle.open_types.specs.Drafts.{HoldsType, WorldHeld, IsReady, IsMade, IsNoted, IsBegun, AreBound, IsMatched, AreMatched, CanMatch, CanMatchAll, EarlierHeld, earlier_variables, instances, local_at}
use Rattle.open_types.proofs.Growing.{type_stays, types_stay, types_grow, world_stays, world_grows, each_stays, each_grows}
use Rattle.open_types.proofs.Noting.{nothing_noted, more_noted, noted_after, noted_before, next, count_replicate}
use Rattle.open_types.proofs.Walking.{grown_sort}
use Rattle.open_types.proofs.Binding.{mapped_both, held_more}
use Rattle.open_types.proofs.Arguments.{rest_all}

-- ---- the variables of the first alternative
pub earlier_stays : (s s' : List Tree) → Grows s s' → (a : Alternative) → EarlierHeld s a → earlier_variables s' a ≡ earlier_variables s a
earlier_stays s s' g First h = refl
earlier_stays s s' g (Later ls) h = ap Some (each_stays s s' g ls.now h)

pub earlier_grows : (s s' : List Tree) → Grows s s' → (a : Alternative) → EarlierHeld s a → EarlierHeld s' a
earlier_grows s s' g First h = tt
earlier_grows s s' g (Later ls) h = each_grows s s' g ls.now h

-- ---- variables after others
pub none_bound : {s s1 : List Tree} {d d1 : Constraints} {n : Notes} (ls : List Local) → Grows s s1 → All (λ (l : Local). HoldsType s l.ty) ls → IsNoted s d s1 d1 n → AreBound s d ls s1 d1 ls n []
none_bound {s} {s1} ls g h n = record { held = each_grows s s1 g ls h; locals = each_stays s s1 g ls h ∙ sym (append-nil (map (local_at s) ls)); noted = n }

pub more_bound : {s s1 s2 : List Tree} {d d1 d2 : Constraints} {ls ls1 ls2 : List Local} {n m : Notes} {xs ys : List LocalTree}
    → AreBound s d ls s1 d1 ls1 n xs → AreBound s1 d1 ls1 s2 d2 ls2 m ys → AreBound s d ls s2 d2 ls2 (follow n m) (xs ++ ys)
more_bound {s} {ls = ls} {xs = xs} {ys} a b = record {
  held = b.held;
  locals = b.locals ∙ (rw a.locals (append_assoc (map (local_at s) ls) xs ys));
  noted = more_noted a.noted b.noted;
}

-- one variable
pub one_bound : {s : List Tree} {d d1 : Constraints} {n : Notes} (ls : List Local) (l : Local) → All (λ (x : Local). HoldsType s x.ty) ls → HoldsType s l.ty → IsNoted s d s d1 n → AreBound s d ls s d1 (ls ++ l ∷ []) n (local_at s l ∷ [])
one_bound {s} ls l h k n = record { held = held_more s s (Grows_refl s) ls l h k; locals = mapped_both s ls (l ∷ []); noted = n }

-- where the store grows after, and where it grew before
pub bound_grows : {s s1 s2 : List Tree} {d d1 : Constraints} {ls ls1 : List Local} {n : Notes} {xs : List LocalTree} → AreBound s d ls s1 d1 ls1 n xs → Grows s1 s2 → AreBound s d ls s2 d1 ls1 n xs
bound_grows {s1 = s1} {s2 = s2} {ls1 = ls1} a g = record { held = each_grows s1 s2 g ls1 a.held; locals = each_stays s1 s2 g ls1 a.held ∙ a.locals; noted = noted_before a.noted g }

pub bound_following : {s s1 s2 : List Tree} {d d1 : Constraints} {ls ls1 : List Local} {n : Notes} {xs : List LocalTree} → Grows s s1 → IsReady s d → All (λ (l : Local). HoldsType s l.ty) ls → AreBound s1 d ls s2 d1 ls1 n xs → AreBound s d ls s2 d1 ls1 n xs
bound_following {s} {s1} {ls = ls} {xs = xs} g r h a = record { held = a.held; locals = a.locals ∙ ap (λ (ys : List LocalTree). ys ++ xs) (each_stays s s1 g ls h); noted = noted_after g r a.noted }

-- ---- what a further walk asks for
pub match_on : {s : List Tree} {d : Constraints} {w : World} {ls : List Local} {ty : TermId} {a : Alternative} → CanMatch s d w ls ty a
    → {s' : List Tree} {d' : Constraints} {ls' : List Local} {ids : List TermId} → Grows s s' → IsReady s' d' → All (λ (l : Local). HoldsType s' l.ty) ls' → All (HoldsType s') ids → CanMatchAll s' d' w ls' ids a
match_on {s} {w = w} {a = a} c {s'} g r h k = record { world = world_grows s s' g w c.world; ready = r; held = h; wanted = k; earlier = earlier_grows s s' g a c.earlier }

pub match_first : {s : List Tree} {d : Constraints} {w : World} {ls : List Local} {ids : List TermId} {a : Alternative} → CanMatchAll s d w ls ids a → (ty : TermId) → HoldsType s ty → CanMatch s d w ls ty a
match_first c ty h = record { world = c.world; ready = c.ready; held = c.held; wanted = h; earlier = c.earlier }

pub match_rest : {s : List Tree} {d : Constraints} {w : World} {ls : List Local} {ids : List TermId} {a : Alternative} → CanMatchAll s d w ls ids a
    → {s' : List Tree} {d' : Constraints} {ls' : List Local} → Grows s s' → IsReady s' d' → All (λ (l : Local). HoldsType s' l.ty) ls' → CanMatchAll s' d' w ls' (rest_of ids) a
match_rest {s} {w = w} {ids = ids} {a} c {s'} g r h = record {
  world = world_grows s s' g w c.world;
  ready = r;
  held = h;
  wanted = types_grow s s' g (rest_of ids) (rest_all (HoldsType s) ids c.wanted);
  earlier = earlier_grows s s' g a c.earlier;
}

-- ---- the patterns of parts, told by what the whole began with
pub as_matched : {s : List Tree} {w : World} (a : Alternative) → WorldHeld s w → EarlierHeld s a → {s1 : List Tree} → Grows s s1 → {d1 : Constraints} (ty : TermId) (n : ℕ) (t : Tree) (p : abstract.Pattern)
    → length d1.takers ≡ n → tree_at s1 ty ≡ t → {ls1 : List Local} {s2 : List Tree} {d2 : Constraints} {ls2 : List Local} {x : TermId}
    → IsMatched (pattern_piece (where_at s1 w) (earlier_variables s1 a) (length d1.takers) (tree_at s1 ty) p) s1 d1 ls1 s2 d2 ls2 x → IsMatched (pattern_piece (where_at s w) (earlier_variables s a) n t p) s1 d1 ls1 s2 d2 ls2 x
as_matched {s} {w} a world earlier {s1} g {d1} ty n t p l q {ls1} {s2} {d2} {ls2} {x} h =
    let same : pattern_piece (where_at s1 w) (earlier_variables s1 a) (length d1.takers) (tree_at s1 ty) p ≡ pattern_piece (where_at s w) (earlier_variables s a) n t p = cc (world_stays s s1 g w world, earlier_stays s s1 g a earlier, l, q) in
    subst (λ (m : Matched). IsMatched m s1 d1 ls1 s2 d2 ls2 x) same h

pub as_all_matched : {s : List Tree} {w : World} (a : Alternative) → WorldHeld s w → EarlierHeld s a → {s1 : List Tree} → Grows s s1 → {d1 : Constraints} (ids : List TermId) (n : ℕ) (ts : List Tree) (ps : Patterns)
    → length d1.takers ≡ n → trees_at s1 ids ≡ ts → {ls1 : List Local} {s2 : List Tree} {d2 : Constraints} {ls2 : List Local} {x : TermId}
    → AreMatched (patterns_piece (where_at s1 w) (earlier_variables s1 a) (length d1.takers) (trees_at s1 ids) ps) s1 d1 ls1 s2 d2 ls2 x → AreMatched (patterns_piece (where_at s w) (earlier_variables s a) n ts ps) s1 d1 ls1 s2 d2 ls2 x
as_all_matched {s} {w} a world earlier {s1} g {d1} ids n ts ps l q {ls1} {s2} {d2} {ls2} {x} h =
    let same : patterns_piece (where_at s1 w) (earlier_variables s1 a) (length d1.takers) (trees_at s1 ids) ps ≡ patterns_piece (where_at s w) (earlier_variables s a) n ts ps = cc (world_stays s s1 g w world, earlier_stays s s1 g a earlier, l, q) in
    subst (λ (m : Matched). AreMatched m s1 d1 ls1 s2 d2 ls2 x) same h

-- ---- what is made
pub matched_made : {s s1 s2 : List Tree} {d d1 : Constraints} {ls ls1 : List Local} {n : Notes} {vs : List LocalTree} {e : Tree} {id : TermId}
    → AreBound s d ls s1 d1 ls1 n vs → Grows s1 s2 → IsMade s1 d1 s2 e id → sort_of e ≡ Pattern → (e' : Tree) → e ≡ e' → IsMatched (matched_piece e' n vs) s d ls s2 d1 ls1 id
matched_made b g m o e' q = record { held = m.held; tree = m.tree ∙ q; sort = ap sort_of m.tree ∙ o; bound = bound_grows b g }

pub matched_end : {s s1 : List Tree} {d : Constraints} {ls : List Local} {id : TermId} → Grows s s1 → IsReady s d → All (λ (l : Local). HoldsType s l.ty) ls → IsMade s d s1 (Leaf HEnd) id → AreMatched (matched_piece (Leaf HEnd) no_notes []) s d ls s1 d ls id
matched_end {s} {d = d} {ls = ls} g r h m = record { held = m.held; tree = m.tree; patterns = rw m.tree (refl, inl refl); bound = none_bound ls g h (noted_before (nothing_noted s d r) g) }

pub matched_cell : {p q : Matched} {s s1 s2 s3 : List Tree} {d d1 d2 : Constraints} {ls ls1 ls2 : List Local} {x y id : TermId}
    → IsMatched p s d ls s1 d1 ls1 x → AreMatched q s1 d1 ls1 s2 d2 ls2 y → Grows s1 s2 → Grows s2 s3 → IsMade s2 d2 s3 (Two HCell (tree_at s2 x) (tree_at s2 y)) id
    → AreMatched (matched_piece (Two HCell p.tree q.tree) (follow p.notes q.notes) (p.variables ++ q.variables)) s d ls s3 d2 ls2 id
matched_cell {s1 = s1} {s2 = s2} {x = x} a b g h m = record {
  held = m.held;
  tree = let e = tree_at-grows s1 s2 x g a.held in cc (m.tree, e, a.tree, b.tree);
  patterns = rw m.tree (refl, inr (ap Some (grown_sort s1 s2 g a.held a.sort)));
  bound = bound_grows (more_bound a.bound b.bound) h;
}

pub pattern_cell_fits : (a b : Tree) → sort_of a ≡ Pattern → IsList Pattern b → Fits (Two HCell a b)
pattern_cell_fits a b h l = ((λ e. no_list (sym h ∙ e), rw h l), tt)
  where
    no_list : Pattern ≡ sorts.List → ⊥
    no_list e = cc

pub constructor_matched : {s : List Tree} {d : Constraints} {w : World} {ls : List Local} {ty : TermId} {a : Alternative} {token : ℕ} (ps : Patterns) → CanMatch s d w ls ty a
    → {s1 s2 s3 s4 s5 : List Tree} {d1 d3 : Constraints} {types : List TermId} {x id : TermId} {ls3 : List Local} (ids args : List TermId) (list : TermId) (k : ℕ) (e : SymbolTree) (c : NumberedEntry)
    → symbol_or (where_at s w).symbols k ≡ e → entry_of (where_at s w).symbols (Some k) ≡ c → IsBegun s d s1 d1 token e (Some (tree_at s ty)) types → Grows s s1 → Grows s1 s2
    → trees_at s2 ids ≡ instances (trees_at s1 types) (trees_at s1 args) → trees_at s1 args ≡ e.args
    → AreMatched (patterns_piece (where_at s2 w) (earlier_variables s2 a) (length d1.takers) (trees_at s2 ids) ps) s2 d1 ls s3 d3 ls3 x → Grows s2 s3
    → Grows s3 s4 → tree_at s4 list ≡ cells (trees_at s3 types) → IsMade s4 d3 s5 (Three (HPatCon k) (tree_at s4 list) (tree_at s4 x) (tree_at s4 ty)) id → Grows s4 s5
    → IsMatched (constructor_piece (where_at s w) (earlier_variables s a) (length d.takers) (tree_at s ty) token c ps) s d ls s5 d3 ls3 id
constructor_matched {s} {d} {w} {ls} {ty} {a} {token} ps can {s1} {s2} {s3} {s4} {s5} {d1} {d3} {types} {x} {id} {ls3} ids args list k e c y z b g h p q r j l u m v =
    let n : ℕ = length d.takers in
    let t : Tree = tree_at s ty in
    let ww : Where = where_at s w in
    let first : Option (List LocalTree) = earlier_variables s a in
    let one : NumberedEntry = record { number = k; symbol = e } in
    let o = Grows_trans s s1 s2 g h in
    let len : length d1.takers ≡ n + e.vars = next b.noted ∙ ap (λ (i : ℕ). n + i) (count_replicate e.vars token) in
    let want : trees_at s2 ids ≡ part_types n one = rw (p, b.trees, q) refl in
    let parts : Matched = patterns_piece ww first (n + e.vars) (part_types n one) ps in
    let inner : AreMatched parts s2 d1 ls s3 d3 ls3 x = as_all_matched a can.world can.earlier o ids (n + e.vars) (part_types n one) ps len want r in
    let made : trees_at s3 types ≡ type_variables n e.vars = types_stay s1 s3 (Grows_trans s1 s2 s3 h j) types b.held ∙ b.trees in
    let inside : tree_at s4 x ≡ tree_at s3 x = tree_at-grows s3 s4 x l inner.held in
    let own : tree_at s4 ty ≡ t = type_stays s s4 (Grows_trans s s2 s4 o (Grows_trans s2 s3 s4 j l)) ty can.wanted in
    let begun : AreBound s d ls s1 d1 ls _ [] = none_bound ls g can.held b.noted in
    let whole = more_bound begun (bound_following h b.noted.ready begun.held inner.bound) in
    let entry : one ≡ c = (let f : one ≡ entry_of ww.symbols (Some k) = cc y in f) ∙ z in
    let it : IsMatched (constructor_piece ww first n t token one ps) s d ls s5 d3 ls3 id = record {
      held = m.held;
      tree = m.tree ∙ cc (u, made, inside, inner.tree, own);
      sort = ap sort_of m.tree;
      bound = bound_grows whole (Grows_trans s3 s4 s5 l v);
    } in
    subst (λ (i : NumberedEntry). IsMatched (constructor_piece ww first n t token i ps) s d ls s5 d3 ls3 id) entry it

-- ---- what is in parentheses
pub grouped_one : (i : ℕ) (ps : List Pat) (d : Pat) → length ps ≡ 1 → grouped_patterns i (patterns_of ps) ≡ abstract_pattern_of (get_or ps 0 d)
grouped_one i [] d h = absurd (cc)
grouped_one i (p ∷ []) d h = refl
grouped_one i (p ∷ q ∷ qs) d h = absurd (cc)

pub grouped_many : (i : ℕ) (ps : List Pat) → (length ps ≡ 1 → ⊥) → grouped_patterns i (patterns_of ps) ≡ tuple_pattern i (patterns_of ps)
grouped_many i [] h = refl
grouped_many i (p ∷ []) h = absurd (h refl)
grouped_many i (p ∷ q ∷ qs) h = refl
