-- Walks of uses and of their arguments.
use Rattle.std.proofs.Common.{◌≡◌, ℕ, ◌+◌, suc, zero, Bool, true, false, not, ◌==◌, cond, List, [], ◌∷◌, ◌++◌, map, reverse, length, slice_get, Option, Some, None, option_map, inl, inr, refl, sym, ap, subst, ◌∙◌, arith}
use Rattle.std.specs.Option.{is_some}
use Rattle.std.specs.Str.{bytes_eq}
use Rattle.std.specs.List.{All}
use mathlib.Core.List.{reverse-cons}
use Rattle.trees.specs.declared.TermId.{TermId}
use Rattle.trees.specs.declared.Sort.{Sort}
use Rattle.trees.specs.declared.Sort.TheVariants.{Term}
use Rattle.trees.specs.declared.Sort.TheVariants as sorts
use Rattle.trees.specs.Tree.{Tree, Leaf, Two, HEnd, HCell}
use Rattle.trees.specs.Node.{tree_at, Grows}
use Rattle.trees.specs.Sorts.{Fits, sort_of, IsList}
use Rattle.trees.proofs.Nodes.{Grows_trans}
use Rattle.tasks.specs.declared.signature.SymbolInfo.{SymbolInfo}
use Rattle.tasks.specs.Task.{SymbolTree, symbol_or}
use Rattle.tasks.specs.Meaning.{symbols_at, trees_at}
use Rattle.tasks.specs.Equations.{type_variables}
use Rattle.surface.specs.Lexeme.{Word}
use Rattle.name_resolution.specs.Abstract.{Expression, Expressions, applied_expression, more_expressions, count_expressions}
use Rattle.name_resolution.specs.declared.NamingFault.TheVariants.{WrongKind, Arity}
use Rattle.name_resolution.specs.declared.world.World.{World}
use Rattle.name_resolution.specs.Faults.{fault, faults, fault_if, name_fault, local_fault, is_variable}
use Rattle.name_resolution.specs.Naming.{where_at}
use Rattle.name_resolution.specs.Where.{Where, place_of}
use Rattle.open_types.specs.declared.locals.Local.{Local}
use Rattle.open_types.specs.declared.locals.Locals.{Locals, Outside, Inside'}
use Rattle.open_types.specs.declared.draft.Constraints.{Constraints}
use Rattle.open_types.specs.Patterns.{LocalTree, NumberedEntry, entry_of, at_unknowns, rest_of}
use Rattle.open_types.specs.Pieces.{NotedTree, piece, pieces, symbol_piece, bare_piece, both_pieces, variable_named, found_local, Use, Local', Symbol', use_of_name, use_or, used_piece, use_vars, parameters, symbol_at_types, local_piece, names}
use Rattle.open_types.specs.Drafts.{HoldsType, symbol_got, IsReady, IsMade, IsWalked, AreWalked, IsBegun, CanWalk, CanUse, CanWalkAll, instances, local_at, local_name, locals_at, names_of_locals, due}
use Rattle.open_types.proofs.Growing.{world_stays, locals_stay, types_stay, types_grow, wanted_stays}
use Rattle.open_types.proofs.Noting.{next, count_replicate, more_noted, noted_after}
use Rattle.open_types.proofs.Walking.{none_both, not_if, set_on, walked_both, walked_bare, grown_sort}
pub use Rattle.tasks.proofs.plain_laws.Lists.{got_held as got_one}

-- ---- names of variables
pub names_both : (xs ys : List LocalTree) → names (xs ++ ys) ≡ names xs ++ names ys
names_both [] ys = refl
names_both (x ∷ xs) ys = ap (λ (r : List Word). x.name ∷ r) (names_both xs ys)

names_reverse : (s : List Tree) (xs : List Local) → names (reverse (map (local_at s) xs)) ≡ reverse (map local_name xs)
names_reverse s [] = refl
names_reverse s (x ∷ xs) = rw (reverse-cons (local_at s x) (map (local_at s) xs), reverse-cons (local_name x) (map local_name xs)) (names_both (reverse (map (local_at s) xs)) (local_at s x ∷ []) ∙ ap (λ (r : List Word). r ++ local_name x ∷ []) (names_reverse s xs))

pub names_locals : (s : List Tree) (ls : Locals) → names (locals_at s ls) ≡ names_of_locals ls
names_locals s Outside = refl
names_locals s (Inside' ls p outer) = names_both (reverse (map (local_at s) ls.now)) (locals_at s outer) ∙ cc (names_reverse s ls.now, names_locals s outer)

pub either_way : (b : Bool) (z : ℕ × Tree) (p : Option ℕ) (q : Option (ℕ × Tree)) → is_some p ≡ is_some q → is_some (cond b (Some 0) (option_map suc p)) ≡ is_some (cond b (Some z) (option_map (λ (r : ℕ × Tree). (suc r.0, r.1)) q))
either_way true z p q h = refl
either_way false z None None h = refl
either_way false z None (Some r) h = h
either_way false z (Some k) None h = h
either_way false z (Some k) (Some r) h = refl

pub variable_name : (c : Word) (xs : List LocalTree) → is_some (place_of c (names xs)) ≡ is_some (variable_named c xs)
variable_name c [] = refl
variable_name c (x ∷ xs) = either_way (bytes_eq x.name c) (0, x.type) (place_of c (names xs)) (variable_named c xs) (variable_name c xs)

pub found_name : (qs : List Word) (c : Word) (xs : List LocalTree) → is_variable qs c (names xs) ≡ is_some (found_local qs c xs)
found_name [] c xs = variable_name c xs
found_name (q ∷ qs) c xs = refl

pub is_found : (s : List Tree) (ls : Locals) (qs : List Word) (c : Word) → is_variable qs c (names_of_locals ls) ≡ is_some (found_local qs c (locals_at s ls))
is_found s ls qs c = ap (is_variable qs c) (sym (names_locals s ls)) ∙ found_name qs c (locals_at s ls)

-- where a variable stands, a term is due
pub term_of_local : (w : Where) (s : List Tree) (ls : Locals) (b : Bool) (i : ℕ) (qs : List Word) (c : Word) (es : Expressions) (p : ℕ × Tree) → fault w false (names_of_locals ls) b (applied_expression i qs c es) ≡ None → found_local qs c (locals_at s ls) ≡ Some p → b ≡ false
term_of_local w s ls b i qs c es p h f =
    let n = none_both (name_fault w (names_of_locals ls) b i qs c (count_expressions es)) (faults w false (names_of_locals ls) es) h in
    let v : is_variable qs c (names_of_locals ls) ≡ true = is_found s ls qs c ∙ ap is_some f in
    let l : local_fault b i (count_expressions es) ≡ None = rw v at n.0 in
    not_if b (WrongKind i) (none_both (fault_if b (WrongKind i)) (fault_if (not (count_expressions es == 0)) (Arity i)) l).0

pub local_walked : (w : Where) (ls : List LocalTree) (n : ℕ) (t : Option Tree) (i : ℕ) (qs : List Word) (c : Word) (es : Expressions) {p : ℕ} {ty : Tree} {k : Sort} {s s1 : List Tree} {d d1 : Constraints} {id : TermId}
    → found_local qs c ls ≡ Some (p, ty) → IsWalked (local_piece p ty t) k s d s1 d1 id → IsWalked (piece w ls n t (applied_expression i qs c es)) k s d s1 d1 id
local_walked w ls n t i qs c es {p} {ty} {k} {s} {s1} {d} {d1} {id} f a =
    let q : Local' p ty ≡ use_of_name w ls qs c = ap (λ (x : Option (ℕ × Tree)). use_or x (Symbol' (entry_of w.symbols (w.names qs c)))) (sym f) in
    subst (λ (u : Use). IsWalked (used_piece n t i u (pieces w ls (n + use_vars u) (parameters n u) es)) k s d s1 d1 id) q a

pub symbol_walked : (w : Where) (ls : List LocalTree) (n : ℕ) (t : Option Tree) (i : ℕ) (qs : List Word) (c : Word) (es : Expressions) {k : Sort} {s s1 : List Tree} {d d1 : Constraints} {id : TermId}
    → found_local qs c ls ≡ None → IsWalked (symbol_piece w ls n t i (entry_of w.symbols (w.names qs c)) es) k s d s1 d1 id → IsWalked (piece w ls n t (applied_expression i qs c es)) k s d s1 d1 id
symbol_walked w ls n t i qs c es {k} {s} {s1} {d} {d1} {id} f a =
    let q : Symbol' (entry_of w.symbols (w.names qs c)) ≡ use_of_name w ls qs c = ap (λ (x : Option (ℕ × Tree)). use_or x (Symbol' (entry_of w.symbols (w.names qs c)))) (sym f) in
    subst (λ (u : Use). IsWalked (used_piece n t i u (pieces w ls (n + use_vars u) (parameters n u) es)) k s d s1 d1 id) q a

-- ---- entries
-- an entry by its number
pub entry_got : (s : List Tree) (is : List SymbolInfo) (k : ℕ) → symbol_or (symbols_at s is) k ≡ symbol_got s (slice_get is k)
entry_got s [] k = refl
entry_got s (x ∷ xs) zero = refl
entry_got s (x ∷ xs) (suc k) = entry_got s xs k

-- ---- arguments
pub go_all : {s : List Tree} {d : Constraints} {w : World} {ls : Locals} {t : Option TermId} {es : Expressions} → CanUse s d w ls t es
    → {s' : List Tree} {d' : Constraints} {ts : List TermId} → Grows s s' → IsReady s' d' → All (HoldsType s') ts → CanWalkAll s' d' w ls ts es
go_all {s} {w = w} can {s'} g r h = record { set = set_on can.set g r; wanted = h; resolved = rw (world_stays s s' g w can.set.world) can.resolved }

pub go_first : {s : List Tree} {d : Constraints} {w : World} {ls : Locals} {ts : List TermId} {e : Expression} {es : Expressions} → CanWalkAll s d w ls ts (more_expressions e es) → (ty : TermId) → HoldsType s ty → CanWalk s d w ls (Some ty) e
go_first {s} {w = w} {ls = ls} {e = e} {es} c ty h = record {
  set = c.set;
  wanted = h;
  resolved = (none_both (fault (where_at s w) false (names_of_locals ls) false e) (faults (where_at s w) false (names_of_locals ls) es) c.resolved).0;
}

pub rest_all : {A : Type 0} (P : A → Type 0) (xs : List A) → All P xs → All P (rest_of xs)
rest_all P [] h = h
rest_all P (x ∷ xs) h = λ k d l. h (suc k) d (omega (arith, l))

pub go_rest : {s : List Tree} {d : Constraints} {w : World} {ls : Locals} {ts : List TermId} {e : Expression} {es : Expressions} → CanWalkAll s d w ls ts (more_expressions e es)
    → {s' : List Tree} {d' : Constraints} → Grows s s' → IsReady s' d' → CanWalkAll s' d' w ls (rest_of ts) es
go_rest {s} {w = w} {ls = ls} {ts} {e} {es} c {s'} g r = record {
  set = set_on c.set g r;
  wanted = types_grow s s' g (rest_of ts) (rest_all (HoldsType s) ts c.wanted);
  resolved = rw (world_stays s s' g w c.set.world) (none_both (fault (where_at s w) false (names_of_locals ls) false e) (faults (where_at s w) false (names_of_locals ls) es) c.resolved).1;
}

pub rest_trees : (s : List Tree) (ids : List TermId) → trees_at s (rest_of ids) ≡ rest_of (trees_at s ids)
rest_trees s [] = refl
rest_trees s (x ∷ xs) = refl

-- the pieces of the rest, told by what the whole began with
pub as_rest : {s : List Tree} {d : Constraints} {w : World} {ls : Locals} {ts : List TermId} {e : Expression} {es : Expressions} → CanWalkAll s d w ls ts (more_expressions e es)
    → {s1 : List Tree} → Grows s s1 → {d1 : Constraints} {s2 : List Tree} {d2 : Constraints} {x : TermId} (n : ℕ) → length d1.takers ≡ n
    → AreWalked (pieces (where_at s1 w) (locals_at s1 ls) (length d1.takers) (trees_at s1 (rest_of ts)) es) s1 d1 s2 d2 x
    → AreWalked (pieces (where_at s w) (locals_at s ls) n (rest_of (trees_at s ts)) es) s1 d1 s2 d2 x
as_rest {s} {w = w} {ls = ls} {ts} {es = es} c {s1} g {d1} {s2} {d2} {x} n l h =
    let t : trees_at s1 (rest_of ts) ≡ rest_of (trees_at s ts) = types_stay s s1 g (rest_of ts) (rest_all (HoldsType s) ts c.wanted) ∙ rest_trees s ts in
    let same : pieces (where_at s1 w) (locals_at s1 ls) (length d1.takers) (trees_at s1 (rest_of ts)) es ≡ pieces (where_at s w) (locals_at s ls) n (rest_of (trees_at s ts)) es = cc (world_stays s s1 g w c.set.world, locals_stay s s1 g ls c.set.locals, l, t) in
    subst (λ (p : NotedTree). AreWalked p s1 d1 s2 d2 x) same h

pub walked_end : {s s1 : List Tree} {d : Constraints} {id : TermId} → IsMade s d s1 (Leaf HEnd) id → AreWalked (bare_piece (Leaf HEnd)) s d s1 d id
walked_end m = record { walked = walked_bare m refl; terms = rw m.tree (refl, inl refl) }

pub walked_cell : {p q : NotedTree} {s s1 s2 s3 : List Tree} {d d1 d2 : Constraints} {x y id : TermId} → IsWalked p Term s d s1 d1 x → AreWalked q s1 d1 s2 d2 y → Grows s1 s2
    → IsMade s2 d2 s3 (Two HCell (tree_at s2 x) (tree_at s2 y)) id → AreWalked (both_pieces (Two HCell) p q) s d s3 d2 id
walked_cell {s1 = s1} {s2 = s2} a b g m = record {
  walked = walked_both (Two HCell) a b.walked g m refl;
  terms = rw m.tree (refl, inr (ap Some (grown_sort s1 s2 g a.held a.sort)));
}

pub cell_fits : (a b : Tree) → sort_of a ≡ Term → IsList Term b → Fits (Two HCell a b)
cell_fits a b h l = ((λ e. no_list (sym h ∙ e), rw h l), tt)
  where
    no_list : Term ≡ sorts.List → ⊥
    no_list e = cc

pub at_sort : (k : ℕ) (ts : List Tree) (t : Option TermId) (s : List Tree) (a : Tree) → sort_of (symbol_at_types k ts (option_map (tree_at s) t) a) ≡ due t
at_sort k ts None s a = refl
at_sort k ts (Some w) s a = refl

-- a use of an entry
pub used_walked : {s : List Tree} {d : Constraints} {w : World} {ls : Locals} {t : Option TermId} {i : ℕ} {es : Expressions} → CanUse s d w ls t es
    → {s1 s2 s3 s4 : List Tree} {d1 d3 : Constraints} {types : List TermId} {x id : TermId} (ids args : List TermId) (k : ℕ) (e : SymbolTree) (c : NumberedEntry)
    → symbol_or (where_at s w).symbols k ≡ e → entry_of (where_at s w).symbols (Some k) ≡ c → IsBegun s d s1 d1 i e (option_map (tree_at s) t) types → Grows s s1 → Grows s1 s2
    → trees_at s2 ids ≡ instances (trees_at s1 types) (trees_at s1 args) → trees_at s1 args ≡ e.args
    → AreWalked (pieces (where_at s2 w) (locals_at s2 ls) (length d1.takers) (trees_at s2 ids) es) s2 d1 s3 d3 x → Grows s2 s3
    → IsMade s3 d3 s4 (symbol_at_types k (trees_at s3 types) (option_map (tree_at s3) t) (tree_at s3 x)) id
    → IsWalked (symbol_piece (where_at s w) (locals_at s ls) (length d.takers) (option_map (tree_at s) t) i c es) (due t) s d s4 d3 id
used_walked {s} {d} {w} {ls} {t} {i} {es} can {s1} {s2} {s3} {s4} {d1} {d3} {types} {x} {id} ids args k e c y q b g h p a r j m =
    let n : ℕ = length d.takers in
    let ww : Where = where_at s w in
    let ll : List LocalTree = locals_at s ls in
    let tt' : Option Tree = option_map (tree_at s) t in
    let o = Grows_trans s s1 s2 g h in
    let len : length d1.takers ≡ n + e.vars = next b.noted ∙ ap (λ (v : ℕ). n + v) (count_replicate e.vars i) in
    let want : trees_at s2 ids ≡ map (at_unknowns n e) e.args = rw (p, b.trees, a) refl in
    let all : NotedTree = pieces ww ll (n + e.vars) (map (at_unknowns n e) e.args) es in
    let same : pieces (where_at s2 w) (locals_at s2 ls) (length d1.takers) (trees_at s2 ids) es ≡ all = cc (world_stays s s2 o w can.set.world, locals_stay s s2 o ls can.set.locals, len, want) in
    let z : IsWalked all sorts.List s2 d1 s3 d3 x = subst (λ (v : NotedTree). IsWalked v sorts.List s2 d1 s3 d3 x) same r.walked in
    let ty : trees_at s3 types ≡ type_variables n e.vars = types_stay s1 s3 (Grows_trans s1 s2 s3 h j) types b.held ∙ b.trees in
    let wa : option_map (tree_at s3) t ≡ tt' = wanted_stays s s3 (Grows_trans s s2 s3 o j) t can.wanted in
    let entry : record { number = k; symbol = e } ≡ c = (let f : record { number = k; symbol = e } ≡ entry_of ww.symbols (Some k) = cc y in f) ∙ q in
    let whole : IsWalked (symbol_piece ww ll n tt' i (record { number = k; symbol = e }) es) (due t) s d s4 d3 id = record {
      held = m.held;
      tree = m.tree ∙ cc (ty, wa, z.tree);
      sort = ap sort_of m.tree ∙ at_sort k (trees_at s3 types) t s3 (tree_at s3 x);
      noted = record { notes = m.notes ∙ (more_noted b.noted (noted_after h b.noted.ready z.noted)).notes; ready = m.ready };
    } in
    subst (λ (v : NumberedEntry). IsWalked (symbol_piece ww ll n tt' i v es) (due t) s d s4 d3 id) entry whole
