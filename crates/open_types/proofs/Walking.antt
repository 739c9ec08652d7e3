-- How the walks of parts make the walk of a whole.
use Rattle.std.proofs.Common.{◌≡◌, ℕ, Bool, true, false, not, List, [], ◌∷◌, length, Option, Some, None, IfSome, option_map, inl, inr, refl, sym, ap, subst, ◌∙◌}
use Rattle.std.specs.List.{All}
use Rattle.std.proofs.lemmas.List.Elements.{All-cons, All-nil}
use Rattle.trees.specs.declared.TermId.{TermId}
use Rattle.trees.specs.declared.Sort.{Sort}
use Rattle.trees.specs.declared.Sort.TheVariants.{Term, Formula}
use Rattle.trees.specs.declared.Sort.TheVariants as sorts
use Rattle.trees.specs.declared.Op.{Op}
use Rattle.trees.specs.Tree.{Tree, Two, Three, Head, HIf, HLet, HEnd, HCell, HArm, head_of}
use Rattle.trees.specs.Node.{tree_at, Holds, Grows}
use Rattle.trees.specs.Sorts.{Fits, sort_of, yield, top_sort, IsExpression}
use Rattle.trees.proofs.Nodes.{tree_at-grows, Grows_trans}
use Rattle.surface.specs.Lexeme.{Word}
use Rattle.name_resolution.specs.Abstract.{FieldName, TypeExpression, Expression, Expressions, applied_expression, infix_expression, cast_expression, field_expression, record_expression, not_expression, connected_expression, equality_expression, if_expression, let_expression, tuple_expression, no_expressions, more_expressions, count_expressions}
use Rattle.name_resolution.specs.declared.NamingFault.{NamingFault}
use Rattle.name_resolution.specs.declared.NamingFault.TheVariants.{WrongKind}
use Rattle.name_resolution.specs.declared.world.World.{World}
use Rattle.name_resolution.specs.Faults.{fault, faults, form_fault, first_of, fault_if, name_fault, record_fault}
use Rattle.name_resolution.specs.Naming.{where_at}
use Rattle.name_resolution.specs.Where.{Where}
use Rattle.open_types.specs.declared.locals.Local.{Local}
use Rattle.open_types.specs.declared.locals.Locals.{Locals}
use Rattle.open_types.specs.declared.draft.Constraints.{Constraints}
use Rattle.open_types.specs.Patterns.{Notes, LocalTree}
use Rattle.open_types.specs.Pieces.{NotedTree, piece, bare_piece, piece_under, both_pieces, noted_before}
use Rattle.open_types.specs.Drafts.{HoldsType, IsReady, IsMade, IsNoted, IsWalked, IsSet, CanWalk, LocalsHeld, local_at, locals_at, names_of_locals, is_due, due}
use Rattle.open_types.proofs.Growing.{world_stays, world_grows, locals_stay, locals_grow}
use Rattle.open_types.proofs.Noting.{more_noted, follow_nothing}
pub use Rattle.name_resolution.proofs.variables.Closing.{both_none}
pub use Rattle.name_resolution.proofs.variables.Closing.{none_both}
pub use Rattle.name_resolution.proofs.Fielded.{not_false as not_not}
pub use Rattle.name_resolution.proofs.Fielded.{not_at_fault as not_if}

pub must_be : (b : Bool) (f : NamingFault) → fault_if (not b) f ≡ None → b ≡ true
must_be b f h = not_not b (not_if (not b) f h)

-- ---- what a further walk asks for
pub set_on : {s : List Tree} {d : Constraints} {w : World} {ls : Locals} → IsSet s d w ls → {s' : List Tree} {d' : Constraints} → Grows s s' → IsReady s' d' → IsSet s' d' w ls
set_on {s} {w = w} {ls = ls} c {s'} g r = record { world = world_grows s s' g w c.world; locals = locals_grow s s' g ls c.locals; ready = r }

pub set_inside : {s : List Tree} {d : Constraints} {w : World} {ls : Locals} → IsSet s d w ls → {s' : List Tree} {d' : Constraints} (inside : Locals) → Grows s s' → IsReady s' d' → LocalsHeld s' inside → IsSet s' d' w inside
set_inside {s} {w = w} c {s'} inside g r h = record { world = world_grows s s' g w c.world; locals = h; ready = r }

-- of a part
pub go_on : {s : List Tree} {d : Constraints} {w : World} {ls : Locals} → IsSet s d w ls
    → {s' : List Tree} {d' : Constraints} {wanted' : Option TermId} {e' : Expression} → Grows s s' → IsReady s' d' → IfSome wanted' (HoldsType s')
    → fault (where_at s w) false (names_of_locals ls) (is_due wanted') e' ≡ None → CanWalk s' d' w ls wanted' e'
go_on {s} {w = w} c {s'} g r h f = record { set = set_on c g r; wanted = h; resolved = rw (world_stays s s' g w c.world) f }

-- under further variables
pub go_inside : {s : List Tree} {d : Constraints} {w : World} {ls : Locals} → IsSet s d w ls
    → {s' : List Tree} {d' : Constraints} {wanted' : Option TermId} (inside : Locals) {e' : Expression} → Grows s s' → IsReady s' d' → LocalsHeld s' inside → IfSome wanted' (HoldsType s')
    → fault (where_at s w) false (names_of_locals inside) (is_due wanted') e' ≡ None → CanWalk s' d' w inside wanted' e'
go_inside {s} {w = w} c {s'} inside g r h k f = record { set = set_inside c inside g r h; wanted = k; resolved = rw (world_stays s s' g w c.world) f }

-- the piece of a part, told by what the whole began with
pub as_begun : {s : List Tree} {d : Constraints} {w : World} {ls : Locals} → IsSet s d w ls
    → {s1 : List Tree} → Grows s s1 → {d1 : Constraints} (wanted' : Option TermId) (e' : Expression) {k : Sort} {s2 : List Tree} {d2 : Constraints} {x : TermId}
    → (n : ℕ) (t : Option Tree) → length d1.takers ≡ n → option_map (tree_at s1) wanted' ≡ t
    → IsWalked (piece (where_at s1 w) (locals_at s1 ls) (length d1.takers) (option_map (tree_at s1) wanted') e') k s1 d1 s2 d2 x
    → IsWalked (piece (where_at s w) (locals_at s ls) n t e') k s1 d1 s2 d2 x
as_begun {s} {w = w} {ls = ls} c {s1} g {d1} wanted' e' {k} {s2} {d2} {x} n t l q h =
    let same : piece (where_at s1 w) (locals_at s1 ls) (length d1.takers) (option_map (tree_at s1) wanted') e' ≡ piece (where_at s w) (locals_at s ls) n t e' = cc (world_stays s s1 g w c.world, locals_stay s s1 g ls c.locals, l, q) in
    subst (λ (p : NotedTree). IsWalked p k s1 d1 s2 d2 x) same h

pub as_inside : {s : List Tree} {d : Constraints} {w : World} {ls : Locals} → IsSet s d w ls
    → {s1 : List Tree} → Grows s s1 → {d1 : Constraints} (wanted' : Option TermId) (e' : Expression) {k : Sort} {s2 : List Tree} {d2 : Constraints} {x : TermId}
    → (inside ls' : List LocalTree) (n : ℕ) (t : Option Tree) → length d1.takers ≡ n → inside ≡ ls' → option_map (tree_at s1) wanted' ≡ t
    → IsWalked (piece (where_at s1 w) inside (length d1.takers) (option_map (tree_at s1) wanted') e') k s1 d1 s2 d2 x
    → IsWalked (piece (where_at s w) ls' n t e') k s1 d1 s2 d2 x
as_inside {s} {w = w} c {s1} g {d1} wanted' e' {k} {s2} {d2} {x} inside ls' n t l q o h =
    let same : piece (where_at s1 w) inside (length d1.takers) (option_map (tree_at s1) wanted') e' ≡ piece (where_at s w) ls' n t e' = cc (world_stays s s1 g w c.world, l, q, o) in
    subst (λ (p : NotedTree). IsWalked p k s1 d1 s2 d2 x) same h

-- ---- variables
pub one_held : (s : List Tree) (l : Local) → HoldsType s l.ty → All (λ (x : Local). HoldsType s x.ty) (l ∷ [])
one_held s l h = All-cons (λ (x : Local). HoldsType s x.ty) l [] h (All-nil (λ (x : Local). HoldsType s x.ty))

-- the variables with one more
pub one_inside : (s : List Tree) (l : Local) (x : Word) (u : Tree) (old new : List LocalTree) → l.name.now ≡ x → tree_at s l.ty ≡ u → new ≡ old → local_at s l ∷ new ≡ record { name = x; type = u } ∷ old
one_inside s l x u old new a b c = cc

-- ---- what the walks give
-- no part
pub walked_bare : {e : Tree} {k : Sort} {s s1 : List Tree} {d : Constraints} {id : TermId} → IsMade s d s1 e id → sort_of e ≡ k → IsWalked (bare_piece e) k s d s1 d id
walked_bare m o = record {
  held = m.held;
  tree = m.tree;
  sort = ap sort_of m.tree ∙ o;
  noted = record { notes = m.notes ∙ sym (follow_nothing _); ready = m.ready };
}

-- one part
pub walked_under : (f : Tree → Tree) {p : NotedTree} {k k' : Sort} {s s1 s2 : List Tree} {d d1 : Constraints} {x id : TermId}
    → IsWalked p k s d s1 d1 x → IsMade s1 d1 s2 (f (tree_at s1 x)) id → sort_of (f (tree_at s1 x)) ≡ k' → IsWalked (piece_under f p) k' s d s2 d1 id
walked_under f a m o = record {
  held = m.held;
  tree = m.tree ∙ ap f a.tree;
  sort = ap sort_of m.tree ∙ o;
  noted = record { notes = m.notes ∙ a.noted.notes; ready = m.ready };
}

-- two parts
pub walked_both : (f : Tree → Tree → Tree) {p q : NotedTree} {k l m : Sort} {s s1 s2 s3 : List Tree} {d d1 d2 : Constraints} {x y id : TermId}
    → IsWalked p k s d s1 d1 x → IsWalked q l s1 d1 s2 d2 y → Grows s1 s2 → IsMade s2 d2 s3 (f (tree_at s2 x) (tree_at s2 y)) id
    → sort_of (f (tree_at s2 x) (tree_at s2 y)) ≡ m → IsWalked (both_pieces f p q) m s d s3 d2 id
walked_both f {s1 = s1} {s2 = s2} {x = x} a b g m o = record {
  held = m.held;
  tree = let e = tree_at-grows s1 s2 x g a.held in cc (m.tree, e, a.tree, b.tree);
  sort = ap sort_of m.tree ∙ o;
  noted = record { notes = m.notes ∙ (more_noted a.noted b.noted).notes; ready = m.ready };
}

-- three parts
pub walked_choice : {p q r : NotedTree} {k : Sort} {s s1 s2 s3 s4 : List Tree} {d d1 d2 d3 : Constraints} {x y z id : TermId}
    → IsWalked p Formula s d s1 d1 x → IsWalked q k s1 d1 s2 d2 y → Grows s1 s2 → IsWalked r k s2 d2 s3 d3 z → Grows s2 s3
    → IsMade s3 d3 s4 (Three HIf (tree_at s3 x) (tree_at s3 y) (tree_at s3 z)) id → sort_of (Three HIf (tree_at s3 x) (tree_at s3 y) (tree_at s3 z)) ≡ k
    → IsWalked (both_pieces (λ a b. b) p (both_pieces (λ a b. Three HIf p.tree a b) q r)) k s d s4 d3 id
walked_choice {s1 = s1} {s2 = s2} {s3 = s3} {x = x} {y = y} a b g c h m o = record {
  held = m.held;
  tree = let e = tree_at-grows s1 s3 x (Grows_trans s1 s2 s3 g h) a.held in let f = tree_at-grows s2 s3 y h b.held in cc (m.tree, e, f, a.tree, b.tree, c.tree);
  sort = ap sort_of m.tree ∙ o;
  noted = record { notes = m.notes ∙ (more_noted a.noted (more_noted b.noted c.noted)).notes; ready = m.ready };
}

-- what a node notes before its parts
pub walked_after : {p : NotedTree} {k : Sort} {s s1 s2 : List Tree} {d d1 d2 : Constraints} {id : TermId} {n : Notes}
    → IsNoted s d s1 d1 n → IsWalked p k s1 d1 s2 d2 id → IsWalked (noted_before n p) k s d s2 d2 id
walked_after n a = record { held = a.held; tree = a.tree; sort = a.sort; noted = more_noted n a.noted }

-- ---- what is due
pub formula_due : (t : Option TermId) → is_due t ≡ true → due t ≡ Formula
formula_due None h = refl
formula_due (Some w) h = absurd (cc)

pub term_due : (t : Option TermId) → is_due t ≡ false → due t ≡ Term
term_due None h = absurd (cc)
term_due (Some w) h = refl

-- no fault in a whole, none in its parts
module _ (w : Where) (o : Bool) (ls : List Word) (b : Bool) (i : ℕ) where
  pub in_cast : (e : Expression) (t : TypeExpression) → fault w o ls b (cast_expression i e t) ≡ None → (b ≡ false) × (fault w o ls false e ≡ None) × (form_fault w o t ≡ None)
  in_cast e t h =
      let p = none_both (fault_if b (WrongKind i)) (first_of (fault w o ls false e) (form_fault w o t)) h in
      let q = none_both (fault w o ls false e) (form_fault w o t) p.1 in
      (not_if b (WrongKind i) p.0, q.0, q.1)

  pub in_negation : (e : Expression) → fault w o ls b (not_expression i e) ≡ None → (b ≡ true) × (fault w o ls true e ≡ None)
  in_negation e h = let p = none_both (fault_if (not b) (WrongKind i)) _ h in (must_be b _ p.0, p.1)

  pub in_joined : (x y : Expression) (op : Op) → fault w o ls b (connected_expression i x op y) ≡ None → (b ≡ true) × (fault w o ls true x ≡ None) × (fault w o ls true y ≡ None)
  in_joined x y op h =
      let p = none_both (fault w o ls true x) _ h in
      let q = none_both (fault_if (not b) (WrongKind i)) _ p.1 in
      (must_be b _ q.0, p.0, q.1)

  pub in_equated : (same : Bool) (x y : Expression) → fault w o ls b (equality_expression i same x y) ≡ None → (b ≡ true) × (fault w o ls false x ≡ None) × (fault w o ls false y ≡ None)
  in_equated same x y h =
      let p = none_both (fault w o ls false x) _ h in
      let q = none_both (fault_if (not b) (WrongKind i)) _ p.1 in
      (must_be b _ q.0, p.0, q.1)

  pub in_choice : (c x y : Expression) → fault w o ls b (if_expression i c x y) ≡ None → (fault w o ls true c ≡ None) × (fault w o ls b x ≡ None) × (fault w o ls b y ≡ None)
  in_choice c x y h =
      let p = none_both (fault w o ls true c) _ h in
      let q = none_both (fault w o ls b x) _ p.1 in
      (p.0, q.0, q.1)

  pub in_binding : (v : Word) (x y : Expression) → fault w o ls b (let_expression i v x y) ≡ None → (fault w o ls false x ≡ None) × (fault w o (v ∷ ls) b y ≡ None)
  in_binding v x y h = none_both (fault w o ls false x) _ h

  pub in_tuple : (es : Expressions) → fault w o ls b (tuple_expression i es) ≡ None → (b ≡ false) × (faults w o ls es ≡ None)
  in_tuple es h = let p = none_both (fault_if b (WrongKind i)) _ h in (not_if b _ p.0, p.1)

  -- the fields of a record
  pub in_record : (fs : List FieldName) (es : Expressions) → fault w o ls b (record_expression i fs es) ≡ None → (b ≡ false) × (record_fault w true i (count_expressions es) fs ≡ None) × (faults w o ls es ≡ None)
  in_record fs es h =
      let p = none_both (fault_if b (WrongKind i)) (first_of (record_fault w true i (count_expressions es) fs) (faults w o ls es)) h in
      let q = none_both (record_fault w true i (count_expressions es) fs) (faults w o ls es) p.1 in
      (not_if b (WrongKind i) p.0, q.0, q.1)

  -- a field's term is the one operand of its function
  pub in_field : (e : Expression) (k : ℕ) (qs : List Word) (v : Word) → fault w o ls b (field_expression i e k qs v) ≡ None → faults w o ls (more_expressions e no_expressions) ≡ None
  in_field e k qs v h = both_none _ _ (none_both (fault w o ls false e) _ h).0 refl

  -- an operator between two is a name before them
  pub in_infixed : (v : Word) (x y : Expression) → fault w o ls b (infix_expression i v x y) ≡ None → fault w o ls b (applied_expression i [] v (more_expressions x (more_expressions y no_expressions))) ≡ None
  in_infixed v x y h =
      let p = none_both (fault w o ls false x) _ h in
      let q = none_both (name_fault w ls b i [] v 2) _ p.1 in
      both_none _ _ q.0 (both_none _ _ p.0 (both_none _ _ q.1 refl))

-- the sort of a term or formula is what it yields
top_due : (t : Option TermId) (h : Head) (s : Sort) → top_sort h s ≡ due t → s ≡ due t
top_due t HEnd s e = absurd (no_list t (sym e))
  where
    no_list : (t : Option TermId) → due t ≡ sorts.List → ⊥
    no_list None e = cc
    no_list (Some w) e = cc
top_due t HCell s e = absurd (no_list t (sym e))
  where
    no_list : (t : Option TermId) → due t ≡ sorts.List → ⊥
    no_list None e = cc
    no_list (Some w) e = cc
top_due t HArm s e = absurd (no_branch t (sym e))
  where
    no_branch : (t : Option TermId) → due t ≡ sorts.Branch → ⊥
    no_branch None e = cc
    no_branch (Some w) e = cc
top_due t _ s e = e

pub yields_due : (t : Option TermId) (e : Tree) → sort_of e ≡ due t → yield e ≡ due t
yields_due t e h = top_due t (head_of e) (yield e) h

pub is_expression : (t : Option TermId) (e : Tree) → sort_of e ≡ due t → IsExpression (sort_of e)
is_expression None e h = inr h
is_expression (Some w) e h = inl h

pub grown_sort : (s s' : List Tree) → Grows s s' → {id : TermId} {k : Sort} → Holds s id → sort_of (tree_at s id) ≡ k → sort_of (tree_at s' id) ≡ k
grown_sort s s' g {id} h e = ap sort_of (tree_at-grows s s' id g h) ∙ e

pub choice_sort : (c x y : Tree) (t : Option TermId) → sort_of x ≡ due t → sort_of (Three HIf c x y) ≡ due t
choice_sort c x y t h = yields_due t x h

pub choice_fits : (c x y : Tree) (t : Option TermId) → sort_of c ≡ Formula → sort_of x ≡ due t → sort_of y ≡ due t → Fits (Three HIf c x y)
choice_fits c x y t h k l = (h, is_expression t x k, l ∙ sym k)

pub let_sort : (x y : Tree) (t : Option TermId) → sort_of y ≡ due t → sort_of (Two HLet x y) ≡ due t
let_sort x y t h = yields_due t y h

pub let_fits : (x y : Tree) (t : Option TermId) → sort_of x ≡ Term → sort_of y ≡ due t → Fits (Two HLet x y)
let_fits x y t h k = ((h, is_expression t y k), tt)
