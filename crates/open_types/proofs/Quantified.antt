-- Walks of quantifiers and of triggers.
use Rattle.std.proofs.Common.{◌≡◌, ℕ, ◌+◌, suc, Bool, true, false, not, cond, List, [], ◌∷◌, ◌++◌, map, reverse, length, Option, Some, None, refl, sym, ap, subst, ◌∙◌, arith}
use Rattle.std.specs.List.{All}
use Rattle.trees.specs.declared.TermId.{TermId}
use Rattle.trees.specs.declared.Sort.{Sort}
use Rattle.trees.specs.declared.Sort.TheVariants.{Formula}
use Rattle.trees.specs.Tree.{Tree}
use Rattle.trees.specs.Node.{tree_at, Grows}
use Rattle.trees.specs.Sorts.{sort_of}
use Rattle.trees.proofs.Nodes.{Grows_trans}
use Rattle.surface.specs.Lexeme.{Word}
use Rattle.name_resolution.specs.Abstract.{TypeExpression, Expression, Expressions, BoundNames, quantified_expression, more_expressions}
use Rattle.name_resolution.specs.declared.NamingFault.TheVariants.{WrongKind}
use Rattle.name_resolution.specs.declared.world.World.{World}
use Rattle.name_resolution.specs.Faults.{fault, fault_if, binders_fault, triggers_fault, bound_names, is_formula_trigger, token}
use Rattle.name_resolution.specs.Naming.{where_at}
use Rattle.name_resolution.specs.Where.{Where}
use Rattle.open_types.specs.declared.locals.Local.{Local}
use Rattle.open_types.specs.declared.locals.Locals.{Locals}
use Rattle.open_types.specs.declared.draft.Constraints.{Constraints}
use Rattle.open_types.specs.Patterns.{noted, no_notes, follow, taken, LocalTree}
use Rattle.open_types.specs.Pieces.{NotedTree, unknown_after, piece, noted_before, unknown, triggers_notes, trigger_wanted, trigger_taken, quantify, bound, binder_locals, binder_vars, binders_vars, untyped, locals_of_type, type_at, names}
use Rattle.open_types.specs.Drafts.{HoldsType, IsMade, IsNoted, IsBound, IsWalked, IsSet, LocalsHeld, local_at, local_name, locals_at, names_of_locals}
use Rattle.open_types.proofs.Growing.{locals_stay, locals_grow, each_stays}
use Rattle.open_types.proofs.Noting.{more_noted, noted_as, next, count_replicate}
use Rattle.open_types.proofs.Walking.{none_both, walked_under, walked_after}
use Rattle.open_types.proofs.Arguments.{names_both}

-- ---- names

untyped_names : (n : ℕ) (xs : List Word) → names (untyped n xs) ≡ xs
untyped_names n [] = refl
untyped_names n (x ∷ xs) = ap (λ (r : List Word). x ∷ r) (untyped_names (suc n) xs)

typed_names : (t : Tree) (xs : List Word) → names (locals_of_type t xs) ≡ xs
typed_names t [] = refl
typed_names t (x ∷ xs) = ap (λ (r : List Word). x ∷ r) (typed_names t xs)

binder_names : (w : Where) (n : ℕ) (xs : List Word) (f : Option TypeExpression) → names (binder_locals w n xs f) ≡ xs
binder_names w n xs None = untyped_names n xs
binder_names w n xs (Some f) = typed_names (type_at w f) xs

pub names_bound : (w : Where) (n : ℕ) (bs : List BoundNames) → names (bound w n bs) ≡ bound_names bs
names_bound w n [] = refl
names_bound w n (b ∷ bs) =
    let m = n + binder_vars b.names b.of_type in
    names_both (binder_locals w n b.names b.of_type) (bound w m bs) ∙ cc (binder_names w n b.names b.of_type, names_bound w m bs)

pub local_names : (s : List Tree) (ls : List Local) → names (map (local_at s) ls) ≡ map local_name ls
local_names s [] = refl
local_names s (l ∷ ls) = ap (λ (r : List Word). local_name l ∷ r) (local_names s ls)

-- no fault in a whole, none in its parts
pub in_quantified : (w : Where) (ls : List Word) (b : Bool) (i : ℕ) (all : Bool) (bs : List BoundNames) (gs : Expressions) (e : Expression) → fault w false ls b (quantified_expression i all bs gs e) ≡ None
    → (binders_fault w false bs ≡ None) × (triggers_fault w false (reverse (bound_names bs) ++ ls) gs ≡ None) × (fault w false (reverse (bound_names bs) ++ ls) true e ≡ None)
in_quantified w ls b i all bs gs e h =
    let p = none_both (fault_if (not b) (WrongKind i)) _ h in
    let q = none_both (binders_fault w false bs) _ p.1 in
    let r = none_both (triggers_fault w false (reverse (bound_names bs) ++ ls) gs) _ q.1 in
    (q.0, r.0, r.1)

-- ---- under the variables of binders: what is in the store s1 after they are bound
module _ {s s1 : List Tree} {d d1 : Constraints} {w : World} {ls : Locals} {vs : List Local} {i : ℕ} (bs : List BoundNames) (set : IsSet s d w ls) (g : Grows s s1)
    (b : IsBound s d [] s1 d1 vs i (binders_vars bs) (bound (where_at s w) (length d.takers) bs)) where
  pub inside_names : reverse (map local_name vs) ++ names_of_locals ls ≡ reverse (bound_names bs) ++ names_of_locals ls
  inside_names =
      let e : map local_name vs ≡ bound_names bs = sym (local_names s1 vs) ∙ ap names b.locals ∙ names_bound (where_at s w) (length d.takers) bs in
      ap (λ (r : List Word). reverse r ++ names_of_locals ls) e

  pub inside_held : All (λ (l : Local). HoldsType s1 l.ty) vs × LocalsHeld s1 ls
  inside_held = (b.held, locals_grow s s1 g ls set.locals)

  pub inside_locals : reverse (map (local_at s1) vs) ++ locals_at s1 ls ≡ reverse (bound (where_at s w) (length d.takers) bs) ++ locals_at s ls
  inside_locals = cc (b.locals, locals_stay s s1 g ls set.locals)

  pub next_unknown : length d1.takers ≡ length d.takers + binders_vars bs
  next_unknown = next b.noted ∙ ap (λ (m : ℕ). length d.takers + m) (count_replicate (binders_vars bs) i)

-- triggers, told by what the whole began with
pub triggers_as : (w w' : Where) (ls ls' : List LocalTree) (n n' : ℕ) (gs : Expressions) → w ≡ w' → ls ≡ ls' → n ≡ n' → triggers_notes w ls n gs ≡ triggers_notes w' ls' n' gs
triggers_as w w' ls ls' n n' gs a b c = cc (a, b, c)

pub quantified_walked : (w : Where) (ls : List LocalTree) (i : ℕ) (all : Bool) (bs : List BoundNames) (gs : Expressions) (e : Expression) {s s1 s2 s3 s4 : List Tree} {d d1 d2 d3 : Constraints} {vs : List Local} {x id : TermId}
    → IsBound s d [] s1 d1 vs i (binders_vars bs) (bound w (length d.takers) bs)
    → IsNoted s1 d1 s2 d2 (triggers_notes w (reverse (bound w (length d.takers) bs) ++ ls) (length d.takers + binders_vars bs) gs) → Grows s1 s2
    → IsWalked (piece w (reverse (bound w (length d.takers) bs) ++ ls) (length d.takers + binders_vars bs + taken (triggers_notes w (reverse (bound w (length d.takers) bs) ++ ls) (length d.takers + binders_vars bs) gs)) None e) Formula s2 d2 s3 d3 x
    → Grows s2 s3 → IsMade s3 d3 s4 (quantify all (map (local_at s3) vs) (tree_at s3 x)) id → sort_of (tree_at s4 id) ≡ Formula
    → IsWalked (piece w ls (length d.takers) None (quantified_expression i all bs gs e)) Formula s d s4 d3 id
quantified_walked w ls i all bs gs e {s} {s1} {s2} {s3} {s4} {d} {d1} {d2} {d3} {vs} {x} {id} b t g a h m o =
    let same : map (local_at s3) vs ≡ bound w (length d.takers) bs = each_stays s1 s3 (Grows_trans s1 s2 s3 g h) vs b.held ∙ b.locals in
    let made : IsMade s3 d3 s4 (quantify all (bound w (length d.takers) bs) (tree_at s3 x)) id = subst (λ (r : List LocalTree). IsMade s3 d3 s4 (quantify all r (tree_at s3 x)) id) same m in
    walked_after b.noted (walked_under (quantify all (bound w (length d.takers) bs)) (walked_after t a) made (ap sort_of (sym made.tree) ∙ o))

-- ---- triggers
pub in_triggers : (w : Where) (ls : List Word) (e : Expression) (es : Expressions) → triggers_fault w false ls (more_expressions e es) ≡ None → (fault w false ls (is_formula_trigger w ls e) e ≡ None) × (triggers_fault w false ls es ≡ None)
in_triggers w ls e es h = none_both (fault w false ls (is_formula_trigger w ls e) e) (triggers_fault w false ls es) h

-- what a first trigger notes, before those of the others
pub trigger_walked : (w : Where) (ls : List LocalTree) (e : Expression) (es : Expressions) {k : Sort} {s s1 s2 s3 : List Tree} {d d1 d2 d3 : Constraints} {x : TermId} {t : Option Tree}
    → t ≡ trigger_wanted w ls (length d.takers) e → IsNoted s d s1 d1 (trigger_taken w ls e) → IsWalked (piece w ls (length d1.takers) t e) k s1 d1 s2 d2 x
    → ((n : ℕ) → length d2.takers ≡ n → IsNoted s2 d2 s3 d3 (triggers_notes w ls n es)) → IsNoted s d s3 d3 (triggers_notes w ls (length d.takers) (more_expressions e es))
trigger_walked w ls e es {k} {s} {s1} {s2} {s3} {d} {d1} {d2} {d3} {x} {t} q a b rest = at (is_formula_trigger w (names ls) e) q a
  where
    n : ℕ
    n = length d.takers

    one : Bool → NotedTree
    one c = cond c (piece w ls n None e) (noted_before (noted [] (token e ∷ [])) (piece w ls (n + 1) (Some (unknown n)) e))

    at : (c : Bool) → t ≡ cond c None (Some (unknown n)) → IsNoted s d s1 d1 (cond c no_notes (noted [] (token e ∷ []))) → IsNoted s d s3 d3 (follow (one c).notes (triggers_notes w ls (unknown_after n (one c)) es))
    at true q a =
        let l : length d1.takers ≡ n = next a ∙ (let z : n + 0 ≡ n = omega arith in z) in
        let same : piece w ls (length d1.takers) t e ≡ piece w ls n None e = cc (l, q) in
        let walked : IsWalked (piece w ls n None e) k s1 d1 s2 d2 x = subst (λ (p : NotedTree). IsWalked p k s1 d1 s2 d2 x) same b in
        let first : IsNoted s d s2 d2 (piece w ls n None e).notes = noted_as (more_noted a walked.noted) (piece w ls n None e).notes refl in
        more_noted first (rest (unknown_after n (piece w ls n None e)) (next first))
    at false q a =
        let l : length d1.takers ≡ n + 1 = next a in
        let same : piece w ls (length d1.takers) t e ≡ piece w ls (n + 1) (Some (unknown n)) e = cc (l, q) in
        let walked : IsWalked (piece w ls (n + 1) (Some (unknown n)) e) k s1 d1 s2 d2 x = subst (λ (p : NotedTree). IsWalked p k s1 d1 s2 d2 x) same b in
        let first : IsNoted s d s2 d2 (one false).notes = more_noted a walked.noted in
        more_noted first (rest (unknown_after n (one false)) (next first))
