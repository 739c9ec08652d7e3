-- The bodies of members, walked one after another.
use Rattle.std.proofs.Common.{◌≡◌, ℕ, true, false, List, [], ◌∷◌, ◌++◌, map, reverse, length, Option, None, Some, refl, sym, ap, subst, ◌∙◌, arith, append_assoc, append-nil}
use Rattle.std.specs.List.{All}
use Rattle.std.specs.Option.{is_some, is_none}
use Rattle.tasks.specs.trees.declared.TermId.{TermId}
use Rattle.tasks.specs.trees.declared.Sort.{Sort}
use Rattle.tasks.specs.trees.Tree.{Tree, Leaf, HEnd}
use Rattle.tasks.specs.trees.Node.{tree_at, Holds, Grows}
use Rattle.tasks.specs.trees.Sorts.{sort_of}
use Rattle.tasks.specs.Meaning.{trees_at}
use Rattle.name_resolution.specs.surface.Lexeme.{Word}
use Rattle.name_resolution.specs.Abstract.{Expression}
use Rattle.name_resolution.specs.Faults.{fault}
use Rattle.name_resolution.specs.Where.{Where}
use Rattle.open_types.specs.declared.draft.Constraints.{Constraints}
use Rattle.open_types.specs.Patterns.{LocalTree}
use Rattle.open_types.specs.Pieces.{NotedTree, piece}
use Rattle.open_types.specs.Drafts.{IsReady, IsWalked, due}
use Rattle.open_types.proofs.Taking.{mapped_more}
use Rattle.open_types.proofs.Noting.{nothing_noted, more_noted, noted_before, no_elements}
use Rattle.elab_groups.specs.parts.Declarations.{GroupMember, with_vars}
use Rattle.elab_groups.proofs.parts.Putting.{trees_stay}
use Rattle.elab_groups.specs.declared.members.signing.Signed.{Signed}
use Rattle.elab_groups.specs.members.Members.{SignatureTree, words_of_parameters, body_fault}
use Rattle.elab_groups.specs.Groups.{typed_locals, body_piece, member_piece, member_pieces, pieces_trees}
use Rattle.elab_groups.specs.Bodies.{IsBodyWalked, AreBodiesWalked, sorts_due}

pub walked_none : (s : List Tree) (d : Constraints) (ids : List TermId) (ms : List GroupMember) (its : List Signed) → (length ms ≡ length its → its ≡ []) → IsReady s d → All (Holds s) ids → AreBodiesWalked [] ms its s d ids s d ids
walked_none s d ids ms its e r h = record { held = h; trees = sym (append-nil (trees_at s ids)); sorts = λ l k. ap sorts_due (sym (e l)); noted = nothing_noted s d r }

-- one body, and those after it
pub walked_first : {s s1 s2 : List Tree} {d d1 d2 : Constraints} {p : NotedTree} {ps : List NotedTree} {id : TermId} {ids ids2 : List TermId} → Grows s s1 → All (Holds s) ids → (m : GroupMember) (ms : List GroupMember) (it : Signed) (its : List Signed)
    → IsBodyWalked p s d s1 d1 id → (is_some m.body ≡ true → sort_of (tree_at s1 id) ≡ due it.result)
    → AreBodiesWalked ps ms its s1 d1 (ids ++ id ∷ []) s2 d2 ids2 → AreBodiesWalked (p ∷ ps) (m ∷ ms) (it ∷ its) s d ids s2 d2 ids2
walked_first {s} {s1} {s2} {d} {d1} {d2} {p} {ps} {id} {ids} {ids2} g h m ms it its one sort rest = record {
  held = rest.held;
  trees =
      let a : trees_at s1 (ids ++ id ∷ []) ≡ trees_at s ids ++ p.tree ∷ [] = mapped_more s1 ids id ∙ (ap (λ (ts : List Tree). ts ++ tree_at s1 id ∷ []) (trees_stay s s1 g ids h) ∙ ap (λ (t : Tree). trees_at s ids ++ t ∷ []) one.tree) in
      rest.trees ∙ (ap (λ (ts : List Tree). ts ++ pieces_trees ps) a ∙ append_assoc (trees_at s ids) (p.tree ∷ []) (pieces_trees ps));
  sorts = λ l k.
      let a : sort_of p.tree ≡ due it.result = ap sort_of (sym one.tree) ∙ sort k.0 in
      let b : map sort_of (pieces_trees ps) ≡ sorts_due its = rest.sorts (omega arith) k.1 in
      cc (a, b);
  noted = more_noted one.noted rest.noted;
}

-- ---- one body
-- a member without a body
pub walked_end : (w : Where) (n : ℕ) (m : GroupMember) (g : SignatureTree) (s s1 : List Tree) (d : Constraints) (id : TermId) → m.body ≡ None → IsReady s d → Grows s s1 → Holds s1 id → tree_at s1 id ≡ Leaf HEnd → IsBodyWalked (member_piece w n m g) s d s1 d id
walked_end w n m g s s1 d id e r grows h t =
    subst (λ (b : Option Expression). IsBodyWalked (body_piece (with_vars w g.vars) (reverse (typed_locals (words_of_parameters m.params) g.args)) n g.result b) s d s1 d id) (sym e)
    (record { held = h; tree = t; noted = noted_before (nothing_noted s d r) grows })

pub walked_body : (w v : Where) (n : ℕ) (m : GroupMember) (g : SignatureTree) (b : Expression) (ls : List LocalTree) (k : Sort) (s s1 : List Tree) (d d1 : Constraints) (id : TermId) → m.body ≡ Some b → v ≡ with_vars w g.vars → ls ≡ reverse (typed_locals (words_of_parameters m.params) g.args)
    → IsWalked (piece v ls n g.result b) k s d s1 d1 id → IsBodyWalked (member_piece w n m g) s d s1 d1 id
walked_body w v n m g b ls k s s1 d d1 id e q l h =
    let here = reverse (typed_locals (words_of_parameters m.params) g.args) in
    let p : piece v ls n g.result b ≡ piece (with_vars w g.vars) here n g.result b = ap (λ (x : Where). piece x ls n g.result b) q ∙ ap (λ (xs : List LocalTree). piece (with_vars w g.vars) xs n g.result b) l in
    let one : IsBodyWalked (piece (with_vars w g.vars) here n g.result b) s d s1 d1 id = subst (λ (x : NotedTree). IsBodyWalked x s d s1 d1 id) p (record { held = h.held; tree = h.tree; noted = h.noted }) in
    subst (λ (x : Option Expression). IsBodyWalked (body_piece (with_vars w g.vars) here n g.result x) s d s1 d1 id) (sym e) one

-- the fault of a body that is there
pub body_at : (w : Where) (m : GroupMember) (vars : List Word) (b : Expression) → m.body ≡ Some b → body_fault w m vars m.body ≡ None → fault (with_vars w vars) false (reverse (words_of_parameters m.params)) (is_none m.result) b ≡ None
body_at w m vars b e h = subst (λ (x : Option Expression). body_fault w m vars x ≡ None) e h

-- ---- no bodies, and those after one
pieces_none : (w : Where) (n : ℕ) (ms : List GroupMember) → member_pieces w n ms [] ≡ []
pieces_none w n [] = refl
pieces_none w n (m ∷ ms) = refl

pub none_walked : (w : Where) (n : ℕ) (gs : List SignatureTree) (s : List Tree) (d : Constraints) (ids : List TermId) (ms : List GroupMember) (its : List Signed) → ms ≡ [] → IsReady s d → All (Holds s) ids → AreBodiesWalked (member_pieces w n ms gs) ms its s d ids s d ids
none_walked w n gs s d ids ms its e r h = subst (λ (xs : List GroupMember). AreBodiesWalked (member_pieces w n xs gs) xs its s d ids s d ids) (sym e) (walked_none s d ids [] its (λ l. no_elements its (sym l)) r h)

pub unsigned_walked : (w : Where) (n : ℕ) (gs : List SignatureTree) (s : List Tree) (d : Constraints) (ids : List TermId) (ms : List GroupMember) (its : List Signed) → gs ≡ [] → its ≡ [] → IsReady s d → All (Holds s) ids → AreBodiesWalked (member_pieces w n ms gs) ms its s d ids s d ids
unsigned_walked w n gs s d ids ms its e f r h =
    let p : member_pieces w n ms gs ≡ [] = ap (member_pieces w n ms) e ∙ pieces_none w n ms in
    subst (λ (ps : List NotedTree). AreBodiesWalked ps ms its s d ids s d ids) (sym p) (walked_none s d ids ms its (λ l. f) r h)

pub pieces_same : (w v : Where) (n k : ℕ) (ms : List GroupMember) (gs hs : List SignatureTree) → v ≡ w → k ≡ n → hs ≡ gs → member_pieces v k ms hs ≡ member_pieces w n ms gs
pieces_same w v n k ms gs hs p q r = ap (λ (x : Where). member_pieces x k ms hs) p ∙ (ap (λ (x : ℕ). member_pieces w x ms hs) q ∙ ap (member_pieces w n ms) r)
