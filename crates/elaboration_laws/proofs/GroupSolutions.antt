-- The typings of the bodies of a group are the solutions of its type equations, which are one list.
use Rattle.std.proofs.Common.{◌≡◌, ℕ, ◌+◌, ◌-◌, ◌<◌, ◌≤◌, suc, List, [], ◌∷◌, ◌++◌, map, length, Option, Some, None, IfSome, option_map, refl, sym, ap, subst, ◌∙◌, arith, slice_get}
use Rattle.std.specs.Option.{is_none}
use Rattle.std.specs.List.{AllByRecursion}
use Rattle.std.proofs.Math.ListN.{length-map}
use Rattle.elab_groups.specs.trees.Tree.{Tree}
use Rattle.elab_groups.specs.trees.Sorts.{int_type}
use Rattle.elab_groups.specs.open_types.Patterns.{Notes}
use Rattle.elab_groups.specs.declared.parts.solution.TypingFault.TheVariants.{Clash, Undetermined}
use Rattle.elab_groups.specs.parts.Elaborated.{IsTypingFault}
use Rattle.elab_groups.specs.tasks.Vocabulary.{Vocabulary}
use Rattle.elab_groups.specs.open_types.unify_types.Assigned.{assign}
use Rattle.elab_groups.specs.open_types.unify_types.Pairs.{IsKind, SolvesAll}
use Rattle.elab_groups.specs.name_resolution.Abstract.{Expression}
use Rattle.elab_groups.specs.name_resolution.Where.{Where}
use Rattle.elab_groups.specs.open_types.Patterns.{LocalTree}
use Rattle.elab_groups.specs.open_types.Pieces.{NotedTree, unknown_after, names}
use Rattle.elab_groups.specs.parts.Declarations.{GroupMember, with_vars}
use Rattle.elab_groups.specs.members.Members.{SignatureTree}
use Rattle.elab_groups.specs.Groups.{body_piece, member_piece, member_pieces, most_variables, bodies_pieces, pieces_notes, pieces_trees, BodiesSolved}
use Rattle.elaboration_laws.specs.Typed.{IsNamedExpression}
use Rattle.elaboration_laws.specs.Typings.{Choice, IsTyping, tokens, choices_from, HasOwnTypes}
use Rattle.elaboration_laws.specs.GroupTypings.{body_locals, IsBodyTyping, AreBodyTypings, ElaborateTo, AreNamedBodies, ArePiecesAt, AreOnlyTypings, AreFirstDifferent}
use Rattle.elaboration_laws.proofs.Decided.{tokens_from, type_from, there, type_at, some_same, first_solved}
use Rattle.elaboration_laws.proofs.TypingSolutions.{at_locals, locals_own, wanted_own, meets, solves_both, tokens_both, count_tokens, value, value_kind, value_got}
use Rattle.elaboration_laws.proofs.SolutionTypings.{typed, parts_solved, both_typed}

module _ (v : Vocabulary) (r : ℕ) (f : ℕ → Tree) (kinds : (j : ℕ) → IsKind (f j)) where
  abbrev Meets' : ℕ → List Choice → Type 0
  Meets' n [] = Unit {0}
  Meets' n (c ∷ cs) = (f n ≡ c.type) × Meets' (n + 1) cs

  meets_from : (n m : ℕ) (cs : List Choice) → n ≡ m → Meets' n cs → Meets' m cs
  meets_from n m cs e h = subst (λ (k : ℕ). Meets' k cs) e h

  meets_both : (n : ℕ) (cs ds : List Choice) → Meets' n (cs ++ ds) → Meets' n cs × Meets' (n + length cs) ds
  meets_both n [] ds h = (tt, meets_from n (n + 0) ds (omega arith) h)
  meets_both n (c ∷ cs) ds h = let k = meets_both (n + 1) cs ds h.1 in ((h.0, k.0), meets_from (n + 1 + length cs) (n + length (c ∷ cs)) ds (omega arith) k.1)

  record BodyAt (p : NotedTree) (e : Tree) (cs : List Choice) : Type 0 where
    solves : SolvesAll r f p.notes.equations
    tree : assign r f p.tree ≡ e
    takers : p.notes.takers ≡ tokens cs

  body_meets : (w : Where) (ls : List LocalTree) (t : Option Tree) (b : Option Expression) (n : ℕ) (e : Tree) (cs : List Choice) → HasOwnTypes w r ls t → IfSome b (IsNamedExpression v w ls t) → r ≤ n → IsBodyTyping w ls t b e cs → Meets' n cs → BodyAt (body_piece w ls n t b) e cs
  body_meets w ls t None n e cs o q l d m = record { solves = tt; tree = sym d.0; takers = ap tokens (sym d.1) }
  body_meets w ls t (Some a) n e cs o q l d m =
      let k : IsTyping w (at_locals w o.scoped r o.count f kinds ls) (option_map (assign r f) t) a e cs =
      subst (λ (vs : List LocalTree). IsTyping w vs (option_map (assign r f) t) a e cs) (locals_own w o.scoped r o.count f kinds ls o.variables) (subst (λ (z : Option Tree). IsTyping w ls z a e cs) (wanted_own w o.scoped r o.count f kinds t o.wanted) d) in
      let x = meets w o.scoped r o.count f kinds a ls n t (names ls) (is_none t) e cs l q.named k m in
      record { solves = x.solves; tree = x.tree; takers = x.takers }

  record GroupAt (ps : List NotedTree) (es : List Tree) (cs : List Choice) : Type 0 where
    solves : SolvesAll r f (pieces_notes ps).equations
    trees : map (assign r f) (pieces_trees ps) ≡ es
    takers : (pieces_notes ps).takers ≡ tokens cs

  bodies_meet : (w : Where) (ms : List GroupMember) (gs : List SignatureTree) (n : ℕ) (es : List Tree) (cs : List Choice) → r ≤ n → AreNamedBodies v w r ms gs → AreBodyTypings w ms gs es cs → Meets' n cs → GroupAt (member_pieces w n ms gs) es cs
  bodies_meet w [] gs n es cs l h d m = record { solves = tt; trees = sym d.0; takers = ap tokens (sym d.1) }
  bodies_meet w (x ∷ ms) [] n es cs l h d m = record { solves = tt; trees = sym d.0; takers = ap tokens (sym d.1) }
  bodies_meet w (x ∷ ms) (g ∷ gs) n es cs l h d m =
      let p = member_piece w n x g in
      let k = meets_both n d.first_chosen d.second_chosen (subst (Meets' n) d.chosen m) in
      let a = body_meets (with_vars w g.vars) (body_locals x g) g.result x.body n d.first d.first_chosen h.0 h.1 l d.first_is k.0 in
      let b = bodies_meet w ms gs (unknown_after n p) d.second d.second_chosen (omega arith) h.2 d.second_is (meets_from (n + length d.first_chosen) (unknown_after n p) d.second_chosen (omega (arith, count_tokens p.notes.takers d.first_chosen a.takers)) k.1) in
      record {
        solves = solves_both r f p.notes.equations (pieces_notes (member_pieces w (unknown_after n p) ms gs)).equations a.solves b.solves;
        trees = cc (a.tree, b.trees, d.made);
        takers = cc (a.takers, b.takers, d.chosen, tokens_both d.first_chosen d.second_chosen);
      }

  -- ---- the other way round
  body_typed : (w : Where) (ls : List LocalTree) (t : Option Tree) (b : Option Expression) (n : ℕ) → HasOwnTypes w r ls t → IfSome b (IsNamedExpression v w ls t) → r ≤ n → SolvesAll r f (body_piece w ls n t b).notes.equations
      → IsBodyTyping w ls t b (assign r f (body_piece w ls n t b).tree) (choices_from f n (body_piece w ls n t b).notes.takers)
  body_typed w ls t None n o q l s = (refl, refl)
  body_typed w ls t (Some a) n o q l s =
      let p = body_piece w ls n t (Some a) in
      let x = typed v w q.signature o.scoped r o.count f kinds a ls n t l q.tuples q.named s in
      let y = subst (λ (vs : List LocalTree). IsTyping w vs (option_map (assign r f) t) a (assign r f p.tree) (choices_from f n p.notes.takers)) (sym (locals_own w o.scoped r o.count f kinds ls o.variables)) x in
      subst (λ (z : Option Tree). IsTyping w ls z a (assign r f p.tree) (choices_from f n p.notes.takers)) (sym (wanted_own w o.scoped r o.count f kinds t o.wanted)) y

  bodies_typed : (w : Where) (ms : List GroupMember) (gs : List SignatureTree) (n : ℕ) → r ≤ n → AreNamedBodies v w r ms gs → SolvesAll r f (pieces_notes (member_pieces w n ms gs)).equations
      → AreBodyTypings w ms gs (map (assign r f) (pieces_trees (member_pieces w n ms gs))) (choices_from f n (pieces_notes (member_pieces w n ms gs)).takers)
  bodies_typed w [] gs n l h s = (refl, refl)
  bodies_typed w (x ∷ ms) [] n l h s = (refl, refl)
  bodies_typed w (x ∷ ms) (g ∷ gs) n l h s =
      let p = member_piece w n x g in
      let rest = member_pieces w (unknown_after n p) ms gs in
      let z = parts_solved r f p.notes.equations (pieces_notes rest).equations s in
      both_typed {P = λ e c. IsBodyTyping (with_vars w g.vars) (body_locals x g) g.result x.body e c} {Q = λ ys c. AreBodyTypings w ms gs ys c} (λ e ys. e ∷ ys) f n p.notes.takers (pieces_notes rest).takers (assign r f p.tree) (map (assign r f) (pieces_trees rest))
      (assign r f p.tree ∷ map (assign r f) (pieces_trees rest)) refl (body_typed (with_vars w g.vars) (body_locals x g) g.result x.body n h.0 h.1 l z.0) (bodies_typed w ms gs (unknown_after n p) (omega arith) h.2 z.1)

  kinds_from : (n : ℕ) (xs : List ℕ) → AllByRecursion (λ (c : Choice). IsKind c.type) (choices_from f n xs)
  kinds_from n [] = tt
  kinds_from n (x ∷ xs) = (kinds n, kinds_from (n + 1) xs)

  pub group_typings : (w : Where) (ms : List GroupMember) (gs : List SignatureTree) → AreNamedBodies v w r ms gs → SolvesAll r f (pieces_notes (member_pieces w r ms gs)).equations
      → ElaborateTo w ms gs (map (assign r f) (pieces_trees (member_pieces w r ms gs))) (choices_from f r (pieces_notes (member_pieces w r ms gs)).takers)
  group_typings w ms gs h s = record { typings = bodies_typed w ms gs r (omega arith) h s; types = kinds_from r (pieces_notes (member_pieces w r ms gs)).takers }

-- ---- the laws
module _ (v : Vocabulary) (r : ℕ) (cs : List Choice) (kinds : AllByRecursion (λ (c : Choice). IsKind c.type) cs) where
  abbrev chosen : ℕ → Tree
  chosen j = value cs (j - r)

  chosen_kind : (j : ℕ) → IsKind (value cs (j - r))
  chosen_kind j = value_kind cs kinds (j - r)

  values_meet : (k : ℕ) (ds : List Choice) → ((j : ℕ) → j < length ds → value cs (k + j) ≡ value ds j) → Meets' v r chosen chosen_kind (r + k) ds
  values_meet k [] h = tt
  values_meet k (c ∷ ds) h =
      let e : (r + k) - r ≡ k + 0 = omega arith in
      let rest = values_meet (k + 1) ds (λ j l. let o : k + 1 + j ≡ k + suc j = omega arith in ap (value cs) o ∙ h (suc j) (omega (arith, l))) in
      (ap (value cs) e ∙ h 0 (omega arith), meets_from v r chosen chosen_kind (r + (k + 1)) (r + k + 1) ds (omega arith) rest)

  pub group_solution : (w : Where) (ms : List GroupMember) (gs : List SignatureTree) (es : List Tree) → AreNamedBodies v w r ms gs → AreBodyTypings w ms gs es cs → ArePiecesAt r (member_pieces w r ms gs) es cs
  group_solution w ms gs es h d =
      let m = meets_from v r chosen chosen_kind (r + 0) r cs (omega arith) (values_meet 0 cs (λ j l. let z : 0 + j ≡ j = omega arith in ap (value cs) z)) in
      let x = bodies_meet v r chosen chosen_kind w ms gs r es cs (omega arith) h d m in
      record { assigned = chosen; solution = record { types = chosen_kind; solves = x.solves }; trees = x.trees; takers = x.takers; types = λ j d l. let z : (r + j) - r ≡ j = omega arith in ap (value cs) z ∙ value_got cs j d l }

pub only_typings : (v : Vocabulary) (w : Where) (ms : List GroupMember) (gs : List SignatureTree) (es : List Tree) (matches : List (ℕ × List Tree)) → AreNamedBodies v w (most_variables gs) ms gs → BodiesSolved w ms gs es matches → AreOnlyTypings w ms gs es
only_typings v w ms gs es matches h s =
    let r = most_variables gs in
    let f = s.determined.solvable.0 in
    let g = s.determined.solvable.1 in
    let cs = choices_from f r (pieces_notes (bodies_pieces w ms gs)).takers in
    record {
      chosen = choices_from f r (pieces_notes (bodies_pieces w ms gs)).takers;
      typings = subst (λ (xs : List Tree). ElaborateTo w ms gs xs (choices_from f r (pieces_notes (bodies_pieces w ms gs)).takers)) (s.trees_are f g) (group_typings v r f g.types w ms gs h g.solves);
      only = λ xs ds d. let y = group_solution v r ds d.types w ms gs xs h d.typings in sym y.trees ∙ s.trees_are y.assigned y.solution;
    }

-- ---- where equations clash or leave a type open
module _ (v : Vocabulary) (w : Where) (ms : List GroupMember) (gs : List SignatureTree) (h : AreNamedBodies v w (most_variables gs) ms gs) where
  abbrev rigid : ℕ
  rigid = most_variables gs

  abbrev notes : Notes
  notes = pieces_notes (bodies_pieces w ms gs)

  pub no_typings : (k : ℕ) → IsTypingFault rigid notes (Clash k) → (es : List Tree) (cs : List Choice) → ElaborateTo w ms gs es cs → ⊥
  no_typings k c es cs d =
      let y = group_solution v rigid cs d.types w ms gs es h d.typings in
      c.1 y.assigned (first_solved rigid y.assigned (k + 1) notes.equations y.solution.solves)

  counted : (cs : List Choice) → notes.takers ≡ tokens cs → length notes.takers ≡ length cs
  counted cs e = ap length e ∙ length-map cs (λ (c : Choice). c.token)

  pub first_different : (token : ℕ) → IsTypingFault rigid notes (Undetermined token) → AreFirstDifferent w ms gs token
  first_different token c =
      let l : c.0 < length notes.takers = there notes.takers c.0 token c.1 in
      record {
        place = c.0;
        first_trees = map (assign rigid c.2.first) (pieces_trees (bodies_pieces w ms gs));
        second_trees = map (assign rigid c.2.second) (pieces_trees (bodies_pieces w ms gs));
        first = choices_from c.2.first rigid notes.takers;
        second = choices_from c.2.second rigid notes.takers;
        first_are = group_typings v rigid c.2.first c.2.first_solves.types w ms gs h c.2.first_solves.solves;
        second_are = group_typings v rigid c.2.second c.2.second_solves.types w ms gs h c.2.second_solves.solves;
        node = ap (λ (ys : List ℕ). slice_get ys c.0) (tokens_from c.2.first rigid notes.takers) ∙ c.1;
        differ = λ q. c.2.differ (some_same (c.2.first (rigid + c.0)) (c.2.second (rigid + c.0)) (sym (type_from c.2.first rigid notes.takers c.0 l) ∙ q ∙ type_from c.2.second rigid notes.takers c.0 l));
        before = λ xs ys cs ds d e j k.
            let p = group_solution v rigid cs d.types w ms gs xs h d.typings in
            let q = group_solution v rigid ds e.types w ms gs ys h e.typings in
            let m : j < length cs = omega (arith, k, l, counted cs p.takers) in
            let n : j < length ds = omega (arith, k, l, counted ds q.takers) in
            type_at cs j (record { token = 0; type = int_type }) m ∙ ap (λ (z : Tree). Some z) (sym (p.types j (record { token = 0; type = int_type }) m) ∙ c.3 j k p.assigned q.assigned p.solution q.solution ∙ q.types j (record { token = 0; type = int_type }) n)
            ∙ sym (type_at ds j (record { token = 0; type = int_type }) n);
      }
