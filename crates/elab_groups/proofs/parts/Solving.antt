-- Trees and matches with the values of a most general solution in their types.
use Rattle.std.proofs.Common.{◌≡◌, ℕ, ◌+◌, ◌-◌, ◌<◌, ◌≤◌, List, [], ◌∷◌, ◌++◌, map, length, get_or, slice_get, zero, suc, drop, Some, refl, sym, ap, subst, ◌∙◌, arith, length-drop, ◌⊎◌, inl, inr, Result, Ok, Err, IfErr}
use Rattle.std.specs.Result.{IsErrAnd}
use Rattle.std.specs.List.{All}
use Rattle.std.proofs.lemmas.List.Elements.{All-nil}
use Rattle.std.proofs.Math.ListN.{length-map}
use Rattle.std.proofs.Math.Seq.{drop-append_seam}
use Rattle.std.proofs.lemmas.List.{get_or-map}
use Rattle.std.proofs.lemmas.Bool.{cases_order}
use Rattle.tasks.specs.trees.declared.TermId.{TermId}
use Rattle.tasks.specs.trees.declared.Sort.TheVariants.{Kind}
use Rattle.tasks.specs.trees.Sorts.{sort_of}
use Rattle.tasks.specs.trees.Tree.{Tree}
use Rattle.tasks.specs.trees.Node.{tree_at, Holds, Grows}
use Rattle.tasks.specs.trees.Binding.{inst_types, TyVar}
use Rattle.tasks.specs.trees.Facts.{TyVarsBelow}
use Rattle.tasks.proofs.trees.Nodes.{tree_at-grows, Grows_trans}
use Rattle.tasks.specs.Meaning.{trees_at}
use Rattle.open_types.specs.declared.unify_types.Solution.{Solution}
use Rattle.open_types.specs.declared.unify_types.UnifyFault.{UnifyFault}
use Rattle.open_types.specs.declared.unify_types.UnifyFault.TheVariants as uf
use Rattle.open_types.specs.unify_types.Assigned.{assign}
use Rattle.open_types.specs.unify_types.Pairs.{IsSolution, IsLeftOpen, HasPrincipal, IsFixedAs, IsLeastPrefix, HoldEquations, equations_at}
use Rattle.open_types.specs.unify_types.Value.{value_of}
use Rattle.open_types.proofs.unify_types.Assigning.{assign-rigid, assign-unknown}
use Rattle.open_types.proofs.unify_types.Bridge.{is_instance}
use Rattle.open_types.specs.Patterns.{Notes, follow, taken}
use Rattle.open_types.specs.declared.draft.Constraints.{Constraints}
use Rattle.open_types.specs.declared.draft.MatchAt.{MatchAt}
use Rattle.open_types.specs.Pieces.{NotedTree}
use Rattle.open_types.specs.Drafts.{instances, IsReady, IsNoted, notes_at, match_at, MatchHeld}
use Rattle.open_types.proofs.Growing.{types_stay}
use Rattle.open_types.proofs.Noting.{next}
use Rattle.open_types.proofs.Below.{AreBelow}
use Rattle.elab_groups.specs.declared.parts.solution.TypingFault.{TypingFault}
use Rattle.elab_groups.specs.declared.parts.solution.TypingFault.TheVariants.{Memory, Clash, Undetermined}
use Rattle.elab_groups.specs.parts.Elaborated.{IsFixedUnknown, IsTypingFault, IsSolved, matches_assigned}
use Rattle.elab_groups.specs.parts.Values.{IsValueAt, AreSolutionValues, AreSolvedTypes, notes_after, IsFirstOpen, typing_fault, match_instance}
use Rattle.elab_groups.proofs.parts.MatchesBelow.{MatchesBelow}
use Rattle.elab_groups.proofs.parts.Putting.{matches_stay}

-- what comes after the first of a list
dropped : (r : ℕ) (xs : List ℕ) (i k : ℕ) → k + r ≡ i → slice_get (drop r xs) k ≡ slice_get xs i
dropped zero xs i k e = let q : k ≡ i = omega arith in rw q refl
dropped (suc r) [] i k e = refl
dropped (suc r) (x ∷ xs) zero k e = absurd (omega arith)
dropped (suc r) (x ∷ xs) (suc i) k e = dropped r xs i k (omega arith)

-- the notes after what a draft begins with
pub begun : (r : ℕ) (a b n : Notes) → n ≡ follow a b → a.equations ≡ [] → length a.takers ≡ r → a.matches ≡ [] → notes_after r n ≡ b
begun r a b n e p q m =
    let k : drop r (a.takers ++ b.takers) ≡ b.takers = subst (λ (j : ℕ). drop j (a.takers ++ b.takers) ≡ b.takers) q (drop-append_seam a.takers b.takers) in
    let x : a.equations ++ b.equations ≡ b.equations = ap (λ (es : List (Tree × Tree)). es ++ b.equations) p in
    let z : a.matches ++ b.matches ≡ b.matches = ap (λ (ms : List (ℕ × List Tree)). ms ++ b.matches) m in
    ap (notes_after r) e
    ∙ (ap (λ (es : List (Tree × Tree)). record { equations = es; takers = drop r (a.takers ++ b.takers); matches = a.matches ++ b.matches }) x
    ∙ (ap (λ (ts : List ℕ). record { equations = b.equations; takers = ts; matches = a.matches ++ b.matches }) k
    ∙ ap (λ (ms : List (ℕ × List Tree)). record { equations = b.equations; takers = b.takers; matches = ms }) z))

pub value_kind : (r : ℕ) (s1 : List Tree) (es : List (Tree × Tree)) (sol : Solution) → HasPrincipal r es → ((u : ℕ) → r ≤ u → IsFixedAs r es s1 u (value_of sol u))
    → (u : ℕ) (id : TermId) → r ≤ u → value_of sol u ≡ Some id → Holds s1 id × (sort_of (tree_at s1 id) ≡ Kind)
value_kind r s1 es sol general values u id l v =
    let q = subst (IsFixedAs r es s1 u) v (values u l) in
    (q.0, ap sort_of (sym (q.1 general.assigned general.solution.solves)) ∙ (general.solution.types u).1)

pub if_err : {A E : Type 0} (r : Result A E) (P Q : E → Type 0) → IsErrAnd r P → ((e : E) → P e → Q e) → IfErr r Q
if_err (Ok a) P Q h f = tt
if_err (Err e) P Q h f = f e h

-- the least prefix without a solution
pub clash_fault : (r : ℕ) (ns : Notes) (f : UnifyFault) → IsLeastPrefix r ns.equations f → IsTypingFault r ns (typing_fault f)
clash_fault r ns uf.Memory h = tt
clash_fault r ns (uf.Clash k) h = h

-- with the equations solved in the store s1 and the types in the store s2; the draft's takers are ts
module _ (r : ℕ) (ns : Notes) (ts : List ℕ) (own : ns.takers ≡ drop r ts) (few : r ≤ length ts) (s1 s2 : List Tree) (sol : Solution) (g : Grows s1 s2)
    (general : HasPrincipal r ns.equations) (values : (u : ℕ) → r ≤ u → IsFixedAs r ns.equations s1 u (value_of sol u)) where
  -- the value of an unknown that has one
  known : (u : ℕ) (id : TermId) → r ≤ u → value_of sol u ≡ Some id → (f : ℕ → Tree) → IsSolution r f ns.equations → f u ≡ tree_at s1 id
  known u id l v f h = (subst (IsFixedAs r ns.equations s1 u) v (values u l)).1 f h.solves

  fixed : (u : ℕ) (id : TermId) → r ≤ u → value_of sol u ≡ Some id → IsFixedUnknown r ns.equations u
  fixed u id l v = λ f h a b. known u id l v f a ∙ sym (known u id l v h b)

  module _ (types : List TermId) (a : AreSolutionValues s2 r sol (length ts) types) where
    -- the type that is put in for a type variable is what a solution assigns to it
    given : (f : ℕ → Tree) → IsSolution r f ns.equations → (j : ℕ) → j < length types → get_or (trees_at s2 types) j (TyVar j) ≡ assign r f (TyVar j)
    given f h j l = at (cases_order j r)
      where
        d : TermId
        d = record { 0 = 0 }

        v : IsValueAt s2 r sol j (get_or types j d)
        v = a.values j d (omega (arith, a.count))

        m : get_or (trees_at s2 types) j (TyVar j) ≡ tree_at s2 (get_or types j d)
        m = get_or-map (tree_at s2) types j d (TyVar j) l

        above : r ≤ j → get_or (trees_at s2 types) j (TyVar j) ≡ assign r f (TyVar j)
        above k =
            let id = get_or types j d in
            let e : value_of sol j ≡ Some id = v.value k in
            let q = subst (IsFixedAs r ns.equations s1 j) e (values j k) in
            m ∙ tree_at-grows s1 s2 id g q.0 ∙ sym (known j id k e f h) ∙ sym (assign-unknown r f j k)

        at : (j ≡ r) ⊎ ((j < r) ⊎ (r < j)) → get_or (trees_at s2 types) j (TyVar j) ≡ assign r f (TyVar j)
        at (inl e) = let k : r ≤ j = omega arith in above k
        at (inr (inl k)) = m ∙ v.own k ∙ sym (assign-rigid r f j k)
        at (inr (inr k)) = let n : r ≤ j = omega arith in above n

    counted : length ts ≡ r + taken ns
    counted = omega (arith, ap length own, length-drop r ts)

    pub types_of_all : AreSolvedTypes s2 r ns types
    types_of_all = record {
      determined = record {
        solvable = (general.assigned, general.solution);
        fixed = λ i k.
            let m : r + i < length ts = omega (arith, counted) in
            let o : r ≤ r + i = omega arith in
            let d : TermId = record { 0 = 0 } in
            fixed (r + i) (get_or types (r + i) d) o ((a.values (r + i) d m).value o);
      };
      held = a.held;
      count = a.count ∙ counted;
      each = given;
    }

  open_fault : (token : ℕ) → IsFirstOpen r sol ts (Undetermined token) → IsTypingFault r ns (Undetermined token)
  open_fault token o =
      let i = o.0 in
      let same : r + (i - r) ≡ i = omega (arith, o.1) in
      let t : slice_get ns.takers (i - r) ≡ Some token = ap (λ (xs : List ℕ). slice_get xs (i - r)) own ∙ dropped r ts i (i - r) (omega (arith, o.1)) ∙ o.2 in
      let left : IsLeftOpen r ns.equations i = subst (IsFixedAs r ns.equations s1 i) o.3 (values i o.1) in (
        i - r,
        t,
        rw same left,
        λ j k.
            let below : r + j < i = omega (arith, o.1) in
            let above : r ≤ r + j = omega arith in
            let v = o.4 (r + j) above below in
            fixed (r + j) v.0 above v.1,
      )

  -- any answer of the search for types
  pub first_fault : (f : TypingFault) → IsFirstOpen r sol ts f → IsTypingFault r ns f
  first_fault Memory o = tt
  first_fault (Undetermined token) o = open_fault token o
  first_fault (Clash k) o = absurd o

-- trees and matches at the types of all type variables
module _ (s : List Tree) (r : ℕ) (ns : Notes) (types : List TermId) (a : AreSolvedTypes s r ns types) (f : ℕ → Tree) (h : IsSolution r f ns.equations) where
  pub tree_at_types : (e : Tree) → TyVarsBelow (r + taken ns) e → assign r f e ≡ inst_types e (trees_at s types)
  tree_at_types e b =
      let n : length (trees_at s types) ≡ length types = length-map types (tree_at s) in
      sym (is_instance r f (trees_at s types) (λ j m. a.each f h j (subst (λ (k : ℕ). j < k) n m)) 0 e (subst (λ (k : ℕ). TyVarsBelow k e) (sym (n ∙ a.count)) b))

  pub trees_at_types : (es : List Tree) → AreBelow (r + taken ns) es → map (assign r f) es ≡ instances (trees_at s types) es
  trees_at_types [] b = refl
  trees_at_types (e ∷ es) b = cc (tree_at_types e b.0, trees_at_types es b.1)

  pub matches_at_types : (ms : List (ℕ × List Tree)) → MatchesBelow (r + taken ns) ms → matches_assigned r f ms ≡ map (match_instance (trees_at s types)) ms
  matches_at_types [] b = refl
  matches_at_types (m ∷ ms) b = cc (trees_at_types m.1 b.0, matches_at_types ms b.1)

-- the notes of a draft without equations and matches, after so many takers
pub begun_after : {s s1 : List Tree} {d d1 : Constraints} {b : Notes} (r : ℕ) → d.equations ≡ [] → length d.takers ≡ r → d.matches ≡ [] → IsNoted s d s1 d1 b → notes_after r (notes_at s1 d1) ≡ b
begun_after {s} {s1} {d} {d1} {b} r e n m h = begun r (notes_at s d) b (notes_at s1 d1) h.notes (ap (equations_at s) e) n (ap (map (match_at s)) m)

pub begun_ready : (s : List Tree) (d : Constraints) → d.equations ≡ [] → d.matches ≡ [] → IsReady s d
begun_ready s d e m = record {
  equations = subst (HoldEquations s) (sym e) (λ k x l. absurd (omega arith));
  matches = subst (All (MatchHeld s)) (sym m) (All-nil (MatchHeld s));
}

-- a draft has the takers that it began with
pub few_takers : {s s1 : List Tree} {d d1 : Constraints} {b : Notes} (r : ℕ) → length d.takers ≡ r → IsNoted s d s1 d1 b → r ≤ length d1.takers
few_takers r n h = omega (arith, next h)

-- a formula that was walked in the store s1, at the types of the store s2; the stores s3 and s4 have its tree and its matches
pub formula_solved : (s1 s2 s3 s4 : List Tree) → Grows s1 s2 → Grows s2 s3 → Grows s3 s4 → (r : ℕ) (p : NotedTree) (types : List TermId) → AreSolvedTypes s2 r p.notes types
    → (tree id : TermId) → Holds s1 tree → tree_at s1 tree ≡ p.tree → TyVarsBelow (r + taken p.notes) p.tree → MatchesBelow (r + taken p.notes) p.notes.matches
    → Holds s3 id → tree_at s3 id ≡ inst_types (tree_at s2 tree) (trees_at s2 types)
    → (ms out : List MatchAt) → All (MatchHeld s1) ms → map (match_at s1) ms ≡ p.notes.matches
    → map (match_at s4) out ≡ map (match_instance (trees_at s3 types)) (map (match_at s3) ms)
    → IsSolved r p (tree_at s4 id) (map (match_at s4) out)
formula_solved s1 s2 s3 s4 g2 g3 g4 r p types a tree id held is below within id_held id_is ms out ms_held ms_are out_are =
    let t : tree_at s2 tree ≡ p.tree = tree_at-grows s1 s2 tree g2 held ∙ is in
    let e : tree_at s4 id ≡ inst_types p.tree (trees_at s2 types) = tree_at-grows s3 s4 id g4 id_held ∙ (id_is ∙ ap (λ (x : Tree). inst_types x (trees_at s2 types)) t) in
    let same : trees_at s3 types ≡ trees_at s2 types = types_stay s2 s3 g3 types a.held in
    let m : map (match_at s3) ms ≡ p.notes.matches = matches_stay s1 s3 (Grows_trans s1 s2 s3 g2 g3) ms ms_held ∙ ms_are in
    let o : map (match_at s4) out ≡ map (match_instance (trees_at s2 types)) p.notes.matches = out_are ∙ (ap (λ (ts : List Tree). map (match_instance ts) (map (match_at s3) ms)) same ∙ ap (map (match_instance (trees_at s2 types))) m) in
    record {
      determined = a.determined;
      tree = λ f h. tree_at_types s2 r p.notes types a f h p.tree below ∙ sym e;
      matches = λ f h. matches_at_types s2 r p.notes types a f h p.notes.matches within ∙ sym o;
    }
