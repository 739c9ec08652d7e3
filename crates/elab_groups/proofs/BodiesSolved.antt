-- Trees and matches of several bodies at the values of one solution.
use Rattle.std.proofs.Common.{◌≡◌, ℕ, ◌+◌, List, [], ◌∷◌, map, refl, sym, ap, subst, ◌∙◌}
use Rattle.std.specs.List.{All}
use Rattle.tasks.specs.trees.declared.TermId.{TermId}
use Rattle.tasks.specs.trees.Tree.{Tree}
use Rattle.tasks.specs.trees.Node.{Holds, Grows}
use Rattle.tasks.specs.trees.Sorts.{sort_of}
use Rattle.tasks.specs.trees.Binding.{typing}
use Rattle.tasks.proofs.trees.Nodes.{Grows_trans}
use Rattle.tasks.specs.trees.laws.Sorts.{sort_of-change}
use Rattle.trees.specs.binders.Visits.{sorts_typing}
use Rattle.tasks.specs.Meaning.{trees_at}
use Rattle.open_types.specs.Patterns.{Notes, taken}
use Rattle.open_types.specs.declared.draft.MatchAt.{MatchAt}
use Rattle.open_types.specs.Drafts.{HoldsType, MatchHeld, match_at, instances}
use Rattle.open_types.proofs.Below.{AreBelow}
use Rattle.open_types.proofs.Growing.{types_stay}
use Rattle.elab_groups.specs.declared.parts.solution.TypingFault.{TypingFault}
use Rattle.elab_groups.specs.parts.Elaborated.{IsTypingFault}
use Rattle.elab_groups.specs.parts.Values.{AreSolvedTypes, notes_after, match_instance}
use Rattle.elab_groups.proofs.parts.MatchesBelow.{MatchesBelow}
use Rattle.elab_groups.proofs.parts.Putting.{trees_stay, matches_stay}
use Rattle.elab_groups.proofs.parts.Solving.{trees_at_types, matches_at_types}
use Rattle.elab_groups.specs.Groups.{AreSolved}
use Rattle.elab_groups.specs.Bodies.{AreBounded}
use Rattle.open_types.proofs.Forming.{hold_types}

-- walked in the store s1, at the types of the store s2; the stores s3 and s4 have the trees and the matches
pub group_solved : (s1 s2 s3 s4 : List Tree) → Grows s1 s2 → Grows s2 s3 → Grows s3 s4 → (r : ℕ) (ns : Notes) (types : List TermId) → AreSolvedTypes s2 r ns types
    → (ids out : List TermId) → All (Holds s1) ids → AreBelow (r + taken ns) (trees_at s1 ids) → MatchesBelow (r + taken ns) ns.matches
    → All (Holds s3) out → trees_at s3 out ≡ instances (trees_at s2 types) (trees_at s2 ids)
    → (ms done : List MatchAt) → All (MatchHeld s1) ms → map (match_at s1) ms ≡ ns.matches → map (match_at s4) done ≡ map (match_instance (trees_at s3 types)) (map (match_at s3) ms)
    → AreSolved r ns (trees_at s1 ids) (trees_at s4 out) (map (match_at s4) done)
group_solved s1 s2 s3 s4 g2 g3 g4 r ns types a ids out held below within out_held out_is ms done ms_held ms_are done_is =
    let t : trees_at s2 ids ≡ trees_at s1 ids = trees_stay s1 s2 g2 ids held in
    let e : trees_at s4 out ≡ instances (trees_at s2 types) (trees_at s1 ids) = trees_stay s3 s4 g4 out out_held ∙ (out_is ∙ ap (instances (trees_at s2 types)) t) in
    let same : trees_at s3 types ≡ trees_at s2 types = types_stay s2 s3 g3 types a.held in
    let m : map (match_at s3) ms ≡ ns.matches = matches_stay s1 s3 (Grows_trans s1 s2 s3 g2 g3) ms ms_held ∙ ms_are in
    let o : map (match_at s4) done ≡ map (match_instance (trees_at s2 types)) ns.matches = done_is ∙ (ap (λ (ts : List Tree). map (match_instance ts) (map (match_at s3) ms)) same ∙ ap (map (match_instance (trees_at s2 types))) m) in
    record {
      determined = a.determined;
      trees_are = λ f h. trees_at_types s2 r ns types a f h (trees_at s1 ids) below ∙ sym e;
      matches = λ f h. matches_at_types s2 r ns types a f h ns.matches within ∙ sym o;
    }

-- trees at types have their sorts
pub instances_sorts : (s : List Tree) (types : List TermId) → All (HoldsType s) types → (es : List Tree) → map sort_of (instances (trees_at s types) es) ≡ map sort_of es
instances_sorts s types h [] = refl
instances_sorts s types h (e ∷ es) = cc (sort_of-change (typing (trees_at s types)) (sorts_typing s types (hold_types s types h)) 0 e, instances_sorts s types h es)

-- ---- told by other words
pub solved_moved : (k r : ℕ) (n ns : Notes) (ts us out : List Tree) (ms : List (ℕ × List Tree)) → k ≡ r → notes_after r n ≡ ns → ts ≡ us → AreSolved k (notes_after k n) ts out ms → AreSolved r ns us out ms
solved_moved k r n ns ts us out ms p q e h =
    let a : AreSolved r (notes_after r n) ts out ms = subst (λ (i : ℕ). AreSolved i (notes_after i n) ts out ms) p h in
    let b : AreSolved r ns ts out ms = subst (λ (x : Notes). AreSolved r x ts out ms) q a in
    subst (λ (x : List Tree). AreSolved r ns x out ms) e b

pub fault_moved : (k r : ℕ) (n ns : Notes) (f : TypingFault) → k ≡ r → notes_after r n ≡ ns → IsTypingFault k (notes_after k n) f → IsTypingFault r ns f
fault_moved k r n ns f p q h = subst (λ (x : Notes). IsTypingFault r x f) q (subst (λ (i : ℕ). IsTypingFault i (notes_after i n) f) p h)

pub bounded_moved : (k r : ℕ) (n ns : Notes) (ts us : List Tree) → k ≡ r → notes_after r n ≡ ns → ts ≡ us → AreBounded r ns us → AreBounded k (notes_after k n) ts
bounded_moved k r n ns ts us p q e h =
    let a : AreBounded r ns ts = subst (AreBounded r ns) (sym e) h in
    let b : AreBounded r (notes_after r n) ts = subst (λ (x : Notes). AreBounded r x ts) (sym q) a in
    subst (λ (i : ℕ). AreBounded i (notes_after i n) ts) (sym p) b
