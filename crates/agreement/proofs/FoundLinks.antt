-- The search for agreement: what is remembered, the questions for parts that agree, and the links that are found.
use Rattle.std.proofs.Common.{◌≡◌, ℕ, ◌+◌, ◌*◌, ◌<◌, ◌≤◌, ◌⊎◌, inl, inr, nat_eq, cond, Bool, true, false, List, [], ◌∷◌, ◌++◌, length, get_or, All, Some, Contains, refl, sym, ap, subst, ◌∙◌, append_assoc, arith}
use Rattle.std.proofs.lemmas.Bool.Decides.{nat_tests}
use Rattle.trees.specs.binders.Known.{same_pair}
use Rattle.trees.proofs.binders.Rebuilt.{both_true}
use Rattle.std.proofs.lemmas.List.{append-nil}
use Rattle.std.proofs.lemmas.List.Elements.{All-cons, All-nil, All-head, All-tail}
use Rattle.indexmap.specs.IndexMap.{IndexMap, get}
use Rattle.trees.specs.declared.TermId.{TermId}
use Rattle.trees.specs.Tree.{Tree, Leaf, HEnd}
use Rattle.trees.specs.Node.{tree_at, Holds}
use Rattle.evidence.specs.Drafts.{DraftTree, Extends}
use Rattle.evidence.specs.Laws.{Extends_trans}
use Rattle.congruence.specs.declared.alike.AlikeBy.{AlikeBy}
use Rattle.congruence.specs.Alike.{Shows}
use Rattle.congruence.proofs.Later.{tree_later, held_later, pair_later, shows_later}
use Rattle.agreement.specs.declared.questions.Question.{Question}
use Rattle.agreement.specs.declared.questions.Link.{Link}
use Rattle.agreement.specs.Agreement.{ArePartsOf, AgreeWithin, number_under}
use Rattle.agreement.specs.Questions.{IsAsked, IsShownLink, AreQuestions, AgreeAsked, AgreeByParts, AddsLinks, AreKnownAlike, questions_at, links_at}
use Rattle.agreement.proofs.PartLists.{Pairs, by_parts, parts_once}
use Rattle.agreement.proofs.QuestionsLater.{same_questions}

-- ---- what is remembered
module _ {S : Type 0} where
  pub known_later : (d d1 : DraftTree) → Extends d d1 → (m : IndexMap (ℕ × ℕ) AlikeBy S) → AreKnownAlike d m → AreKnownAlike d1 m
  known_later d d1 x m h k n w e =
      let p = h k n w e in
      (omega (arith, p.0, x.trees.longer), (omega (arith, p.1.0, x.trees.longer), rw (x.trees.same k p.0, x.trees.same n p.1.0) (shows_later d d1 x w (get_or d.trees k (Leaf HEnd)) (get_or d.trees n (Leaf HEnd)) p.1.1)))

  pub known_more : (d : DraftTree) (m o : IndexMap (ℕ × ℕ) AlikeBy S) (a b : TermId) (made : AlikeBy) → AreKnownAlike d m → Holds d.trees a → Holds d.trees b → Shows d made (tree_at d.trees a) (tree_at d.trees b)
      → ((q : ℕ × ℕ) → get same_pair o q ≡ cond (same_pair (a.0, b.0) q) (Some made) (get same_pair m q)) → AreKnownAlike d o
  known_more d m o a b made h ha hb is up k n w found = at (same_pair (a.0, b.0) (k, n)) refl (sym (up (k, n)) ∙ found)
    where
      one_value : (x y : AlikeBy) → Some x ≡ Some y → x ≡ y
      one_value x y e = cc

      at : (c : Bool) → same_pair (a.0, b.0) (k, n) ≡ c → cond c (Some made) (get same_pair m (k, n)) ≡ Some w → (k < length d.trees) × ((n < length d.trees) × Shows d w (get_or d.trees k (Leaf HEnd)) (get_or d.trees n (Leaf HEnd)))
      at true same there =
          let p = both_true (nat_eq a.0 k) (nat_eq b.0 n) same in
          let first : a.0 ≡ k = grind (arith, nat_tests, p.0) in
          let second : b.0 ≡ n = grind (arith, nat_tests, p.1) in
          let value : made ≡ w = one_value made w there in
          rw (← first, ← second, ← value) (ha, (hb, is))
      at false same there = h k n w there

-- ---- questions for parts
pub parts_agree : (d : DraftTree) (pairs : Pairs) (q : Question) → AgreeAsked d pairs q → (tree_at d.trees q.left ≡ tree_at d.trees q.right → ⊥) → (Contains pairs (tree_at d.trees q.left, tree_at d.trees q.right) → ⊥) → AgreeByParts d pairs q
parts_agree d pairs q a e c = by_parts a.0 d.task pairs q.number (tree_at d.trees q.left) (tree_at d.trees q.right) a.1 e c

pub parts_exist : (d : DraftTree) (pairs : Pairs) (q : Question) → AgreeByParts d pairs q → (ps : Pairs) × ArePartsOf d.task q.number (tree_at d.trees q.left) (tree_at d.trees q.right) ps
parts_exist d pairs q p = (p.1.0, p.1.1.0)

each_agrees : (m : ℕ) (d : DraftTree) (pairs : Pairs) (k : ℕ) (qs : List Question) → All (λ p. AgreeWithin m d.task pairs k p.0 p.1) (questions_at d.trees qs) → All (λ z. z.number ≡ k) qs → All (AgreeAsked d pairs) qs
each_agrees m d pairs k [] a n = All-nil (AgreeAsked d pairs)
each_agrees m d pairs k (z ∷ zs) a n =
    let W : Tree × Tree → Type 0 = λ p. AgreeWithin m d.task pairs k p.0 p.1 in
    let N : Question → Type 0 = λ y. y.number ≡ k in
    let p : Tree × Tree = (tree_at d.trees z.left, tree_at d.trees z.right) in
    All-cons (AgreeAsked d pairs) z zs (m, subst (λ (i : ℕ). AgreeWithin m d.task pairs i (tree_at d.trees z.left) (tree_at d.trees z.right)) (sym (All-head N z zs n)) (All-head W p (questions_at d.trees zs) a))
    (each_agrees m d pairs k zs (All-tail W p (questions_at d.trees zs) a) (All-tail N z zs n))

pub questions_agree : (d d1 : DraftTree) → Extends d d1 → (pairs new : Pairs) (q : Question) (qs : List Question) → IsAsked d q → new ≡ pairs → AgreeByParts d pairs q → AreQuestions d1 q qs → All (AgreeAsked d1 new) qs
questions_agree d d1 x pairs new q qs i e p a =
    let tl = tree_later d d1 x q.left i.pair.left.held in
    let tr = tree_later d d1 x q.right i.pair.right.held in
    let n = q.number in
    let parts : ArePartsOf d1.task n (tree_at d1.trees q.left) (tree_at d1.trees q.right) p.1.0 = rw (x.task, tl, tr) p.1.1.0 in
    let same : p.1.0 ≡ questions_at d1.trees qs = parts_once d1.task n (tree_at d1.trees q.left) (tree_at d1.trees q.right) p.1.0 (questions_at d1.trees qs) parts a.parts in
    let all : All (λ z. AgreeWithin p.0 d1.task new (number_under n (tree_at d1.trees q.left)) z.0 z.1) (questions_at d1.trees qs) = rw (x.task, tl, e, ← same) p.1.1.1 in
    each_agrees p.0 d1 new (number_under n (tree_at d1.trees q.left)) qs all a.numbers

-- ---- links
pub no_questions : (qs : List Question) → length qs ≡ 0 → qs ≡ []
no_questions [] e = refl
no_questions (q ∷ qs) e = absurd (omega (arith, e))

pub links_none : (d : DraftTree) (old : List Link) (qs : List Question) → qs ≡ [] → AddsLinks d d old old qs
links_none d old qs e = subst (AddsLinks d d old old) (sym e) (record { more = []; is = sym (append-nil old); links = All-nil (IsShownLink d); same = refl })

pub links_more : (d d1 d2 : DraftTree) → Extends d d1 → Extends d1 d2 → (first : Question) (others : List Question) → All (IsAsked d) (first ∷ others) → (alike : AlikeBy) → Shows d1 alike (tree_at d.trees first.left) (tree_at d.trees first.right) → (old mid new : List Link)
    → mid ≡ old ++ record { left = first.left; right = first.right; alike = alike } ∷ [] → AddsLinks d1 d2 mid new others → (qs : List Question) → qs ≡ first ∷ others → AddsLinks d d2 old new qs
links_more d d1 d2 x y first others i alike sh old mid new e n qs f =
    let z = Extends_trans d d1 d2 x y in
    let h = All-head (IsAsked d) first others i in
    let t = All-tail (IsAsked d) first others i in
    let w : Link = record { left = first.left; right = first.right; alike = alike } in
    let l = tree_later d d2 z first.left h.pair.left.held in
    let r = tree_later d d2 z first.right h.pair.right.held in
    let s : Shows d2 alike (tree_at d.trees first.left) (tree_at d.trees first.right) = shows_later d1 d2 y alike (tree_at d.trees first.left) (tree_at d.trees first.right) sh in
    let k : IsShownLink d2 w = record { pair = pair_later d d2 z first.left first.right h.pair; shows = rw (l, r) s } in
    let rest : links_at d2.trees n.more ≡ questions_at d.trees others = n.same ∙ same_questions d d1 x others t in
    subst (AddsLinks d d2 old new) (sym f)
    (record {
      more = w ∷ n.more;
      is = n.is ∙ ap (λ (u : List Link). u ++ n.more) e ∙ append_assoc old (w ∷ []) n.more;
      links = All-cons (IsShownLink d2) w n.more k n.links;
      same = cc (l, r, rest);
    })

-- links for all questions
module _ (d d1 d2 : DraftTree) (x : Extends d d1) (y : Extends d1 d2) (q : Question) (i : IsAsked d q) (qs : List Question) (a : AreQuestions d1 q qs) (links : List Link) (n : AddsLinks d1 d2 [] links qs) where
  pub all_linked : All (IsShownLink d2) links
  all_linked = subst (All (IsShownLink d2)) (sym n.is) n.links

  pub parts_linked : ArePartsOf d2.task q.number (tree_at d2.trees q.left) (tree_at d2.trees q.right) (links_at d2.trees links)
  parts_linked =
      let l = tree_later d1 d2 y q.left (held_later d d1 x q.left i.pair.left.held) in
      let r = tree_later d1 d2 y q.right (held_later d d1 x q.right i.pair.right.held) in
      let same : links_at d2.trees links ≡ questions_at d1.trees qs = ap (links_at d2.trees) n.is ∙ n.same in
      rw (y.task, l, r, same) a.parts

-- ---- the measure
pub falls : (r s l m c : ℕ) → (r < s) ⊎ ((r ≤ s) × (l < m)) → l < 18446744073709551616 → 680564733841876926926749214863536422912 * r + 36893488147419103232 * l + 18446744073709551618 < 680564733841876926926749214863536422912 * s + 36893488147419103232 * m + c
falls r s l m c (inl h) k = omega (arith, h, k)
falls r s l m c (inr h) k = omega (arith, h.0, h.1, k)
