-- What is said of questions, pairs and links stays as the draft extends.
use Rattle.std.proofs.Common.{◌≡◌, ℕ, ◌<◌, ◌≤◌, ◌⊎◌, List, [], ◌∷◌, All, get_or, refl, sym, subst}
use Rattle.std.proofs.lemmas.List.Elements.{All-head, All-tail}
use Rattle.trees.specs.declared.TermId.{TermId}
use Rattle.trees.specs.Tree.{Tree, above_params}
use Rattle.trees.specs.Node.{tree_at}
use Rattle.tasks.specs.Task.{TaskTree, neg}
use Rattle.congruence.specs.kernel.rules.Forms.{alike}
use Rattle.evidence.specs.Drafts.{DraftTree, Extends, Refutes}
use Rattle.evidence.proofs.Rules.{refutes_later}
use Rattle.congruence.proofs.Later.{tree_later, held_later, pair_later, shows_at}
use Rattle.agreement.specs.declared.questions.Question.{Question}
use Rattle.agreement.specs.declared.questions.Link.{Link}
use Rattle.agreement.specs.Ranks.{rank, zero_ranks}
use Rattle.agreement.specs.Agreement.{AgreeWithin}
use Rattle.agreement.specs.Questions.{IsProvedPair, pairs_at, questions_at, links_at, IsAsked, IsShownLink, IsLower, AgreeAsked}

module _ (d d1 : DraftTree) (x : Extends d d1) where
  pub asked_later : (q : Question) → IsAsked d q → IsAsked d1 q
  asked_later q i = record {
    pair = pair_later d d1 x q.left q.right i.pair;
    left_above = subst (λ (z : Tree). above_params z ≤ q.number) (sym (tree_later d d1 x q.left i.pair.left.held)) i.left_above;
    right_above = subst (λ (z : Tree). above_params z ≤ q.number) (sym (tree_later d d1 x q.right i.pair.right.held)) i.right_above;
  }

  pub all_asked_later : (qs : List Question) → All (IsAsked d) qs → All (IsAsked d1) qs
  all_asked_later qs h = λ k e l. asked_later (get_or qs k e) (h k e l)

  pub pair_proved_later : (a : TermId × TermId × ℕ) → IsProvedPair d a → IsProvedPair d1 a
  pair_proved_later a p = record {
    left = held_later d d1 x a.0 p.left;
    right = held_later d d1 x a.1 p.right;
    refutes = subst (λ (z : Tree). Refutes d1 a.2 (neg (alike z (tree_at d1.trees a.1)) ∷ [])) (sym (tree_later d d1 x a.0 p.left))
        (subst (λ (z : Tree). Refutes d1 a.2 (neg (alike (tree_at d.trees a.0) z) ∷ [])) (sym (tree_later d d1 x a.1 p.right)) (refutes_later d d1 x a.2 _ p.refutes));
  }

  pub pairs_later : (as' : List (TermId × TermId × ℕ)) → All (IsProvedPair d) as' → All (IsProvedPair d1) as'
  pairs_later as' h = λ k e l. pair_proved_later (get_or as' k e) (h k e l)

  pub same_pairs : (as' : List (TermId × TermId × ℕ)) → All (IsProvedPair d) as' → pairs_at d1.trees as' ≡ pairs_at d.trees as'
  same_pairs [] h = refl
  same_pairs (a ∷ as') h =
      let p = All-head (IsProvedPair d) a as' h in
      let q : pairs_at d1.trees as' ≡ pairs_at d.trees as' = same_pairs as' (All-tail (IsProvedPair d) a as' h) in
      cc (tree_later d d1 x a.0 p.left, tree_later d d1 x a.1 p.right, q)

  pub agree_later : (pairs new : List (Tree × Tree)) (q : Question) → IsAsked d q → new ≡ pairs → AgreeAsked d pairs q → AgreeAsked d1 new q
  agree_later pairs new q i e (m, a) = (
    m,
    subst (λ (z : List (Tree × Tree)). AgreeWithin m d1.task z q.number (tree_at d1.trees q.left) (tree_at d1.trees q.right)) (sym e)
        (subst (λ (t : TaskTree). AgreeWithin m t pairs q.number (tree_at d1.trees q.left) (tree_at d1.trees q.right)) (sym x.task)
        (subst (λ (z : Tree). AgreeWithin m d.task pairs q.number z (tree_at d1.trees q.right)) (sym (tree_later d d1 x q.left i.pair.left.held))
        (subst (λ (z : Tree). AgreeWithin m d.task pairs q.number (tree_at d.trees q.left) z) (sym (tree_later d d1 x q.right i.pair.right.held)) a))),
  )

  pub lower_later : (p q : Question) → IsAsked d p → IsAsked d q → IsLower d.trees p q → IsLower d1.trees p q
  lower_later p q i j l =
      subst (λ (z : Tree). (rank z zero_ranks 0 < rank (tree_at d1.trees q.left) zero_ranks 0) ⊎ ((rank z zero_ranks 0 ≤ rank (tree_at d1.trees q.left) zero_ranks 0) × (p.left.0 < q.left.0))) (sym (tree_later d d1 x p.left i.pair.left.held))
      (subst (λ (z : Tree). (rank (tree_at d.trees p.left) zero_ranks 0 < rank z zero_ranks 0) ⊎ ((rank (tree_at d.trees p.left) zero_ranks 0 ≤ rank z zero_ranks 0) × (p.left.0 < q.left.0))) (sym (tree_later d d1 x q.left j.pair.left.held)) l)

  pub all_agree_later : (pairs new : List (Tree × Tree)) → new ≡ pairs → (qs : List Question) → All (IsAsked d) qs → All (AgreeAsked d pairs) qs → All (AgreeAsked d1 new) qs
  all_agree_later pairs new e qs i a = λ k z l. agree_later pairs new (get_or qs k z) (i k z l) e (a k z l)

  pub all_lower_later : (q : Question) → IsAsked d q → (qs : List Question) → All (IsAsked d) qs → All (λ p. IsLower d.trees p q) qs → All (λ p. IsLower d1.trees p q) qs
  all_lower_later q j qs i a = λ k z l. lower_later (get_or qs k z) q (i k z l) j (a k z l)

  pub link_later : (w : Link) → IsShownLink d w → IsShownLink d1 w
  link_later w h = record { pair = pair_later d d1 x w.left w.right h.pair; shows = shows_at d d1 x w.alike w.left w.right h.pair.left.held h.pair.right.held h.shows }

  pub links_later : (ws : List Link) → All (IsShownLink d) ws → All (IsShownLink d1) ws
  links_later ws h = λ k e l. link_later (get_or ws k e) (h k e l)

  pub same_links : (ws : List Link) → All (IsShownLink d) ws → links_at d1.trees ws ≡ links_at d.trees ws
  same_links [] h = refl
  same_links (w ∷ ws) h =
      let p = All-head (IsShownLink d) w ws h in
      let q : links_at d1.trees ws ≡ links_at d.trees ws = same_links ws (All-tail (IsShownLink d) w ws h) in
      cc (tree_later d d1 x w.left p.pair.left.held, tree_later d d1 x w.right p.pair.right.held, q)

  pub same_questions : (qs : List Question) → All (IsAsked d) qs → questions_at d1.trees qs ≡ questions_at d.trees qs
  same_questions [] h = refl
  same_questions (q ∷ qs) h =
      let p = All-head (IsAsked d) q qs h in
      let e : questions_at d1.trees qs ≡ questions_at d.trees qs = same_questions qs (All-tail (IsAsked d) q qs h) in
      cc (tree_later d d1 x q.left p.pair.left.held, tree_later d d1 x q.right p.pair.right.held, e)
