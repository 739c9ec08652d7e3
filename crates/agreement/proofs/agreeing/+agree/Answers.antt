use Rattle.std.proofs.Common.{◌≡◌, IsTrue, false, List, [], All, length, refl, sym, ap, subst, arith}
use Rattle.std.proofs.lemmas.Result.{IfOk-weaker}
use Rattle.std.proofs.lemmas.List.Elements.{All-head, All-tail}
use Rattle.trees.specs.Tree.{Tree}
use Rattle.trees.specs.Node.{tree_at}
use Rattle.evidence.specs.Laws.{Extends_trans, AddsTrees_extends}
use Rattle.congruence.specs.Alike.{Shows}
use Rattle.congruence.proofs.Later.{held_later, tree_later}
use Rattle.agreement.specs.declared.questions.Question.{Question}
use Rattle.agreement.specs.Ranks.{rank, zero_ranks}
use Rattle.agreement.specs.declared.questions.Link.{Link}
use Rattle.agreement.specs.Agreement.{ArePartsOf}
use Rattle.agreement.specs.Questions.{IsAsked, IsLower, IsShownLink, AgreeAsked, AddsLinks, pairs_at, links_at}
use Rattle.agreement.proofs.QuestionsLater.{asked_later, all_asked_later, pairs_later, same_pairs, all_agree_later, all_lower_later}
use Rattle.agreement.proofs.FoundLinks.{known_later, known_more, parts_agree, parts_exist, questions_agree, no_questions, links_none, links_more, all_linked, parts_linked, falls}
use Rattle.agreement.proofs.ShownSince.{shown_since}
use Rattle.agreement.proofs.agreeing.+agree.Goals as goal

true_no_false : IsTrue false → ⊥
true_no_false x = cc

-- ---- agree
pub agree-returns-in-Some-clause-shows : goal.agree-returns-in-Some-clause-shows
agree-returns-in-Some-clause-shows t c = (c.requires.known c.args.q.left.0 c.args.q.right.0 c.in-Some.made.now (sym c.in-Some.ensures.value)).1.1

pub agree-agree_apart-requires : goal.agree-agree_apart-requires
agree-agree_apart-requires t c =
    let d = c.args.draft.now in
    let q = c.args.q in
    let r = c.requires in
    let apart : tree_at d.trees q.left ≡ tree_at d.trees q.right → ⊥ = λ e. true_no_false (subst IsTrue c.if-same.false (c.same.ensures.trees.1 (subst (λ (s : List Tree). tree_at s q.left ≡ tree_at s q.right) (sym c.store.ensures) e))) in
    (omega arith, (r.atoms, (r.known, (r.asked, (r.agree, apart)))))

pub agree-returns-clause-known : goal.agree-returns-clause-known
agree-returns-clause-known t c =
    let d = c.args.draft.now in
    let d1 = c.agree_apart.new.draft in
    let x = c.in_ok-made.ensures.grows in
    let q = c.args.q in
    let p = c.requires.asked.pair in
    let s : Shows d1 c.in_ok-made.made (tree_at d1.trees q.left) (tree_at d1.trees q.right) = rw (tree_later d d1 x q.left p.left.held, tree_later d d1 x q.right p.right.held) c.in_ok-made.ensures.shows in
    known_more d1 c.agree_apart.new.known c.insert.new.self q.left q.right c.in_ok-made.made c.in_ok-made.ensures.known (held_later d d1 x q.left p.left.held) (held_later d d1 x q.right p.right.held) s c.in_ok-insert.ensures.updates.0

-- ---- agree_apart
pub agree_apart-returns-in-Some-clause-known : goal.agree_apart-returns-in-Some-clause-known
agree_apart-returns-in-Some-clause-known t c = IfOk-weaker c.alike_by_step.result _ _ (λ w s. known_later c.args.draft.now c.alike_by_step.new.draft c.alike_by_step.ensures.grows c.args.known.now c.requires.known) c.alike_by_step.ensures.shows

pub agree_apart-agree_parts-requires : goal.agree_apart-agree_parts-requires
agree_apart-agree_parts-requires t c =
    let d = c.args.draft.now in
    let q = c.args.q in
    let r = c.requires in
    let p = parts_agree d (pairs_at d.trees c.args.atoms.now) q r.agree r.apart (c.in-None.ensures.none refl) in
    (omega arith, (r.atoms, (r.known, (r.asked, p))))

-- ---- agree_parts
pub agree_parts-parts_of-requires-clause-parts : goal.agree_parts-parts_of-requires-clause-parts
agree_parts-parts_of-requires-clause-parts t c = parts_exist c.args.draft.now (pairs_at c.args.draft.now.trees c.args.atoms.now) c.args.q c.requires.parts

pub agree_parts-agree_all-requires : goal.agree_parts-agree_all-requires
agree_parts-agree_all-requires t c =
    let d = c.args.draft.now in
    let d1 = c.parts_of.new.draft in
    let x = AddsTrees_extends d d1 c.in_ok-questions.ensures.grows in
    let q = c.args.q in
    let r = c.requires in
    let a = c.in_ok-questions.ensures.parts in
    let as' = c.args.atoms.now in
    let same = same_pairs d d1 x as' r.atoms in
    let agree = questions_agree d d1 x (pairs_at d.trees as') (pairs_at d1.trees as') q c.in_ok-questions.questions.items r.asked same r.parts a in
    let same_rank = ap (λ (z : Tree). rank z zero_ranks 0) (tree_later d d1 x q.left r.asked.pair.left.held) in
    let v = sym c.deref.ensures.value in
    let low = subst (All (λ (p : Question). IsLower d1.trees p q)) v a.lower in
    (omega (arith, same_rank), (pairs_later d d1 x as' r.atoms, (known_later d d1 x c.args.known.now r.known, (asked_later d d1 x q r.asked, (subst (All (IsAsked d1)) v a.asked, (subst (All (AgreeAsked d1 (pairs_at d1.trees as'))) v agree, low))))))

pub agree_parts-answer-requires : goal.agree_parts-answer-requires
agree_parts-answer-requires t c =
    let d = c.args.draft.now in
    let d1 = c.parts_of.new.draft in
    let d2 = c.agree_all.new.draft in
    let q = c.args.q in
    record {
      linked = record {
        asked = asked_later d d2 (Extends_trans d d1 d2 (AddsTrees_extends d d1 c.in_ok-questions.ensures.grows) c.in_ok-agree_all.ensures.grows) q c.requires.asked;
        linked = subst (All (IsShownLink d2)) (sym c.deref-2.ensures.value) (all_linked d d1 d2 (AddsTrees_extends d d1 c.in_ok-questions.ensures.grows) c.in_ok-agree_all.ensures.grows c.args.q c.requires.asked c.in_ok-questions.questions.items c.in_ok-questions.ensures.parts c.agree_all.new.links.items (subst (AddsLinks d1 d2 [] c.agree_all.new.links.items) c.deref.ensures.value (rw c.new-links.ensures.items at c.in_ok-agree_all.ensures.links)));
        parts = subst (λ (z : List Link). ArePartsOf d2.task q.number (tree_at d2.trees q.left) (tree_at d2.trees q.right) (links_at d2.trees z)) (sym c.deref-2.ensures.value) (parts_linked d d1 d2 (AddsTrees_extends d d1 c.in_ok-questions.ensures.grows) c.in_ok-agree_all.ensures.grows c.args.q c.requires.asked c.in_ok-questions.questions.items c.in_ok-questions.ensures.parts c.agree_all.new.links.items (subst (AddsLinks d1 d2 [] c.agree_all.new.links.items) c.deref.ensures.value (rw c.new-links.ensures.items at c.in_ok-agree_all.ensures.links)));
      };
    }

pub agree_parts-returns-clause-shows : goal.agree_parts-returns-clause-shows
agree_parts-returns-clause-shows t c =
    let d = c.args.draft.now in
    let d1 = c.parts_of.new.draft in
    let d2 = c.agree_all.new.draft in
    shown_since c.answer.result d d2 c.answer.new.draft (Extends_trans d d1 d2 (AddsTrees_extends d d1 c.in_ok-questions.ensures.grows) c.in_ok-agree_all.ensures.grows) c.args.q.left c.args.q.right c.requires.asked.pair c.answer.ensures.shows

pub agree_parts-returns-clause-known : goal.agree_parts-returns-clause-known
agree_parts-returns-clause-known t c = IfOk-weaker c.answer.result _ _ (λ w s. known_later c.agree_all.new.draft c.answer.new.draft c.answer.ensures.grows c.agree_all.new.known c.in_ok-agree_all.ensures.known) c.answer.ensures.shows

pub agree_parts-returns-clause-grows : goal.agree_parts-returns-clause-grows
agree_parts-returns-clause-grows t c = Extends_trans _ _ _ (Extends_trans _ _ _ (AddsTrees_extends _ _ c.in_ok-questions.ensures.grows) c.in_ok-agree_all.ensures.grows) c.answer.ensures.grows

-- ---- agree_all
pub agree_all-returns-in_ok-push-in-Some-clause-grows : goal.agree_all-returns-in_ok-push-in-Some-clause-grows
agree_all-returns-in_ok-push-in-Some-clause-grows t c = Extends_trans _ _ _ c.in_ok-alike-in-Some.ensures.grows c.agree_all.ensures.grows

pub agree_all-agree-requires : goal.agree_all-agree-requires
agree_all-agree-requires t c =
    let d = c.args.draft.now in
    let r = c.requires in
    let first = c.in-Some.first.now in
    let others = c.in-Some.others.now in
    let e = c.in-Some.ensures.cases.0 in
    let asked = All-head (IsAsked d) first others (subst (All (IsAsked d)) e r.asked) in
    let agree = All-head (AgreeAsked d (pairs_at d.trees c.args.atoms.now)) first others (subst (All (AgreeAsked d (pairs_at d.trees c.args.atoms.now))) e r.agree) in
    let low = All-head (λ (p : Question). IsLower d.trees p c.args.whole) first others (subst (All (λ (p : Question). IsLower d.trees p c.args.whole)) e r.lower) in
    let f = falls (rank (tree_at d.trees first.left) zero_ranks 0) (rank (tree_at d.trees c.args.whole.left) zero_ranks 0) first.left.0 c.args.whole.left.0 (length c.args.questions.now) low (omega arith) in
    (omega (arith, f), (r.atoms, (r.known, (asked, agree))))

pub agree_all-agree_all-requires : goal.agree_all-agree_all-requires
agree_all-agree_all-requires t c =
    let d = c.args.draft.now in
    let d1 = c.agree.new.draft in
    let x = c.in_ok-alike-in-Some.ensures.grows in
    let r = c.requires in
    let first = c.in-Some.first.now in
    let others = c.in-Some.others.now in
    let e = c.in-Some.ensures.cases.0 in
    let less = ap length e in
    let as' = c.args.atoms.now in
    let whole = c.args.whole in
    let same_rank = ap (λ (z : Tree). rank z zero_ranks 0) (tree_later d d1 x whole.left r.whole.pair.left.held) in
    let asked = All-tail (IsAsked d) first others (subst (All (IsAsked d)) e r.asked) in
    let agree = All-tail (AgreeAsked d (pairs_at d.trees as')) first others (subst (All (AgreeAsked d (pairs_at d.trees as'))) e r.agree) in
    let low = All-tail (λ (p : Question). IsLower d.trees p whole) first others (subst (All (λ (p : Question). IsLower d.trees p whole)) e r.lower) in
    let all_agree = all_agree_later d d1 x (pairs_at d.trees as') (pairs_at d1.trees as') (same_pairs d d1 x as' r.atoms) others asked agree in
    let all_lower = all_lower_later d d1 x whole r.whole others asked low in
    (omega (arith, less, same_rank), (pairs_later d d1 x as' r.atoms, (c.in_ok-alike-in-Some.ensures.known, (asked_later d d1 x whole r.whole, (all_asked_later d d1 x others asked, (all_agree, all_lower))))))

pub agree_all-returns-in_ok-push-in-Some-clause-links : goal.agree_all-returns-in_ok-push-in-Some-clause-links
agree_all-returns-in_ok-push-in-Some-clause-links t c =
    let first = c.in-Some.first.now in
    let others = c.in-Some.others.now in
    let e = c.in-Some.ensures.cases.0 in
    IfOk-weaker c.agree_all.result _ _
    (λ u a. links_more c.args.draft.now c.agree.new.draft c.agree_all.new.draft c.in_ok-alike-in-Some.ensures.grows c.agree_all.ensures.grows first others (subst (All (IsAsked c.args.draft.now)) e c.requires.asked) c.in_ok-alike-in-Some.alike c.in_ok-alike-in-Some.ensures.shows
    c.args.links.now.items c.push.new.self.items c.agree_all.new.links.items c.in_ok-push-in-Some.ensures.items a c.args.questions.now e)
    c.agree_all.ensures.links

pub agree_all-returns-in-None-clause-links : goal.agree_all-returns-in-None-clause-links
agree_all-returns-in-None-clause-links t c = links_none c.args.draft.now c.args.links.now.items c.args.questions.now (no_questions c.args.questions.now c.in-None.ensures.cases)
