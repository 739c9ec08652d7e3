use Rattle.std.proofs.Common.{◌≡◌, ◌+◌, [], ◌∷◌, ◌++◌, List, map, length, sym, ap, subst, ◌∙◌, arith}
use Rattle.std.proofs.lemmas.Result.{IfOk-weaker}
use Rattle.std.proofs.lemmas.List.{length-map}
use Rattle.trees.specs.Tree.{Tree}
use Rattle.tasks.specs.Meaning.{trees_at}
use Rattle.evidence.specs.Drafts.{Refutes}
use Rattle.evidence.specs.Laws.{Extends_trans, AddsTrees_refl, AddsTrees_extends}
use Rattle.evidence.proofs.Formulas.{same, formulas_later, back}
use Rattle.evidence.specs.proof_scripts.Scripts.{word_rule, ids_of, script_line_at, lines_at, sequents_under, Follows, CanFollow}
use Rattle.evidence.specs.proof_scripts.Words.{rule_past}
use Rattle.evidence.specs.proof_scripts.Derived.{all_added, Consumes}
use Rattle.evidence.proofs.proof_scripts.Following.{follows_later, word_later, word_same, all_later, all_same, lines_later, lines_same, opened, given_here, kept_here, first_held, rest_held, consumes_more, consumes_none, consumes_both, first_follows, second_follows, after_held, one_line_more, listed_held, listed_same, under_listed, first_added, rest_added, sequents_are, wider_trees, wider_formulas, wider_follows, wider_consumes, none_derived, rule_added, one_more, some_line}
use Rattle.evidence.proofs.proof_scripts.script.+walk.Goals as goal
use Rattle.tasks.proofs.outside.Passed.{no_value}

pub walk-by_given-requires-clause-given : goal.walk-by_given-requires-clause-given
walk-by_given-requires-clause-given t c =
    let d = c.args.draft.now in
    let s = d.trees in
    (given_here d (trees_at s c.args.front.now) (trees_at s c.args.tail.now) c.requires.follow.rest s c.args.lines.now c.in-Some.rest.now c.in-Some.line.now c.in-Some.ensures.cases.0 c.in-Given.step c.in-Given.count c.in-Given.is c.requires.follow.follows).0

pub walk-by_kept-requires-clause-kept : goal.walk-by_kept-requires-clause-kept
walk-by_kept-requires-clause-kept t c =
    let d = c.args.draft.now in
    let s = d.trees in
    (kept_here d (trees_at s c.args.front.now) (trees_at s c.args.tail.now) c.requires.follow.rest s c.args.lines.now c.in-Some.rest.now c.in-Some.line.now c.in-Some.ensures.cases.0 c.in-Kept.step c.in-Kept.places c.in-Kept.is c.requires.follow.follows).0

pub walk-returns-in_err-made-in-Given-clause-derived : goal.walk-returns-in_err-made-in-Given-clause-derived
walk-returns-in_err-made-in-Given-clause-derived t c = no_value _ _ c.from_residual.result c.from_residual.ensures.1

pub walk-returns-in_err-made-in-Given-clause-grows : goal.walk-returns-in_err-made-in-Given-clause-grows
walk-returns-in_err-made-in-Given-clause-grows t c = c.by_given.ensures.grows

pub walk-returns-in_ok-made-in-Given-clause-derived : goal.walk-returns-in_ok-made-in-Given-clause-derived
walk-returns-in_ok-made-in-Given-clause-derived t c =
    let s = c.args.draft.now.trees in
    let F = trees_at s c.args.front.now in
    let T = trees_at s c.args.tail.now in
    let rest = c.in-Some.rest.now in
    let q = c.in-Some.ensures.cases.0 in
    record {
      refutes = c.in_ok-made-in-Given.ensures.refutes;
      consumes = consumes_more F T s c.args.lines.now rest c.in-Some.line.now q 0 [] (λ d r h. (given_here d F T r s c.args.lines.now rest c.in-Some.line.now q c.in-Given.step c.in-Given.count c.in-Given.is h).1) (consumes_none F (lines_at s rest));
      some = omega arith;
      within = some_line s c.args.lines.now rest c.in-Some.line.now q;
    }

pub walk-returns-in_ok-made-in-Given-clause-grows : goal.walk-returns-in_ok-made-in-Given-clause-grows
walk-returns-in_ok-made-in-Given-clause-grows t c = c.in_ok-made-in-Given.ensures.grows

pub walk-returns-in_ok-made-in-Kept-clause-derived : goal.walk-returns-in_ok-made-in-Kept-clause-derived
walk-returns-in_ok-made-in-Kept-clause-derived t c =
    let s = c.args.draft.now.trees in
    let F = trees_at s c.args.front.now in
    let T = trees_at s c.args.tail.now in
    let rest = c.in-Some.rest.now in
    let q = c.in-Some.ensures.cases.0 in
    record {
      refutes = c.in_ok-made-in-Kept.ensures.refutes;
      consumes = consumes_more F T s c.args.lines.now rest c.in-Some.line.now q 0 [] (λ d r h. (kept_here d F T r s c.args.lines.now rest c.in-Some.line.now q c.in-Kept.step c.in-Kept.places c.in-Kept.is h).1) (consumes_none F (lines_at s rest));
      some = omega arith;
      within = some_line s c.args.lines.now rest c.in-Some.line.now q;
    }

pub walk-returns-in_ok-made-in-Kept-clause-grows : goal.walk-returns-in_ok-made-in-Kept-clause-grows
walk-returns-in_ok-made-in-Kept-clause-grows t c = c.in_ok-made-in-Kept.ensures.grows

pub walk-open_line-requires-clause-line : goal.walk-open_line-requires-clause-line
walk-open_line-requires-clause-line t c =
    let d = c.args.draft.now in
    let s = d.trees in
    first_held d (trees_at s c.args.front.now) (trees_at s c.args.tail.now) [] s c.args.lines.now c.in-Some.rest.now c.in-Some.line.now c.in-Some.ensures.cases.0 c.requires.lines

pub walk-open_line-requires-clause-opens : goal.walk-open_line-requires-clause-opens
walk-open_line-requires-clause-opens t c =
    let d = c.args.draft.now in
    let s = d.trees in
    record {
      more = lines_at s c.in-Some.rest.now;
      rest = c.requires.follow.rest;
      follows = opened d (trees_at s c.args.front.now) (trees_at s c.args.tail.now) c.requires.follow.rest s c.args.lines.now c.in-Some.rest.now c.in-Some.line.now c.in-Some.ensures.cases.0 c.requires.follow.follows;
    }

pub walk-returns-in_err-opened-in_default-clause-derived : goal.walk-returns-in_err-opened-in_default-clause-derived
walk-returns-in_err-opened-in_default-clause-derived t c = no_value _ _ c.from_residual-in_err-opened-in_default.result c.from_residual-in_err-opened-in_default.ensures.1

pub walk-returns-in_err-opened-in_default-clause-grows : goal.walk-returns-in_err-opened-in_default-clause-grows
walk-returns-in_err-opened-in_default-clause-grows t c = AddsTrees_extends _ _ c.open_line.ensures.grows

pub walk-returns-in_err-added-in_default-clause-derived : goal.walk-returns-in_err-added-in_default-clause-derived
walk-returns-in_err-added-in_default-clause-derived t c = no_value _ _ c.from_residual-in_err-added-in_default.result c.from_residual-in_err-added-in_default.ensures.1

pub walk-returns-in_err-added-in_default-clause-grows : goal.walk-returns-in_err-added-in_default-clause-grows
walk-returns-in_err-added-in_default-clause-grows t c = AddsTrees_extends _ _ c.in_ok-opened-in_default.ensures.grows

pub walk-by_word-requires : goal.walk-by_word-requires
walk-by_word-requires t c =
    let d = c.args.draft.now in
    let d1 = c.open_line.new.draft in
    let s = d.trees in
    let front = c.args.front.now in
    let tail = c.args.tail.now in
    let F = trees_at s front in
    let T = trees_at s tail in
    let rest = c.in-Some.rest.now in
    let q = c.in-Some.ensures.cases.0 in
    let o = c.in_ok-opened-in_default.ensures.opened in
    let x = AddsTrees_extends d d1 c.in_ok-opened-in_default.ensures.grows in
    let f = same d d1 x front c.requires.front in
    let g = same d d1 x tail c.requires.tail in
    let ids = c.deref.ensures.value in
    let v = c.in_ok-added-in_default.ensures in
    let first = c.in_ok-opened-in_default.opened.sides.first in
    let second = c.in_ok-opened-in_default.opened.sides.second in
    let e = ap (map ids_of) ids ∙ v in
    let all = listed_same d1 first second c.deref.result.now e in
    let held = rest_held d F T [] s c.args.lines.now rest c.in-Some.line.now q c.requires.lines in
    let left = o.opens d (lines_at s rest) c.requires.follow.rest (opened d F T c.requires.follow.rest s c.args.lines.now rest c.in-Some.line.now q c.requires.follow.follows) in
    let under = under_listed T _ _ _ all in (
      omega (arith, ap length q),
      (
        formulas_later d d1 x front c.requires.front,
        (
          formulas_later d d1 x tail c.requires.tail,
          (
            o.word,
            (
              o.fits,
              (
                listed_held d1 first second c.deref.result.now e o.first o.second,
                (
                  lines_later d d1 x rest held,
                  (
                    rw (f, g, all) o.rule,
                    rw (f, g, lines_same d d1 x rest held) (record { rest = c.requires.follow.rest; follows = follows_later d d1 x F (lines_at s rest) _ (subst (λ (z : List (List Tree)). Follows d F (lines_at s rest) (z ++ c.requires.follow.rest)) under left) }),
                  ),
                ),
              ),
            ),
          ),
        ),
      ),
    )

pub walk-returns-in_ok-added-in_default-clause-derived : goal.walk-returns-in_ok-added-in_default-clause-derived
walk-returns-in_ok-added-in_default-clause-derived t c =
    let d = c.args.draft.now in
    let d1 = c.open_line.new.draft in
    let s = d.trees in
    let front = c.args.front.now in
    let tail = c.args.tail.now in
    let F = trees_at s front in
    let T = trees_at s tail in
    let rest = c.in-Some.rest.now in
    let q = c.in-Some.ensures.cases.0 in
    let o = c.in_ok-opened-in_default.ensures.opened in
    let x = AddsTrees_extends d d1 c.in_ok-opened-in_default.ensures.grows in
    let held = rest_held d F T [] s c.args.lines.now rest c.in-Some.line.now q c.requires.lines in
    let ids = c.deref.ensures.value in
    let v = c.in_ok-added-in_default.ensures in
    let first = c.in_ok-opened-in_default.opened.sides.first in
    let second = c.in_ok-opened-in_default.opened.sides.second in
    let e = ap (map ids_of) ids ∙ v in
    let all = listed_same d1 first second c.deref.result.now e in
    let under = under_listed T _ _ _ all in
    IfOk-weaker c.by_word.result _ _ (λ r w.
    let z = rw (same d d1 x front c.requires.front, same d d1 x tail c.requires.tail, lines_same d d1 x rest held) at w in
    let n : length (lines_at s c.args.lines.now) ≡ length (lines_at s rest) + 1 = one_line_more s c.args.lines.now rest c.in-Some.line.now q in
    record {
      refutes = z.refutes;
      consumes = subst (Consumes F (lines_at s c.args.lines.now) (T ∷ [])) (sym z.is)
          (consumes_more F T s c.args.lines.now rest c.in-Some.line.now q z.following _ (λ g k h. subst (λ (y : List (List Tree)). Follows g F (lines_at s rest) (y ++ k)) under (o.opens g (lines_at s rest) k (opened g F T k s c.args.lines.now rest c.in-Some.line.now q h))) z.consumes);
      some = omega (arith, z.is);
      within = omega (arith, z.is, z.within, n);
    }) c.by_word.ensures.derived

pub walk-returns-in_ok-added-in_default-clause-grows : goal.walk-returns-in_ok-added-in_default-clause-grows
walk-returns-in_ok-added-in_default-clause-grows t c = Extends_trans _ _ _ (AddsTrees_extends _ _ c.in_ok-opened-in_default.ensures.grows) c.by_word.ensures.grows

-- ---- the rule's step
pub by_word-premises-requires : goal.by_word-premises-requires
by_word-premises-requires t c = (omega arith, (c.requires.front, (c.requires.tail, (c.requires.added, (c.requires.lines, c.requires.follow)))))

pub by_word-by_rule-requires-clause-front : goal.by_word-by_rule-requires-clause-front
by_word-by_rule-requires-clause-front t c = formulas_later c.args.draft.now c.premises.new.draft c.in_ok-used.ensures.grows c.args.front.now c.requires.front

pub by_word-by_rule-requires-clause-tail : goal.by_word-by_rule-requires-clause-tail
by_word-by_rule-requires-clause-tail t c = formulas_later c.args.draft.now c.premises.new.draft c.in_ok-used.ensures.grows c.args.tail.now c.requires.tail

pub by_word-by_rule-requires-clause-held : goal.by_word-by_rule-requires-clause-held
by_word-by_rule-requires-clause-held t c =
    let d1 = c.premises.new.draft in
    c.rule_of.ensures.held d1.trees (word_later c.args.draft.now d1 c.in_ok-used.ensures.grows c.args.word c.requires.word)

pub by_word-by_rule-requires-clause-names : goal.by_word-by_rule-requires-clause-names
by_word-by_rule-requires-clause-names t c =
    let d = c.args.draft.now in
    let d1 = c.premises.new.draft in
    let x = c.in_ok-used.ensures.grows in
    rw (c.rule_of.ensures.tree d1.trees, word_same d d1 x c.args.word c.requires.word, x.task) c.requires.rule.names

pub by_word-by_rule-requires-clause-added : goal.by_word-by_rule-requires-clause-added
by_word-by_rule-requires-clause-added t c =
    let d = c.args.draft.now in
    let d1 = c.premises.new.draft in
    let x = c.in_ok-used.ensures.grows in
    let s = d.trees in
    let F = c.args.front.now in
    let T = c.args.tail.now in
    let r = rule_added d d1 (trees_at s F) (trees_at s T) (rule_past c.args.before (word_rule s c.args.word)) (all_added s c.args.added.now) _ c.premises.new.steps.items x.task c.new-steps.ensures.items c.requires.rule c.in_ok-used.ensures.derived.refute in
    rw (same d d1 x F c.requires.front, same d d1 x T c.requires.tail, c.rule_of.ensures.tree d1.trees, word_same d d1 x c.args.word c.requires.word, c.deref.ensures.value) r

pub by_word-returns-in_err-used-clause-derived : goal.by_word-returns-in_err-used-clause-derived
by_word-returns-in_err-used-clause-derived t c = no_value _ _ c.from_residual.result c.from_residual.ensures.1

pub by_word-returns-in_err-used-clause-grows : goal.by_word-returns-in_err-used-clause-grows
by_word-returns-in_err-used-clause-grows t c = c.premises.ensures.grows

pub by_word-returns-in_err-step-clause-derived : goal.by_word-returns-in_err-step-clause-derived
by_word-returns-in_err-step-clause-derived t c = no_value _ _ c.from_residual-in_err-step.result c.from_residual-in_err-step.ensures.1

pub by_word-returns-in_err-step-clause-grows : goal.by_word-returns-in_err-step-clause-grows
by_word-returns-in_err-step-clause-grows t c = Extends_trans _ _ _ c.in_ok-used.ensures.grows c.by_rule.ensures.grows

pub by_word-returns-clause-derived : goal.by_word-returns-clause-derived
by_word-returns-clause-derived t c = record {
  refutes = back c.args.draft.now c.premises.new.draft c.in_ok-used.ensures.grows c.args.front.now c.args.tail.now c.requires.front c.requires.tail c.by_rule.new.draft c.in_ok-step.step c.in_ok-step.ensures.refutes;
  following = c.in_ok-used.used;
  is = omega arith;
  consumes = c.in_ok-used.ensures.derived.consumes;
  within = c.in_ok-used.ensures.derived.within;
}

pub by_word-returns-clause-grows : goal.by_word-returns-clause-grows
by_word-returns-clause-grows t c = Extends_trans _ _ _ c.in_ok-used.ensures.grows c.by_rule.ensures.grows

-- ---- the premises
pub premises-walk-requires : goal.premises-walk-requires
premises-walk-requires t c =
    let d = c.args.draft.now in
    let s = d.trees in
    let F = trees_at s c.args.front.now in
    let T = trees_at s c.args.tail.now in
    let w = c.deref.result.now in
    let fs = c.in-Some.first.now in
    let rest = c.in-Some.rest.now in
    let q = c.in-Some.ensures.cases.0 in
    let e : w ≡ c.args.tail.now ++ ids_of fs = c.deref.ensures.value ∙ c.in_ok-all-in-Some.ensures in
    let o = subst (CanFollow d F (lines_at s c.args.lines.now)) (sequents_are d c.args.added.now rest fs q T) c.requires.follow in
    let f = first_follows d F (lines_at s c.args.lines.now) ((T ++ trees_at s (ids_of fs)) ∷ []) (sequents_under T (all_added s rest)) o in
    (omega arith, (c.requires.front, (wider_formulas d [] c.args.tail.now w (ids_of fs) e c.requires.tail (first_added d c.args.added.now rest fs q c.requires.added), (c.requires.lines, wider_follows d [] c.args.tail.now w (ids_of fs) e F (lines_at s c.args.lines.now) f))))

pub premises-split_at-requires : goal.premises-split_at-requires
premises-split_at-requires t c = omega (arith, c.in_ok-made-in-Some.ensures.derived.within, length-map c.args.lines.now (script_line_at c.args.draft.now.trees))

pub premises-premises-requires : goal.premises-premises-requires
premises-premises-requires t c =
    let d = c.args.draft.now in
    let d1 = c.walk.new.draft in
    let x = c.in_ok-made-in-Some.ensures.grows in
    let r = c.in_ok-made-in-Some.ensures.derived in
    let s = d.trees in
    let F = trees_at s c.args.front.now in
    let T = trees_at s c.args.tail.now in
    let w = c.deref.result.now in
    let fs = c.in-Some.first.now in
    let rest = c.in-Some.rest.now in
    let q = c.in-Some.ensures.cases.0 in
    let b = c.split_at.result.1.now in
    let e : w ≡ c.args.tail.now ++ ids_of fs = c.deref.ensures.value ∙ c.in_ok-all-in-Some.ensures in
    let o = subst (CanFollow d F (lines_at s c.args.lines.now)) (sequents_are d c.args.added.now rest fs q T) c.requires.follow in
    let used = wider_consumes d [] c.args.tail.now w (ids_of fs) e F (lines_at s c.args.lines.now) c.in_ok-made-in-Some.made.used r.consumes in
    let g = follows_later d d1 x F (lines_at s b) _ (second_follows d F s c.args.lines.now b ((T ++ trees_at s (ids_of fs)) ∷ []) (sequents_under T (all_added s rest)) c.in_ok-made-in-Some.made.used c.split_at.ensures.back used o) in
    let held = after_held d c.args.lines.now b c.in_ok-made-in-Some.made.used c.split_at.ensures.back c.requires.lines in
    let added = rest_added d c.args.added.now rest fs q c.requires.added in (
      omega (arith, c.split_at.ensures.back_len, r.some, r.within, length-map c.args.lines.now (script_line_at s)),
      (
        formulas_later d d1 x c.args.front.now c.requires.front,
        (
          formulas_later d d1 x c.args.tail.now c.requires.tail,
          (
            all_later d d1 x rest added,
            (
              lines_later d d1 x b held,
              rw (same d d1 x c.args.front.now c.requires.front, same d d1 x c.args.tail.now c.requires.tail, all_same d d1 x rest added, lines_same d d1 x b held) (record { rest = o.rest; follows = g }),
            ),
          ),
        ),
      ),
    )

pub premises-returns-in-None-clause-derived : goal.premises-returns-in-None-clause-derived
premises-returns-in-None-clause-derived t c =
    let d = c.args.draft.now in
    none_derived d d.trees (trees_at d.trees c.args.front.now) (trees_at d.trees c.args.tail.now) (lines_at d.trees c.args.lines.now) c.args.added.now c.args.steps.now.items c.in-None.ensures.cases

pub premises-returns-in_err-all-in-Some-clause-derived : goal.premises-returns-in_err-all-in-Some-clause-derived
premises-returns-in_err-all-in-Some-clause-derived t c = no_value _ _ c.from_residual.result c.from_residual.ensures.1

pub premises-returns-in_err-made-in-Some-clause-derived : goal.premises-returns-in_err-made-in-Some-clause-derived
premises-returns-in_err-made-in-Some-clause-derived t c = no_value _ _ c.from_residual-in_err-made-in-Some.result c.from_residual-in_err-made-in-Some.ensures.1

pub premises-returns-in_err-push-in-Some-clause-derived : goal.premises-returns-in_err-push-in-Some-clause-derived
premises-returns-in_err-push-in-Some-clause-derived t c = no_value _ _ c.from_residual-in_err-push-in-Some.result c.from_residual-in_err-push-in-Some.ensures.1

pub premises-returns-in_err-more-in-Some-clause-derived : goal.premises-returns-in_err-more-in-Some-clause-derived
premises-returns-in_err-more-in-Some-clause-derived t c = no_value _ _ c.from_residual-in_err-more-in-Some.result c.from_residual-in_err-more-in-Some.ensures.1

pub premises-returns-in-None-clause-grows : goal.premises-returns-in-None-clause-grows
premises-returns-in-None-clause-grows t c = AddsTrees_extends _ _ (AddsTrees_refl _)

pub premises-returns-in_err-all-in-Some-clause-grows : goal.premises-returns-in_err-all-in-Some-clause-grows
premises-returns-in_err-all-in-Some-clause-grows t c = AddsTrees_extends _ _ (AddsTrees_refl _)

pub premises-returns-in_err-made-in-Some-clause-grows : goal.premises-returns-in_err-made-in-Some-clause-grows
premises-returns-in_err-made-in-Some-clause-grows t c = c.walk.ensures.grows

pub premises-returns-in_err-push-in-Some-clause-grows : goal.premises-returns-in_err-push-in-Some-clause-grows
premises-returns-in_err-push-in-Some-clause-grows t c = c.in_ok-made-in-Some.ensures.grows

pub premises-returns-in_err-more-in-Some-clause-grows : goal.premises-returns-in_err-more-in-Some-clause-grows
premises-returns-in_err-more-in-Some-clause-grows t c = Extends_trans _ _ _ c.in_ok-made-in-Some.ensures.grows c.premises.ensures.grows

pub premises-returns-in_ok-more-in-Some-clause-derived : goal.premises-returns-in_ok-more-in-Some-clause-derived
premises-returns-in_ok-more-in-Some-clause-derived t c =
    let d = c.args.draft.now in
    let d1 = c.walk.new.draft in
    let x = c.in_ok-made-in-Some.ensures.grows in
    let r = c.in_ok-made-in-Some.ensures.derived in
    let s = d.trees in
    let F = trees_at s c.args.front.now in
    let T = trees_at s c.args.tail.now in
    let w = c.deref.result.now in
    let fs = c.in-Some.first.now in
    let rest = c.in-Some.rest.now in
    let q = c.in-Some.ensures.cases.0 in
    let b = c.split_at.result.1.now in
    let e : w ≡ c.args.tail.now ++ ids_of fs = c.deref.ensures.value ∙ c.in_ok-all-in-Some.ensures in
    let m = wider_trees d [] c.args.tail.now w (ids_of fs) e in
    let used = wider_consumes d [] c.args.tail.now w (ids_of fs) e F (lines_at s c.args.lines.now) c.in_ok-made-in-Some.made.used r.consumes in
    let held = after_held d c.args.lines.now b c.in_ok-made-in-Some.made.used c.split_at.ensures.back c.requires.lines in
    let added = rest_added d c.args.added.now rest fs q c.requires.added in
    let v = rw (same d d1 x c.args.front.now c.requires.front, same d d1 x c.args.tail.now c.requires.tail, all_same d d1 x rest added, lines_same d d1 x b held) at c.in_ok-more-in-Some.ensures.derived in
    let n : length (lines_at s b) ≡ length b = length-map b (script_line_at s) in
    let k : length (lines_at s c.args.lines.now) ≡ length c.args.lines.now = length-map c.args.lines.now (script_line_at s) in
    rw (sequents_are d c.args.added.now rest fs q T) (record {
      refute = one_more d1 c.premises.new.draft c.in_ok-more-in-Some.ensures.grows F (T ++ trees_at s (ids_of fs)) (sequents_under T (all_added s rest)) c.in_ok-made-in-Some.made.step c.args.steps.now.items _ _ c.in_ok-push-in-Some.ensures.items
          (subst (λ (z : List Tree). Refutes d1 c.in_ok-made-in-Some.made.step (F ++ z)) m r.refutes) v.refute;
      consumes = consumes_both F s c.args.lines.now b ((T ++ trees_at s (ids_of fs)) ∷ []) (sequents_under T (all_added s rest)) c.in_ok-made-in-Some.made.used c.in_ok-more-in-Some.more c.split_at.ensures.back used v.consumes;
      within = omega (arith, v.within, n, k, r.within, c.split_at.ensures.back_len);
    })

pub premises-returns-in_ok-more-in-Some-clause-grows : goal.premises-returns-in_ok-more-in-Some-clause-grows
premises-returns-in_ok-more-in-Some-clause-grows t c = Extends_trans _ _ _ c.in_ok-made-in-Some.ensures.grows c.in_ok-more-in-Some.ensures.grows
