use Rattle.std.proofs.Common.{◌+◌, Bool, List, drop, sym, ap, subst, ◌∙◌}
use Rattle.std.specs.Prelude.{All}
use Rattle.std.specs.List.{list_any}
use Rattle.trees.specs.Tree.{Tree}
use Rattle.trees.specs.Node.{trees_at}
use Rattle.name_tables.specs.Occurrences.{Occurrence}
use Rattle.name_tables.specs.Seen.{seen_occurrences}
use Rattle.tr_discriminate.specs.declared.wanted_search.asking.AskingInstance.{AskingInstance}
use Rattle.tr_discriminate.specs.wanted_search.Asking.{asking_at, HasCandidates}
use Rattle.tr_discriminate.specs.wanted_search.Search.{may_ask}
use Rattle.tr_discriminate.proofs.wanted_search.Tests.{any_map, any_now, any_later, any_over}
use Rattle.tr_discriminate.proofs.wanted_search.search.is_asked.Goals as goal

abbrev instance_asks : List Tree → (Occurrence → Bool) → AskingInstance → Bool
instance_asks s g d = g (asking_at s d)

pub returns-then-may_ask : goal.returns-then-may_ask
returns-then-may_ask c = λ set h.
    let s = c.args.store.now in
    let d = c.instance-item.result in
    let i = c.loop-instance.instance-index in
    let g = may_ask (seen_occurrences s set) c.args.asking.now.named_only (trees_at s c.args.known.now) c.args.number in
    let f = instance_asks s g in
    let there = subst (All (HasCandidates set)) (sym c.as_slice-instance-items.ensures) h in
    let mine : HasCandidates set d = subst (HasCandidates set) (sym c.instance-item.is) (there i d c.loop-instance-test.true) in
    sym (any_now f c.as_slice-instance-items.result.now i d c.loop-instance-test.true (ap f (sym c.instance-item.is) ∙ (sym (c.may_ask.ensures set mine) ∙ c.if-may_ask.true)))
    ∙ ap (λ (z : List AskingInstance). list_any f (drop i z)) c.as_slice-instance-items.ensures
    ∙ c.loop-instance.invariant set h ∙ sym (any_map g (asking_at s) c.args.asking.now.instances)

pub loop-instance-preserved : goal.loop-instance-preserved
loop-instance-preserved c = λ set h.
    let s = c.args.store.now in
    let d = c.instance-item.result in
    let i = c.loop-instance.instance-index in
    let g = may_ask (seen_occurrences s set) c.args.asking.now.named_only (trees_at s c.args.known.now) c.args.number in
    let f = instance_asks s g in
    let there = subst (All (HasCandidates set)) (sym c.as_slice-instance-items.ensures) h in
    let mine : HasCandidates set d = subst (HasCandidates set) (sym c.instance-item.is) (there i d c.loop-instance-test.true) in
    sym (ap (λ (z : List AskingInstance). list_any f (drop (i + 1) z)) c.as_slice-instance-items.ensures)
    ∙ sym (any_later f c.as_slice-instance-items.result.now i d c.loop-instance-test.true (ap f (sym c.instance-item.is) ∙ (sym (c.may_ask.ensures set mine) ∙ c.if-may_ask.false)))
    ∙ ap (λ (z : List AskingInstance). list_any f (drop i z)) c.as_slice-instance-items.ensures
    ∙ c.loop-instance.invariant set h

pub returns : goal.returns
returns c = λ set h.
    let s = c.args.store.now in
    let i = c.loop-instance.instance-index in
    let g = may_ask (seen_occurrences s set) c.args.asking.now.named_only (trees_at s c.args.known.now) c.args.number in
    let f = instance_asks s g in
    sym (any_over f c.as_slice-instance-items.result.now i c.loop-instance-test.false)
    ∙ ap (λ (z : List AskingInstance). list_any f (drop i z)) c.as_slice-instance-items.ensures
    ∙ c.loop-instance.invariant set h ∙ sym (any_map g (asking_at s) c.args.asking.now.instances)
