use Rattle.std.proofs.Common.{ℕ, Bool, List, drop, sym, ap, ◌∙◌}
use Rattle.std.specs.List.{list_any}
use Rattle.trees.specs.Tree.{Tree}
use Rattle.trees.specs.Node.{tree_at, trees_at}
use Rattle.tr_discriminate.specs.wanted_instances.Search.{may_fit}
use Rattle.tr_discriminate.specs.wanted_search.Asking.{asking_at}
use Rattle.tr_discriminate.specs.wanted_search.Search.{key_type}
use Rattle.tr_discriminate.proofs.wanted_search.Tests.{any_now, any_over, matched_among}
use Rattle.tr_discriminate.proofs.wanted_search.search.is_matched.Goals as goal

abbrev fits : List Tree → List Tree → Tree → ℕ × ℕ → Bool
fits s known e k = may_fit known e (key_type s k)

abbrev no_key : ℕ × ℕ
no_key = (0, 0)

pub returns-then-may_fit : goal.returns-then-may_fit
returns-then-may_fit c = λ set e.
    let s = c.args.store.now in
    let d = c.args.instance.now in
    let known = trees_at s c.args.known.now in
    let f = fits s known (tree_at s d.types) in
    let i = c.loop-key.key-index in
    sym (any_now f c.as_slice-key-items.result.now i no_key c.loop-key-test.true (sym c.may_fit.ensures ∙ c.if-may_fit.true))
    ∙ ap (λ (z : List (ℕ × ℕ)). list_any f (drop i z)) c.as_slice-key-items.ensures
    ∙ c.loop-key.invariant ∙ ap (list_any f) e ∙ matched_among s set known (asking_at s d)

pub returns : goal.returns
returns c = λ set e.
    let s = c.args.store.now in
    let d = c.args.instance.now in
    let known = trees_at s c.args.known.now in
    let f = fits s known (tree_at s d.types) in
    let i = c.loop-key.key-index in
    sym (any_over f c.as_slice-key-items.result.now i c.loop-key-test.false)
    ∙ ap (λ (z : List (ℕ × ℕ)). list_any f (drop i z)) c.as_slice-key-items.ensures
    ∙ c.loop-key.invariant ∙ ap (list_any f) e ∙ matched_among s set known (asking_at s d)
