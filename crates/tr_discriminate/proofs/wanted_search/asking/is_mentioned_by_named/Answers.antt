use Rattle.std.proofs.Common.{◌≡◌, ◌==◌, ◌&&◌, not, true, false, [], Bool, sym, ap, subst, ◌∙◌, arith}
use Rattle.std.proofs.lemmas.Bool.Decides.{nat_tests}
use Rattle.trees.specs.Node.{tree_at}
use Rattle.name_tables.specs.Seen.{GainsKeys}
use Rattle.tr_discriminate.specs.wanted_instances.Instances.{types_within, mentions}
use Rattle.tr_discriminate.specs.wanted_instances.Wanted.{is_of_symbol}
use Rattle.tr_discriminate.specs.wanted_search.Asking.{asking_at, IsAskingInstance}
use Rattle.tr_discriminate.proofs.wanted_search.Tests.{and_none, any_now, any_later, any_over, named_mentions, named_as}
use Rattle.tr_discriminate.proofs.wanted_search.asking.is_mentioned_by_named.Goals.{else-instance-ne0-via-then-instance-ne0+else-has_variable, else-instance-ne0-via-else-instance-ne0}
use Rattle.tr_discriminate.proofs.wanted_search.asking.is_mentioned_by_named.Goals as goal

pub returns-then-has_variable : goal.returns-then-has_variable
returns-then-has_variable c =
    let s = c.args.store.now in
    let j = c.args.number in
    let d = c.instance-item.result in
    let here : IsAskingInstance s d = subst (IsAskingInstance s) (sym c.instance-item.is) (c.requires c.loop-instance.instance-index d c.loop-instance-test.true) in
    let seen : c.has_variable.result ≡ mentions j (asking_at s d) = c.has_variable.ensures (tree_at s d.types) (subst (GainsKeys s [] (types_within (tree_at s d.types))) (sym c.as_slice.ensures) here.inside) in
    let named : not (d.symbol == 0) ≡ true = grind (arith, nat_tests) in
    let holds : named_mentions s j d ≡ true = ap (λ (b : Bool). b && mentions j (asking_at s d)) named ∙ (sym seen ∙ c.if-has_variable.true) in
    sym (any_now (named_mentions s j) c.args.instances.now c.loop-instance.instance-index d c.loop-instance-test.true (ap (named_mentions s j) (sym c.instance-item.is) ∙ holds)) ∙ c.loop-instance.invariant ∙ named_as s j c.args.instances.now

pub returns : goal.returns
returns c =
    let s = c.args.store.now in
    let j = c.args.number in
    sym (any_over (named_mentions s j) c.args.instances.now c.loop-instance.instance-index c.loop-instance-test.false) ∙ c.loop-instance.invariant ∙ named_as s j c.args.instances.now

pub loop-instance-preserved : goal.loop-instance-preserved
loop-instance-preserved c =
    let s = c.args.store.now in
    let j = c.args.number in
    let d = c.instance-item.result in
    let f = named_mentions s j in
    let here : IsAskingInstance s d = subst (IsAskingInstance s) (sym c.instance-item.is) (c.requires c.loop-instance.instance-index d c.loop-instance-test.true) in
    let none : named_mentions s j d ≡ false = elim c.else-instance-ne0.branch [
      | else-instance-ne0-via-then-instance-ne0+else-has_variable w ↦
          let seen : w.has_variable.result ≡ mentions j (asking_at s d) = w.has_variable.ensures (tree_at s d.types) (subst (GainsKeys s [] (types_within (tree_at s d.types))) (sym w.as_slice.ensures) here.inside) in
          ap (λ (b : Bool). is_of_symbol (asking_at s d) && b) (sym seen ∙ w.if-has_variable.false) ∙ and_none (is_of_symbol (asking_at s d))
      | else-instance-ne0-via-else-instance-ne0 w ↦ let q : not (d.symbol == 0) ≡ false = grind (arith, nat_tests, w.if-instance-ne0.false) in ap (λ (b : Bool). b && mentions j (asking_at s d)) q
    ] in
    sym (any_later f c.args.instances.now c.loop-instance.instance-index d c.loop-instance-test.true (ap f (sym c.instance-item.is) ∙ none)) ∙ c.loop-instance.invariant
