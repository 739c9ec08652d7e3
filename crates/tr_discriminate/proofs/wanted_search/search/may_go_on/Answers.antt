use Rattle.std.proofs.Common.{◌≡◌, ◌<◌, ◌&&◌, ◌||◌, ℕ, Bool, false, not, [], sym, ap, subst, ◌∙◌}
use Rattle.std.specs.List.{list_any}
use Rattle.std.proofs.lemmas.Bool.{or_right}
use Rattle.trees.specs.Tree.{above_ty_vars}
use Rattle.trees.specs.Node.{tree_at, trees_at}
use Rattle.name_tables.specs.Occurrences.{Occurrence}
use Rattle.name_tables.specs.Seen.{seen_occurrences, GainsKeys}
use Rattle.tr_discriminate.specs.wanted_instances.Instances.{types_within, has_variable, mentions}
use Rattle.tr_discriminate.specs.wanted_instances.Wanted.{driving}
use Rattle.tr_discriminate.specs.wanted_instances.Search.{matches, may_mention}
use Rattle.tr_discriminate.proofs.wanted_search.Tests.{each_fails, each_more, asked_driving}
use Rattle.tr_discriminate.proofs.wanted_search.search.may_go_on.Goals.{else-has_variable-via-then-has_variable+else-not-is_asked, else-has_variable-via-else-has_variable}
use Rattle.tr_discriminate.proofs.wanted_search.search.may_go_on.Goals as goal

pub returns-then-not-is_asked : goal.returns-then-not-is_asked
returns-then-not-is_asked c =
    let s = c.args.store.now in
    let a = tree_at s c.args.a in
    let n = c.loop-number.number in
    let known = trees_at s c.args.known.now in
    let q = c.requires.asking in
    let asked : Bool = list_any (λ (o : Occurrence). mentions n o && list_any (matches known o) (seen_occurrences s c.args.set.now)) (driving a) in
    let inside = subst (GainsKeys s [] (types_within a)) (sym c.as_slice.ensures) q.inside in
    let has = sym (c.has_variable.ensures a inside) ∙ c.if-has_variable.true in
    let none : asked ≡ false = sym (asked_driving s c.args.set.now a c.args.asking.now known n q) ∙ (sym (c.is_asked.ensures c.args.set.now q.candidates) ∙ c.if-not-is_asked.true) in
    sym (each_fails (above_ty_vars a) n (may_mention (seen_occurrences s c.args.set.now) a known) (subst (λ (k : ℕ). n < k) q.above c.loop-number-test.true) (ap (λ (b : Bool). not b || asked) has ∙ none))

pub loop-number-preserved : goal.loop-number-preserved
loop-number-preserved c =
    let s = c.args.store.now in
    let a = tree_at s c.args.a in
    let n = c.loop-number.number in
    let known = trees_at s c.args.known.now in
    let q = c.requires.asking in
    let asked : Bool = list_any (λ (o : Occurrence). mentions n o && list_any (matches known o) (seen_occurrences s c.args.set.now)) (driving a) in
    let inside = subst (GainsKeys s [] (types_within a)) (sym c.as_slice.ensures) q.inside in
    each_more n (may_mention (seen_occurrences s c.args.set.now) a known) c.loop-number.invariant (elim c.else-has_variable.branch [
      | else-has_variable-via-then-has_variable+else-not-is_asked w ↦ or_right (not (has_variable n a)) asked (sym (asked_driving s c.args.set.now a c.args.asking.now known n q) ∙ (sym (w.is_asked.ensures c.args.set.now q.candidates) ∙ w.if-not-is_asked.false))
      | else-has_variable-via-else-has_variable w ↦ ap (λ (b : Bool). not b || asked) (sym (c.has_variable.ensures a inside) ∙ w.if-has_variable.false)
    ])
