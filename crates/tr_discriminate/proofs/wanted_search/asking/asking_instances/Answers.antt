use Rattle.std.proofs.Common.{◌≡◌, ℕ, List, [], ◌∷◌, ◌++◌, map, take, sym, ap, subst, ◌∙◌}
use Rattle.std.specs.Prelude.{All}
use Rattle.std.proofs.lemmas.List.{map-append, map_more}
use Rattle.std.proofs.lemmas.List.Elements.{All-push}
use Rattle.name_tables.specs.Occurrences.{Occurrence}
use Rattle.name_tables.specs.Seen.{occurrence_at, seen_occurrences}
use Rattle.tr_discriminate.specs.wanted_search.Asking.{asking_at, IsAskingInstance, HasCandidates}
use Rattle.tr_discriminate.proofs.wanted_search.asking.asking_instances.Goals as goal

abbrev no_key : ℕ × ℕ
no_key = (0, 0)

pub loop-key-preserved : goal.loop-key-preserved
loop-key-preserved c =
    let s = c.args.store.now in
    let made = c.loop-key.made.items in
    let next = c.in_ok-next.next in
    let keys = c.args.occurring.now in
    let i = c.loop-key.key-index in
    let is : c.push.new.self.items ≡ made ++ next ∷ [] = c.in_ok-push.ensures.items in
    record {
      instances = subst (All (IsAskingInstance s)) (sym is) (All-push (IsAskingInstance s) made next c.loop-key.invariant.instances c.in_ok-next.ensures.instance);
      candidates = subst (All (HasCandidates c.args.set.now)) (sym is) (All-push (HasCandidates c.args.set.now) made next c.loop-key.invariant.candidates c.in_ok-next.ensures.candidates);
      are =
          ap (map (asking_at s)) is ∙ map-append (asking_at s) made (next ∷ []) ∙ ap (λ (z : List Occurrence). z ++ asking_at s next ∷ []) c.loop-key.invariant.are
          ∙ ap (λ (o : Occurrence). seen_occurrences s (take i keys) ++ o ∷ []) c.in_ok-next.ensures.is ∙ sym (map_more (occurrence_at s) keys i no_key c.loop-key-test.true);
    }
