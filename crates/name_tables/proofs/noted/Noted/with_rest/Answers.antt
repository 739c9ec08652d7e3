use Rattle.std.proofs.Common.{◌≡◌, ℕ, List, length, arith, sym, ap, subst, ◌∙◌}
use Rattle.std.proofs.lemmas.Bool.Decides.{nat_tests}
use Rattle.std.proofs.lemmas.Result.{IfOk-weaker}
use Rattle.tasks.specs.Meaning.{task_at}
use Rattle.name_tables.specs.Seen.{seen_occurrences, IsSeen, KeysHeld, Sees}
use Rattle.name_tables.specs.Fronts.{rest_occurrences, things_among}
use Rattle.name_tables.proofs.Fronts.{things_with_rest, things_without_more}
use Rattle.name_tables.proofs.noted.Noted.with_rest.Goals as goal

pub note_rest-requires-clause-seen : goal.note_rest-requires-clause-seen
note_rest-requires-clause-seen c =
    let same = c.in_ok-seen.ensures in
    subst (IsSeen c.args.store.now) (sym same) c.requires.noted.seen.seen

pub note_rest-requires-clause-held : goal.note_rest-requires-clause-held
note_rest-requires-clause-held c = c.requires.held

pub returns-then-len : goal.returns-then-len
returns-then-len c =
    let s = c.args.store.now in
    let t = task_at s c.args.task.now in
    let n = c.args.self.now in
    let same = c.in_ok-seen.ensures in
    let rest : Sees s n.seen.keys (rest_occurrences t) c.note_rest.new.seen.keys = subst (λ (z : List (ℕ × ℕ)). Sees s z (rest_occurrences t) c.note_rest.new.seen.keys) same c.in_ok-note_rest.ensures in
    let none : length c.note_rest.new.seen.keys ≡ length n.seen.keys = grind (arith, nat_tests) in
    record {
      held = IfOk-weaker c.copied.result (λ v. v ≡ n.things) _ (λ v e. subst (KeysHeld s) (sym e) c.requires.noted.held) c.copied.ensures;
      things = IfOk-weaker c.copied.result (λ v. v ≡ n.things) _ (λ v e. ap (seen_occurrences s) e ∙ things_without_more s t n c.note_rest.new.seen.keys c.requires.noted rest none) c.copied.ensures;
    }

pub of_seen-requires : goal.of_seen-requires
of_seen-requires c = subst (KeysHeld c.args.store.now) (sym c.as_slice.ensures.keys) c.in_ok-note_rest.ensures.seen.held

pub returns : goal.returns
returns c =
    let s = c.args.store.now in
    let t = task_at s c.args.task.now in
    let n = c.args.self.now in
    let same = c.in_ok-seen.ensures in
    let rest : Sees s n.seen.keys (rest_occurrences t) c.note_rest.new.seen.keys = subst (λ (z : List (ℕ × ℕ)). Sees s z (rest_occurrences t) c.note_rest.new.seen.keys) same c.in_ok-note_rest.ensures in
    let all = ap (λ (z : List (ℕ × ℕ)). things_among t (seen_occurrences s z)) c.as_slice.ensures.keys ∙ things_with_rest s t n c.note_rest.new.seen.keys c.requires.noted rest in
    record {
      held = c.of_seen.ensures.held;
      things = IfOk-weaker c.of_seen.result (λ v. seen_occurrences s v ≡ things_among t (seen_occurrences s c.as_slice.result.now)) _ (λ v e. e ∙ all) c.of_seen.ensures.things;
    }
