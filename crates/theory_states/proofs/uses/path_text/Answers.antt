use Rattle.std.proofs.Common.{◌≡◌, ◌+◌, ◌++◌, [], ◌∷◌, drop, drop-cons, get_or, add-one, append_assoc, append-nil, sym, ap, ◌∙◌}
use Rattle.std.proofs.lemmas.List.{drop_all}
use Rattle.theory_states.specs.Uses.{parts_after, path_text}
use Rattle.theory_states.proofs.uses.path_text.Goals as goal

pub loop-part-preserved : goal.loop-part-preserved
loop-part-preserved c =
    let rest = c.in-Some.rest.now in
    let bytes = c.loop-part.bytes.items in
    let i = c.loop-part.part-index in
    let p = c.part-item.result in
    let last = parts_after (drop (i + 1) rest) in
    let here : 46 ∷ (p ++ last) ≡ parts_after (drop i rest) =
    ap (λ q. 46 ∷ (q ++ last)) c.part-item.is ∙ ap (λ n. 46 ∷ (get_or rest i p ++ parts_after (drop n rest))) (add-one i) ∙ sym (ap parts_after (drop-cons rest i p c.loop-part-test.true)) in
    let more : c.extend_from_slice.new.self.items ≡ (bytes ++ 46 ∷ []) ++ p = c.in_ok-extend_from_slice.ensures.items ∙ ap (λ z. z ++ c.as_slice-in-loop-part.result.now) c.in_ok-push.ensures.items ∙ ap (λ z. (bytes ++ 46 ∷ []) ++ z) c.as_slice-in-loop-part.ensures in
    ap (λ z. z ++ last) more ∙ append_assoc (bytes ++ 46 ∷ []) p last ∙ append_assoc bytes (46 ∷ []) (p ++ last) ∙ ap (λ z. bytes ++ z) here ∙ c.loop-part.invariant

pub returns : goal.returns
returns c =
    let rest = c.in-Some.rest.now in
    let l = c.loop-part in
    let first : c.in_ok-bytes.bytes.items ≡ c.in-Some.first.now = c.in_ok-bytes.ensures.items ∙ c.as_slice.ensures in
    c.from_vec-2.ensures ∙ sym (append-nil l.bytes.items) ∙ ap (λ z. l.bytes.items ++ parts_after z) (sym (drop_all l.part-index rest c.loop-part-test.false)) ∙ l.invariant ∙ ap (λ z. z ++ parts_after rest) first ∙ ap path_text (sym c.in-Some.ensures.cases.0)
