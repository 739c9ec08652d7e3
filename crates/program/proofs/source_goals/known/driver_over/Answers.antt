use Rattle.std.proofs.Common.{◌≡◌, ◌∙◌, map, ap}
use Rattle.tasks.specs.declared.signature.Signature.{Signature}
use Rattle.theories.specs.theory_states.goal_tasks.Meaning.{theories_at}
use Rattle.program.specs.source_goals.Known.{theory_in, known_of, named_bytes}
use Rattle.program.proofs.source_goals.KnownNames.{are_known}
use Rattle.program.proofs.source_goals.known.driver_over.Goals as goal

pub returns : goal.returns
returns g c = λ s.
    let all = c.args.all.now in
    let same : c.deref.result.now.symbols ≡ all.sig.value.symbols = ap (λ (z : Signature). z.symbols) c.deref.ensures in
    let told : map named_bytes c.deref-2.result.now ≡ map (theory_in all.decls) all.list =
    ap (map named_bytes) c.deref-2.ensures.value ∙ c.in_ok-known.ensures ∙ ap (map (theory_in all.decls)) c.as_slice.ensures in
    c.fetch_driver.ensures (known_of (theories_at s all)) (are_known s all c.deref.result.now.symbols c.deref-2.result.now same told)
