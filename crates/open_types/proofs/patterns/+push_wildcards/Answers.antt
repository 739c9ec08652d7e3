use Rattle.std.proofs.Common.{length, refl, ap, arith}
use Rattle.std.proofs.lemmas.Result.{on_ok_weaker}
use Rattle.open_types.specs.declared.patterns.Part.{Part}
use Rattle.open_types.proofs.Growing.{types_grow}
use Rattle.open_types.proofs.Fielding.{split_types, wildcard_part, wildcards_held, wildcards_more}
use Rattle.open_types.proofs.patterns.+push_wildcards.Goals as goal

pub push_wildcards-requires : goal.push_wildcards-requires
push_wildcards-requires t c =
    let s = c.args.store.now in
    let g = c.make.ensures.grows in
    let th = split_types s c.args.types.now c.in-Some.rest.now c.in-Some.first.now c.in-Some.ensures.cases.0 c.requires.types in
    let one = wildcard_part c.in-Some.first.now c.in_ok-pattern.ensures.made _ refl c.new-variables.ensures in
    (omega (arith, ap length c.in-Some.ensures.cases.0), (types_grow _ _ g c.in-Some.rest.now th.1, (c.in_ok-pattern.ensures.made.ready, wildcards_held s _ c.args.parts.now _ _ g c.requires.held one.0 c.in_ok-push.ensures.ok)))

pub returns-clause-parts : goal.returns-clause-parts
returns-clause-parts t c =
    let s = c.args.store.now in
    let th = split_types s c.args.types.now c.in-Some.rest.now c.in-Some.first.now c.in-Some.ensures.cases.0 c.requires.types in
    let one = wildcard_part c.in-Some.first.now c.in_ok-pattern.ensures.made _ refl c.new-variables.ensures in
    let p : Part = record { pattern = c.in_ok-pattern.pattern; variables = c.new-variables.result } in
    rw c.in-Some.ensures.cases.0 (on_ok_weaker c.push_wildcards.result (wildcards_more s _ _ c.args.parts.now _ _ p c.in-Some.first.now c.in-Some.rest.now c.make.ensures.grows c.requires.held th.1 c.in_ok-push.ensures.ok one.1) c.push_wildcards.ensures.parts)
