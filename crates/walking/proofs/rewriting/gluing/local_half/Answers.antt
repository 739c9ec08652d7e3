use Rattle.std.proofs.Common.{get_or}
use Rattle.tasks.specs.trees.declared.TermId.{TermId}
use Rattle.walking.proofs.rewriting.Starts.{local_formula, local_below, read_local}
use Rattle.walking.proofs.rewriting.Halves.{local_made}
use Rattle.walking.proofs.rewriting.gluing.local_half.Goals as goal

pub rewrite-requires-clause-formula : goal.rewrite-requires-clause-formula
rewrite-requires-clause-formula g c =
    let z : TermId = record { 0 = 0 } in
    let locals = c.as_slice-locals.result.now in
    local_formula c.args.draft.now c.args.from.now c.args.no_goal (g.F.RewriteFormulas.Ready c.args.rewrite.now) c.requires.can c.args.place (get_or locals c.args.place z) c.requires.within (read_local c.args.from.now.locals locals c.args.place z c.as_slice-locals.ensures c.requires.within)

pub rewrite-requires-clause-below : goal.rewrite-requires-clause-below
rewrite-requires-clause-below g c =
    let z : TermId = record { 0 = 0 } in
    let locals = c.as_slice-locals.result.now in
    local_below c.args.draft.now c.args.from.now c.args.no_goal (g.F.RewriteFormulas.Ready c.args.rewrite.now) c.requires.can c.args.place (get_or locals c.args.place z) c.requires.within (read_local c.args.from.now.locals locals c.args.place z c.as_slice-locals.ensures c.requires.within)

pub returns-clause-half : goal.returns-clause-half
returns-clause-half g c =
    let z : TermId = record { 0 = 0 } in
    let locals = c.as_slice-locals.result.now in
    local_made (g.F.RewriteFormulas.Ready c.args.rewrite.now) (g.F.RewriteFormulas.function c.args.rewrite.now) c.args.draft.now c.rewrite.new.draft c.args.from.now c.args.no_goal c.requires.can c.args.place (get_or locals c.args.place z) c.requires.within (read_local c.args.from.now.locals locals c.args.place z c.as_slice-locals.ensures c.requires.within)
    (record { image = c.in_ok-made.made.image; step = c.in_ok-made.made.there }) c.in_ok-made.ensures.formula c.in_ok-made.ensures.image c.in_ok-made.ensures.there
