use Rattle.std.proofs.Common.{◌++◌, List, length, ap, ◌∙◌, arith}
use Rattle.std.proofs.lemmas.Result.{IfOk-weaker}
use Rattle.std.proofs.lemmas.List.Elements.{All-append}
use Rattle.trees.specs.Node.{tree_at}
use Rattle.open_types.specs.declared.locals.Local.{Local}
use Rattle.open_types.specs.Drafts.{HoldsType}
use Rattle.open_types.proofs.Noting.{no_elements}
use Rattle.open_types.proofs.Walking.{grown_sort}
use Rattle.open_types.proofs.Matching.{pattern_cell_fits}
use Rattle.open_types.proofs.Fielding.{none_joined, more_joined, split_parts}
use Rattle.open_types.proofs.patterns.+join_parts.Goals as goal

pub returns-in_default-clause-joined : goal.returns-in_default-clause-joined
returns-in_default-clause-joined t c = rw (no_elements c.args.parts.now c.in_default.ensures.cases) (IfOk-weaker c.make.result _ _ (λ id m. none_joined c.make.ensures.grows c.requires.ready c.requires.held m) c.make.ensures.made)

pub join_parts-requires : goal.join_parts-requires
join_parts-requires t c =
    let p = split_parts c.args.store.now c.args.parts.now c.in-Some.rest.now c.in-Some.first.now c.in-Some.ensures.cases.0 c.requires.parts in
    let e = c.in_ok-push_locals.ensures ∙ ap (λ (xs : List Local). c.args.locals.now.items ++ xs) c.as_slice.ensures in
    (omega (arith, ap length c.in-Some.ensures.cases.0), (c.requires.ready, (rw e (All-append (λ (l : Local). HoldsType c.args.store.now l.ty) c.args.locals.now.items c.in-Some.first.now.variables c.requires.held p.0.variables), p.1)))

pub make-requires-2-clause-fits : goal.make-requires-2-clause-fits
make-requires-2-clause-fits t c =
    let p = split_parts c.args.store.now c.args.parts.now c.in-Some.rest.now c.in-Some.first.now c.in-Some.ensures.cases.0 c.requires.parts in
    pattern_cell_fits (tree_at c.join_parts.new.store c.in-Some.first.now.pattern) (tree_at c.join_parts.new.store c.in_ok-list.list) (grown_sort _ _ c.join_parts.ensures.grows p.0.pattern.held p.0.pattern.sort) c.in_ok-list.ensures.joined.patterns

pub returns-clause-joined : goal.returns-clause-joined
returns-clause-joined t c =
    let p = split_parts c.args.store.now c.args.parts.now c.in-Some.rest.now c.in-Some.first.now c.in-Some.ensures.cases.0 c.requires.parts in
    let e = c.in_ok-push_locals.ensures ∙ ap (λ (xs : List Local). c.args.locals.now.items ++ xs) c.as_slice.ensures in
    rw c.in-Some.ensures.cases.0 (IfOk-weaker c.make-2.result _ _ (λ id m. more_joined c.in-Some.first.now p.0 c.requires.ready c.requires.held e c.in_ok-list.ensures.joined c.join_parts.ensures.grows m c.make-2.ensures.grows) c.make-2.ensures.made)
