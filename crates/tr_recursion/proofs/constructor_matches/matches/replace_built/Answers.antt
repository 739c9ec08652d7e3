use Rattle.tr_recursion.proofs.constructor_matches.OwnFields.{rebuilt_can, rebuilt_right}
use Rattle.tr_recursion.proofs.constructor_matches.matches.replace_built.Goals as goal

pub application_parts-made-requires-clause-held : goal.application_parts-made-requires-clause-held
application_parts-made-requires-clause-held c = c.requires.rebuilt.closed.held

pub application_parts-made-requires-clause-application : goal.application_parts-made-requires-clause-application
application_parts-made-requires-clause-application c = (_, (_, (_, (_, c.requires.rebuilt.is))))

pub application_parts-own-requires-clause-held : goal.application_parts-own-requires-clause-held
application_parts-own-requires-clause-held c = c.requires.rebuilt.scrutinee_held

pub application_parts-own-requires-clause-application : goal.application_parts-own-requires-clause-application
application_parts-own-requires-clause-application c = (_, (_, (_, (_, c.requires.rebuilt.application))))

pub replace_fields-requires : goal.replace_fields-requires
replace_fields-requires c =
    let d = c.args.draft.now in
    let t = c.in_ok-terms in
    let f = c.in_ok-fields in
    record { can = rw (c.new-before.ensures.items, c.deref.ensures.value, c.deref-2.ensures.value) (rebuilt_can d c.args.built c.args.scrutinee c.requires.rebuilt c.application_parts-made.result c.application_parts-own.result c.application_parts-made.ensures c.application_parts-own.ensures t.terms.items f.fields.items t.ensures.held t.ensures.trees f.ensures.held f.ensures.trees) }

pub returns-clause-right_is : goal.returns-clause-right_is
returns-clause-right_is c =
    let d = c.args.draft.now in
    let t = c.in_ok-terms in
    let f = c.in_ok-fields in
    rebuilt_right d c.args.built c.args.scrutinee c.requires.rebuilt c.application_parts-made.result c.application_parts-own.result c.application_parts-made.ensures c.application_parts-own.ensures t.terms.items f.fields.items t.ensures.held t.ensures.trees f.ensures.held f.ensures.trees _ (rw (c.new-before.ensures.items, c.deref-2.ensures.value) at c.in_ok-replaced.ensures.right_is)
