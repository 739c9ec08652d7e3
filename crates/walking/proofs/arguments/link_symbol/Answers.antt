use Rattle.evidence.specs.Laws.{AddsTrees_extends}
use Rattle.walking.proofs.ArgumentPlaces.{symbol_link}
use Rattle.walking.proofs.arguments.link_symbol.Goals as goal

pub returns-clause-link : goal.returns-clause-link
returns-clause-link c =
    let d = c.args.draft.now in
    let d1 = c.apply.new.draft in
    symbol_link d d1 (AddsTrees_extends d d1 c.in_ok-image.ensures.grows) c.args.env.now c.args.e c.args.left c.args.arguments c.args.symbol c.args.fresh c.requires.place c.requires.symbol_held c.requires.e_is c.args.made c.requires.made c.in_ok-image.image c.in_ok-image.ensures.held c.in_ok-image.ensures.tree
