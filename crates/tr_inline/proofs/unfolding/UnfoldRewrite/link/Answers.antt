use Rattle.std.proofs.Common.{sym, subst}
use Rattle.tr_inline.proofs.Unfolded.{other_link}
use Rattle.tr_inline.proofs.unfolding.UnfoldRewrite.link.Goals as goal

pub returns-in-None-clause-link : goal.returns-in-None-clause-link
returns-in-None-clause-link c = other_link c.args.draft.now c.args.self.now.def.symbol c.args.env.now c.args.e c.args.left c.args.fresh c.requires.place c.in-None.ensures
