use Rattle.evidence.specs.Laws.{Extends_trans, AddsTrees_extends}
use Rattle.evidence.proofs.Lifted.{own_later}
use Rattle.walking.proofs.rewriting.Facts.{old_fact, lemma_there, half_there}
use Rattle.walking.proofs.rewriting.citing.cite_proposition.Goals as goal

pub fact_lemma-requires-clause-fact : goal.fact_lemma-requires-clause-fact
fact_lemma-requires-clause-fact g c = old_fact c.args.draft.now c.proposition_at.new.draft (AddsTrees_extends _ _ c.in_ok-old.ensures.grows) c.args.number c.args.types.now c.requires.types_held c.requires.image.at c.in_ok-old.old c.in_ok-old.ensures.made

pub rewrite-requires-clause-own : goal.rewrite-requires-clause-own
rewrite-requires-clause-own g c = own_later c.args.draft.now c.fact_lemma.new.draft c.args.from.now (Extends_trans _ _ _ (AddsTrees_extends _ _ c.in_ok-old.ensures.grows) c.in_ok-lemma.ensures.grows) c.requires.own

pub returns-in_err-made-clause-grows : goal.returns-in_err-made-clause-grows
returns-in_err-made-clause-grows g c = Extends_trans _ _ _ (Extends_trans _ _ _ (AddsTrees_extends _ _ c.in_ok-old.ensures.grows) c.in_ok-lemma.ensures.grows) c.rewrite.ensures.grows

pub refute_image-requires-clause-there : goal.refute_image-requires-clause-there
refute_image-requires-clause-there g c =
    half_there c.args.draft.now c.proposition_at.new.draft c.fact_lemma.new.draft c.rewrite.new.draft (AddsTrees_extends _ _ c.in_ok-old.ensures.grows) c.in_ok-lemma.ensures.grows c.in_ok-made.ensures.grows c.args.number _ c.in_ok-old.old c.in_ok-old.ensures.made c.requires.own.valid
    (g.F.RewriteFormulas.function c.args.rewrite.now) (g.met.F.RewriteFormulas.at_types c.args.rewrite.now c.args.draft.now.task c.requires.own.valid) c.args.formula c.requires.formula c.requires.image c.in_ok-made.made.image c.in_ok-made.ensures.image c.in_ok-made.made.there c.in_ok-made.ensures.there

pub refute_image-requires-clause-lemma : goal.refute_image-requires-clause-lemma
refute_image-requires-clause-lemma g c =
    lemma_there c.args.draft.now c.proposition_at.new.draft c.fact_lemma.new.draft c.rewrite.new.draft (AddsTrees_extends _ _ c.in_ok-old.ensures.grows) c.in_ok-lemma.ensures.grows c.in_ok-made.ensures.grows c.args.number _ c.in_ok-old.old c.in_ok-old.ensures.made c.in_ok-lemma.lemma c.in_ok-lemma.ensures.refutes

pub returns-in_err-step-clause-grows : goal.returns-in_err-step-clause-grows
returns-in_err-step-clause-grows g c = Extends_trans _ _ _ (Extends_trans _ _ _ (Extends_trans _ _ _ (AddsTrees_extends _ _ c.in_ok-old.ensures.grows) c.in_ok-lemma.ensures.grows) c.in_ok-made.ensures.grows) c.refute_image.ensures.grows

pub returns-clause-grows : goal.returns-clause-grows
returns-clause-grows g c = Extends_trans _ _ _ (Extends_trans _ _ _ (Extends_trans _ _ _ (AddsTrees_extends _ _ c.in_ok-old.ensures.grows) c.in_ok-lemma.ensures.grows) c.in_ok-made.ensures.grows) c.in_ok-step.ensures.grows
