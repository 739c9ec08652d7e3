use Rattle.tr_algebraic.proofs.algebraic_tasks.making.TypesAsSymbolsRewriteDeclarations.origin.Goals as goal

pub returns : goal.returns
returns c = λ symbols. c.own_origin.ensures c.args.store.now
