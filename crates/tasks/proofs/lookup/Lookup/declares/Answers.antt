use Rattle.std.proofs.Common.{sym, ◌∙◌, arith}
use Rattle.std.proofs.lemmas.Bool.Decides.{nat_tests}
use Rattle.tasks.specs.Meaning.{declarations_at}
use Rattle.tasks.proofs.Declared.{tail_is, left_is, right_is, any_iff, made_iff}
use Rattle.tasks.proofs.lookup.Lookup.declares.Goals as goal

pub returns-then-is_rigid : goal.returns-then-is_rigid
returns-then-is_rigid c =
    let rigid = c.args.self.now.task.now.rigid in
    tail_is 0 c.args.symbol _ _ (λ q. let f = c.if-symbol-eq0.false in grind (arith, nat_tests)) (left_is c.args.symbol rigid _ ((any_iff c.args.symbol rigid).0 (sym c.is_rigid.ensures ∙ c.if-is_rigid.true)))

pub returns : goal.returns
returns c =
    let rigid = c.args.self.now.task.now.rigid in
    let decls = declarations_at c.args.store.now c.args.self.now.task.now.decls in
    tail_is 0 c.args.symbol _ c.is_made.result (λ q. let f = c.if-symbol-eq0.false in grind (arith, nat_tests))
    (right_is c.args.symbol rigid _ _ (λ h. let t = (any_iff c.args.symbol rigid).1 h in let e = c.is_rigid.ensures in let f = c.if-is_rigid.false in absurd (cc)) (made_iff c.args.symbol decls c.is_made.result c.is_made.ensures))
