use Rattle.std.proofs.Common.{sym, ◌∙◌}
use Rattle.tasks.specs.Meaning.{declaration_at}
use Rattle.tr_remove.specs.Remove.{is_declaration_named}
use Rattle.tr_remove.proofs.Left.{any_here, any_further}
use Rattle.tr_remove.proofs.removal.is_among.Goals as goal

pub returns-then-is_named : goal.returns-then-is_named
returns-then-is_named c = λ s.
    sym (any_here (is_declaration_named (declaration_at s c.args.decl.now)) c.args.props.now c.loop-name.name-index _ c.loop-name-test.true c.name-item.is (sym (c.is_named.ensures s) ∙ c.if-is_named.true)) ∙ c.loop-name.invariant s

pub loop-name-preserved : goal.loop-name-preserved
loop-name-preserved c = λ s.
    sym (any_further (is_declaration_named (declaration_at s c.args.decl.now)) c.args.props.now c.loop-name.name-index _ c.loop-name-test.true c.name-item.is (sym (c.is_named.ensures s) ∙ c.if-is_named.false)) ∙ c.loop-name.invariant s
