use Rattle.std.proofs.Common.{ℕ, sym, ◌∙◌}
use Rattle.name_tables.specs.Seen.{occurrence_at}
use Rattle.tr_discriminate.specs.wanted_search.Asking.{is_type_variable}
use Rattle.tr_discriminate.proofs.wanted_search.Tests.{any_now, any_later, any_over, variable_inside}
use Rattle.tr_discriminate.proofs.wanted_search.asking.has_variable.Goals as goal

abbrev no_key : ℕ × ℕ
no_key = (0, 0)

pub returns-then-is_type_variable : goal.returns-then-is_type_variable
returns-then-is_type_variable c = λ e g.
    sym (any_now (λ (k : ℕ × ℕ). is_type_variable c.args.number (occurrence_at c.args.store.now k).types) c.args.inside.now c.loop-key.key-index no_key c.loop-key-test.true (sym c.is_type_variable.ensures ∙ c.if-is_type_variable.true))
    ∙ c.loop-key.invariant ∙ variable_inside c.args.number c.args.store.now c.args.inside.now e g

pub loop-key-preserved : goal.loop-key-preserved
loop-key-preserved c =
    sym (any_later (λ (k : ℕ × ℕ). is_type_variable c.args.number (occurrence_at c.args.store.now k).types) c.args.inside.now c.loop-key.key-index no_key c.loop-key-test.true (sym c.is_type_variable.ensures ∙ c.if-is_type_variable.false))
    ∙ c.loop-key.invariant

pub returns : goal.returns
returns c = λ e g.
    sym (any_over (λ (k : ℕ × ℕ). is_type_variable c.args.number (occurrence_at c.args.store.now k).types) c.args.inside.now c.loop-key.key-index c.loop-key-test.false)
    ∙ c.loop-key.invariant ∙ variable_inside c.args.number c.args.store.now c.args.inside.now e g
