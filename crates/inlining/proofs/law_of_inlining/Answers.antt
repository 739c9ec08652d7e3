-- All are lemmas.
use Rattle.checks.specs.decl_checks.Structure.{defining_body}
use Rattle.inlining.proofs.Bodies.{defined_body}
use Rattle.inlining.proofs.Uses.{unfold_typed_rule, unfold_node_rule}
use Rattle.inlining.proofs.Inlined.{inlined_valid}
use Rattle.inlining.proofs.InlinedAtTypes.{inlined_at_types}
use Rattle.inlining.proofs.SinglePass.{single_pass}
use Rattle.inlining.proofs.law_of_inlining.Goals as goal

pub returns-clause-rule : goal.returns-clause-rule
returns-clause-rule c = λ v sound d p.
    (unfold_typed_rule v sound d.symbol (defining_body d.equation) (defined_body v d p), unfold_node_rule v sound d.symbol (defining_body d.equation) (defined_body v d p))

pub returns-clause-types : goal.returns-clause-types
returns-clause-types c = λ v sound ys each ds a types e x. inlined_at_types v sound ys each ds a types e x

pub returns-clause-single : goal.returns-clause-single
returns-clause-single c = λ v sound ds a types e x. single_pass v sound ds a types e x

pub returns-clause-valid : goal.returns-clause-valid
returns-clause-valid c = λ t valid m l. inlined_valid t valid m l
