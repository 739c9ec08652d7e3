use Rattle.std.proofs.Common.{refl}
use Rattle.tasks.specs.Meaning.{trees_at}
use Rattle.tasks.proofs.outside.Passed.{no_value}
use Rattle.evidence.specs.Laws.{AddsTrees_extends}
use Rattle.evidence.specs.declared.proof_scripts.line.Word.TheVariants as word
use Rattle.evidence.proofs.proof_scripts.Connectives.{made_opened}
use Rattle.evidence.proofs.proof_scripts.opening.open_branches.Goals as goal

pub returns-in_err-made-clause-opened : goal.returns-in_err-made-clause-opened
returns-in_err-made-clause-opened c = no_value _ _ c.from_residual.result c.from_residual.ensures.1

pub returns-in_err-made-clause-grows : goal.returns-in_err-made-clause-grows
returns-in_err-made-clause-grows c = c.make_cases.ensures.grows

pub returns-clause-opened : goal.returns-clause-opened
returns-clause-opened c =
    let d = c.args.draft.now in
    let d1 = c.make_cases.new.draft in
    let n = c.in_ok-made in
    made_opened d d1 (AddsTrees_extends d d1 n.ensures.grows) (trees_at d.trees c.args.front.now) (trees_at d.trees c.args.tail.now) _ (word.MatchDef c.args.whole) n.made _ c.requires.part.left.held (record { fits = tt; same = λ s. refl }) c.requires.opens refl refl n.ensures.formula n.ensures.tree

pub returns-clause-grows : goal.returns-clause-grows
returns-clause-grows c = c.in_ok-made.ensures.grows
