use Rattle.std.proofs.Common.{rules, ◌+◌, ◌≤◌, length, refl, subst}
use Rattle.std.proofs.lemmas.List.{length-map}
use Rattle.trees.specs.Node.{tree_at}
use Rattle.tasks.specs.Meaning.{trees_at}
use Rattle.evidence.specs.Laws.{AddsTrees_extends}
use Rattle.evidence.specs.declared.proof_scripts.line.Line.{Line}
use Rattle.evidence.specs.declared.proof_scripts.line.Line.TheVariants as line
use Rattle.evidence.specs.proof_scripts.Scripts.{script_line_at, LineHeld}
use Rattle.evidence.specs.proof_scripts.Derived.{CanOpen}
use Rattle.evidence.proofs.proof_scripts.Connectives.{cut_opened, tail_held, tail_row, tail_opened}
use Rattle.evidence.proofs.proof_scripts.opening.open_line.Goals as goal
use Rattle.tasks.proofs.outside.Passed.{no_value}

pub open_holding-requires-clause-opens : goal.open_holding-requires-clause-opens
open_holding-requires-clause-opens c =
    let d = c.args.draft.now in
    subst (λ (z : Line). CanOpen d (trees_at d.trees c.args.front.now) (trees_at d.trees c.args.tail.now) (script_line_at d.trees z)) c.in-Holding.is c.requires.opens

pub open_failing-requires-clause-opens : goal.open_failing-requires-clause-opens
open_failing-requires-clause-opens c =
    let d = c.args.draft.now in
    subst (λ (z : Line). CanOpen d (trees_at d.trees c.args.front.now) (trees_at d.trees c.args.tail.now) (script_line_at d.trees z)) c.in-Failing.is c.requires.opens

pub negation-requires : goal.negation-requires
negation-requires c = subst (LineHeld c.args.draft.now) c.in-Cut.is c.requires.line

pub returns-in_err-negated-in-Cut-clause-opened : goal.returns-in_err-negated-in-Cut-clause-opened
returns-in_err-negated-in-Cut-clause-opened c = no_value _ _ c.from_residual.result c.from_residual.ensures.1

pub returns-in_err-negated-in-Cut-clause-grows : goal.returns-in_err-negated-in-Cut-clause-grows
returns-in_err-negated-in-Cut-clause-grows c = c.negation.ensures.grows

pub returns-in-Holding-clause-opened : goal.returns-in-Holding-clause-opened
returns-in-Holding-clause-opened c = rw c.in-Holding.is c.open_holding.ensures.opened

pub returns-in-Holding-clause-grows : goal.returns-in-Holding-clause-grows
returns-in-Holding-clause-grows c = c.open_holding.ensures.grows

pub returns-in-Failing-clause-opened : goal.returns-in-Failing-clause-opened
returns-in-Failing-clause-opened c = rw c.in-Failing.is c.open_failing.ensures.opened

pub returns-in-Failing-clause-grows : goal.returns-in-Failing-clause-grows
returns-in-Failing-clause-grows c = c.open_failing.ensures.grows

pub returns-in_ok-negated-in-Cut-clause-opened : goal.returns-in_ok-negated-in-Cut-clause-opened
returns-in_ok-negated-in-Cut-clause-opened c =
    let d = c.args.draft.now in
    let d1 = c.negation.new.draft in
    let n = c.in_ok-negated-in-Cut in
    cut_opened d d1 (AddsTrees_extends d d1 n.ensures.grows) (trees_at d.trees c.args.front.now) (trees_at d.trees c.args.tail.now) c.args.line c.in-Cut.formula n.negated _ c.in-Cut.is refl refl c.requires.line n.ensures.formula n.ensures.tree

pub returns-in_ok-negated-in-Cut-clause-grows : goal.returns-in_ok-negated-in-Cut-clause-grows
returns-in_ok-negated-in-Cut-clause-grows c = c.in_ok-negated-in-Cut.ensures.grows

pub make_sides-requires-clause-held : goal.make_sides-requires-clause-held
make_sides-requires-clause-held c =
    let d = c.args.draft.now in
    (tail_held d (trees_at d.trees c.args.front.now) (trees_at d.trees c.args.tail.now) c.args.line c.in-Rule.word c.in-Rule.is c.requires.line c.requires.opens).0

pub make_sides-requires-clause-maker : goal.make_sides-requires-clause-maker
make_sides-requires-clause-maker c =
    let d = c.args.draft.now in
    (tail_held d (trees_at d.trees c.args.front.now) (trees_at d.trees c.args.tail.now) c.args.line c.in-Rule.word c.in-Rule.is c.requires.line c.requires.opens).1

pub make_sides-requires-clause-rule : goal.make_sides-requires-clause-rule
make_sides-requires-clause-rule c =
    let d = c.args.draft.now in
    tail_row d (trees_at d.trees c.args.front.now) (trees_at d.trees c.args.tail.now) c.args.line c.in-Rule.word c.in-Rule.is c.requires.line c.requires.opens

pub returns-in_err-sides-in-Rule-clause-opened : goal.returns-in_err-sides-in-Rule-clause-opened
returns-in_err-sides-in-Rule-clause-opened c = no_value _ _ c.from_residual-in_err-sides-in-Rule.result c.from_residual-in_err-sides-in-Rule.ensures.1

pub returns-in_err-sides-in-Rule-clause-grows : goal.returns-in_err-sides-in-Rule-clause-grows
returns-in_err-sides-in-Rule-clause-grows c = c.make_sides.ensures.grows

pub returns-in_ok-sides-in-Rule-clause-opened : goal.returns-in_ok-sides-in-Rule-clause-opened
returns-in_ok-sides-in-Rule-clause-opened c =
    let d = c.args.draft.now in
    let d1 = c.make_sides.new.draft in
    let n = c.in_ok-sides-in-Rule in
    let small : length c.args.front.now + length c.args.tail.now ≤ 18446744073709551615 = search rules in
    tail_opened d (trees_at d.trees c.args.front.now) (trees_at d.trees c.args.tail.now) c.args.line c.in-Rule.word c.in-Rule.is c.requires.line c.requires.opens d1 (AddsTrees_extends d d1 n.ensures.grows) (length c.args.front.now) (length c.args.tail.now) n.sides
    (length-map c.args.front.now (tree_at d.trees)) (length-map c.args.tail.now (tree_at d.trees)) small n.ensures.sides

pub returns-in_ok-sides-in-Rule-clause-grows : goal.returns-in_ok-sides-in-Rule-clause-grows
returns-in_ok-sides-in-Rule-clause-grows c = c.in_ok-sides-in-Rule.ensures.grows

-- ---- a `match` by its parts, and a projection by the field
pub open_alike-requires : goal.open_alike-requires
open_alike-requires c =
    let d = c.args.draft.now in
    let h : LineHeld d (line.Branch c.in-Branch.whole c.in-Branch.part) = subst (LineHeld d) c.in-Branch.is c.requires.line in
    record {
      word = h.left.held;
      no_place = record { fits = tt; same = λ s. refl };
      alike = h;
      opens = subst (λ (z : Line). CanOpen d (trees_at d.trees c.args.front.now) (trees_at d.trees c.args.tail.now) (script_line_at d.trees z)) c.in-Branch.is c.requires.opens;
    }

pub open_alike-requires-in-Field : goal.open_alike-requires-in-Field
open_alike-requires-in-Field c =
    let d = c.args.draft.now in
    let h : LineHeld d (line.Field c.in-Field.whole c.in-Field.part) = subst (LineHeld d) c.in-Field.is c.requires.line in
    record {
      word = h.left.held;
      no_place = record { fits = tt; same = λ s. refl };
      alike = h;
      opens = subst (λ (z : Line). CanOpen d (trees_at d.trees c.args.front.now) (trees_at d.trees c.args.tail.now) (script_line_at d.trees z)) c.in-Field.is c.requires.opens;
    }

pub open_branches-requires : goal.open_branches-requires
open_branches-requires c =
    let d = c.args.draft.now in
    let i = c.in-Branches in
    let h : LineHeld d (line.Branches i.whole i.test i.part i.rest) = subst (LineHeld d) i.is c.requires.line in
    record {
      test = h.0;
      part = h.1;
      rest = h.2;
      opens = subst (λ (z : Line). CanOpen d (trees_at d.trees c.args.front.now) (trees_at d.trees c.args.tail.now) (script_line_at d.trees z)) i.is c.requires.opens;
    }

pub returns-in-Branch-clause-opened : goal.returns-in-Branch-clause-opened
returns-in-Branch-clause-opened c = rw c.in-Branch.is c.open_alike.ensures.opened

pub returns-in-Branch-clause-grows : goal.returns-in-Branch-clause-grows
returns-in-Branch-clause-grows c = c.open_alike.ensures.grows

pub returns-in-Branches-clause-opened : goal.returns-in-Branches-clause-opened
returns-in-Branches-clause-opened c = rw c.in-Branches.is c.open_branches.ensures.opened

pub returns-in-Branches-clause-grows : goal.returns-in-Branches-clause-grows
returns-in-Branches-clause-grows c = c.open_branches.ensures.grows

pub returns-in-Field-clause-opened : goal.returns-in-Field-clause-opened
returns-in-Field-clause-opened c = rw c.in-Field.is c.open_alike-in-Field.ensures.opened

pub returns-in-Field-clause-grows : goal.returns-in-Field-clause-grows
returns-in-Field-clause-grows c = c.open_alike-in-Field.ensures.grows
