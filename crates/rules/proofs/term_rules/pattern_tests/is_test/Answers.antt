use Rattle.std.proofs.Common.{rules, ◌≡◌, [], ◌∷◌}
use Rattle.trees.specs.Tree.{Leaf, HTrue}
use Rattle.trees.specs.Node.{tree_at}
use Rattle.tasks.specs.MatchTests.{tests}
use Rattle.rules.specs.Meaning.{task_of}
use Rattle.rules.proofs.Sequents.{not_so}
use Rattle.rules.proofs.term_rules.TestLemmas.{other_test}
use Rattle.rules.proofs.term_rules.pattern_tests.is_test.Goals as goal
use Rattle.tasks.proofs.Declared.{no}

pub returns-in_default : goal.returns-in_default
returns-in_default c =
    let x = c.args.x.now in
    let s = x.store.now in
    let other : tree_at s c.args.id ≡ Leaf HTrue → ⊥ = search rules in
    no (other_test (tree_at s c.args.id) (tests (task_of x) (tree_at s c.args.pattern) (tree_at s c.args.term ∷ [])) other (not_so c.is_tests.result c.is_tests.ensures c.if-is_tests.false))
