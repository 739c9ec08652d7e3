use Rattle.std.proofs.Common.{◌+◌, ◌*◌, length}
use Rattle.trees.specs.Node.{tree_at}
use Rattle.agreement.specs.Ranks.{rank, zero_ranks}
use Rattle.agreement.proofs.agreeing.+agree.Given as goal

abbrev pub decreases-agree : goal.decreases-agree
decreases-agree l = 680564733841876926926749214863536422912 * rank (tree_at l.draft.now.trees l.q.left) zero_ranks 0 + 36893488147419103232 * l.q.left.0 + 18446744073709551618

abbrev pub decreases-agree_apart : goal.decreases-agree_apart
decreases-agree_apart l = 680564733841876926926749214863536422912 * rank (tree_at l.draft.now.trees l.q.left) zero_ranks 0 + 36893488147419103232 * l.q.left.0 + 18446744073709551617

abbrev pub decreases-agree_parts : goal.decreases-agree_parts
decreases-agree_parts l = 680564733841876926926749214863536422912 * rank (tree_at l.draft.now.trees l.q.left) zero_ranks 0 + 36893488147419103232 * l.q.left.0 + 18446744073709551616

abbrev pub decreases-agree_all : goal.decreases-agree_all
decreases-agree_all l = 680564733841876926926749214863536422912 * rank (tree_at l.draft.now.trees l.whole.left) zero_ranks 0 + 36893488147419103232 * l.whole.left.0 + length l.questions.now
