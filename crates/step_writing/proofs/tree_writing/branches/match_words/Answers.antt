use Rattle.tasks.specs.trees.Node.{tree_at}
use Rattle.step_writing.specs.tree_writing.Referring.{words_of}
use Rattle.step_writing.proofs.tree_writing.BranchesBack.{match_back}
use Rattle.step_writing.proofs.tree_writing.branches.match_words.Goals as goal

pub returns : goal.returns
returns c =
    let s = c.args.x.now.store.now in
    match_back s c.args.x.now.table.now c.args.x.now.lines.now (tree_at s c.args.term) (tree_at s c.args.list) (words_of c.in_ok-words.words.items) (words_of c.push_branches.new.words.items) c.requires.term (c.laws.ensures.sorted c.args.list c.requires.list_held) c.requires.list c.in_ok-words.ensures c.in_ok-push_branches.ensures
