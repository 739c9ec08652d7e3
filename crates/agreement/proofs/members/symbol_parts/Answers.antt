use Rattle.trees.specs.Node.{tree_at}
use Rattle.agreement.proofs.MemberParts.{symbol_right, symbol_lists, symbol_questions}
use Rattle.agreement.proofs.members.symbol_parts.Goals as goal

pub arguments_of-other-requires-clause-application : goal.arguments_of-other-requires-clause-application
arguments_of-other-requires-clause-application c =
    let d = c.args.draft.now in
    let s = symbol_right d c.args.q c.requires.asked (tree_at d.trees c.args.arguments) c.args.symbol c.requires.parts.0 c.requires.left c.requires.parts.1 in
    (s.0, s.1.0)

pub push_members-requires : goal.push_members-requires
push_members-requires c =
    let d = c.args.draft.now in
    let s = symbol_right d c.args.q c.requires.asked (tree_at d.trees c.args.arguments) c.args.symbol c.requires.parts.0 c.requires.left c.requires.parts.1 in
    let f = c.arguments_of-other.ensures.tree s.0 s.1.0 in
    record { lists = symbol_lists d c.args.q c.requires.asked c.args.symbol c.args.arguments c.arguments_of-other.result c.requires.left f c.requires.parts.0 c.requires.below c.arguments_of-other.ensures.held c.requires.parts.1 }

pub returns : goal.returns
returns c =
    let d = c.args.draft.now in
    let s = symbol_right d c.args.q c.requires.asked (tree_at d.trees c.args.arguments) c.args.symbol c.requires.parts.0 c.requires.left c.requires.parts.1 in
    let f = c.arguments_of-other.ensures.tree s.0 s.1.0 in
    let n = rw c.new-made.ensures.items at c.in_ok-push_members.ensures.adds in
    record { parts = symbol_questions d c.args.q c.requires.asked c.args.symbol c.args.arguments c.arguments_of-other.result c.requires.left f c.push_members.new.questions.items n }
