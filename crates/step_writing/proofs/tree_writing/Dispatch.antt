-- Terms and formulas that are neither a symbol on terms nor a match.
use Rattle.std.proofs.Common.{◌≡◌, ℕ, List, Option, refl}
use Rattle.tasks.specs.trees.declared.TermId.{TermId}
use Rattle.tasks.specs.trees.declared.Node.{Node}
use Rattle.tasks.specs.trees.declared.Node.TheVariants as node
use Rattle.tasks.specs.trees.Tree.{Tree, Leaf, One, Two, Three, Head, HPred, HCase, HFun, HPatCon}
use Rattle.tasks.specs.trees.Node.{node_tree}
use Rattle.step_writing.specs.tree_writing.Plain.{IsPlain, PartLines, two_plain, three_plain}
use Rattle.step_writing.specs.tree_writing.Used.{IsWritable, NodeLines, two_lines, three_lines}

pub plain_rest : (s : List Tree) (n : Node) → IsWritable (node_tree s n) → ((k : ℕ) (a b c : TermId) → n ≡ node.Fun k a b c → ⊥) → ((k : ℕ) (a b : TermId) → n ≡ node.Pred k a b → ⊥) → ((a b : TermId) → n ≡ node.Case a b → ⊥) → IsPlain (node_tree s n)
plain_rest s (node.Fun k a b c) h n1 n2 n3 = absurd (n1 k a b c refl)
plain_rest s (node.Pred k a b) h n1 n2 n3 = absurd (n2 k a b refl)
plain_rest s (node.Case a b) h n1 n2 n3 = absurd (n3 a b refl)
plain_rest s _ h n1 n2 n3 = h

two_parts : (s : List Tree) (lines : List (Option ℕ)) (h : Head) (a b : Tree) → two_plain h → two_lines s lines h a b → PartLines s lines (Two h a b)
two_parts s lines (HPred k) a b p l = absurd p
two_parts s lines HCase a b p l = absurd p
two_parts s lines _ a b p l = l

three_parts : (s : List Tree) (lines : List (Option ℕ)) (h : Head) (a b c : Tree) → three_plain h → three_lines s lines h a b c → PartLines s lines (Three h a b c)
three_parts s lines (HFun k) a b c p l = absurd p
three_parts s lines (HPatCon k) a b c p l = absurd p
three_parts s lines _ a b c p l = l

pub part_lines : (s : List Tree) (lines : List (Option ℕ)) (e : Tree) → IsPlain e → NodeLines s lines e → PartLines s lines e
part_lines s lines (Leaf h) p l = tt
part_lines s lines (One h a) p l = l
part_lines s lines (Two h a b) p l = two_parts s lines h a b p l
part_lines s lines (Three h a b c) p l = three_parts s lines h a b c p l
