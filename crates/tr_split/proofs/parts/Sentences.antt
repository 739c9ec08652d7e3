-- What makes formulas of formulas.
use Rattle.std.proofs.Common.{◌≡◌, List, sym, ap, subst, ◌∙◌}
use Rattle.trees.specs.declared.Op.{Op}
use Rattle.trees.specs.declared.TermId.{TermId}
use Rattle.trees.specs.declared.Node.{Node}
use Rattle.trees.specs.declared.Node.TheVariants.{Join}
use Rattle.trees.specs.Node.{tree_at, node_tree, parts_of, AreBelow, Holds, Grows}
use Rattle.trees.specs.Tree.{Tree, Two, HJoin}
use Rattle.trees.specs.Sorts.{Fits}
use Rattle.tr_split.specs.parts.Parts.{IsSentence, Joins}

pub sentence_later : (s s' : List Tree) (id : TermId) → Grows s s' → Holds s id → IsSentence (tree_at s id) → IsSentence (tree_at s' id)
sentence_later s s' id g h e = subst IsSentence (sym (g.same id.0 h)) e

pub joins : (s : List Tree) (id : TermId) (n : Node) (op : Op) (a b : TermId) → n ≡ Join op a b → tree_at s id ≡ node_tree s n → AreBelow id.0 (parts_of n) → Fits (tree_at s id) → Joins s id op a b
joins s id n op a b e t l f =
    let tree : tree_at s id ≡ Two (HJoin op) (tree_at s a) (tree_at s b) = t ∙ ap (node_tree s) e in
    let fits : Fits (Two (HJoin op) (tree_at s a) (tree_at s b)) = subst Fits tree f in
    let below : AreBelow id.0 (parts_of (Join op a b)) = subst (λ (m : Node). AreBelow id.0 (parts_of m)) e l in
    record { tree = tree; left = fits.0.0; right = fits.0.1; below = below }
