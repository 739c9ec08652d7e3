-- Where an expression begins.
use Rattle.std.proofs.Common.{◌≡◌, List, [], ◌∷◌, map, Some, refl, ap, ◌∙◌}
use Rattle.std.specs.List.{slice_get}
use Rattle.surface.specs.declared.names.At.{At}
use Rattle.surface.specs.declared.expressions.Expr.{Expr}
use Rattle.surface.specs.declared.expressions.ExprNode.TheOpen as ex
use Rattle.surface.specs.declared.expressions.ExprNode.TheOpen.{ExprNode-F}
use Rattle.surface.specs.declared.expressions.ExprNode.TheFolds.{fold_out-ExprNode}
use Rattle.surface.specs.Trees.{SyntaxTree}
use Rattle.surface.specs.Surface as code
use Rattle.surface.specs.Surface.{Arm, Terms, TreePart, tree_part, node_step, arm_step, whole_step, terms_step, tree_of_node}
use Rattle.surface.proofs.TreeLemmas.{tree_of-node}
use Rattle.name_resolution.specs.Abstract.{tree_place, first_tree}

place_step : (x : ExprNode-F (At → SyntaxTree) Arm SyntaxTree TreePart Terms) (a : At) → tree_place (node_step x a) ≡ a
place_step (ex.Apply q xs) a = refl
place_step (ex.Int n) a = refl
place_step ex.True a = refl
place_step ex.False a = refl
place_step (ex.Group xs) a = refl
place_step (ex.Cast e t) a = refl
place_step (ex.Match es bar bs) a = refl
place_step (ex.Dot e q) a = refl
place_step (ex.Fields fs semi) a = refl
place_step (ex.Prefix o e) a = refl
place_step (ex.Not e) a = refl
place_step (ex.Binary e o f) a = refl
place_step (ex.If c e f) a = refl
place_step (ex.Let ps e f) a = refl
place_step (ex.Quant all bs g e) a = refl

tree_place_is : (e : Expr) → tree_place (code.tree_of e) ≡ e.at
unfolding tree_of_node
tree_place_is e = ap tree_place (tree_of-node e) ∙ ap (λ f. tree_place (f e.at)) (fold_out-ExprNode (At → SyntaxTree) Arm SyntaxTree TreePart Terms node_step arm_step whole_step tree_part terms_step e.node) ∙ place_step _ e.at

pub first_value : (es : List Expr) (e : Expr) → slice_get es 0 ≡ Some e → first_tree (code.trees (map code.tree_of es)) ≡ e.at.first
first_value [] e h = absurd (cc)
first_value (x ∷ xs) e h = ap (λ (a : At). a.first) (tree_place_is x) ∙ ap (λ (y : Expr). y.at.first) (same h)
  where
    same : Some x ≡ Some e → x ≡ e
    same q = cc
