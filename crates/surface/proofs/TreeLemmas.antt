-- The plain tree at each kind of node.
use Rattle.std.proofs.Common.{◌≡◌, ℤ, List, map, Bool, Option, Some, None, option_map, sym, ap, ◌∙◌}
use Rattle.surface.specs.declared.names.At.{At}
use Rattle.surface.specs.declared.names.Name.{Name}
use Rattle.surface.specs.declared.names.OpName.{OpName}
use Rattle.surface.specs.declared.names.QName.{QName}
use Rattle.surface.specs.declared.types.TypeTree.{TypeTree, fold_out-TypeTree}
use Rattle.surface.specs.declared.types.TypeNode.{TypeNode}
use Rattle.surface.specs.declared.types.TypeNode.TheVariants as tv
use Rattle.surface.specs.declared.types.TypeNode.TheOpen as ty
use Rattle.surface.specs.declared.types.TypeNode.TheFolds.{fold-roll-TypeNode}
use Rattle.surface.specs.declared.patterns.Pat.{Pat, fold_out-Pat}
use Rattle.surface.specs.declared.patterns.FieldPat.{FieldPat, fold_out-FieldPat}
use Rattle.surface.specs.declared.patterns.PatNode.{PatNode}
use Rattle.surface.specs.declared.patterns.PatNode.TheVariants as pv
use Rattle.surface.specs.declared.patterns.PatNode.TheOpen as pt
use Rattle.surface.specs.declared.patterns.PatNode.TheFolds.{fold-roll-PatNode}
use Rattle.surface.specs.declared.expressions.BinderTree.{BinderTree}
use Rattle.surface.specs.declared.expressions.Expr.{Expr, fold_out-Expr}
use Rattle.surface.specs.declared.expressions.FieldValue.{FieldValue, fold_out-FieldValue}
use Rattle.surface.specs.declared.expressions.BranchTree.{BranchTree, fold_out-BranchTree}
use Rattle.surface.specs.declared.expressions.TriggerTree.{TriggerTree, fold_out-TriggerTree, out-TriggerTree}
use Rattle.surface.specs.declared.expressions.ExprNode.{ExprNode}
use Rattle.surface.specs.declared.expressions.ExprNode.TheVariants as ev
use Rattle.surface.specs.declared.expressions.ExprNode.TheOpen as ex
use Rattle.surface.specs.declared.expressions.ExprNode.TheFolds.{fold-roll-ExprNode, fold-roll-TriggerTree}
use Rattle.surface.specs.declared.expressions.ExprNode.TheViews.{roll-TriggerTree}
use Rattle.surface.specs.Lexeme.{Word}
use Rattle.surface.specs.Forms.{SyntaxForm, wild, variable, type_variable, composed, enclosed, aliased, fielded_form}
use Rattle.surface.specs.Trees.{SyntaxTree, apply, literal, truth, falsity, group, cast, cases, access, fielded_tree, prefixed, negation, binary, choice, binding, quantified}
use Rattle.surface.specs.Surface.{Arm, FormPart, Terms, TreePart, form_part, form_part_of, form_names, form_values, tree_names, tree_values, tree_part, tree_part_of, op_of, called_of, trees, branches, trigger, types, patterns, alternatives, binder_of, integer_word, type_step, type_whole, form_of, form_of_node, pattern_step, pattern_whole, pattern_of, pattern_of_node, node_step, arm_step, terms_step, whole_step, tree_of, arm_of, terms_of, tree_of_node}

pub form_of-node : (e : TypeTree) → form_of e ≡ form_of_node e.node e.at
unfolding form_of form_of_node
form_of-node e = fold_out-TypeTree (At → SyntaxForm) SyntaxForm type_step type_whole e

pub form_is : (e : TypeTree) (n : TypeNode) → e.node ≡ n → form_of e ≡ form_of_node n e.at
form_is e n is = form_of-node e ∙ ap (λ m. form_of_node m e.at) is

pub pattern_of-node : (e : Pat) → pattern_of e ≡ pattern_of_node e.node e.at
unfolding pattern_of pattern_of_node form_part_of
pattern_of-node e = fold_out-Pat (At → SyntaxForm) FormPart SyntaxForm pattern_step form_part pattern_whole e

pub pattern_is : (e : Pat) (n : PatNode) → e.node ≡ n → pattern_of e ≡ pattern_of_node n e.at
pattern_is e n is = pattern_of-node e ∙ ap (λ m. pattern_of_node m e.at) is

pub tree_of-node : (e : Expr) → tree_of e ≡ tree_of_node e.node e.at
unfolding tree_of tree_of_node
tree_of-node e = fold_out-Expr (At → SyntaxTree) Arm SyntaxTree TreePart Terms node_step arm_step whole_step tree_part terms_step e

pub tree_is : (e : Expr) (n : ExprNode) → e.node ≡ n → tree_of e ≡ tree_of_node n e.at
tree_is e n is = tree_of-node e ∙ ap (λ m. tree_of_node m e.at) is

pub arm_of-fields : (b : BranchTree) → arm_of b ≡ record { alternatives = alternatives b.alternatives; body = tree_of b.body }
unfolding tree_of arm_of
arm_of-fields b = fold_out-BranchTree (At → SyntaxTree) Arm SyntaxTree TreePart Terms node_step arm_step whole_step tree_part terms_step b

pub terms_of-fields : (b : TriggerTree) → terms_of b ≡ record { terms = trees (map tree_of (out-TriggerTree b).terms); bars = (out-TriggerTree b).bars }
unfolding tree_of terms_of
terms_of-fields b = fold_out-TriggerTree (At → SyntaxTree) Arm SyntaxTree TreePart Terms node_step arm_step whole_step tree_part terms_step b

pub form_of_node-Var : (w : Word) (a : At) → form_of_node (tv.Var w) a ≡ type_variable a w
unfolding form_of form_of_node
form_of_node-Var w a = ap (λ n. form_of_node n a) (sym (tv.rolls-Var w)) ∙ ap (λ f. f a) (fold-roll-TypeNode (At → SyntaxForm) SyntaxForm type_step type_whole (ty.Var w))

pub form_of_node-Named : (q : QName) (xs : List TypeTree) (a : At) → form_of_node (tv.Named q xs) a ≡ composed a (called_of q) (types xs)
unfolding form_of form_of_node
form_of_node-Named q xs a = ap (λ n. form_of_node n a) (sym (tv.rolls-Named q xs)) ∙ ap (λ f. f a) (fold-roll-TypeNode (At → SyntaxForm) SyntaxForm type_step type_whole (ty.Named q xs))

pub form_of_node-Group : (xs : List TypeTree) (a : At) → form_of_node (tv.Group xs) a ≡ enclosed a (types xs)
unfolding form_of form_of_node
form_of_node-Group xs a = ap (λ n. form_of_node n a) (sym (tv.rolls-Group xs)) ∙ ap (λ f. f a) (fold-roll-TypeNode (At → SyntaxForm) SyntaxForm type_step type_whole (ty.Group xs))

pub pattern_of_node-Wild : (a : At) → pattern_of_node pv.Wild a ≡ wild a
unfolding pattern_of pattern_of_node form_part_of
pattern_of_node-Wild a = ap (λ n. pattern_of_node n a) (sym pv.rolls-Wild) ∙ ap (λ f. f a) (fold-roll-PatNode (At → SyntaxForm) FormPart SyntaxForm pattern_step form_part pattern_whole pt.Wild)

pub pattern_of_node-Var : (n : Name) (a : At) → pattern_of_node (pv.Var n) a ≡ variable a n
unfolding pattern_of pattern_of_node form_part_of
pattern_of_node-Var n a = ap (λ n. pattern_of_node n a) (sym (pv.rolls-Var n)) ∙ ap (λ f. f a) (fold-roll-PatNode (At → SyntaxForm) FormPart SyntaxForm pattern_step form_part pattern_whole (pt.Var n))

pub pattern_of_node-Con : (q : QName) (xs : List Pat) (a : At) → pattern_of_node (pv.Con q xs) a ≡ composed a (called_of q) (patterns xs)
unfolding pattern_of pattern_of_node form_part_of
pattern_of_node-Con q xs a = ap (λ n. pattern_of_node n a) (sym (pv.rolls-Con q xs)) ∙ ap (λ f. f a) (fold-roll-PatNode (At → SyntaxForm) FormPart SyntaxForm pattern_step form_part pattern_whole (pt.Con q xs))

pub pattern_of_node-Group : (xs : List Pat) (a : At) → pattern_of_node (pv.Group xs) a ≡ enclosed a (patterns xs)
unfolding pattern_of pattern_of_node form_part_of
pattern_of_node-Group xs a = ap (λ n. pattern_of_node n a) (sym (pv.rolls-Group xs)) ∙ ap (λ f. f a) (fold-roll-PatNode (At → SyntaxForm) FormPart SyntaxForm pattern_step form_part pattern_whole (pt.Group xs))

pub pattern_of_node-Alias : (p : Pat) (n : Name) (a : At) → pattern_of_node (pv.Alias p n) a ≡ aliased a (pattern_of p) n
unfolding pattern_of pattern_of_node form_part_of
pattern_of_node-Alias p n a = ap (λ n. pattern_of_node n a) (sym (pv.rolls-Alias p n)) ∙ ap (λ f. f a) (fold-roll-PatNode (At → SyntaxForm) FormPart SyntaxForm pattern_step form_part pattern_whole (pt.Alias p n))

pub pattern_of_node-Fields : (fs : List FieldPat) (semi : Bool) (a : At) → pattern_of_node (pv.Fields fs semi) a ≡ fielded_form a (form_names (map form_part_of fs)) (form_values (map form_part_of fs)) semi
unfolding pattern_of pattern_of_node form_part_of
pattern_of_node-Fields fs semi a = ap (λ n. pattern_of_node n a) (sym (pv.rolls-Fields fs semi)) ∙ ap (λ f. f a) (fold-roll-PatNode (At → SyntaxForm) FormPart SyntaxForm pattern_step form_part pattern_whole (pt.Fields fs semi))

pub form_part_of-fields : (f : FieldPat) → form_part_of f ≡ record { name = called_of f.name; form = pattern_of f.value }
unfolding pattern_of form_part_of
form_part_of-fields f = fold_out-FieldPat (At → SyntaxForm) FormPart SyntaxForm pattern_step form_part pattern_whole f

pub tree_of_node-Apply : (q : QName) (xs : List Expr) (a : At) → tree_of_node (ev.Apply q xs) a ≡ apply a (called_of q) (trees (map tree_of xs))
unfolding tree_of tree_of_node arm_of terms_of tree_part_of
tree_of_node-Apply q xs a = ap (λ n. tree_of_node n a) (sym (ev.rolls-Apply q xs)) ∙ ap (λ f. f a) (fold-roll-ExprNode (At → SyntaxTree) Arm SyntaxTree TreePart Terms node_step arm_step whole_step tree_part terms_step (ex.Apply q xs))

pub tree_of_node-Int : (n : ℤ) (a : At) → tree_of_node (ev.Int n) a ≡ literal a (integer_word n)
unfolding tree_of tree_of_node arm_of terms_of tree_part_of
tree_of_node-Int n a = ap (λ n. tree_of_node n a) (sym (ev.rolls-Int n)) ∙ ap (λ f. f a) (fold-roll-ExprNode (At → SyntaxTree) Arm SyntaxTree TreePart Terms node_step arm_step whole_step tree_part terms_step (ex.Int n))

pub tree_of_node-True : (a : At) → tree_of_node ev.True a ≡ truth a
unfolding tree_of tree_of_node arm_of terms_of tree_part_of
tree_of_node-True a = ap (λ n. tree_of_node n a) (sym ev.rolls-True) ∙ ap (λ f. f a) (fold-roll-ExprNode (At → SyntaxTree) Arm SyntaxTree TreePart Terms node_step arm_step whole_step tree_part terms_step ex.True)

pub tree_of_node-False : (a : At) → tree_of_node ev.False a ≡ falsity a
unfolding tree_of tree_of_node arm_of terms_of tree_part_of
tree_of_node-False a = ap (λ n. tree_of_node n a) (sym ev.rolls-False) ∙ ap (λ f. f a) (fold-roll-ExprNode (At → SyntaxTree) Arm SyntaxTree TreePart Terms node_step arm_step whole_step tree_part terms_step ex.False)

pub tree_of_node-Group : (xs : List Expr) (a : At) → tree_of_node (ev.Group xs) a ≡ group a (trees (map tree_of xs))
unfolding tree_of tree_of_node arm_of terms_of tree_part_of
tree_of_node-Group xs a = ap (λ n. tree_of_node n a) (sym (ev.rolls-Group xs)) ∙ ap (λ f. f a) (fold-roll-ExprNode (At → SyntaxTree) Arm SyntaxTree TreePart Terms node_step arm_step whole_step tree_part terms_step (ex.Group xs))

pub tree_of_node-Cast : (f : Expr) (t : TypeTree) (a : At) → tree_of_node (ev.Cast f t) a ≡ cast a (tree_of f) (form_of t)
unfolding tree_of tree_of_node arm_of terms_of tree_part_of
tree_of_node-Cast f t a = ap (λ n. tree_of_node n a) (sym (ev.rolls-Cast f t)) ∙ ap (λ f. f a) (fold-roll-ExprNode (At → SyntaxTree) Arm SyntaxTree TreePart Terms node_step arm_step whole_step tree_part terms_step (ex.Cast f t))

pub tree_of_node-Match : (es : List Expr) (bar : Bool) (bs : List BranchTree) (a : At) → tree_of_node (ev.Match es bar bs) a ≡ cases a (trees (map tree_of es)) bar (branches (map arm_of bs))
unfolding tree_of tree_of_node arm_of terms_of tree_part_of
tree_of_node-Match es bar bs a = ap (λ n. tree_of_node n a) (sym (ev.rolls-Match es bar bs)) ∙ ap (λ f. f a) (fold-roll-ExprNode (At → SyntaxTree) Arm SyntaxTree TreePart Terms node_step arm_step whole_step tree_part terms_step (ex.Match es bar bs))

pub tree_of_node-Dot : (f : Expr) (q : QName) (a : At) → tree_of_node (ev.Dot f q) a ≡ access a (tree_of f) (called_of q)
unfolding tree_of tree_of_node arm_of terms_of tree_part_of
tree_of_node-Dot f q a = ap (λ n. tree_of_node n a) (sym (ev.rolls-Dot f q)) ∙ ap (λ f. f a) (fold-roll-ExprNode (At → SyntaxTree) Arm SyntaxTree TreePart Terms node_step arm_step whole_step tree_part terms_step (ex.Dot f q))

pub tree_of_node-Fields : (fs : List FieldValue) (semi : Bool) (a : At) → tree_of_node (ev.Fields fs semi) a ≡ fielded_tree a (tree_names (map tree_part_of fs)) (tree_values (map tree_part_of fs)) semi
unfolding tree_of tree_of_node arm_of terms_of tree_part_of
tree_of_node-Fields fs semi a = ap (λ n. tree_of_node n a) (sym (ev.rolls-Fields fs semi)) ∙ ap (λ f. f a) (fold-roll-ExprNode (At → SyntaxTree) Arm SyntaxTree TreePart Terms node_step arm_step whole_step tree_part terms_step (ex.Fields fs semi))

pub tree_part_of-fields : (f : FieldValue) → tree_part_of f ≡ record { name = called_of f.name; tree = tree_of f.value }
unfolding tree_of tree_part_of
tree_part_of-fields f = fold_out-FieldValue (At → SyntaxTree) Arm SyntaxTree TreePart Terms node_step arm_step whole_step tree_part terms_step f

pub tree_of_node-Prefix : (o : OpName) (f : Expr) (a : At) → tree_of_node (ev.Prefix o f) a ≡ prefixed a (op_of o) (tree_of f)
unfolding tree_of tree_of_node arm_of terms_of tree_part_of
tree_of_node-Prefix o f a = ap (λ n. tree_of_node n a) (sym (ev.rolls-Prefix o f)) ∙ ap (λ f. f a) (fold-roll-ExprNode (At → SyntaxTree) Arm SyntaxTree TreePart Terms node_step arm_step whole_step tree_part terms_step (ex.Prefix o f))

pub tree_of_node-Not : (f : Expr) (a : At) → tree_of_node (ev.Not f) a ≡ negation a (tree_of f)
unfolding tree_of tree_of_node arm_of terms_of tree_part_of
tree_of_node-Not f a = ap (λ n. tree_of_node n a) (sym (ev.rolls-Not f)) ∙ ap (λ f. f a) (fold-roll-ExprNode (At → SyntaxTree) Arm SyntaxTree TreePart Terms node_step arm_step whole_step tree_part terms_step (ex.Not f))

pub tree_of_node-Binary : (f : Expr) (o : OpName) (g : Expr) (a : At) → tree_of_node (ev.Binary f o g) a ≡ binary a (tree_of f) (op_of o) (tree_of g)
unfolding tree_of tree_of_node arm_of terms_of tree_part_of
tree_of_node-Binary f o g a = ap (λ n. tree_of_node n a) (sym (ev.rolls-Binary f o g)) ∙ ap (λ f. f a) (fold-roll-ExprNode (At → SyntaxTree) Arm SyntaxTree TreePart Terms node_step arm_step whole_step tree_part terms_step (ex.Binary f o g))

pub tree_of_node-If : (c : Expr) (f : Expr) (g : Expr) (a : At) → tree_of_node (ev.If c f g) a ≡ choice a (tree_of c) (tree_of f) (tree_of g)
unfolding tree_of tree_of_node arm_of terms_of tree_part_of
tree_of_node-If c f g a = ap (λ n. tree_of_node n a) (sym (ev.rolls-If c f g)) ∙ ap (λ f. f a) (fold-roll-ExprNode (At → SyntaxTree) Arm SyntaxTree TreePart Terms node_step arm_step whole_step tree_part terms_step (ex.If c f g))

pub tree_of_node-Let : (ps : List Pat) (f : Expr) (g : Expr) (a : At) → tree_of_node (ev.Let ps f g) a ≡ binding a (patterns ps) (tree_of f) (tree_of g)
unfolding tree_of tree_of_node arm_of terms_of tree_part_of
tree_of_node-Let ps f g a = ap (λ n. tree_of_node n a) (sym (ev.rolls-Let ps f g)) ∙ ap (λ f. f a) (fold-roll-ExprNode (At → SyntaxTree) Arm SyntaxTree TreePart Terms node_step arm_step whole_step tree_part terms_step (ex.Let ps f g))

pub tree_of_node-Quant : (all : Bool) (bs : List BinderTree) (t : Option TriggerTree) (f : Expr) (a : At) → tree_of_node (ev.Quant all bs t f) a ≡ quantified a all (map binder_of bs) (trigger (option_map terms_of t)) (tree_of f)
unfolding tree_of tree_of_node arm_of terms_of tree_part_of
tree_of_node-Quant all bs None f a = ap (λ n. tree_of_node n a) (sym (ev.rolls-Quant all bs None f)) ∙ ap (λ g. g a) (fold-roll-ExprNode (At → SyntaxTree) Arm SyntaxTree TreePart Terms node_step arm_step whole_step tree_part terms_step (ex.Quant all bs None f))
tree_of_node-Quant all bs (Some t) f a = ap (λ n. tree_of_node n a) (sym (ev.rolls-Quant all bs (Some t) f)) ∙ ap (λ g. g a) (fold-roll-ExprNode (At → SyntaxTree) Arm SyntaxTree TreePart Terms node_step arm_step whole_step tree_part terms_step (ex.Quant all bs (Some t) f))

pub ruleset made = (form_of-node, form_of_node-Var, form_of_node-Named, form_of_node-Group, pattern_of-node, pattern_of_node-Wild, pattern_of_node-Var, pattern_of_node-Con, pattern_of_node-Group, pattern_of_node-Alias, pattern_of_node-Fields, tree_of-node, tree_of_node-Apply, tree_of_node-Int, tree_of_node-True, tree_of_node-False, tree_of_node-Group, tree_of_node-Cast, tree_of_node-Match, tree_of_node-Dot, tree_of_node-Fields, tree_of_node-Prefix, tree_of_node-Not, tree_of_node-Binary, tree_of_node-If, tree_of_node-Let, tree_of_node-Quant)

pub made-Terms : (ts : List Expr) (bars : List Bool) → terms_of (roll-TriggerTree (record { terms = ts; bars = bars })) ≡ record { terms = trees (map tree_of ts); bars = bars }
unfolding tree_of terms_of
made-Terms ts bars = fold-roll-TriggerTree (At → SyntaxTree) Arm SyntaxTree TreePart Terms node_step arm_step whole_step tree_part terms_step (record { terms = ts; bars = bars })

pub ruleset fields = (arm_of-fields, made-Terms, tree_part_of-fields, form_part_of-fields)
