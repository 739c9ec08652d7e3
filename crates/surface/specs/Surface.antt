-- The plain trees of surface trees: types, patterns, terms and formulas, with the places that they
-- carry.
use Rattle.std.specs.Prelude.{ℕ, ℤ, pos, negsuc, Bool, List, [], ◌∷◌, map, Option, Some, None, option_map, if◌then◌else◌}
use Rattle.surface.specs.Common.{Terminal, is_star, string_terminal, At, OpName}
use Rattle.tokens_why.specs.declared.terminal.Terminal.TheVariants as t
use Rattle.surface.specs.declared.names.Style.{Style}
use Rattle.surface.specs.declared.names.Style.TheVariants as style
use Rattle.surface.specs.declared.names.QName.{QName}
use Rattle.surface.specs.declared.types.TypeTree.{TypeTree, TypeTree-F}
use Rattle.surface.specs.declared.types.TypeNode.{TypeNode}
use Rattle.surface.specs.declared.types.TypeNode.TheOpen as ty
use Rattle.surface.specs.declared.types.TypeNode.TheOpen.{TypeNode-F}
use Rattle.surface.specs.declared.types.TypeNode.TheFolds.{fold-TypeTree, fold-TypeNode}
use Rattle.surface.specs.declared.patterns.Pat.{Pat, Pat-F}
use Rattle.surface.specs.declared.patterns.FieldPat.{FieldPat, FieldPat-F}
use Rattle.surface.specs.declared.patterns.PatNode.{PatNode}
use Rattle.surface.specs.declared.patterns.PatNode.TheOpen as pt
use Rattle.surface.specs.declared.patterns.PatNode.TheOpen.{PatNode-F}
use Rattle.surface.specs.declared.patterns.PatNode.TheFolds.{fold-FieldPat, fold-Pat, fold-PatNode}
use Rattle.surface.specs.declared.expressions.BinderTree.{BinderTree}
use Rattle.surface.specs.declared.expressions.Expr.{Expr, Expr-F}
use Rattle.surface.specs.declared.expressions.FieldValue.{FieldValue, FieldValue-F}
use Rattle.surface.specs.declared.expressions.BranchTree.{BranchTree, BranchTree-F}
use Rattle.surface.specs.declared.expressions.TriggerTree.{TriggerTree, TriggerTree-F}
use Rattle.surface.specs.declared.expressions.ExprNode.{ExprNode}
use Rattle.surface.specs.declared.expressions.ExprNode.TheOpen as ex
use Rattle.surface.specs.declared.expressions.ExprNode.TheOpen.{ExprNode-F}
use Rattle.surface.specs.declared.expressions.ExprNode.TheFolds.{fold-Expr, fold-ExprNode, fold-FieldValue, fold-BranchTree, fold-TriggerTree}
use Rattle.surface.specs.Lexeme.{Word, said}
use Rattle.surface.specs.Forms.{Own, lower, upper, infix_op, prefix_op, star, Called, called, SyntaxForm, SyntaxForms, wild, variable, type_variable, composed, enclosed, aliased, fielded_form, no_forms, more_forms}
use Rattle.surface.specs.Trees.{OperatorToken, op, TypedBinder, binds, SyntaxTree, SyntaxTrees, Branches, SyntaxTrigger, apply, literal, truth, falsity, group, cast, prefixed, negation, binary, choice, cases, access, fielded_tree, binding, quantified, none, more, no_branch, branch, untriggered, triggered}

-- a branch by itself
pub record Arm : Type 0 where
  pub alternatives : List SyntaxForms
  pub body : SyntaxTree

-- the terms of a trigger, and for each separator whether it is `|`
pub record Terms : Type 0 where
  pub terms : SyntaxTrees
  pub bars : List Bool

abbrev pub forms : List SyntaxForm → SyntaxForms
forms [] = no_forms
forms (f ∷ fs) = more_forms f (forms fs)

abbrev pub trees : List SyntaxTree → SyntaxTrees
trees [] = none
trees (e ∷ es) = more e (trees es)

abbrev pub branches : List Arm → Branches
branches [] = no_branch
branches (b ∷ bs) = branch b.alternatives b.body (branches bs)

abbrev pub trigger : Option Terms → SyntaxTrigger
trigger None = untriggered
trigger (Some g) = triggered g.terms g.bars

-- what is no name at all: it is named by no operator
abbrev pub no_own : Own
no_own = infix_op t.OtherWord []

abbrev pub plain_own : Terminal → Word → Own
plain_own t.Lident w = lower w
plain_own t.Uident w = upper w
plain_own _ w = no_own

-- the name after its scopes that a text writes; `(*)` has the text `*`
abbrev pub own_of : Style → Word → Own
own_of style.Plain w = plain_own (string_terminal w) w
own_of style.Infix w = infix_op (string_terminal w) (said (string_terminal w) w)
own_of style.Prefix w = prefix_op (string_terminal w) (said (string_terminal w) w)
own_of style.Star w = if is_star w then star else no_own

abbrev pub called_of : QName → Called
called_of q = called q.at q.scopes (own_of q.style q.text)

-- in an expression operators are plain
abbrev pub op_by : Style → ℕ → Word → OperatorToken
op_by style.Plain i w = op i (string_terminal w) (said (string_terminal w) w)
op_by _ i w = op i t.OtherWord []

abbrev pub op_of : OpName → OperatorToken
op_of o = op_by o.style o.at o.text

-- a field by itself, with its pattern or its value
pub record FormPart : Type 0 where
  pub name : Called
  pub form : SyntaxForm

pub record TreePart : Type 0 where
  pub name : Called
  pub tree : SyntaxTree

abbrev pub form_names : List FormPart → List Called
form_names fs = map (λ (f : FormPart). f.name) fs

abbrev pub form_values : List FormPart → SyntaxForms
form_values fs = forms (map (λ (f : FormPart). f.form) fs)

abbrev pub tree_names : List TreePart → List Called
tree_names fs = map (λ (f : TreePart). f.name) fs

abbrev pub tree_values : List TreePart → SyntaxTrees
tree_values fs = trees (map (λ (f : TreePart). f.tree) fs)

-- One level of a type, with the trees of its parts in their place.
abbrev pub type_step : TypeNode-F (At → SyntaxForm) SyntaxForm → At → SyntaxForm
type_step (ty.Var w) a = type_variable a w
type_step (ty.Named q xs) a = composed a (called_of q) (forms xs)
type_step (ty.Group xs) a = enclosed a (forms xs)

abbrev pub type_whole : TypeTree-F (At → SyntaxForm) SyntaxForm → SyntaxForm
type_whole t = t.node t.at

unfoldable pub form_of : TypeTree → SyntaxForm
form_of = fold-TypeTree (At → SyntaxForm) SyntaxForm type_step type_whole

unfoldable pub form_of_node : TypeNode → At → SyntaxForm
form_of_node = fold-TypeNode (At → SyntaxForm) SyntaxForm type_step type_whole

abbrev pub form_part : FieldPat-F (At → SyntaxForm) FormPart SyntaxForm → FormPart
form_part f = record { name = called_of f.name; form = f.value }

abbrev pub pattern_step : PatNode-F (At → SyntaxForm) FormPart SyntaxForm → At → SyntaxForm
pattern_step pt.Wild a = wild a
pattern_step (pt.Var n) a = variable a n
pattern_step (pt.Con q xs) a = composed a (called_of q) (forms xs)
pattern_step (pt.Group xs) a = enclosed a (forms xs)
pattern_step (pt.Alias p n) a = aliased a p n
pattern_step (pt.Fields fs semi) a = fielded_form a (form_names fs) (form_values fs) semi

abbrev pub pattern_whole : Pat-F (At → SyntaxForm) FormPart SyntaxForm → SyntaxForm
pattern_whole p = p.node p.at

unfoldable pub pattern_of : Pat → SyntaxForm
pattern_of = fold-Pat (At → SyntaxForm) FormPart SyntaxForm pattern_step form_part pattern_whole

unfoldable pub pattern_of_node : PatNode → At → SyntaxForm
pattern_of_node =
    fold-PatNode (At → SyntaxForm) FormPart SyntaxForm pattern_step form_part pattern_whole

unfoldable pub form_part_of : FieldPat → FormPart
form_part_of =
    fold-FieldPat (At → SyntaxForm) FormPart SyntaxForm pattern_step form_part pattern_whole

abbrev pub types : List TypeTree → SyntaxForms
types ts = forms (map form_of ts)

abbrev pub patterns : List Pat → SyntaxForms
patterns ps = forms (map pattern_of ps)

abbrev pub alternatives : List (List Pat) → List SyntaxForms
alternatives = map patterns

abbrev pub binder_of : BinderTree → TypedBinder
binder_of b = binds b.names (option_map form_of b.ty)

-- an integer as the value of a token: none is below zero
abbrev pub integer_word : ℤ → Word
integer_word (pos n) = n ∷ []
integer_word (negsuc n) = []

-- One level of an expression, with the trees of its parts in their place.
abbrev pub node_step : ExprNode-F (At → SyntaxTree) Arm SyntaxTree TreePart Terms → At → SyntaxTree
node_step (ex.Apply q xs) a = apply a (called_of q) (trees xs)
node_step (ex.Int n) a = literal a (integer_word n)
node_step ex.True a = truth a
node_step ex.False a = falsity a
node_step (ex.Group xs) a = group a (trees xs)
node_step (ex.Cast e t) a = cast a e (form_of t)
node_step (ex.Match es bar bs) a = cases a (trees es) bar (branches bs)
node_step (ex.Dot e q) a = access a e (called_of q)
node_step (ex.Fields fs semi) a = fielded_tree a (tree_names fs) (tree_values fs) semi
node_step (ex.Prefix o e) a = prefixed a (op_of o) e
node_step (ex.Not e) a = negation a e
node_step (ex.Binary e o f) a = binary a e (op_of o) f
node_step (ex.If c e f) a = choice a c e f
node_step (ex.Let ps e f) a = binding a (patterns ps) e f
node_step (ex.Quant all bs g e) a = quantified a all (map binder_of bs) (trigger g) e

abbrev pub arm_step : BranchTree-F (At → SyntaxTree) Arm SyntaxTree TreePart Terms → Arm
arm_step b = record { alternatives = alternatives b.alternatives; body = b.body }

abbrev pub terms_step : TriggerTree-F (At → SyntaxTree) Arm SyntaxTree TreePart Terms → Terms
terms_step g = record { terms = trees g.terms; bars = g.bars }

abbrev pub tree_part : FieldValue-F (At → SyntaxTree) Arm SyntaxTree TreePart Terms → TreePart
tree_part f = record { name = called_of f.name; tree = f.value }

abbrev pub whole_step : Expr-F (At → SyntaxTree) Arm SyntaxTree TreePart Terms → SyntaxTree
whole_step e = e.node e.at

unfoldable pub tree_of : Expr → SyntaxTree
tree_of = fold-Expr (At → SyntaxTree) Arm SyntaxTree TreePart Terms node_step arm_step whole_step
    tree_part terms_step

unfoldable pub arm_of : BranchTree → Arm
arm_of =
    fold-BranchTree (At → SyntaxTree) Arm SyntaxTree TreePart Terms node_step arm_step whole_step
    tree_part terms_step

unfoldable pub terms_of : TriggerTree → Terms
terms_of =
    fold-TriggerTree (At → SyntaxTree) Arm SyntaxTree TreePart Terms node_step arm_step whole_step
    tree_part terms_step

unfoldable pub tree_part_of : FieldValue → TreePart
tree_part_of =
    fold-FieldValue (At → SyntaxTree) Arm SyntaxTree TreePart Terms node_step arm_step whole_step
    tree_part terms_step

unfoldable pub tree_of_node : ExprNode → At → SyntaxTree
tree_of_node =
    fold-ExprNode (At → SyntaxTree) Arm SyntaxTree TreePart Terms node_step arm_step whole_step
    tree_part terms_step
