-- The sizes of surface trees at each kind of node.
use Rattle.std.proofs.Common.{◌≡◌, ℕ, ◌+◌, ◌≤◌, suc, List, [], ◌∷◌, map, Bool, Option, Some, refl, ap, ◌∙◌, arith}
use Rattle.surface.specs.declared.names.OpName.{OpName}
use Rattle.surface.specs.declared.names.QName.{QName}
use Rattle.surface.specs.declared.types.TypeTree.{TypeTree}
use Rattle.surface.specs.declared.patterns.Pat.{Pat}
use Rattle.surface.specs.declared.expressions.BinderTree.{BinderTree}
use Rattle.surface.specs.declared.expressions.BranchTree.{BranchTree}
use Rattle.surface.specs.declared.expressions.Expr.{Expr}
use Rattle.surface.specs.declared.expressions.FieldValue.{FieldValue}
use Rattle.surface.specs.declared.expressions.TriggerTree.{TriggerTree, out-TriggerTree}
use Rattle.surface.specs.declared.expressions.ExprNode.TheVariants as ev
use Rattle.surface.specs.Surface as code
use Rattle.surface.specs.Trees.{SyntaxTree, apply, literal, truth, falsity, group, cast, access, fielded_tree, prefixed, negation, binary, choice, cases, binding, quantified}
use Rattle.surface.proofs.TreeLemmas.{tree_is, tree_of_node-Apply, tree_of_node-Group, tree_of_node-Cast, tree_of_node-Dot, tree_of_node-Fields, tree_part_of-fields, tree_of_node-Prefix, tree_of_node-Not, tree_of_node-Binary, tree_of_node-If, tree_of_node-Let, tree_of_node-Match, tree_of_node-Quant, arm_of-fields, terms_of-fields}
use Rattle.open_types.specs.Sizes.{source_size, sizes, branch_sizes, size_of, sizes_of, values_size, branches_size, triggers_size}

-- each expression counts
pub some_size : (e : SyntaxTree) → 1 ≤ source_size e
some_size (apply a c es) = omega arith
some_size (literal a w) = omega arith
some_size (truth a) = omega arith
some_size (falsity a) = omega arith
some_size (group a es) = omega arith
some_size (cast a e f) = omega arith
some_size (access a e c) = omega arith
some_size (fielded_tree a cs es semi) = omega arith
some_size (prefixed a o e) = omega arith
some_size (negation a e) = omega arith
some_size (binary a e o f) = omega arith
some_size (choice a c e f) = omega arith
some_size (cases a es bar bs) = omega arith
some_size (binding a ps e f) = omega arith
some_size (quantified a all bs g e) = omega arith

pub sizes_are : (xs : List Expr) → sizes (code.trees (map code.tree_of xs)) ≡ sizes_of xs
sizes_are [] = refl
sizes_are (x ∷ xs) = ap (λ (n : ℕ). size_of x + n) (sizes_are xs)

pub size_at-Apply : (e : Expr) (q : QName) (xs : List Expr) → e.node ≡ ev.Apply q xs → size_of e ≡ suc (sizes_of xs)
size_at-Apply e q xs is = ap source_size (tree_is e (ev.Apply q xs) is ∙ tree_of_node-Apply q xs e.at) ∙ ap suc (sizes_are xs)

pub size_at-Group : (e : Expr) (xs : List Expr) → e.node ≡ ev.Group xs → size_of e ≡ suc (sizes_of xs)
size_at-Group e xs is = ap source_size (tree_is e (ev.Group xs) is ∙ tree_of_node-Group xs e.at) ∙ ap suc (sizes_are xs)

pub size_at-Cast : (e : Expr) (a : Expr) (t : TypeTree) → e.node ≡ ev.Cast a t → size_of e ≡ suc (size_of a)
size_at-Cast e a t is = ap source_size (tree_is e (ev.Cast a t) is ∙ tree_of_node-Cast a t e.at)

pub size_at-Prefix : (e : Expr) (o : OpName) (a : Expr) → e.node ≡ ev.Prefix o a → size_of e ≡ suc (size_of a)
size_at-Prefix e o a is = ap source_size (tree_is e (ev.Prefix o a) is ∙ tree_of_node-Prefix o a e.at)

pub size_at-Dot : (e : Expr) (a : Expr) (q : QName) → e.node ≡ ev.Dot a q → size_of e ≡ suc (size_of a)
size_at-Dot e a q is = ap source_size (tree_is e (ev.Dot a q) is ∙ tree_of_node-Dot a q e.at)

values_are : (fs : List FieldValue) → sizes (code.tree_values (map code.tree_part_of fs)) ≡ values_size fs
values_are [] = refl
values_are (f ∷ fs) =
    ap (λ (x : code.TreePart). source_size x.tree + sizes (code.tree_values (map code.tree_part_of fs))) (tree_part_of-fields f) ∙ ap (λ (n : ℕ). size_of f.value + n) (values_are fs)

pub size_at-Fields : (e : Expr) (fs : List FieldValue) (semi : Bool) → e.node ≡ ev.Fields fs semi → size_of e ≡ suc (values_size fs)
size_at-Fields e fs semi is = ap source_size (tree_is e (ev.Fields fs semi) is ∙ tree_of_node-Fields fs semi e.at) ∙ ap suc (values_are fs)

pub size_at-Not : (e : Expr) (a : Expr) → e.node ≡ ev.Not a → size_of e ≡ suc (size_of a)
size_at-Not e a is = ap source_size (tree_is e (ev.Not a) is ∙ tree_of_node-Not a e.at)

pub size_at-Binary : (e : Expr) (a : Expr) (o : OpName) (b : Expr) → e.node ≡ ev.Binary a o b → size_of e ≡ suc (size_of a + size_of b)
size_at-Binary e a o b is = ap source_size (tree_is e (ev.Binary a o b) is ∙ tree_of_node-Binary a o b e.at)

pub size_at-If : (e : Expr) (c a b : Expr) → e.node ≡ ev.If c a b → size_of e ≡ suc (size_of c + size_of a + size_of b)
size_at-If e c a b is = ap source_size (tree_is e (ev.If c a b) is ∙ tree_of_node-If c a b e.at)

pub size_at-Let : (e : Expr) (ps : List Pat) (a b : Expr) → e.node ≡ ev.Let ps a b → size_of e ≡ suc (size_of a + size_of b)
size_at-Let e ps a b is = ap source_size (tree_is e (ev.Let ps a b) is ∙ tree_of_node-Let ps a b e.at)

pub size_at-Quant : (e : Expr) (all : Bool) (bs : List BinderTree) (g : Option TriggerTree) (b : Expr) → e.node ≡ ev.Quant all bs g b → size_of e ≡ suc (triggers_size g + size_of b)
size_at-Quant e all bs g b is = ap source_size (tree_is e (ev.Quant all bs g b) is ∙ tree_of_node-Quant all bs g b e.at)

-- one reference's tree for another's
pub size_same : (a b : Expr) → a ≡ b → size_of a ≡ size_of b
size_same a b e = ap size_of e

branch_sizes_are : (bs : List BranchTree) → branch_sizes (code.branches (map code.arm_of bs)) ≡ branches_size bs
branch_sizes_are [] = refl
branch_sizes_are (b ∷ bs) =
    ap (λ (a : code.Arm). source_size a.body + branch_sizes (code.branches (map code.arm_of bs))) (arm_of-fields b) ∙ ap (λ (n : ℕ). size_of b.body + n) (branch_sizes_are bs)

pub size_at-Match : (e : Expr) (es : List Expr) (bar : Bool) (bs : List BranchTree) → e.node ≡ ev.Match es bar bs → size_of e ≡ suc (sizes_of es + branches_size bs)
size_at-Match e es bar bs is = ap source_size (tree_is e (ev.Match es bar bs) is ∙ tree_of_node-Match es bar bs e.at) ∙ cc (sizes_are es, branch_sizes_are bs)

pub branches_split : (bs cs : List BranchTree) (b : BranchTree) → bs ≡ b ∷ cs → branches_size bs ≡ size_of b.body + branches_size cs
branches_split bs cs b e = ap branches_size e

pub triggers_size-Some : (g : Option TriggerTree) (t : TriggerTree) → g ≡ Some t → triggers_size g ≡ sizes_of (out-TriggerTree t).terms
triggers_size-Some g t is = ap triggers_size is ∙ ap (λ (x : code.Terms). sizes x.terms) (terms_of-fields t) ∙ sizes_are (out-TriggerTree t).terms
