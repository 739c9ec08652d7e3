-- The abstract syntax at each kind of node.
use Rattle.std.proofs.Common.{◌≡◌, ℤ, List, [], ◌∷◌, map, length, get_or, Bool, false, Option, Some, None, option_map, refl, ap, ◌∙◌}
use Rattle.std.specs.List.{slice_get}
use Rattle.surface.specs.declared.names.OpName.{OpName}
use Rattle.surface.specs.declared.names.QName.{QName}
use Rattle.surface.specs.declared.types.TypeTree.{TypeTree}
use Rattle.surface.specs.declared.types.TypeNode.TheVariants as tv
use Rattle.surface.specs.declared.names.Name.{Name}
use Rattle.surface.specs.declared.patterns.FieldPat.{FieldPat}
use Rattle.surface.specs.declared.patterns.Pat.{Pat}
use Rattle.surface.specs.declared.names.At.{At}
use Rattle.surface.specs.declared.patterns.PatNode.TheVariants as pv
use Rattle.surface.specs.declared.patterns.PatNode.TheOpen as pt
use Rattle.surface.specs.declared.patterns.PatNode.TheOpen.{PatNode-F}
use Rattle.surface.specs.declared.patterns.PatNode.TheFolds.{fold_out-PatNode}
use Rattle.surface.specs.Forms as surface
use Rattle.surface.specs.declared.expressions.BinderTree.{BinderTree}
use Rattle.surface.specs.declared.expressions.Expr.{Expr}
use Rattle.surface.specs.declared.expressions.FieldValue.{FieldValue}
use Rattle.surface.specs.declared.expressions.TriggerTree.{TriggerTree, out-TriggerTree}
use Rattle.surface.specs.declared.expressions.BranchTree.{BranchTree}
use Rattle.surface.specs.declared.expressions.ExprNode.TheVariants as ev
use Rattle.surface.specs.Lexeme.{Word}
use Rattle.surface.specs.Surface as code
use Rattle.surface.specs.Surface.{own_of, op_of, integer_word, pattern_step, pattern_whole, pattern_of_node}
use Rattle.surface.proofs.TreeLemmas.{form_is, tree_is, pattern_is, pattern_of-node, terms_of-fields, arm_of-fields, form_of_node-Var, form_of_node-Named, form_of_node-Group, tree_of_node-Apply, tree_of_node-Int, tree_of_node-True, tree_of_node-False, tree_of_node-Group, tree_of_node-Cast, tree_of_node-Dot, tree_of_node-Fields, tree_part_of-fields, form_part_of-fields, tree_of_node-Prefix, tree_of_node-Not, tree_of_node-Binary, tree_of_node-If, tree_of_node-Let, tree_of_node-Match, tree_of_node-Quant, pattern_of_node-Wild, pattern_of_node-Var, pattern_of_node-Con, pattern_of_node-Group, pattern_of_node-Alias, pattern_of_node-Fields}
use Rattle.name_resolution.specs.Abstract.{FieldName, named_field, field_names, field_name_of, value_fields_of, field_values_of, pattern_fields_of, field_patterns_of, record_pattern, variable_type, composed_type, more_types, BoundNames, Expressions, applied_expression, integer_expression, true_expression, false_expression, cast_expression, field_expression, record_expression, not_expression, if_expression, quantified_expression, no_expressions, more_expressions, text_of_own, prefix_name, spelled, operator_meaning, operated, grouped_forms, grouped, integer_value, binder, binders_of, let_by, let_name, type_expression, type_expressions, expression, expressions, type_expression_of, expression_of, forms_of, expressions_of, wildcard_pattern, variable_pattern, constructor_pattern, alias_pattern, more_patterns, grouped_patterns, pattern, pattern_list, abstract_pattern_of, patterns_of, triggers_of, match_expression, match_branches, first_tree, more_branches, branch_alternatives, alternatives_of, branches_of, form_place, first_form}

pub forms_are : (xs : List TypeTree) → type_expressions (code.forms (map code.form_of xs)) ≡ forms_of xs
forms_are [] = refl
forms_are (x ∷ xs) = ap (more_types (type_expression_of x)) (forms_are xs)

pub expressions_are : (xs : List Expr) → expressions (code.trees (map code.tree_of xs)) ≡ expressions_of xs
expressions_are [] = refl
expressions_are (x ∷ xs) = ap (more_expressions (expression_of x)) (expressions_are xs)

pub form_at-Var : (e : TypeTree) (w : Word) → e.node ≡ tv.Var w → type_expression_of e ≡ variable_type e.at.main w
form_at-Var e w is = ap type_expression (form_is e (tv.Var w) is ∙ form_of_node-Var w e.at)

pub form_at-Named : (e : TypeTree) (q : QName) (xs : List TypeTree) → e.node ≡ tv.Named q xs → type_expression_of e ≡ composed_type e.at.main q.scopes (text_of_own (own_of q.style q.text)) (forms_of xs)
form_at-Named e q xs is = ap type_expression (form_is e (tv.Named q xs) is ∙ form_of_node-Named q xs e.at) ∙ ap (composed_type e.at.main q.scopes (text_of_own (own_of q.style q.text))) (forms_are xs)

pub form_at-Group : (e : TypeTree) (xs : List TypeTree) → e.node ≡ tv.Group xs → type_expression_of e ≡ grouped_forms e.at.main (forms_of xs)
form_at-Group e xs is = ap type_expression (form_is e (tv.Group xs) is ∙ form_of_node-Group xs e.at) ∙ ap (grouped_forms e.at.main) (forms_are xs)

pub expression_at-Apply : (e : Expr) (q : QName) (xs : List Expr) → e.node ≡ ev.Apply q xs → expression_of e ≡ applied_expression e.at.main q.scopes (text_of_own (own_of q.style q.text)) (expressions_of xs)
expression_at-Apply e q xs is = ap expression (tree_is e (ev.Apply q xs) is ∙ tree_of_node-Apply q xs e.at) ∙ ap (applied_expression e.at.main q.scopes (text_of_own (own_of q.style q.text))) (expressions_are xs)

pub expression_at-Int : (e : Expr) (n : ℤ) → e.node ≡ ev.Int n → expression_of e ≡ integer_expression e.at.main (integer_value (integer_word n))
expression_at-Int e n is = ap expression (tree_is e (ev.Int n) is ∙ tree_of_node-Int n e.at)

pub expression_at-True : (e : Expr) → e.node ≡ ev.True → expression_of e ≡ true_expression e.at.main
expression_at-True e is = ap expression (tree_is e ev.True is ∙ tree_of_node-True e.at)

pub expression_at-False : (e : Expr) → e.node ≡ ev.False → expression_of e ≡ false_expression e.at.main
expression_at-False e is = ap expression (tree_is e ev.False is ∙ tree_of_node-False e.at)

pub expression_at-Group : (e : Expr) (xs : List Expr) → e.node ≡ ev.Group xs → expression_of e ≡ grouped e.at.main (expressions_of xs)
expression_at-Group e xs is = ap expression (tree_is e (ev.Group xs) is ∙ tree_of_node-Group xs e.at) ∙ ap (grouped e.at.main) (expressions_are xs)

pub expression_at-Cast : (e : Expr) (a : Expr) (t : TypeTree) → e.node ≡ ev.Cast a t → expression_of e ≡ cast_expression e.at.main (expression_of a) (type_expression_of t)
expression_at-Cast e a t is = ap expression (tree_is e (ev.Cast a t) is ∙ tree_of_node-Cast a t e.at)

pub expression_at-Prefix : (e : Expr) (o : OpName) (a : Expr) → e.node ≡ ev.Prefix o a → expression_of e ≡ applied_expression e.at.main [] (prefix_name (spelled (op_of o).terminal (op_of o).text)) (more_expressions (expression_of a) no_expressions)
expression_at-Prefix e o a is = ap expression (tree_is e (ev.Prefix o a) is ∙ tree_of_node-Prefix o a e.at)

pub expression_at-Dot : (e : Expr) (a : Expr) (q : QName) → e.node ≡ ev.Dot a q → expression_of e ≡ field_expression e.at.main (expression_of a) q.at q.scopes (text_of_own (own_of q.style q.text))
expression_at-Dot e a q is = ap expression (tree_is e (ev.Dot a q) is ∙ tree_of_node-Dot a q e.at)

field_values_are : (fs : List FieldValue) → expressions (code.tree_values (map code.tree_part_of fs)) ≡ field_values_of fs
field_values_are [] = refl
field_values_are (f ∷ fs) =
    ap (λ (x : code.TreePart). more_expressions (expression x.tree) (expressions (code.tree_values (map code.tree_part_of fs)))) (tree_part_of-fields f)
    ∙ ap (more_expressions (expression_of f.value)) (field_values_are fs)

value_fields_are : (fs : List FieldValue) → field_names (code.tree_names (map code.tree_part_of fs)) ≡ value_fields_of fs
value_fields_are [] = refl
value_fields_are (f ∷ fs) =
    ap (λ (x : code.TreePart). named_field x.name ∷ field_names (code.tree_names (map code.tree_part_of fs))) (tree_part_of-fields f)
    ∙ ap (λ (xs : List FieldName). field_name_of f.name ∷ xs) (value_fields_are fs)

pub expression_at-Fields : (e : Expr) (fs : List FieldValue) (semi : Bool) → e.node ≡ ev.Fields fs semi → expression_of e ≡ record_expression e.at.main (value_fields_of fs) (field_values_of fs)
expression_at-Fields e fs semi is =
    ap expression (tree_is e (ev.Fields fs semi) is ∙ tree_of_node-Fields fs semi e.at)
    ∙ (ap (λ (xs : List FieldName). record_expression e.at.main xs (expressions (code.tree_values (map code.tree_part_of fs)))) (value_fields_are fs)
    ∙ ap (record_expression e.at.main (value_fields_of fs)) (field_values_are fs))

pub expression_at-Not : (e : Expr) (a : Expr) → e.node ≡ ev.Not a → expression_of e ≡ not_expression e.at.main (expression_of a)
expression_at-Not e a is = ap expression (tree_is e (ev.Not a) is ∙ tree_of_node-Not a e.at)

pub expression_at-Binary : (e : Expr) (a : Expr) (o : OpName) (b : Expr) → e.node ≡ ev.Binary a o b → expression_of e ≡ operated e.at.main (expression_of a) (operator_meaning (op_of o).terminal (op_of o).text) (expression_of b)
expression_at-Binary e a o b is = ap expression (tree_is e (ev.Binary a o b) is ∙ tree_of_node-Binary a o b e.at)

pub expression_at-If : (e : Expr) (c a b : Expr) → e.node ≡ ev.If c a b → expression_of e ≡ if_expression e.at.main (expression_of c) (expression_of a) (expression_of b)
expression_at-If e c a b is = ap expression (tree_is e (ev.If c a b) is ∙ tree_of_node-If c a b e.at)

pub expression_at-Let : (e : Expr) (ps : List Pat) (a b : Expr) → e.node ≡ ev.Let ps a b → expression_of e ≡ let_by (let_name (code.patterns ps)) e.at.main (code.patterns ps) (expression_of a) (expression_of b)
expression_at-Let e ps a b is = ap expression (tree_is e (ev.Let ps a b) is ∙ tree_of_node-Let ps a b e.at)

binder_list : (bs : List BinderTree) → map binder (map code.binder_of bs) ≡ binders_of bs
binder_list [] = refl
binder_list (b ∷ bs) = cc (option_forms b.ty, binder_list bs)
  where
    option_forms : (o : Option TypeTree) → option_map type_expression (option_map code.form_of o) ≡ option_map type_expression_of o
    option_forms None = refl
    option_forms (Some f) = refl

pub expression_at-Quant : (e : Expr) (all : Bool) (bs : List BinderTree) (g : Option TriggerTree) (b : Expr) → e.node ≡ ev.Quant all bs g b → expression_of e ≡ quantified_expression e.at.main all (binders_of bs) (triggers_of g) (expression_of b)
expression_at-Quant e all bs g b is = ap expression (tree_is e (ev.Quant all bs g b) is ∙ tree_of_node-Quant all bs g b e.at) ∙ ap (λ (xs : List BoundNames). quantified_expression e.at.main all xs (triggers_of g) (expression_of b)) (binder_list bs)

-- ---- patterns
pub patterns_are : (ps : List Pat) → pattern_list (code.patterns ps) ≡ patterns_of ps
patterns_are [] = refl
patterns_are (p ∷ ps) = ap (more_patterns (abstract_pattern_of p)) (patterns_are ps)

pub pattern_at-Wild : (p : Pat) → p.node ≡ pv.Wild → abstract_pattern_of p ≡ wildcard_pattern p.at.main
pattern_at-Wild p is = ap pattern (pattern_is p pv.Wild is ∙ pattern_of_node-Wild p.at)

pub pattern_at-Var : (p : Pat) (n : Name) → p.node ≡ pv.Var n → abstract_pattern_of p ≡ variable_pattern p.at.main n.text
pattern_at-Var p n is = ap pattern (pattern_is p (pv.Var n) is ∙ pattern_of_node-Var n p.at)

pub pattern_at-Con : (p : Pat) (q : QName) (xs : List Pat) → p.node ≡ pv.Con q xs → abstract_pattern_of p ≡ constructor_pattern p.at.main q.scopes (text_of_own (own_of q.style q.text)) (patterns_of xs)
pattern_at-Con p q xs is = ap pattern (pattern_is p (pv.Con q xs) is ∙ pattern_of_node-Con q xs p.at) ∙ ap (constructor_pattern p.at.main q.scopes (text_of_own (own_of q.style q.text))) (patterns_are xs)

pub pattern_at-Group : (p : Pat) (xs : List Pat) → p.node ≡ pv.Group xs → abstract_pattern_of p ≡ grouped_patterns p.at.main (patterns_of xs)
pattern_at-Group p xs is = ap pattern (pattern_is p (pv.Group xs) is ∙ pattern_of_node-Group xs p.at) ∙ ap (grouped_patterns p.at.main) (patterns_are xs)

pub pattern_at-Alias : (p a : Pat) (n : Name) → p.node ≡ pv.Alias a n → abstract_pattern_of p ≡ alias_pattern (abstract_pattern_of a) n.at n.text
pattern_at-Alias p a n is = ap pattern (pattern_is p (pv.Alias a n) is ∙ pattern_of_node-Alias a n p.at)

field_patterns_are : (fs : List FieldPat) → pattern_list (code.form_values (map code.form_part_of fs)) ≡ field_patterns_of fs
field_patterns_are [] = refl
field_patterns_are (f ∷ fs) =
    ap (λ (x : code.FormPart). more_patterns (pattern x.form) (pattern_list (code.form_values (map code.form_part_of fs)))) (form_part_of-fields f)
    ∙ ap (more_patterns (abstract_pattern_of f.value)) (field_patterns_are fs)

pattern_fields_are : (fs : List FieldPat) → field_names (code.form_names (map code.form_part_of fs)) ≡ pattern_fields_of fs
pattern_fields_are [] = refl
pattern_fields_are (f ∷ fs) =
    ap (λ (x : code.FormPart). named_field x.name ∷ field_names (code.form_names (map code.form_part_of fs))) (form_part_of-fields f)
    ∙ ap (λ (xs : List FieldName). field_name_of f.name ∷ xs) (pattern_fields_are fs)

pub pattern_at-Fields : (p : Pat) (fs : List FieldPat) (semi : Bool) → p.node ≡ pv.Fields fs semi → abstract_pattern_of p ≡ record_pattern p.at.main (pattern_fields_of fs) (field_patterns_of fs)
pattern_at-Fields p fs semi is =
    ap pattern (pattern_is p (pv.Fields fs semi) is ∙ pattern_of_node-Fields fs semi p.at)
    ∙ (ap (λ (xs : List FieldName). record_pattern p.at.main xs (pattern_list (code.form_values (map code.form_part_of fs)))) (pattern_fields_are fs)
    ∙ ap (record_pattern p.at.main (pattern_fields_of fs)) (field_patterns_are fs))

pub branches_are : (bs : List BranchTree) → match_branches (code.branches (map code.arm_of bs)) ≡ branches_of bs
branches_are [] = refl
branches_are (b ∷ bs) =
    ap (λ (a : code.Arm). more_branches (branch_alternatives a.alternatives) (expression a.body) (match_branches (code.branches (map code.arm_of bs)))) (arm_of-fields b)
    ∙ ap (more_branches (alternatives_of b.alternatives) (expression_of b.body)) (branches_are bs)

pub expression_at-Match : (e : Expr) (es : List Expr) (bar : Bool) (bs : List BranchTree) → e.node ≡ ev.Match es bar bs → expression_of e ≡ match_expression e.at.main false (grouped (first_tree (code.trees (map code.tree_of es))) (expressions_of es)) (branches_of bs)
expression_at-Match e es bar bs is =
    ap expression (tree_is e (ev.Match es bar bs) is ∙ tree_of_node-Match es bar bs e.at)
    ∙ (ap (λ (xs : Expressions). match_expression e.at.main false (grouped (first_tree (code.trees (map code.tree_of es))) xs) (match_branches (code.branches (map code.arm_of bs)))) (expressions_are es)
    ∙ ap (match_expression e.at.main false (grouped (first_tree (code.trees (map code.tree_of es))) (expressions_of es))) (branches_are bs))

pub triggers_at-Some : (g : Option TriggerTree) (t : TriggerTree) → g ≡ Some t → triggers_of g ≡ expressions_of (out-TriggerTree t).terms
triggers_at-Some g t is = ap triggers_of is ∙ ap (λ (x : code.Terms). expressions x.terms) (terms_of-fields t) ∙ expressions_are (out-TriggerTree t).terms

-- ---- the name that a `let` binds
abbrev pub alone : surface.SyntaxForm → Option Word
alone (surface.variable a n) = Some n.text
alone _ = None

pub let_none : (ps : List Pat) → (length ps ≡ 1 → ⊥) → let_name (code.patterns ps) ≡ None
let_none [] h = refl
let_none (p ∷ []) h = absurd (h refl)
let_none (p ∷ q ∷ ps) h = two (code.pattern_of p)
  where
    two : (f : surface.SyntaxForm) → let_name (surface.more_forms f (surface.more_forms (code.pattern_of q) (code.patterns ps))) ≡ None
    two (surface.wild a) = refl
    two (surface.variable a n) = refl
    two (surface.type_variable a w) = refl
    two (surface.composed a c fs) = refl
    two (surface.enclosed a fs) = refl
    two (surface.aliased a f n) = refl
    two (surface.fielded_form a cs fs semi) = refl

pub let_alone : (ps : List Pat) (d : Pat) → length ps ≡ 1 → let_name (code.patterns ps) ≡ alone (code.pattern_of (get_or ps 0 d))
let_alone [] d h = absurd (cc)
let_alone (p ∷ []) d h = one (code.pattern_of p)
  where
    one : (f : surface.SyntaxForm) → let_name (surface.more_forms f surface.no_forms) ≡ alone f
    one (surface.wild a) = refl
    one (surface.variable a n) = refl
    one (surface.type_variable a w) = refl
    one (surface.composed a c fs) = refl
    one (surface.enclosed a fs) = refl
    one (surface.aliased a f n) = refl
    one (surface.fielded_form a cs fs semi) = refl
let_alone (p ∷ q ∷ ps) d h = absurd (cc)

-- ---- where a pattern stands
place_step : (x : PatNode-F (At → surface.SyntaxForm) code.FormPart surface.SyntaxForm) (a : At) → form_place (pattern_step x a) ≡ a
place_step pt.Wild a = refl
place_step (pt.Var n) a = refl
place_step (pt.Con q xs) a = refl
place_step (pt.Group xs) a = refl
place_step (pt.Alias p n) a = refl
place_step (pt.Fields fs semi) a = refl

pub pattern_place : (p : Pat) → form_place (code.pattern_of p) ≡ p.at
unfolding pattern_of_node
pattern_place p = ap form_place (pattern_of-node p) ∙ ap (λ f. form_place (f p.at)) (fold_out-PatNode (At → surface.SyntaxForm) code.FormPart surface.SyntaxForm pattern_step code.form_part pattern_whole p.node) ∙ place_step _ p.at

pub first_got : (ps : List Pat) (p : Pat) → slice_get ps 0 ≡ Some p → first_form (code.patterns ps) ≡ p.at.first
first_got [] p h = absurd (cc)
first_got (x ∷ xs) p h = ap (λ (a : At). a.first) (pattern_place x) ∙ ap (λ (q : Pat). q.at.first) (same h)
  where
    same : Some x ≡ Some p → x ≡ p
    same e = cc
