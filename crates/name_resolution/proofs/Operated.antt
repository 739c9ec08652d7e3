-- The abstract syntax of an operator between two operands and of a `let`, by what the code finds them to be.
use Rattle.std.proofs.Common.{◌≡◌, true, List, Option, Some, None, ap, ◌∙◌}
use Rattle.surface.specs.declared.names.OpName.{OpName}
use Rattle.surface.specs.declared.patterns.Pat.{Pat}
use Rattle.surface.specs.declared.expressions.Expr.{Expr}
use Rattle.surface.specs.declared.expressions.ExprNode.TheVariants as ev
use Rattle.surface.specs.Lexeme.{Word}
use Rattle.surface.specs.Surface as code
use Rattle.surface.specs.Surface.{op_of}
use Rattle.name_resolution.specs.Abstract.{OperatorMeaning, let_expression, operated, operator_meaning, let_by, let_name, expression_of, match_expression, more_branches, no_branches, more_alternatives, no_alternatives, first_form, side_by_side}
use Rattle.name_resolution.proofs.Nodes.{expression_at-Binary, expression_at-Let}

pub operated_as : (e a : Expr) (o : OpName) (b : Expr) → e.node ≡ ev.Binary a o b → (r : OperatorMeaning) → operator_meaning (op_of o).terminal (op_of o).text ≡ r → expression_of e ≡ operated e.at.main (expression_of a) r (expression_of b)
operated_as e a o b is r q = expression_at-Binary e a o b is ∙ ap (λ (x : OperatorMeaning). operated e.at.main (expression_of a) x (expression_of b)) q

pub bound_as : (e : Expr) (ps : List Pat) (a b : Expr) → e.node ≡ ev.Let ps a b → (x : Word) → let_name (code.patterns ps) ≡ Some x → expression_of e ≡ let_expression e.at.main x (expression_of a) (expression_of b)
bound_as e ps a b is x q = expression_at-Let e ps a b is ∙ ap (λ (o : Option Word). let_by o e.at.main (code.patterns ps) (expression_of a) (expression_of b)) q

pub matched_as : (e : Expr) (ps : List Pat) (a b : Expr) → e.node ≡ ev.Let ps a b → let_name (code.patterns ps) ≡ None
    → expression_of e ≡ match_expression e.at.main true (expression_of a) (more_branches (more_alternatives (first_form (code.patterns ps)) (side_by_side (code.patterns ps)) no_alternatives) (expression_of b) no_branches)
matched_as e ps a b is q = expression_at-Let e ps a b is ∙ ap (λ (o : Option Word). let_by o e.at.main (code.patterns ps) (expression_of a) (expression_of b)) q
