use Rattle.parser.proofs.parse_terms.Cited.{tree_part_of, tree_part_of-fields, tree_of_node-Fields, fielded_tree, tree_names, tree_values, IsReadTreeField, TreesFrom, tree_field_can, tree_item, tree_opened, trees_closed, trees_more, trees_start, arith, ◌<◌, rules, ℕ, ◌≡◌, ◌≤◌, ◌+◌, Bool, not, ◌&&◌, List, [], ◌∷◌, ◌++◌, option_map, map, sym, ap, ◌∙◌, subst, refl, append_assoc, map-append, prec, right, same, Lexeme, at, SyntaxForms, called, more_forms, SyntaxTree, SyntaxTrees, accessed, apply, binary, binding, cases, cast, choice, ends_open, falsity, group, negation, op, prefixed, quantified, triggered, truth, more, none, literal, Arm, Terms, alternatives, arm_of, binder_of, branches, called_of, form_of, own_of, patterns, pattern_of, op_of, terms_of, tree_of, trees, trigger, forms, tree_of_node-Apply, tree_of_node-Binary, tree_of_node-Cast, tree_of_node-If, tree_of_node-Let, tree_of_node-False, tree_of_node-Group, tree_of_node-Match, tree_of_node-True, scoped_of, IsReadFields, CanRead, Climb, IsReadClosed, IsReadPlain, IsExpr, IsRead, takes_infix, terminal_at, token_at, begins_atom, lexemes, IsBranch, IsReadTrigger, trees_many, under, plain_start, can_next, can_run, run_over, next, next_expr, next_within, stands_due, done, side_start, side_item, stands_by, side_more, side_done, expand, start, take, again, many_more, only, follow, Arguments, Members, atom_alone, atom_dots, atom_with, name_there, prim_args, prim_dots, prim_with, application_read, atom_none, atom_some, inner_start, members_start, only_paren, paren_start, climb_done, climb_more, not_start, operator_within, prefix_start, prim_read, prim_start, right_can, Bound, Quantified, Triggering, body_start, else_start, if_read, if_start, let_read, let_start, quantified_body, quantified_read, quantified_start, then_start, trigger_done, trigger_start, triggering_more, value_start, branching_start, neither, quantifier_there, separator_start, inside, upto}
use Rattle.tokens_why.specs.declared.terminal.Terminal.TheVariants as t
use Rattle.grammar.specs.declared.symbols.Symbol.TheVariants as s
use Rattle.parser.proofs.parse_terms.HeadsRead as H
use Rattle.parser.proofs.parse_terms.MatchRead as M
use Rattle.parser.proofs.parse_terms.expressions.+descent.Goals as goal

pub expression-operation-requires : goal.expression-operation-requires
expression-operation-requires m c = let a = c.operators.invariant.0.ahead in let w = inside c.args.source c.operators.left.end (operator_within (lexemes c.args.source) c.args.m c.args.i (tree_of c.operators.left.tree) c.operators.left.tight c.operators.left.end c.operators.invariant.0 (ap (λ b. not b && takes_infix c.args.m c.operators.left.tight (terminal_at (lexemes c.args.source) c.operators.left.end)) (sym c.operators.invariant.1) ∙ sym c.goes_on.ensures ∙ c.operators-test.true)) in (search rules, (c.operators.invariant.0, (ap (λ b. not b && takes_infix c.args.m c.operators.left.tight (terminal_at (lexemes c.args.source) c.operators.left.end)) (sym c.operators.invariant.1) ∙ sym c.goes_on.ensures ∙ c.operators-test.true)))

pub expression-returns-clause-read : goal.expression-returns-clause-read
expression-returns-clause-read m c = climb_done (lexemes c.args.source) c.args.m c.args.i (tree_of c.operators.left.tree) c.operators.left.tight c.operators.left.end c.operators.invariant.0 (ap (λ b. not b && takes_infix c.args.m c.operators.left.tight (terminal_at (lexemes c.args.source) c.operators.left.end)) (sym c.operators.invariant.1) ∙ sym c.goes_on.ensures ∙ c.operators-test.false)

pub operation-expression-requires : goal.operation-expression-requires
operation-expression-requires m c = let w = inside c.args.source c.args.left.end (operator_within (lexemes c.args.source) c.args.m c.args.i (tree_of c.args.left.tree) c.args.left.tight c.args.left.end c.requires.climb c.requires.goes_on) in (search rules, subst (λ x. CanRead (lexemes c.args.source) (s.Expr x) (c.args.left.end + 1)) (sym (c.right_of.ensures ∙ ap right c.terminal-sign.ensures)) (right_can (lexemes c.args.source) c.args.m c.args.i (tree_of c.args.left.tree) c.args.left.tight c.args.left.end c.requires.climb c.requires.goes_on))

pub operation-operator-requires : goal.operation-operator-requires
operation-operator-requires m c = inside c.args.source c.args.left.end (operator_within (lexemes c.args.source) c.args.m c.args.i (tree_of c.args.left.tree) c.args.left.tight c.args.left.end c.requires.climb c.requires.goes_on)

pub operation-returns-clause-climb : goal.operation-returns-clause-climb
operation-returns-clause-climb m c = subst (λ u. Climb (lexemes c.args.source) c.args.m c.args.i (tree_of c.new-tree.result) u c.in_ok-right.right.end) (sym (c.prec_of.ensures ∙ ap prec c.terminal-sign.ensures))
    (subst (λ e. Climb (lexemes c.args.source) c.args.m c.args.i e (prec (terminal_at (lexemes c.args.source) c.args.left.end)) c.in_ok-right.right.end) (sym (c.new-tree.ensures ∙ tree_of_node-Binary _ _ _ _ ∙ ap (λ l. binary (record { first = c.args.i; main = c.args.left.end }) (tree_of l) (op_of c.in_ok-name.name) (tree_of c.in_ok-second.second)) c.in_ok-first.ensures ∙ ap (λ r. binary (record { first = c.args.i; main = c.args.left.end }) (tree_of c.args.left.tree) (op_of c.in_ok-name.name) (tree_of r)) c.in_ok-second.ensures ∙ ap (λ o. binary (record { first = c.args.i; main = c.args.left.end }) (tree_of c.args.left.tree) o (tree_of c.in_ok-right.right.tree)) c.in_ok-name.ensures ∙ ap (λ f. binary (record { first = f; main = c.args.left.end }) (tree_of c.args.left.tree) (op c.args.left.end (terminal_at (lexemes c.args.source) c.args.left.end) (token_at (lexemes c.args.source) c.args.left.end).text) (tree_of c.in_ok-right.right.tree)) (sym c.requires.climb.first)))
    (climb_more (lexemes c.args.source) c.args.m c.args.i (tree_of c.args.left.tree) c.args.left.tight c.args.left.end c.requires.climb c.requires.goes_on (tree_of c.in_ok-right.right.tree) c.in_ok-right.right.end (subst (λ x. IsExpr (lexemes c.args.source) x (c.args.left.end + 1) (tree_of c.in_ok-right.right.tree) c.in_ok-right.right.end) (c.right_of.ensures ∙ ap right c.terminal-sign.ensures) c.in_ok-right.ensures.read)))

pub operation-returns-clause-is_open : goal.operation-returns-clause-is_open
operation-returns-clause-is_open m c = c.in_ok-right.ensures.is_open ∙ sym (ap ends_open (c.new-tree.ensures ∙ tree_of_node-Binary _ _ _ _) ∙ ap (λ r. ends_open (tree_of r)) c.in_ok-second.ensures)

pub operand-negation-requires : goal.operand-negation-requires
operand-negation-requires m c = (search rules, (c.requires, (sym c.is_at-is_negation.ensures ∙ c.if-is_negation.true)))

pub operand-prefix-requires : goal.operand-prefix-requires
operand-prefix-requires m c = (search rules, (c.requires, (sym c.at_prefix.ensures ∙ c.if-at_prefix.true)))

pub operand-choice-requires : goal.operand-choice-requires
operand-choice-requires m c = (search rules, (c.requires, (sym c.is_at-is_choice.ensures ∙ c.if-is_choice.true)))

pub operand-let_in-requires : goal.operand-let_in-requires
operand-let_in-requires m c = (search rules, (c.requires, (sym c.is_at-is_binding.ensures ∙ c.if-is_binding.true)))

pub operand-quantification-requires : goal.operand-quantification-requires
operand-quantification-requires m c = (search rules, (c.requires, (sym c.at_quantifier.ensures ∙ c.if-at_quantifier.true)))

pub operand-primary-requires : goal.operand-primary-requires
operand-primary-requires m c = (search rules, can_next (prim_start c.requires (sym c.is_at-is_negation.ensures ∙ c.if-is_negation.false) (sym c.at_prefix.ensures ∙ c.if-at_prefix.false) (sym c.is_at-is_choice.ensures ∙ c.if-is_choice.false) (sym c.is_at-is_binding.ensures ∙ c.if-is_binding.false) (neither (same t.ForallWord (terminal_at (lexemes c.args.source) c.args.i)) (same t.ExistsWord (terminal_at (lexemes c.args.source) c.args.i)) (sym c.at_quantifier.ensures ∙ c.if-at_quantifier.false)).0 (neither (same t.ForallWord (terminal_at (lexemes c.args.source) c.args.i)) (same t.ExistsWord (terminal_at (lexemes c.args.source) c.args.i)) (sym c.at_quantifier.ensures ∙ c.if-at_quantifier.false)).1))

pub operand-returns-clause-climb : goal.operand-returns-clause-climb
operand-returns-clause-climb m c = prim_read c.requires (sym c.is_at-is_negation.ensures ∙ c.if-is_negation.false) (sym c.at_prefix.ensures ∙ c.if-at_prefix.false) (sym c.is_at-is_choice.ensures ∙ c.if-is_choice.false) (sym c.is_at-is_binding.ensures ∙ c.if-is_binding.false) (neither (same t.ForallWord (terminal_at (lexemes c.args.source) c.args.i)) (same t.ExistsWord (terminal_at (lexemes c.args.source) c.args.i)) (sym c.at_quantifier.ensures ∙ c.if-at_quantifier.false)).0 (neither (same t.ForallWord (terminal_at (lexemes c.args.source) c.args.i)) (same t.ExistsWord (terminal_at (lexemes c.args.source) c.args.i)) (sym c.at_quantifier.ensures ∙ c.if-at_quantifier.false)).1 (tree_of c.in_ok-tree.tree) c.in_ok-tree.end c.in_ok-tree.ensures

pub operand-returns-clause-is_open : goal.operand-returns-clause-is_open
operand-returns-clause-is_open m c = sym c.in_ok-tree.ensures.closed

pub negation-expression-requires : goal.negation-expression-requires
negation-expression-requires m c = let h = inside c.args.source c.args.i (stands_due c.requires.can refl) in (search rules, can_next (not_start c.requires.can c.requires.word))

pub negation-returns-clause-climb : goal.negation-returns-clause-climb
negation-returns-clause-climb m c = subst (λ e. Climb (lexemes c.args.source) c.args.m c.args.i e 3 c.in_ok-inner.inner.end) (sym (c.in_ok-tree.ensures ∙ ap (λ a. negation a (tree_of c.in_ok-inner.inner.tree)) c.place.ensures))
    (under (negation (at c.args.i)) (not_start c.requires.can c.requires.word) refl refl c.in_ok-inner.ensures.read)

pub prefix-operator-requires : goal.prefix-operator-requires
prefix-operator-requires m c = inside c.args.source c.args.i (stands_due c.requires.can refl)

pub prefix-expression-requires : goal.prefix-expression-requires
prefix-expression-requires m c = let h = inside c.args.source c.args.i (stands_due c.requires.can refl) in (search rules, can_next (prefix_start c.requires.can c.requires.sign))

pub prefix-returns-clause-climb : goal.prefix-returns-clause-climb
prefix-returns-clause-climb m c = subst (λ e. Climb (lexemes c.args.source) c.args.m c.args.i e 8 c.in_ok-inner.inner.end) (sym (c.in_ok-tree.ensures ∙ ap (λ a. prefixed a (op_of c.in_ok-name.name) (tree_of c.in_ok-inner.inner.tree)) c.place.ensures ∙ ap (λ o. prefixed (at c.args.i) o (tree_of c.in_ok-inner.inner.tree)) c.in_ok-name.ensures))
    (under (prefixed (at c.args.i) (op c.args.i (terminal_at (lexemes c.args.source) c.args.i) (token_at (lexemes c.args.source) c.args.i).text)) (prefix_start c.requires.can c.requires.sign) refl refl c.in_ok-inner.ensures.read)

pub choice-boxed_expression-requires : goal.choice-boxed_expression-requires
choice-boxed_expression-requires m c = let h = inside c.args.source c.args.i (stands_due c.requires.can refl) in (search rules, can_next (if_start c.requires.can c.requires.word))

pub choice-boxed_expression-requires-2 : goal.choice-boxed_expression-requires-2
choice-boxed_expression-requires-2 m c = let a = c.in_ok-condition.ensures.ahead in let w = inside c.args.source c.in_ok-condition.j (next_within (next_expr (if_start c.requires.can c.requires.word) refl c.in_ok-condition.ensures) refl) in (search rules, can_next (then_start c.requires.can c.requires.word c.in_ok-condition.ensures))

pub choice-boxed_expression-requires-3 : goal.choice-boxed_expression-requires-3
choice-boxed_expression-requires-3 m c = let a = c.in_ok-condition.ensures.ahead in let b = c.in_ok-yes.ensures.ahead in let w = inside c.args.source c.in_ok-yes.n (next_within (next_expr (then_start c.requires.can c.requires.word c.in_ok-condition.ensures) refl c.in_ok-yes.ensures) refl) in (search rules, can_next (else_start c.requires.can c.requires.word c.in_ok-condition.ensures c.in_ok-yes.ensures))

pub choice-returns-clause-climb : goal.choice-returns-clause-climb
choice-returns-clause-climb m c = subst (λ e. Climb (lexemes c.args.source) c.args.m c.args.i e 0 c.in_ok-no.end) (sym (c.new-tree.ensures ∙ tree_of_node-If _ _ _ _ ∙ ap (λ a. choice a (tree_of c.in_ok-condition.condition) (tree_of c.in_ok-yes.yes) (tree_of c.in_ok-no.no)) c.place.ensures))
    (if_read c.requires.can c.requires.word c.in_ok-condition.ensures c.in_ok-yes.ensures c.in_ok-no.ensures)

pub choice-returns-clause-is_open : goal.choice-returns-clause-is_open
choice-returns-clause-is_open m c = sym (ap ends_open (c.new-tree.ensures ∙ tree_of_node-If _ _ _ _))

pub let_in-pattern-requires : goal.let_in-pattern-requires
let_in-pattern-requires m c = can_next (let_start c.requires.can c.requires.word)

pub let_in-more-init : goal.let_in-more-init
let_in-more-init m c = subst (λ ts. Bound (lexemes c.args.source) c.args.m c.args.i (map pattern_of ts) c.in_ok-first.j) (sym (c.in_ok-push.ensures.items ∙ ap (λ v. v ++ c.in_ok-first.first ∷ []) c.new-bound.ensures.items))
    (again (next (let_start c.requires.can c.requires.word) c.in_ok-first.ensures) 1 refl (λ k us. refl))

pub let_in-pattern-requires-in-more : goal.let_in-pattern-requires-in-more
let_in-pattern-requires-in-more m c = can_next (expand c.more.invariant t.Comma (sym c.is_at.ensures ∙ c.more-test.true) refl refl)

pub let_in-more-preserved : goal.let_in-more-preserved
let_in-more-preserved m c = subst (λ ts. Bound (lexemes c.args.source) c.args.m c.args.i ts c.in_ok-next.end) (sym (ap (map pattern_of) c.in_ok-push-2.ensures.items ∙ map-append pattern_of c.more.bound.items (c.in_ok-next.next ∷ [])))
    (again (next (expand c.more.invariant t.Comma (sym c.is_at.ensures ∙ c.more-test.true) refl refl) c.in_ok-next.ensures) 1 refl (λ k us. ap (λ v. (binding (at c.args.i) v us.0.value us.0.body, us.1)) (many_more more_forms (map pattern_of c.more.bound.items) (pattern_of c.in_ok-next.next) us.0.patterns)))

pub let_in-boxed_expression-requires : goal.let_in-boxed_expression-requires
let_in-boxed_expression-requires m c = let a : c.args.i + 1 ≤ c.more.j = c.more.invariant.ahead in let w = inside c.args.source c.more.j (next_within c.more.invariant refl) in (search rules, can_next (value_start (lexemes c.args.source) c.args.m c.args.i (map pattern_of c.more.bound.items) c.more.j c.more.invariant (sym c.is_at.ensures ∙ c.more-test.false)))

pub let_in-boxed_expression-requires-2 : goal.let_in-boxed_expression-requires-2
let_in-boxed_expression-requires-2 m c = let a : c.args.i + 1 ≤ c.more.j = c.more.invariant.ahead in let b = c.in_ok-value.ensures.ahead in let w = inside c.args.source c.in_ok-value.n (next_within (next_expr (value_start (lexemes c.args.source) c.args.m c.args.i (map pattern_of c.more.bound.items) c.more.j c.more.invariant (sym c.is_at.ensures ∙ c.more-test.false)) refl c.in_ok-value.ensures) refl) in (search rules, can_next (body_start (lexemes c.args.source) c.args.m c.args.i (map pattern_of c.more.bound.items) c.more.j c.more.invariant (sym c.is_at.ensures ∙ c.more-test.false) c.in_ok-value.ensures))

pub let_in-returns-clause-climb : goal.let_in-returns-clause-climb
let_in-returns-clause-climb m c = subst (λ e. Climb (lexemes c.args.source) c.args.m c.args.i e 0 c.in_ok-body.last) (sym (c.new-tree.ensures ∙ tree_of_node-Let _ _ _ _ ∙ ap (λ a. binding a (patterns c.from_vec.result) (tree_of c.in_ok-value.value) (tree_of c.in_ok-body.body)) c.place.ensures ∙ ap (λ ps. binding (at c.args.i) (patterns ps) (tree_of c.in_ok-value.value) (tree_of c.in_ok-body.body)) c.from_vec.ensures)) (let_read (lexemes c.args.source) c.args.m c.args.i (map pattern_of c.more.bound.items) c.more.j c.more.invariant (sym c.is_at.ensures ∙ c.more-test.false) c.in_ok-value.ensures c.in_ok-body.ensures)

pub let_in-returns-clause-is_open : goal.let_in-returns-clause-is_open
let_in-returns-clause-is_open m c = sym (ap ends_open (c.new-tree.ensures ∙ tree_of_node-Let _ _ _ _))

pub quantification-binder-requires : goal.quantification-binder-requires
quantification-binder-requires m c = can_run (quantified_start c.requires.can c.is_at-forall.result (quantifier_there (terminal_at (lexemes c.args.source) c.args.i) c.is_at-forall.result c.is_at-forall.ensures c.requires.word))

pub quantification-more-init : goal.quantification-more-init
quantification-more-init m c = subst (λ ts. Quantified (lexemes c.args.source) c.args.m c.args.i c.is_at-forall.result (map binder_of ts) c.in_ok-first.j) (sym (c.in_ok-push.ensures.items ∙ ap (λ v. v ++ c.in_ok-first.first ∷ []) c.new-binders.ensures.items))
    (again (follow c.in_ok-first.ensures.is (quantified_start c.requires.can c.is_at-forall.result (quantifier_there (terminal_at (lexemes c.args.source) c.args.i) c.is_at-forall.result c.is_at-forall.ensures c.requires.word))) 1 refl (λ k us. ap (λ v. (quantified (at c.args.i) c.is_at-forall.result (v ∷ us.0.others) us.0.trigger us.0.body, us.1)) c.in_ok-first.ensures.spelled))

pub quantification-binder-requires-in-more : goal.quantification-binder-requires-in-more
quantification-binder-requires-in-more m c = can_run (expand c.more.invariant t.Comma (sym c.is_at.ensures ∙ c.more-test.true) refl refl)

pub quantification-more-preserved : goal.quantification-more-preserved
quantification-more-preserved m c = subst (λ ts. Quantified (lexemes c.args.source) c.args.m c.args.i c.is_at-forall.result ts c.in_ok-next.end) (sym (ap (map binder_of) c.in_ok-push-2.ensures.items ∙ map-append binder_of c.more.binders.items (c.in_ok-next.next ∷ [])))
    (again (follow c.in_ok-next.ensures.is (expand c.more.invariant t.Comma (sym c.is_at.ensures ∙ c.more-test.true) refl refl)) 1 refl (λ k us. ap (λ v. (quantified (at c.args.i) c.is_at-forall.result ((map binder_of c.more.binders.items) ++ v ∷ us.0.others) us.0.trigger us.0.body, us.1)) c.in_ok-next.ensures.spelled ∙ ap (λ v. (quantified (at c.args.i) c.is_at-forall.result v us.0.trigger us.0.body, us.1)) (sym (append_assoc (map binder_of c.more.binders.items) ((binder_of c.in_ok-next.next) ∷ []) us.0.others))))

pub quantification-trigger-requires : goal.quantification-trigger-requires
quantification-trigger-requires m c = let a : c.args.i + 1 ≤ c.more.j = c.more.invariant.ahead in let w = inside c.args.source c.more.j (next_within c.more.invariant refl) in (search rules, (can_next c.more.invariant, (sym c.is_at.ensures ∙ c.more-test.false)))

pub quantification-any_expression-requires : goal.quantification-any_expression-requires
quantification-any_expression-requires m c = let a : c.args.i + 1 ≤ c.more.j = c.more.invariant.ahead in let b : c.more.j + 1 ≤ c.in_ok-triggers.following = c.in_ok-triggers.ensures.ahead in let w = upto c.args.source c.in_ok-triggers.following c.in_ok-triggers.ensures.within in (search rules, can_next (quantified_body (lexemes c.args.source) c.args.m c.args.i c.is_at-forall.result (map binder_of c.more.binders.items) c.more.j c.more.invariant (trigger (option_map terms_of c.in_ok-triggers.triggers)) c.in_ok-triggers.following c.in_ok-triggers.ensures))

pub quantification-returns-clause-climb : goal.quantification-returns-clause-climb
quantification-returns-clause-climb m c = subst (λ e. Climb (lexemes c.args.source) c.args.m c.args.i e 0 c.in_ok-body.last) (sym (c.in_ok-tree.ensures ∙ ap (λ a. quantified a c.is_at-forall.result (map binder_of c.from_vec-bound.result) (trigger (option_map terms_of c.in_ok-triggers.triggers)) (tree_of c.in_ok-body.body)) c.place.ensures ∙ ap (λ bs. quantified (at c.args.i) c.is_at-forall.result (map binder_of bs) (trigger (option_map terms_of c.in_ok-triggers.triggers)) (tree_of c.in_ok-body.body)) c.from_vec-bound.ensures)) (quantified_read (lexemes c.args.source) c.args.m c.args.i c.is_at-forall.result (map binder_of c.more.binders.items) c.more.j c.more.invariant (trigger (option_map terms_of c.in_ok-triggers.triggers)) c.in_ok-triggers.following c.in_ok-triggers.ensures c.in_ok-body.ensures)

pub quantification-returns-clause-is_open : goal.quantification-returns-clause-is_open
quantification-returns-clause-is_open m c = sym (ap ends_open c.in_ok-tree.ensures)

pub trigger-any_expression-requires : goal.trigger-any_expression-requires
trigger-any_expression-requires m c = let h = inside c.args.source c.args.i (stands_due c.requires.can refl) in (search rules, can_next (trigger_start c.requires.can (sym c.is_at-is_given.ensures ∙ c.if-is_given.true)))

retriggered : (xs : List Lexeme) (i : ℕ) (ts us : List SyntaxTree) (bs cs : List Bool) (j : ℕ) → us ≡ ts → cs ≡ bs → Triggering xs i ts bs j → Triggering xs i us cs j
retriggered xs i ts us bs cs j e f g = subst (λ v. Triggering xs i us v j) (sym f) (subst (λ v. Triggering xs i v bs j) (sym e) g)

pub trigger-terms-init : goal.trigger-terms-init
trigger-terms-init m c = retriggered (lexemes c.args.source) c.args.i (tree_of c.in_ok-first.first ∷ []) _ [] _ c.in_ok-first.j (ap (map tree_of) (c.in_ok-push.ensures.items ∙ ap (λ v. v ++ c.in_ok-first.first ∷ []) c.new-terms.ensures.items)) c.new-bars.ensures.items
    (again (next_expr (trigger_start c.requires.can (sym c.is_at-is_given.ensures ∙ c.if-is_given.true)) refl c.in_ok-first.ensures) 1 refl (λ k us. refl))

pub trigger-any_expression-requires-in-terms : goal.trigger-any_expression-requires-in-terms
trigger-any_expression-requires-in-terms m c = let a : c.args.i + 1 ≤ c.terms.j = c.terms.invariant.ahead in let w = inside c.args.source c.terms.j (next_within c.terms.invariant refl) in (search rules, can_next (separator_start (lexemes c.args.source) c.args.i (map tree_of c.terms.terms.items) c.terms.bars.items c.terms.j c.terms.invariant c.is_at-bar.result c.is_at-bar.ensures (sym c.at_separator.ensures ∙ c.terms-test.true)))

pub trigger-terms-preserved : goal.trigger-terms-preserved
trigger-terms-preserved m c = retriggered (lexemes c.args.source) c.args.i (map tree_of c.terms.terms.items ++ tree_of c.in_ok-next.next ∷ []) _ (c.terms.bars.items ++ c.is_at-bar.result ∷ []) _ c.in_ok-next.end (ap (map tree_of) c.in_ok-push-2.ensures.items ∙ map-append tree_of c.terms.terms.items (c.in_ok-next.next ∷ [])) c.in_ok-push-3.ensures.items
    (triggering_more (lexemes c.args.source) c.args.i (map tree_of c.terms.terms.items) c.terms.bars.items c.terms.j c.terms.invariant c.is_at-bar.result (tree_of c.in_ok-next.next) c.in_ok-next.end (separator_start (lexemes c.args.source) c.args.i (map tree_of c.terms.terms.items) c.terms.bars.items c.terms.j c.terms.invariant c.is_at-bar.result c.is_at-bar.ensures (sym c.at_separator.ensures ∙ c.terms-test.true)) c.in_ok-next.ensures)

pub trigger-returns-then-is_given : goal.trigger-returns-then-is_given
trigger-returns-then-is_given m c = subst (λ g. IsReadTrigger (lexemes c.args.source) c.args.i (triggered g.terms g.bars) (c.terms.j + 1 + 1)) (sym (c.new-tree.ensures ∙ ap (λ ts. made (trees (map tree_of ts)) c.from_vec-then-is_given.result) c.from_vec.ensures ∙ ap (made (trees (map tree_of c.terms.terms.items))) c.from_vec-then-is_given.ensures))
    (trigger_done (lexemes c.args.source) c.args.i (map tree_of c.terms.terms.items) c.terms.bars.items c.terms.j c.terms.invariant (neither (same t.Comma (terminal_at (lexemes c.args.source) c.terms.j)) (same t.Bar (terminal_at (lexemes c.args.source) c.terms.j)) (sym c.at_separator.ensures ∙ c.terms-test.false)).0 (neither (same t.Comma (terminal_at (lexemes c.args.source) c.terms.j)) (same t.Bar (terminal_at (lexemes c.args.source) c.terms.j)) (sym c.at_separator.ensures ∙ c.terms-test.false)).1)
  where
    made : SyntaxTrees → List Bool → Terms
    made ts bs = record { terms = ts; bars = bs }

pub trigger-returns : goal.trigger-returns
trigger-returns m c = again (expand (start c.requires.can) t.Dot (only (start c.requires.can) t.Dot (t.Comma ∷ t.LBrack ∷ []) refl refl (c.requires.last, ((sym c.is_at-is_given.ensures ∙ c.if-is_given.false), tt))) refl refl) 1 refl (λ k us. refl)

pub primary-at_name-requires : goal.primary-at_name-requires
primary-at_name-requires m c = inside c.args.source c.args.i (stands_due c.requires refl)

pub primary-head_name-requires : goal.primary-head_name-requires
primary-head_name-requires m c = name_there (H.head_start c.requires (sym c.at_name.ensures ∙ c.if-at_name.true))

pub atom-at_name-requires : goal.atom-at_name-requires
atom-at_name-requires m c = inside c.args.source c.args.i (stands_due c.requires refl)

pub atom-head_name-requires : goal.atom-head_name-requires
atom-head_name-requires m c = name_there (H.head_atom_start c.requires (sym c.at_name.ensures ∙ c.if-at_name.true))

pub primary-arguments-requires : goal.primary-arguments-requires
primary-arguments-requires m c = let a : c.args.i + 1 ≤ c.in_ok-name.j = c.in_ok-name.ensures.read.ahead in let w = upto c.args.source c.in_ok-name.j c.in_ok-name.ensures.read.within in (search rules, can_next (prim_args (scoped_of c.in_ok-name.name) c.in_ok-name.j c.in_ok-name.ensures.read c.requires (sym c.at_name.ensures ∙ c.if-at_name.true) (sym c.at_field-has_field.ensures ∙ c.if-has_field.false)))

pub primary-with_fields-requires : goal.primary-with_fields-requires
primary-with_fields-requires m c = can_next (prim_dots (scoped_of c.in_ok-name.name) c.in_ok-name.j c.in_ok-name.ensures.read c.requires (sym c.at_name.ensures ∙ c.if-at_name.true) (sym c.at_field-has_field.ensures ∙ c.if-has_field.true))

pub primary-returns-then-has_field : goal.primary-returns-then-has_field
primary-returns-then-has_field m c = prim_with refl refl (prim_dots (scoped_of c.in_ok-name.name) c.in_ok-name.j c.in_ok-name.ensures.read c.requires (sym c.at_name.ensures ∙ c.if-at_name.true) (sym c.at_field-has_field.ensures ∙ c.if-has_field.true)) (subst (λ e. IsReadFields (lexemes c.args.source) c.args.i e c.in_ok-name.j (tree_of c.in_ok-tree.tree) c.in_ok-tree.end) (c.new-alone.ensures ∙ tree_of_node-Apply _ _ _ ∙ ap (λ a. apply a (called_of c.in_ok-name.name) (trees (map tree_of c.new.result))) c.place.ensures ∙ ap (λ n. apply (at c.args.i) (called n c.in_ok-name.name.scopes (own_of c.in_ok-name.name.style c.in_ok-name.name.text)) (trees (map tree_of c.new.result))) c.in_ok-name.ensures.place ∙ ap (λ ts. apply (at c.args.i) (called c.args.i c.in_ok-name.name.scopes (own_of c.in_ok-name.name.style c.in_ok-name.name.text)) (trees (map tree_of ts))) c.new.ensures) c.in_ok-tree.ensures)

pub primary-returns-then-at_name : goal.primary-returns-then-at_name
primary-returns-then-at_name m c = subst (λ e. IsReadClosed (lexemes c.args.source) s.Prim c.args.i e e c.in_ok-parts.end) (sym (c.new-then-at_name.ensures ∙ tree_of_node-Apply _ _ _ ∙ ap (λ a. apply a (called_of c.in_ok-name.name) (trees (map tree_of c.in_ok-parts.parts))) c.place-then-at_name.ensures ∙ ap (λ n. apply (at c.args.i) (called n c.in_ok-name.name.scopes (own_of c.in_ok-name.name.style c.in_ok-name.name.text)) (trees (map tree_of c.in_ok-parts.parts))) c.in_ok-name.ensures.place))
    (application_read c.requires (scoped_of c.in_ok-name.name) c.in_ok-name.j (trees (map tree_of c.in_ok-parts.parts)) c.in_ok-parts.end (sym c.at_name.ensures ∙ c.if-at_name.true) c.in_ok-name.ensures.read (sym c.at_field-has_field.ensures ∙ c.if-has_field.false) c.in_ok-parts.ensures)

pub primary-plain_atom-requires : goal.primary-plain_atom-requires
primary-plain_atom-requires m c = (search rules, (can_next (H.plain_start c.requires (sym c.at_name.ensures ∙ c.if-at_name.false)), (sym c.at_name.ensures ∙ c.if-at_name.false)))

pub primary-returns : goal.primary-returns
primary-returns m c = record { first = c.in_ok-tree-2.ensures.first; closed = c.in_ok-tree-2.ensures.closed; is = done (next (plain_start c.requires (sym c.at_name.ensures ∙ c.if-at_name.false)) c.in_ok-tree-2.ensures.is) (tree_of c.in_ok-tree-2.tree) refl (λ k us. refl) }

pub atom-with_fields-requires : goal.atom-with_fields-requires
atom-with_fields-requires m c = can_next (atom_dots (scoped_of c.in_ok-name.name) c.in_ok-name.j c.in_ok-name.ensures.read c.requires (sym c.at_name.ensures ∙ c.if-at_name.true) (sym c.at_field-has_field.ensures ∙ c.if-has_field.true))

pub atom-returns-then-has_field : goal.atom-returns-then-has_field
atom-returns-then-has_field m c = atom_with (record { first = refl; closed = refl; is = atom_dots (scoped_of c.in_ok-name.name) c.in_ok-name.j c.in_ok-name.ensures.read c.requires (sym c.at_name.ensures ∙ c.if-at_name.true) (sym c.at_field-has_field.ensures ∙ c.if-has_field.true) }) (subst (λ e. IsReadFields (lexemes c.args.source) c.args.i e c.in_ok-name.j (tree_of c.in_ok-tree.tree) c.in_ok-tree.end) (c.new-alone.ensures ∙ tree_of_node-Apply _ _ _ ∙ ap (λ a. apply a (called_of c.in_ok-name.name) (trees (map tree_of c.new.result))) c.place.ensures ∙ ap (λ n. apply (at c.args.i) (called n c.in_ok-name.name.scopes (own_of c.in_ok-name.name.style c.in_ok-name.name.text)) (trees (map tree_of c.new.result))) c.in_ok-name.ensures.place ∙ ap (λ ts. apply (at c.args.i) (called c.args.i c.in_ok-name.name.scopes (own_of c.in_ok-name.name.style c.in_ok-name.name.text)) (trees (map tree_of ts))) c.new.ensures) c.in_ok-tree.ensures)

pub atom-returns-then-at_name : goal.atom-returns-then-at_name
atom-returns-then-at_name m c = subst (λ e. IsReadClosed (lexemes c.args.source) s.Atom c.args.i e e c.in_ok-name.j) (sym (c.new-alone.ensures ∙ tree_of_node-Apply _ _ _ ∙ ap (λ a. apply a (called_of c.in_ok-name.name) (trees (map tree_of c.new.result))) c.place.ensures ∙ ap (λ n. apply (at c.args.i) (called n c.in_ok-name.name.scopes (own_of c.in_ok-name.name.style c.in_ok-name.name.text)) (trees (map tree_of c.new.result))) c.in_ok-name.ensures.place ∙ ap (λ ts. apply (at c.args.i) (called c.args.i c.in_ok-name.name.scopes (own_of c.in_ok-name.name.style c.in_ok-name.name.text)) (trees (map tree_of ts))) c.new.ensures))
    (atom_alone (scoped_of c.in_ok-name.name) c.in_ok-name.j c.in_ok-name.ensures.read c.requires (sym c.at_name.ensures ∙ c.if-at_name.true) (sym c.at_field-has_field.ensures ∙ c.if-has_field.false))

pub atom-plain_atom-requires : goal.atom-plain_atom-requires
atom-plain_atom-requires m c = (search rules, (c.requires, (sym c.at_name.ensures ∙ c.if-at_name.false)))

pub arguments-arguments-init : goal.arguments-arguments-init
arguments-arguments-init m c = subst (λ ts. Arguments (lexemes c.args.source) c.args.i (map tree_of ts) c.args.i) (sym c.new-parts.ensures.items) (side_start s.Args s.Atom more none refl c.requires)

pub arguments-atom-requires : goal.arguments-atom-requires
arguments-atom-requires m c = let a : c.args.i + 0 ≤ c.arguments.j = c.arguments.invariant.ahead in (search rules, (can_next (side_item s.Args s.Atom more none refl (map tree_of c.arguments.parts.items) c.arguments.invariant (stands_by begins_atom (lexemes c.args.source) c.arguments.j refl (sym c.at_atom.ensures ∙ c.arguments-test.true)) (atom_some (terminal_at (lexemes c.args.source) c.arguments.j) (sym c.at_atom.ensures ∙ c.arguments-test.true)))))

pub arguments-arguments-preserved : goal.arguments-arguments-preserved
arguments-arguments-preserved m c = subst (λ ts. Arguments (lexemes c.args.source) c.args.i ts c.in_ok-next.end) (sym (ap (map tree_of) c.in_ok-push.ensures.items ∙ map-append tree_of c.arguments.parts.items (c.in_ok-next.next ∷ [])))
    (side_more s.Args s.Atom more none refl (map tree_of c.arguments.parts.items) c.arguments.invariant (stands_by begins_atom (lexemes c.args.source) c.arguments.j refl (sym c.at_atom.ensures ∙ c.arguments-test.true)) (atom_some (terminal_at (lexemes c.args.source) c.arguments.j) (sym c.at_atom.ensures ∙ c.arguments-test.true)) c.in_ok-next.ensures.is)

pub arguments-arguments-smaller : goal.arguments-arguments-smaller
arguments-arguments-smaller m c = let a : c.arguments.j + 1 ≤ c.in_ok-next.end = c.in_ok-next.ensures.is.ahead in let w = upto c.args.source c.in_ok-next.end c.in_ok-next.ensures.is.within in search rules

pub arguments-returns : goal.arguments-returns
arguments-returns m c = subst (λ ts. IsRead (lexemes c.args.source) s.Args c.args.i (trees (map tree_of ts)) c.arguments.j) (sym c.from_vec.ensures) (subst (λ v. IsRead (lexemes c.args.source) s.Args c.args.i v c.arguments.j) (trees_many (map tree_of c.arguments.parts.items)) (side_done s.Args s.Atom more none refl (map tree_of c.arguments.parts.items) c.arguments.invariant refl refl (atom_none (terminal_at (lexemes c.args.source) c.arguments.j) (sym c.at_atom.ensures ∙ c.arguments-test.false)) refl))

pub plain_atom-integer_tree-requires : goal.plain_atom-integer_tree-requires
plain_atom-integer_tree-requires m c = record { within = inside c.args.source c.args.i (stands_due c.requires.can refl); integer = (sym c.is_at-is_integer.ensures ∙ c.if-is_integer.true) }

pub plain_atom-returns-then-is_integer : goal.plain_atom-returns-then-is_integer
plain_atom-returns-then-is_integer m c = subst (λ e. IsReadClosed (lexemes c.args.source) s.Atom c.args.i e e (c.args.i + 1)) (sym c.integer_tree.ensures) (record { first = refl; closed = refl; is = done (expand (start c.requires.can) t.Int (sym c.is_at-is_integer.ensures ∙ c.if-is_integer.true) refl refl) (literal (at c.args.i) (token_at (lexemes c.args.source) c.args.i).text) refl (λ k us. refl) })

pub plain_atom-returns-then-is_true : goal.plain_atom-returns-then-is_true
plain_atom-returns-then-is_true m c = subst (λ e. IsReadClosed (lexemes c.args.source) s.Atom c.args.i e e (c.args.i + 1)) (sym (c.new.ensures ∙ tree_of_node-True _ ∙ ap truth c.place-here.ensures)) (record { first = refl; closed = refl; is = done (expand (start c.requires.can) t.TrueWord (sym c.is_at-is_true.ensures ∙ c.if-is_true.true) refl refl) (truth (at c.args.i)) refl (λ k us. refl) })

pub plain_atom-returns-then-is_false : goal.plain_atom-returns-then-is_false
plain_atom-returns-then-is_false m c = subst (λ e. IsReadClosed (lexemes c.args.source) s.Atom c.args.i e e (c.args.i + 1)) (sym (c.new-then-is_false.ensures ∙ tree_of_node-False _ ∙ ap falsity c.place-here.ensures)) (record { first = refl; closed = refl; is = done (expand (start c.requires.can) t.FalseWord (sym c.is_at-is_false.ensures ∙ c.if-is_false.true) refl refl) (falsity (at c.args.i)) refl (λ k us. refl) })

pub plain_atom-cases-requires : goal.plain_atom-cases-requires
plain_atom-cases-requires m c = (search rules, (c.requires.can, (sym c.is_at-is_match.ensures ∙ c.if-is_match.true)))

pub plain_atom-enclosed-requires : goal.plain_atom-enclosed-requires
plain_atom-enclosed-requires m c = (search rules, (c.requires.can, (c.requires.unnamed, only_paren c.requires.can c.requires.unnamed (sym c.is_at-is_integer.ensures ∙ c.if-is_integer.false) (sym c.is_at-is_true.ensures ∙ c.if-is_true.false) (sym c.is_at-is_false.ensures ∙ c.if-is_false.false) (sym c.is_at-is_match.ensures ∙ c.if-is_match.false) (sym c.is_at-is_record.ensures ∙ c.if-is_record.false))))

pub plain_atom-with_fields-requires : goal.plain_atom-with_fields-requires
plain_atom-with_fields-requires m c = can_next c.in_ok-plain.ensures.is

pub plain_atom-returns-then-is_match : goal.plain_atom-returns-then-is_match
plain_atom-returns-then-is_match m c = atom_with c.in_ok-plain.ensures c.in_ok-tree.ensures

pub plain_atom-term_record-requires : goal.plain_atom-term_record-requires
plain_atom-term_record-requires m c = (search rules, (c.requires.can, (sym c.is_at-is_record.ensures ∙ c.if-is_record.true)))

pub plain_atom-with_fields-requires-then-is_record : goal.plain_atom-with_fields-requires-then-is_record
plain_atom-with_fields-requires-then-is_record m c = can_next c.in_ok-plain-2.ensures.is

pub plain_atom-returns-then-is_record : goal.plain_atom-returns-then-is_record
plain_atom-returns-then-is_record m c = atom_with c.in_ok-plain-2.ensures c.in_ok-tree-2.ensures

pub plain_atom-with_fields-requires-2 : goal.plain_atom-with_fields-requires-2
plain_atom-with_fields-requires-2 m c = can_next c.in_ok-plain-3.ensures.is

pub plain_atom-returns : goal.plain_atom-returns
plain_atom-returns m c = atom_with c.in_ok-plain-3.ensures c.in_ok-tree-3.ensures

pub term_record-field_value-requires : goal.term_record-field_value-requires
term_record-field_value-requires m c = let h = inside c.args.source c.args.i (stands_due c.requires.can refl) in (search rules, tree_field_can {K = λ k. s.Dots ∷ k} (tree_opened c.requires.can c.requires.opens))

pub term_record-more-init : goal.term_record-more-init
term_record-more-init m c = subst (λ ts. TreesFrom (lexemes c.args.source) c.args.i (map tree_part_of ts) c.in_ok-first.j) (sym (c.in_ok-push.ensures.items ∙ ap (λ v. v ++ c.in_ok-first.first ∷ []) c.new-fields.ensures.items))
    (trees_start c.requires.can c.requires.opens (tree_part_of c.in_ok-first.first) c.in_ok-first.j c.in_ok-first.ensures)

pub term_record-field_value-requires-in-more : goal.term_record-field_value-requires-in-more
term_record-field_value-requires-in-more m c = let a : c.args.i + 1 ≤ c.more.j = c.more.invariant.is.ahead in let w = inside c.args.source c.more.j (next_within c.more.invariant.is refl) in (search rules, tree_field_can {K = λ k. s.Dots ∷ k} (tree_item (lexemes c.args.source) c.args.i (map tree_part_of c.more.fields.items) c.more.j c.more.invariant (sym c.at_next_field.ensures ∙ c.more-test.true)))

pub term_record-more-preserved : goal.term_record-more-preserved
term_record-more-preserved m c = subst (λ ts. TreesFrom (lexemes c.args.source) c.args.i ts c.in_ok-next.end) (sym (ap (map tree_part_of) c.in_ok-push-2.ensures.items ∙ map-append tree_part_of c.more.fields.items (c.in_ok-next.next ∷ [])))
    (trees_more (lexemes c.args.source) c.args.i (map tree_part_of c.more.fields.items) c.more.j c.more.invariant (sym c.at_next_field.ensures ∙ c.more-test.true) (tree_part_of c.in_ok-next.next) c.in_ok-next.end c.in_ok-next.ensures)

pub term_record-past_semicolon-semi-requires : goal.term_record-past_semicolon-semi-requires
term_record-past_semicolon-semi-requires m c = inside c.args.source c.more.j (next_within c.more.invariant.is refl)

pub term_record-returns : goal.term_record-returns
term_record-returns m c = subst (λ e. IsReadPlain (lexemes c.args.source) c.args.i e (c.past_semicolon-semi.result.1 + 1))
    (sym (c.new-tree.ensures ∙ tree_of_node-Fields _ _ _ ∙ ap (λ a. fielded_tree a (tree_names (map tree_part_of c.from_vec.result)) (tree_values (map tree_part_of c.from_vec.result)) c.past_semicolon-semi.result.0) c.place-here.ensures ∙ ap (λ ts. fielded_tree (at c.args.i) (tree_names (map tree_part_of ts)) (tree_values (map tree_part_of ts)) c.past_semicolon-semi.result.0) c.from_vec.ensures))
    (trees_closed (lexemes c.args.source) c.args.i (map tree_part_of c.more.fields.items) c.more.j c.more.invariant (sym c.at_next_field.ensures ∙ c.more-test.false) c.past_semicolon-semi.result.0 c.past_semicolon-semi.result.1 c.past_semicolon-semi.ensures.semi c.past_semicolon-semi.ensures.brace)

pub field_value-lower_name-requires : goal.field_value-lower_name-requires
field_value-lower_name-requires m c = can_next (start c.requires)

pub field_value-any_expression-requires : goal.field_value-any_expression-requires
field_value-any_expression-requires m c = let r = c.in_ok-name.ensures.read in let a : c.args.i + 1 ≤ c.in_ok-name.j = r.ahead in let w = inside c.args.source c.in_ok-name.j (next_within (next (start c.requires) r) refl) in (search rules, can_next (take (next (start c.requires) r)))

pub field_value-returns : goal.field_value-returns
field_value-returns m c = subst (λ f. IsReadTreeField (lexemes c.args.source) c.args.i f c.in_ok-value.end) (sym (tree_part_of-fields _))
    (record { name = record { scopes = c.in_ok-name.name.scopes; last = c.in_ok-name.name.text }; middle = c.in_ok-name.j; named = sym c.in_ok-name.ensures.name; is = c.in_ok-name.ensures.read; value = c.in_ok-value.ensures })

pub enclosed-returns-then-is_empty : goal.enclosed-returns-then-is_empty
enclosed-returns-then-is_empty m c = subst (λ e. IsReadPlain (lexemes c.args.source) c.args.i e (c.args.i + 1 + 1)) (sym (c.new-then-is_empty.ensures ∙ tree_of_node-Group _ _ ∙ ap (λ a. group a (trees (map tree_of c.new.result))) c.place-here.ensures ∙ ap (λ ts. group (at c.args.i) (trees (map tree_of ts))) c.new.ensures)) (record { first = refl; closed = refl; is = again (expand (paren_start c.requires.can c.requires.opens) t.RParen (sym c.is_at-is_empty.ensures ∙ c.if-is_empty.true) refl refl) 1 refl (λ k us. refl) })

pub enclosed-any_expression-requires : goal.enclosed-any_expression-requires
enclosed-any_expression-requires m c = let h = inside c.args.source c.args.i (stands_due c.requires.can refl) in (search rules, can_next (inner_start c.requires.can c.requires.opens c.requires.unnamed (sym c.is_at-is_empty.ensures ∙ c.if-is_empty.false)))

pub enclosed-type_tree-requires : goal.enclosed-type_tree-requires
enclosed-type_tree-requires m c = can_next (expand (next_expr (inner_start c.requires.can c.requires.opens c.requires.unnamed (sym c.is_at-is_empty.ensures ∙ c.if-is_empty.false)) refl c.in_ok-first.ensures) t.Colon (sym c.is_at-is_cast.ensures ∙ c.if-is_cast.true) refl refl)

pub enclosed-returns-then-is_cast : goal.enclosed-returns-then-is_cast
enclosed-returns-then-is_cast m c = subst (λ e. IsReadPlain (lexemes c.args.source) c.args.i e (c.in_ok-ty.end + 1)) (sym (c.new-tree.ensures ∙ tree_of_node-Cast _ _ _ ∙ ap (λ a. cast a (tree_of c.in_ok-held.held) (form_of c.in_ok-ty.ty)) c.place-here.ensures ∙ ap (λ e. cast (at c.args.i) (tree_of e) (form_of c.in_ok-ty.ty)) c.in_ok-held.ensures))
    (record { first = refl; closed = refl; is = again (take (next (expand (next_expr (inner_start c.requires.can c.requires.opens c.requires.unnamed (sym c.is_at-is_empty.ensures ∙ c.if-is_empty.false)) refl c.in_ok-first.ensures) t.Colon (sym c.is_at-is_cast.ensures ∙ c.if-is_cast.true) refl refl) c.in_ok-ty.ensures)) 1 refl (λ k us. refl) })

pub enclosed-members-init : goal.enclosed-members-init
enclosed-members-init m c = subst (λ ts. Members (lexemes c.args.source) c.args.i (map tree_of ts) c.in_ok-first.j) (sym (c.in_ok-push.ensures.items ∙ ap (λ v. v ++ c.in_ok-first.first ∷ []) c.new-parts.ensures.items))
    (members_start (lexemes c.args.source) c.args.i (tree_of c.in_ok-first.first) c.in_ok-first.j (next_expr (inner_start c.requires.can c.requires.opens c.requires.unnamed (sym c.is_at-is_empty.ensures ∙ c.if-is_empty.false)) refl c.in_ok-first.ensures) (sym c.is_at-is_cast.ensures ∙ c.if-is_cast.false))

pub enclosed-any_expression-requires-in-members : goal.enclosed-any_expression-requires-in-members
enclosed-any_expression-requires-in-members m c = let a : c.args.i + 1 ≤ c.members.j = c.members.invariant.ahead in let w = inside c.args.source c.members.j (next_within c.members.invariant refl) in (search rules, (can_next (expand c.members.invariant t.Comma (sym c.is_at.ensures ∙ c.members-test.true) refl refl)))

pub enclosed-members-preserved : goal.enclosed-members-preserved
enclosed-members-preserved m c = subst (λ ts. Members (lexemes c.args.source) c.args.i ts c.in_ok-next.end) (sym (ap (map tree_of) c.in_ok-push-2.ensures.items ∙ map-append tree_of c.members.parts.items (c.in_ok-next.next ∷ [])))
    (again (next_expr (expand c.members.invariant t.Comma (sym c.is_at.ensures ∙ c.members-test.true) refl refl) refl c.in_ok-next.ensures) 1 refl (λ k us. ap (λ w. (accessed c.args.i (group (at c.args.i) w) us.1.0, us.1.1)) (many_more more (map tree_of c.members.parts.items) (tree_of c.in_ok-next.next) us.0)))

pub enclosed-returns : goal.enclosed-returns
enclosed-returns m c = subst (λ e. IsReadPlain (lexemes c.args.source) c.args.i e (c.members.j + 1)) (sym (c.new-2.ensures ∙ tree_of_node-Group _ _ ∙ ap (λ a. group a (trees (map tree_of c.from_vec.result))) c.place-here.ensures ∙ ap (λ ts. group (at c.args.i) (trees (map tree_of ts))) c.from_vec.ensures)) (record { first = refl; closed = refl; is = again (expand c.members.invariant t.RParen (only c.members.invariant t.RParen (t.Comma ∷ []) refl refl ((sym c.is_at.ensures ∙ c.members-test.false), tt)) refl refl) 1 refl (λ k us. ap (λ w. (accessed c.args.i (group (at c.args.i) w) us.0, us.1)) (trees_many (map tree_of c.members.parts.items))) })

pub cases-any_expression-requires : goal.cases-any_expression-requires
cases-any_expression-requires m c = let h = inside c.args.source c.args.i (stands_due c.requires.can refl) in (search rules, can_next (M.match_start c.requires.can c.requires.word))

pub cases-scrutinees-init : goal.cases-scrutinees-init
cases-scrutinees-init m c = subst (λ ts. M.Matched (lexemes c.args.source) c.args.i (map tree_of ts) c.in_ok-first.j) (sym (c.in_ok-push.ensures.items ∙ ap (λ v. v ++ c.in_ok-first.first ∷ []) c.new-scrutinees.ensures.items))
    (again (next_expr (M.match_start c.requires.can c.requires.word) refl c.in_ok-first.ensures) 1 refl (λ k us. refl))

pub cases-any_expression-requires-in-scrutinees : goal.cases-any_expression-requires-in-scrutinees
cases-any_expression-requires-in-scrutinees m c = let a : c.args.i + 1 ≤ c.scrutinees.j = c.scrutinees.invariant.ahead in let w = inside c.args.source c.scrutinees.j (next_within c.scrutinees.invariant refl) in (search rules, (can_next (expand c.scrutinees.invariant t.Comma (sym c.is_at.ensures ∙ c.scrutinees-test.true) refl refl)))

pub cases-scrutinees-preserved : goal.cases-scrutinees-preserved
cases-scrutinees-preserved m c = subst (λ ts. M.Matched (lexemes c.args.source) c.args.i ts c.in_ok-next.end) (sym (ap (map tree_of) c.in_ok-push-2.ensures.items ∙ map-append tree_of c.scrutinees.scrutinees.items (c.in_ok-next.next ∷ [])))
    (again (next_expr (expand c.scrutinees.invariant t.Comma (sym c.is_at.ensures ∙ c.scrutinees-test.true) refl refl) refl c.in_ok-next.ensures) 1 refl (λ k us. ap (λ v. (accessed c.args.i (cases (at c.args.i) v us.0.bar us.0.branches) us.1.0, us.1.1)) (many_more more (map tree_of c.scrutinees.scrutinees.items) (tree_of c.in_ok-next.next) us.0.others)))

pub cases-past_bar-bar-requires : goal.cases-past_bar-bar-requires
cases-past_bar-bar-requires m c = inside c.args.source (c.scrutinees.j + 1) (next_within (M.with_start (lexemes c.args.source) c.args.i (map tree_of c.scrutinees.scrutinees.items) c.scrutinees.j c.scrutinees.invariant (sym c.is_at.ensures ∙ c.scrutinees-test.false)) refl)

pub cases-branch-alloc-requires : goal.cases-branch-alloc-requires
cases-branch-alloc-requires m c = let g = (branching_start (lexemes c.args.source) c.args.i (map tree_of c.scrutinees.scrutinees.items) c.scrutinees.j c.scrutinees.invariant (sym c.is_at.ensures ∙ c.scrutinees-test.false) c.past_bar-bar.result.0 c.past_bar-bar.result.1 c.past_bar-bar.ensures.bar c.past_bar-bar.ensures.begins) in let a : c.args.i + 1 ≤ c.past_bar-bar.result.1 = g.ahead in let h = inside c.args.source c.args.i (stands_due c.requires.can refl) in (search rules, run_over {from = λ k. s.Pat ∷ s.Arm ∷ k} (λ k. s.Dots ∷ k) (can_run g))

pub cases-arms-init : goal.cases-arms-init
cases-arms-init m c = subst (λ bs. M.Branched (lexemes c.args.source) c.args.i (map tree_of c.scrutinees.scrutinees.items) c.past_bar-bar.result.0 (map arm_of bs) c.in_ok-arm.n) (sym (c.in_ok-push-3.ensures.items ∙ ap (λ v. v ++ c.in_ok-arm.arm ∷ []) c.new-arms.ensures.items))
    (M.branched_more (lexemes c.args.source) c.args.i (map tree_of c.scrutinees.scrutinees.items) c.past_bar-bar.result.0 [] c.past_bar-bar.result.1 (arm_of c.in_ok-arm.arm) c.in_ok-arm.n (branching_start (lexemes c.args.source) c.args.i (map tree_of c.scrutinees.scrutinees.items) c.scrutinees.j c.scrutinees.invariant (sym c.is_at.ensures ∙ c.scrutinees-test.false) c.past_bar-bar.result.0 c.past_bar-bar.result.1 c.past_bar-bar.ensures.bar c.past_bar-bar.ensures.begins) c.in_ok-arm.ensures)

pub cases-branch-alloc-requires-in-arms : goal.cases-branch-alloc-requires-in-arms
cases-branch-alloc-requires-in-arms m c = let a : c.args.i + 1 ≤ c.arms.n = c.arms.invariant.ahead in let w = inside c.args.source c.arms.n (next_within c.arms.invariant refl) in (search rules, run_over {from = λ k. s.Pat ∷ s.Arm ∷ k} (λ k. s.Dots ∷ k) (can_run (M.branch_start (lexemes c.args.source) c.args.i (map tree_of c.scrutinees.scrutinees.items) c.past_bar-bar.result.0 (map arm_of c.arms.arms.items) c.arms.n c.arms.invariant (sym c.is_at-in-arms.ensures ∙ c.arms-test.true))))

pub cases-arms-preserved : goal.cases-arms-preserved
cases-arms-preserved m c = subst (λ bs. M.Branched (lexemes c.args.source) c.args.i (map tree_of c.scrutinees.scrutinees.items) c.past_bar-bar.result.0 bs c.in_ok-more.end) (sym (ap (map arm_of) c.in_ok-push-4.ensures.items ∙ map-append arm_of c.arms.arms.items (c.in_ok-more.more ∷ [])))
    (M.branched_more (lexemes c.args.source) c.args.i (map tree_of c.scrutinees.scrutinees.items) c.past_bar-bar.result.0 (map arm_of c.arms.arms.items) (c.arms.n + 1) (arm_of c.in_ok-more.more) c.in_ok-more.end (M.branch_start (lexemes c.args.source) c.args.i (map tree_of c.scrutinees.scrutinees.items) c.past_bar-bar.result.0 (map arm_of c.arms.arms.items) c.arms.n c.arms.invariant (sym c.is_at-in-arms.ensures ∙ c.arms-test.true)) c.in_ok-more.ensures)

pub cases-returns : goal.cases-returns
cases-returns m c = subst (λ e. IsReadPlain (lexemes c.args.source) c.args.i e (c.arms.n + 1)) (sym (c.new-tree.ensures ∙ tree_of_node-Match _ _ _ _ ∙ ap (λ a. cases a (trees (map tree_of c.from_vec.result)) c.past_bar-bar.result.0 (branches (map arm_of c.from_vec-2.result))) c.place-here.ensures ∙ ap (λ ts. cases (at c.args.i) (trees (map tree_of ts)) c.past_bar-bar.result.0 (branches (map arm_of c.from_vec-2.result))) c.from_vec.ensures ∙ ap (λ bs. cases (at c.args.i) (trees (map tree_of c.scrutinees.scrutinees.items)) c.past_bar-bar.result.0 (branches (map arm_of bs))) c.from_vec-2.ensures)) (record { first = refl; closed = refl; is = again (expand c.arms.invariant t.EndWord (only c.arms.invariant t.EndWord (t.Bar ∷ []) refl refl ((sym c.is_at-in-arms.ensures ∙ c.arms-test.false), tt)) refl refl) 1 refl (λ k us. ap (λ v. (accessed c.args.i (cases (at c.args.i) (trees (map tree_of c.scrutinees.scrutinees.items)) c.past_bar-bar.result.0 v) us.0, us.1)) (M.branches_many (map arm_of c.arms.arms.items))) })

pub branch-alternative-requires : goal.branch-alternative-requires
branch-alternative-requires m c = c.requires

pub branch-alternatives-init : goal.branch-alternatives-init
branch-alternatives-init m c = subst (λ ts. M.Alternatives (lexemes c.args.source) c.args.i (map patterns ts) c.in_ok-first.j) (sym (c.in_ok-push.ensures.items ∙ ap (λ v. v ++ c.in_ok-first.first ∷ []) c.new-alternatives.ensures.items))
    (record { first = c.in_ok-first.ensures.first; patterns = forms c.in_ok-first.ensures.others; others = []; spelled = ap (λ v. v ∷ []) c.in_ok-first.ensures.spelled; ends = c.in_ok-first.ensures.ends; is = again c.in_ok-first.ensures.is 1 refl (λ k us. refl) })

pub branch-alternative-requires-in-alternatives : goal.branch-alternative-requires-in-alternatives
branch-alternative-requires-in-alternatives m c = can_run (expand c.alternatives.invariant.is t.Bar (sym c.is_at.ensures ∙ c.alternatives-test.true) refl refl)

pub branch-alternatives-preserved : goal.branch-alternatives-preserved
branch-alternatives-preserved m c = subst (λ ts. M.Alternatives (lexemes c.args.source) c.args.i ts c.in_ok-next.end) (sym (ap (map patterns) c.in_ok-push-2.ensures.items ∙ map-append patterns c.alternatives.alternatives.items (c.in_ok-next.next ∷ [])))
    (M.alternatives_more (lexemes c.args.source) c.args.i (map patterns c.alternatives.alternatives.items) c.alternatives.j c.alternatives.invariant (patterns c.in_ok-next.next) c.in_ok-next.end (sym c.is_at.ensures ∙ c.alternatives-test.true) c.in_ok-next.ensures)

pub branch-alternatives-smaller : goal.branch-alternatives-smaller
branch-alternatives-smaller m c = let a : c.alternatives.j + 1 + 1 ≤ c.in_ok-next.end = c.in_ok-next.ensures.is.ahead in let w = upto c.args.source c.in_ok-next.end c.in_ok-next.ensures.is.within in search rules

pub branch-any_expression-requires : goal.branch-any_expression-requires
branch-any_expression-requires m c = let a : c.args.i + 1 ≤ c.alternatives.j = c.alternatives.invariant.is.ahead in let w = inside c.args.source c.alternatives.j (next_within c.alternatives.invariant.is refl) in (search rules, can_next (M.body_start (lexemes c.args.source) c.args.i (map patterns c.alternatives.alternatives.items) c.alternatives.j c.alternatives.invariant (sym c.is_at.ensures ∙ c.alternatives-test.false)))

pub branch-returns : goal.branch-returns
branch-returns m c = subst (λ b. IsBranch (lexemes c.args.source) c.args.i b c.in_ok-body.last) (sym (c.new-tree.ensures ∙ ap (λ ts. armed (alternatives ts) (tree_of c.in_ok-body.body)) c.from_vec.ensures))
    (record { first = c.alternatives.invariant.first; patterns = c.alternatives.invariant.patterns; others = c.alternatives.invariant.others; spelled = c.alternatives.invariant.spelled; is = again (next_expr (M.body_start (lexemes c.args.source) c.args.i (map patterns c.alternatives.alternatives.items) c.alternatives.j c.alternatives.invariant (sym c.is_at.ensures ∙ c.alternatives-test.false)) refl c.in_ok-body.ensures) 1 refl (λ k us. refl) })
  where
    armed : List SyntaxForms → SyntaxTree → Arm
    armed ps e = record { alternatives = ps; body = e }

-- the numbers of tokens, which are at most that of all tokens

pub expression-operators-smaller : goal.expression-operators-smaller
expression-operators-smaller m c = let a : c.operators.left.end < c.in_ok-left-2.left.end = c.in_ok-left-2.ensures.ahead in let w = upto c.args.source c.in_ok-left-2.left.end c.in_ok-left-2.ensures.climb.within in omega (arith, w, a)

pub operation-overflow_add-end : goal.operation-overflow_add-end
operation-overflow_add-end m c = let h = inside c.args.source c.args.left.end (operator_within (lexemes c.args.source) c.args.m c.args.i (tree_of c.args.left.tree) c.args.left.tight c.args.left.end c.requires.climb c.requires.goes_on) in search rules

pub negation-overflow_add-i : goal.negation-overflow_add-i
negation-overflow_add-i m c = let h = inside c.args.source c.args.i (stands_due c.requires.can refl) in search rules

pub prefix-overflow_add-i : goal.prefix-overflow_add-i
prefix-overflow_add-i m c = let h = inside c.args.source c.args.i (stands_due c.requires.can refl) in search rules

pub choice-overflow_add-i : goal.choice-overflow_add-i
choice-overflow_add-i m c = let h = inside c.args.source c.args.i (stands_due c.requires.can refl) in search rules

pub choice-overflow_add-j : goal.choice-overflow_add-j
choice-overflow_add-j m c = let h = upto c.args.source c.in_ok-condition.j c.in_ok-condition.ensures.within in search rules

pub choice-overflow_add-n : goal.choice-overflow_add-n
choice-overflow_add-n m c = let h = upto c.args.source c.in_ok-yes.n c.in_ok-yes.ensures.within in search rules

pub let_in-overflow_add-i : goal.let_in-overflow_add-i
let_in-overflow_add-i m c = let h = inside c.args.source c.args.i (stands_due c.requires.can refl) in search rules

pub let_in-overflow_add-j : goal.let_in-overflow_add-j
let_in-overflow_add-j m c = let h = inside c.args.source c.more.j (next_within c.more.invariant refl) in search rules

pub let_in-more-smaller : goal.let_in-more-smaller
let_in-more-smaller m c = let h = inside c.args.source c.more.j (next_within c.more.invariant refl) in let a : c.more.j + 1 + 1 ≤ c.in_ok-next.end = c.in_ok-next.ensures.ahead in omega (arith, h, a)

pub let_in-overflow_add-j-2 : goal.let_in-overflow_add-j-2
let_in-overflow_add-j-2 m c = let h = inside c.args.source c.more.j (next_within c.more.invariant refl) in search rules

pub let_in-overflow_add-n : goal.let_in-overflow_add-n
let_in-overflow_add-n m c = let h = upto c.args.source c.in_ok-value.n c.in_ok-value.ensures.within in search rules

pub quantification-overflow_add-i : goal.quantification-overflow_add-i
quantification-overflow_add-i m c = let h = inside c.args.source c.args.i (stands_due c.requires.can refl) in search rules

pub quantification-overflow_add-j : goal.quantification-overflow_add-j
quantification-overflow_add-j m c = let h = inside c.args.source c.more.j (next_within c.more.invariant refl) in search rules

pub quantification-more-smaller : goal.quantification-more-smaller
quantification-more-smaller m c = let h = inside c.args.source c.more.j (next_within c.more.invariant refl) in let a : c.more.j + 1 + 1 ≤ c.in_ok-next.end = c.in_ok-next.ensures.is.ahead in omega (arith, h, a)

pub trigger-overflow_add-i : goal.trigger-overflow_add-i
trigger-overflow_add-i m c = let h = inside c.args.source c.args.i (stands_due c.requires.can refl) in search rules

pub trigger-overflow_add-j : goal.trigger-overflow_add-j
trigger-overflow_add-j m c = let h = inside c.args.source c.terms.j (next_within c.terms.invariant refl) in search rules

pub trigger-terms-smaller : goal.trigger-terms-smaller
trigger-terms-smaller m c = let h = inside c.args.source c.terms.j (next_within c.terms.invariant refl) in let a : c.terms.j + 1 < c.in_ok-next.end = c.in_ok-next.ensures.ahead in omega (arith, h, a)

pub trigger-overflow_add-result : goal.trigger-overflow_add-result
trigger-overflow_add-result m c = let h = inside c.args.source c.terms.j (next_within c.terms.invariant refl) in search rules

pub trigger-overflow_add-result-then-is_given : goal.trigger-overflow_add-result-then-is_given
trigger-overflow_add-result-then-is_given m c = let h = inside c.args.source c.terms.j (next_within c.terms.invariant refl) in search rules

pub trigger-overflow_add-result-2 : goal.trigger-overflow_add-result-2
trigger-overflow_add-result-2 m c = let h = inside c.args.source c.args.i (stands_due c.requires.can refl) in search rules

pub plain_atom-overflow_add-result : goal.plain_atom-overflow_add-result
plain_atom-overflow_add-result m c = let h = inside c.args.source c.args.i (stands_due c.requires.can refl) in search rules

pub plain_atom-overflow_add-result-then-is_true : goal.plain_atom-overflow_add-result-then-is_true
plain_atom-overflow_add-result-then-is_true m c = let h = inside c.args.source c.args.i (stands_due c.requires.can refl) in search rules

pub plain_atom-overflow_add-result-then-is_false : goal.plain_atom-overflow_add-result-then-is_false
plain_atom-overflow_add-result-then-is_false m c = let h = inside c.args.source c.args.i (stands_due c.requires.can refl) in search rules

pub enclosed-overflow_add-following : goal.enclosed-overflow_add-following
enclosed-overflow_add-following m c = let h = inside c.args.source c.args.i (stands_due c.requires.can refl) in search rules

pub enclosed-overflow_add-result : goal.enclosed-overflow_add-result
enclosed-overflow_add-result m c = let h = inside c.args.source c.args.i (stands_due c.requires.can refl) in search rules

pub enclosed-overflow_add-j : goal.enclosed-overflow_add-j
enclosed-overflow_add-j m c = let h = upto c.args.source c.in_ok-first.j c.in_ok-first.ensures.within in search rules

pub enclosed-overflow_add-result-then-is_cast : goal.enclosed-overflow_add-result-then-is_cast
enclosed-overflow_add-result-then-is_cast m c = let h = upto c.args.source c.in_ok-ty.end c.in_ok-ty.ensures.within in search rules

pub enclosed-overflow_add-j-in-members : goal.enclosed-overflow_add-j-in-members
enclosed-overflow_add-j-in-members m c = let h = inside c.args.source c.members.j (next_within c.members.invariant refl) in search rules

pub enclosed-members-smaller : goal.enclosed-members-smaller
enclosed-members-smaller m c = let h = inside c.args.source c.members.j (next_within c.members.invariant refl) in let a : c.members.j + 1 < c.in_ok-next.end = c.in_ok-next.ensures.ahead in omega (arith, h, a)

pub enclosed-overflow_add-result-2 : goal.enclosed-overflow_add-result-2
enclosed-overflow_add-result-2 m c = let h = inside c.args.source c.members.j (next_within c.members.invariant refl) in search rules

pub term_record-overflow_add-i : goal.term_record-overflow_add-i
term_record-overflow_add-i m c = let h = inside c.args.source c.args.i (stands_due c.requires.can refl) in search rules

pub term_record-overflow_add-j : goal.term_record-overflow_add-j
term_record-overflow_add-j m c = let h = inside c.args.source c.more.j (next_within c.more.invariant.is refl) in search rules

pub term_record-more-smaller : goal.term_record-more-smaller
term_record-more-smaller m c = let h = inside c.args.source c.more.j (next_within c.more.invariant.is refl) in let r = c.in_ok-next.ensures in let a : c.more.j + 1 + 1 ≤ r.middle = r.is.ahead in let b : r.middle + 1 < c.in_ok-next.end = r.value.ahead in omega (arith, h, a, b)

pub term_record-overflow_add-result : goal.term_record-overflow_add-result
term_record-overflow_add-result m c = let r = trees_closed (lexemes c.args.source) c.args.i (map tree_part_of c.more.fields.items) c.more.j c.more.invariant (sym c.at_next_field.ensures ∙ c.more-test.false) c.past_semicolon-semi.result.0 c.past_semicolon-semi.result.1 c.past_semicolon-semi.ensures.semi c.past_semicolon-semi.ensures.brace in let h = upto c.args.source (c.past_semicolon-semi.result.1 + 1) r.is.within in search rules

pub field_value-overflow_add-j : goal.field_value-overflow_add-j
field_value-overflow_add-j m c = let w = inside c.args.source c.in_ok-name.j (next_within (next (start c.requires) c.in_ok-name.ensures.read) refl) in search rules

pub cases-overflow_add-i : goal.cases-overflow_add-i
cases-overflow_add-i m c = let h = inside c.args.source c.args.i (stands_due c.requires.can refl) in search rules

pub cases-overflow_add-j : goal.cases-overflow_add-j
cases-overflow_add-j m c = let h = inside c.args.source c.scrutinees.j (next_within c.scrutinees.invariant refl) in search rules

pub cases-scrutinees-smaller : goal.cases-scrutinees-smaller
cases-scrutinees-smaller m c = let h = inside c.args.source c.scrutinees.j (next_within c.scrutinees.invariant refl) in let a : c.scrutinees.j + 1 < c.in_ok-next.end = c.in_ok-next.ensures.ahead in omega (arith, h, a)

pub cases-overflow_add-j-2 : goal.cases-overflow_add-j-2
cases-overflow_add-j-2 m c = let h = inside c.args.source c.scrutinees.j (next_within c.scrutinees.invariant refl) in search rules

pub cases-overflow_add-n : goal.cases-overflow_add-n
cases-overflow_add-n m c = let h = inside c.args.source c.arms.n (next_within c.arms.invariant refl) in search rules

pub cases-arms-smaller : goal.cases-arms-smaller
cases-arms-smaller m c = let h = inside c.args.source c.arms.n (next_within c.arms.invariant refl) in let a : c.arms.n + 1 + 1 ≤ c.in_ok-more.end = c.in_ok-more.ensures.is.ahead in omega (arith, h, a)

pub cases-overflow_add-result : goal.cases-overflow_add-result
cases-overflow_add-result m c = let h = inside c.args.source c.arms.n (next_within c.arms.invariant refl) in search rules

pub branch-overflow_add-j : goal.branch-overflow_add-j
branch-overflow_add-j m c = let h = inside c.args.source c.alternatives.j (next_within c.alternatives.invariant.is refl) in search rules

pub branch-overflow_add-j-2 : goal.branch-overflow_add-j-2
branch-overflow_add-j-2 m c = let h = inside c.args.source c.alternatives.j (next_within c.alternatives.invariant.is refl) in search rules
