use Rattle.parser.proofs.parse_terms.Cited.{arith, rules, ◌≤◌, ◌+◌, [], ◌∷◌, ◌++◌, map, sym, ap, ◌∙◌, subst, refl, map-append, at, called, composed, enclosed, lower, more_forms, no_forms, called_of, form_of, types, form_of_node-Group, form_of_node-Named, IsRead, begins_atype, terminal_at, token_at, lexemes, can_next, next, next_within, stands_due, done, side_start, side_item, stands_by, side_more, side_done, expand, start, again, many_more, many, only, TypeList, Types, atype_none, atype_some, first_type_start, forms_many, group_part_start, group_start, named_part_start, named_start, inside, upto}
use Rattle.surface.specs.Forms.{type_variable}
use Rattle.surface.proofs.TreeLemmas.{form_of_node-Var}
use Rattle.parser.proofs.parse_terms.TextsRead.{variable_text}
use Rattle.tokens_why.specs.declared.terminal.Terminal.TheVariants as t
use Rattle.grammar.specs.declared.symbols.Symbol.TheVariants as s
use Rattle.parser.proofs.parse_terms.types.+type_descent.Goals as goal

pub type_tree-type_list-requires : goal.type_tree-type_list-requires
type_tree-type_list-requires m c = let g = group_start c.requires (sym c.is_at-is_group.ensures ∙ c.if-is_group.true) in let h = inside c.args.source c.args.i (stands_due c.requires refl) in (search rules, can_next g)

pub type_tree-returns-then-is_group : goal.type_tree-returns-then-is_group
type_tree-returns-then-is_group m c = subst (λ f. IsRead (lexemes c.args.source) s.TypeOf c.args.i f c.in_ok-parts.end) (sym (c.new-then-is_group.ensures ∙ form_of_node-Group _ _ ∙ ap (λ a. enclosed a (types c.in_ok-parts.parts)) c.place-here.ensures))
    (done (next (group_start c.requires (sym c.is_at-is_group.ensures ∙ c.if-is_group.true)) c.in_ok-parts.ensures) _ refl (λ k us. refl))

pub type_tree-lower_name-requires : goal.type_tree-lower_name-requires
type_tree-lower_name-requires m c = can_next (named_start c.requires (sym c.is_at-is_variable.ensures ∙ c.if-is_variable.false) (sym c.is_at-is_group.ensures ∙ c.if-is_group.false))

pub type_tree-type_arguments-requires : goal.type_tree-type_arguments-requires
type_tree-type_arguments-requires m c = let g = next (named_start c.requires (sym c.is_at-is_variable.ensures ∙ c.if-is_variable.false) (sym c.is_at-is_group.ensures ∙ c.if-is_group.false)) c.in_ok-name.ensures.read in
    let a : c.args.i + 1 ≤ c.in_ok-name.j = c.in_ok-name.ensures.read.ahead in let w = upto c.args.source c.in_ok-name.j c.in_ok-name.ensures.read.within in (search rules, can_next g)

pub type_tree-returns : goal.type_tree-returns
type_tree-returns m c = subst (λ f. IsRead (lexemes c.args.source) s.TypeOf c.args.i f c.in_ok-arguments.end) (sym (c.new-2.ensures ∙ form_of_node-Named _ _ _ ∙ ap (λ a. composed a (called_of c.in_ok-name.name) (types c.in_ok-arguments.arguments)) c.place-here.ensures ∙ ap (λ n. composed (at c.args.i) n (types c.in_ok-arguments.arguments)) c.in_ok-name.ensures.name))
    (done (next (next (named_start c.requires (sym c.is_at-is_variable.ensures ∙ c.if-is_variable.false) (sym c.is_at-is_group.ensures ∙ c.if-is_group.false)) c.in_ok-name.ensures.read) c.in_ok-arguments.ensures) _ refl (λ k us. refl))

pub argument-type_list-requires : goal.argument-type_list-requires
argument-type_list-requires m c = let g = group_part_start c.requires (sym c.is_at-is_group.ensures ∙ c.if-is_group.true) in let h = inside c.args.source c.args.i (stands_due c.requires refl) in (search rules, can_next g)

pub argument-returns-then-is_group : goal.argument-returns-then-is_group
argument-returns-then-is_group m c = subst (λ f. IsRead (lexemes c.args.source) s.Atype c.args.i f c.in_ok-parts.end) (sym (c.new-then-is_group.ensures ∙ form_of_node-Group _ _ ∙ ap (λ a. enclosed a (types c.in_ok-parts.parts)) c.place-here.ensures))
    (done (next (group_part_start c.requires (sym c.is_at-is_group.ensures ∙ c.if-is_group.true)) c.in_ok-parts.ensures) _ refl (λ k us. refl))

pub argument-lower_name-requires : goal.argument-lower_name-requires
argument-lower_name-requires m c = can_next (named_part_start c.requires (sym c.is_at-is_variable.ensures ∙ c.if-is_variable.false) (sym c.is_at-is_group.ensures ∙ c.if-is_group.false))

pub argument-returns : goal.argument-returns
argument-returns m c = subst (λ f. IsRead (lexemes c.args.source) s.Atype c.args.i f c.in_ok-name.end) (sym (c.new-3.ensures ∙ form_of_node-Named _ _ _ ∙ ap (λ a. composed a (called_of c.in_ok-name.name) (types c.new-2.result)) c.place-here.ensures ∙ ap (λ n. composed (at c.args.i) n (types c.new-2.result)) c.in_ok-name.ensures.name ∙ ap (λ ts. composed (at c.args.i) (called c.args.i c.in_ok-name.name.scopes (lower c.in_ok-name.name.text)) (types ts)) c.new-2.ensures))
    (done (next (named_part_start c.requires (sym c.is_at-is_variable.ensures ∙ c.if-is_variable.false) (sym c.is_at-is_group.ensures ∙ c.if-is_group.false)) c.in_ok-name.ensures.read) _ refl (λ k us. refl))

pub type_arguments-arguments-init : goal.type_arguments-arguments-init
type_arguments-arguments-init m c = subst (λ ts. Types (lexemes c.args.source) c.args.i (map form_of ts) c.args.i) (sym c.new-arguments.ensures.items) (side_start s.Targs s.Atype more_forms no_forms refl c.requires)

pub type_arguments-argument-requires : goal.type_arguments-argument-requires
type_arguments-argument-requires m c = let a = c.arguments.invariant.ahead in (search rules, (can_next (side_item s.Targs s.Atype more_forms no_forms refl (map form_of c.arguments.arguments.items) c.arguments.invariant (stands_by begins_atype (lexemes c.args.source) c.arguments.j refl (sym c.at_type.ensures ∙ c.arguments-test.true)) (atype_some (terminal_at (lexemes c.args.source) c.arguments.j) (sym c.at_type.ensures ∙ c.arguments-test.true)))))

pub type_arguments-arguments-preserved : goal.type_arguments-arguments-preserved
type_arguments-arguments-preserved m c = subst (λ ts. Types (lexemes c.args.source) c.args.i ts c.in_ok-next.end) (sym (ap (map form_of) c.in_ok-push.ensures.items ∙ map-append form_of c.arguments.arguments.items (c.in_ok-next.next ∷ [])))
    (side_more s.Targs s.Atype more_forms no_forms refl (map form_of c.arguments.arguments.items) c.arguments.invariant (stands_by begins_atype (lexemes c.args.source) c.arguments.j refl (sym c.at_type.ensures ∙ c.arguments-test.true)) (atype_some (terminal_at (lexemes c.args.source) c.arguments.j) (sym c.at_type.ensures ∙ c.arguments-test.true)) c.in_ok-next.ensures)

pub type_arguments-returns : goal.type_arguments-returns
type_arguments-returns m c = subst (λ ts. IsRead (lexemes c.args.source) s.Targs c.args.i (types ts) c.arguments.j) (sym c.from_vec.ensures) (subst (λ v. IsRead (lexemes c.args.source) s.Targs c.args.i v c.arguments.j) (forms_many (map form_of c.arguments.arguments.items)) (side_done s.Targs s.Atype more_forms no_forms refl (map form_of c.arguments.arguments.items) c.arguments.invariant refl refl (atype_none (terminal_at (lexemes c.args.source) c.arguments.j) (sym c.at_type.ensures ∙ c.arguments-test.false)) refl))

pub type_list-returns-then-is_empty : goal.type_list-returns-then-is_empty
type_list-returns-then-is_empty m c = subst (λ ts. IsRead (lexemes c.args.source) s.Ttuple c.args.i (types ts) (c.args.i + 1)) (sym (c.from_vec.ensures ∙ c.new-parts.ensures.items)) (done (expand (start c.requires) t.RParen (sym c.is_at-is_empty.ensures ∙ c.if-is_empty.true) refl refl) _ refl (λ k us. refl))

pub type_list-type_tree-requires : goal.type_list-type_tree-requires
type_list-type_tree-requires m c = (search rules, can_next (first_type_start c.requires (sym c.is_at-is_empty.ensures ∙ c.if-is_empty.false)))

pub type_list-more-init : goal.type_list-more-init
type_list-more-init m c = subst (λ ts. TypeList (lexemes c.args.source) c.args.i (map form_of ts) c.in_ok-first.j) (sym (c.in_ok-push.ensures.items ∙ ap (λ v. v ++ c.in_ok-first.first ∷ []) c.new-parts.ensures.items))
    (again (next (first_type_start c.requires (sym c.is_at-is_empty.ensures ∙ c.if-is_empty.false)) c.in_ok-first.ensures) 1 refl (λ k us. refl))

pub type_list-type_tree-requires-in-more : goal.type_list-type_tree-requires-in-more
type_list-type_tree-requires-in-more m c = let a = c.more.invariant.ahead in let w = inside c.args.source c.more.j (next_within c.more.invariant refl) in (search rules, (can_next (expand c.more.invariant t.Comma (sym c.is_at.ensures ∙ c.more-test.true) refl refl)))

pub type_list-more-preserved : goal.type_list-more-preserved
type_list-more-preserved m c = subst (λ ts. TypeList (lexemes c.args.source) c.args.i ts c.in_ok-next.end) (sym (ap (map form_of) c.in_ok-push-2.ensures.items ∙ map-append form_of c.more.parts.items (c.in_ok-next.next ∷ [])))
    (again (next (expand c.more.invariant t.Comma (sym c.is_at.ensures ∙ c.more-test.true) refl refl) c.in_ok-next.ensures) 1 refl (λ k us. ap (λ w. (w, us.1)) (many_more more_forms (map form_of c.more.parts.items) (form_of c.in_ok-next.next) us.0)))

pub type_list-returns : goal.type_list-returns
type_list-returns m c = subst (λ ts. IsRead (lexemes c.args.source) s.Ttuple c.args.i (types ts) (c.more.j + 1)) (sym c.from_vec-2.ensures) (subst (λ v. IsRead (lexemes c.args.source) s.Ttuple c.args.i v (c.more.j + 1)) (forms_many (map form_of c.more.parts.items)) (done (expand c.more.invariant t.RParen (only c.more.invariant t.RParen (t.Comma ∷ []) refl refl ((sym c.is_at.ensures ∙ c.more-test.false), tt)) refl refl) (many more_forms (map form_of c.more.parts.items) no_forms) refl (λ k us. refl)))

pub type_tree-returns-then-is_variable : goal.type_tree-returns-then-is_variable
type_tree-returns-then-is_variable m c = subst (λ f. IsRead (lexemes c.args.source) s.TypeOf c.args.i f (c.args.i + 1)) (sym (c.new.ensures ∙ form_of_node-Var _ _ ∙ ap (λ a. type_variable a c.in_ok-word.word) c.place-here.ensures ∙ ap (type_variable (at c.args.i)) (variable_text c.in_ok-word.ensures (sym c.is_at-is_variable.ensures ∙ c.if-is_variable.true))))
    (done (expand (start c.requires) t.TyVar (sym c.is_at-is_variable.ensures ∙ c.if-is_variable.true) refl refl) (type_variable (at c.args.i) (token_at (lexemes c.args.source) c.args.i).text) refl (λ k us. refl))

pub argument-returns-then-is_variable : goal.argument-returns-then-is_variable
argument-returns-then-is_variable m c = subst (λ f. IsRead (lexemes c.args.source) s.Atype c.args.i f (c.args.i + 1)) (sym (c.new.ensures ∙ form_of_node-Var _ _ ∙ ap (λ a. type_variable a c.in_ok-word.word) c.place-here.ensures ∙ ap (type_variable (at c.args.i)) (variable_text c.in_ok-word.ensures (sym c.is_at-is_variable.ensures ∙ c.if-is_variable.true))))
    (done (expand (start c.requires) t.TyVar (sym c.is_at-is_variable.ensures ∙ c.if-is_variable.true) refl refl) (type_variable (at c.args.i) (token_at (lexemes c.args.source) c.args.i).text) refl (λ k us. refl))

-- a token stands here, so the next number fits

pub type_tree-text-requires : goal.type_tree-text-requires
type_tree-text-requires m c = inside c.args.source c.args.i (stands_due c.requires refl)

pub type_tree-overflow_add-result : goal.type_tree-overflow_add-result
type_tree-overflow_add-result m c = let h = inside c.args.source c.args.i (stands_due c.requires refl) in search rules

pub type_tree-overflow_add-i : goal.type_tree-overflow_add-i
type_tree-overflow_add-i m c = let h = inside c.args.source c.args.i (stands_due c.requires refl) in search rules

pub argument-text-requires : goal.argument-text-requires
argument-text-requires m c = inside c.args.source c.args.i (stands_due c.requires refl)

pub argument-overflow_add-result : goal.argument-overflow_add-result
argument-overflow_add-result m c = let h = inside c.args.source c.args.i (stands_due c.requires refl) in search rules

pub argument-overflow_add-i : goal.argument-overflow_add-i
argument-overflow_add-i m c = let h = inside c.args.source c.args.i (stands_due c.requires refl) in search rules

pub type_arguments-arguments-smaller : goal.type_arguments-arguments-smaller
type_arguments-arguments-smaller m c =
    let h = inside c.args.source c.arguments.j (stands_by begins_atype (lexemes c.args.source) c.arguments.j refl (sym c.at_type.ensures ∙ c.arguments-test.true)) in
    let a : c.arguments.j + 1 ≤ c.in_ok-next.end = c.in_ok-next.ensures.ahead in
    omega (arith, h, a)

pub type_list-overflow_add-result : goal.type_list-overflow_add-result
type_list-overflow_add-result m c = let h = inside c.args.source c.args.i (stands_due c.requires refl) in search rules

pub type_list-overflow_add-j : goal.type_list-overflow_add-j
type_list-overflow_add-j m c = let h = inside c.args.source c.more.j (next_within c.more.invariant refl) in search rules

pub type_list-more-smaller : goal.type_list-more-smaller
type_list-more-smaller m c =
    let h = inside c.args.source c.more.j (next_within c.more.invariant refl) in
    let a : c.more.j + 1 + 1 ≤ c.in_ok-next.end = c.in_ok-next.ensures.ahead in
    omega (arith, h, a)

pub type_list-overflow_add-result-2 : goal.type_list-overflow_add-result-2
type_list-overflow_add-result-2 m c = let h = inside c.args.source c.more.j (next_within c.more.invariant refl) in search rules
