use Rattle.parser.proofs.parse_terms.Cited.{form_part_of, form_part_of-fields, pattern_of_node-Fields, fielded_form, form_names, form_values, IsReadFormField, FormsFrom, form_field_can, form_item, form_opened, forms_closed, forms_more, forms_start, name, arith, rules, ◌≤◌, ◌+◌, [], ◌∷◌, ◌++◌, map, sym, ap, ◌∙◌, subst, refl, map-append, at, aliased, composed, enclosed, variable, wild, more_forms, no_forms, called_of, pattern_of, patterns, pattern_of_node-Con, pattern_of_node-Group, pattern_of_node-Var, pattern_of_node-Wild, upper_called, IsRead, token_at, terminal_at, begins_patom, lexemes, IsBare, can_next, next, next_within, stands_due, expand, only, done, take, none_of, pass, again, start, side_start, side_item, stands_by, side_more, side_done, many_more, many, PatternList, Patterns, atom_start, constant_start, constructor_start, first_pattern_start, forms_many, patom_none, patom_some, pattern_group_start, inside, named_there, upto}
use Rattle.tokens_why.specs.declared.terminal.Terminal.TheVariants as t
use Rattle.grammar.specs.declared.symbols.Symbol.TheVariants as s
use Rattle.parser.proofs.parse_terms.patterns.+pattern_descent.Goals as goal

pub pattern-name_at-requires : goal.pattern-name_at-requires
pattern-name_at-requires m c = inside c.args.source (c.in_ok-inner.end + 1) (next_within (expand c.in_ok-inner.ensures t.AsWord (sym c.is_at-is_named.ensures ∙ c.if-is_named.true) refl refl) refl)

pub pattern-returns-then-is_named : goal.pattern-returns-then-is_named
pattern-returns-then-is_named m c = let e = sym c.is_at-is_named.ensures ∙ c.if-is_named.true in let g = c.in_ok-inner.ensures in
    subst (λ f. IsRead (lexemes c.args.source) s.Pat c.args.i f (c.in_ok-inner.end + 1 + 1))
    (sym (c.in_ok-tree.ensures ∙ ap (λ a. aliased a (pattern_of c.in_ok-inner.inner) c.in_ok-name.name) c.place-here.ensures ∙ ap (aliased (at c.args.i) (pattern_of c.in_ok-inner.inner))
    (named_there (lexemes c.args.source) (c.in_ok-inner.end + 1) c.in_ok-name.name c.in_ok-name.ensures.place c.in_ok-name.ensures.text (only (expand g t.AsWord e refl refl) t.Lident [] refl refl tt))))
    (done (take (expand g t.AsWord e refl refl)) _ refl (λ k us. refl))

pub pattern-returns : goal.pattern-returns
pattern-returns m c = done (pass c.in_ok-inner.ensures refl refl (none_of s.AsPart (t.AsWord ∷ []) (terminal_at (lexemes c.args.source) c.in_ok-inner.end) refl ((sym c.is_at-is_named.ensures ∙ c.if-is_named.false), tt))) _ refl (λ k us. refl)

pub bare_pattern-upper_name-requires : goal.bare_pattern-upper_name-requires
bare_pattern-upper_name-requires m c = let e = sym c.is_at-is_constructor.ensures ∙ c.if-is_constructor.true in record { first = e; can = can_next (constructor_start c.requires e) }

pub bare_pattern-pattern_parts-requires : goal.bare_pattern-pattern_parts-requires
bare_pattern-pattern_parts-requires m c = let e = sym c.is_at-is_constructor.ensures ∙ c.if-is_constructor.true in let r = c.in_ok-name.ensures in
    let a : c.args.i + 1 + 0 ≤ c.in_ok-name.j = r.is.ahead in let w = upto c.args.source c.in_ok-name.j r.is.within in
    (search rules, can_next (next (constructor_start c.requires e) r.is))

pub bare_pattern-returns-then-is_constructor : goal.bare_pattern-returns-then-is_constructor
bare_pattern-returns-then-is_constructor m c = let e = sym c.is_at-is_constructor.ensures ∙ c.if-is_constructor.true in let r = c.in_ok-name.ensures in
    subst (λ f. IsBare (lexemes c.args.source) c.args.i f c.in_ok-parts.end)
    (sym (c.new.ensures ∙ pattern_of_node-Con _ _ _ ∙ ap (λ a. composed a (called_of c.in_ok-name.name) (patterns c.in_ok-parts.parts)) c.place-here.ensures ∙ ap (λ n. composed (at c.args.i) n (patterns c.in_ok-parts.parts)) (sym r.named)))
    (again (next (next (constructor_start c.requires e) r.is) c.in_ok-parts.ensures) 1 refl (λ k us. refl))

pub bare_pattern-pattern_atom-requires : goal.bare_pattern-pattern_atom-requires
bare_pattern-pattern_atom-requires m c = (search rules, can_next (atom_start c.requires (sym c.is_at-is_constructor.ensures ∙ c.if-is_constructor.false)))

pub bare_pattern-returns : goal.bare_pattern-returns
bare_pattern-returns m c = next (atom_start c.requires (sym c.is_at-is_constructor.ensures ∙ c.if-is_constructor.false)) c.in_ok-tree.ensures

pub pattern_atom-returns-then-is_wild : goal.pattern_atom-returns-then-is_wild
pattern_atom-returns-then-is_wild m c = subst (λ f. IsRead (lexemes c.args.source) s.Patom c.args.i f (c.args.i + 1)) (sym (c.new.ensures ∙ pattern_of_node-Wild _ ∙ ap wild c.place-here.ensures)) (done (expand (start c.requires) t.Wild (sym c.is_at-is_wild.ensures ∙ c.if-is_wild.true) refl refl) (wild (at c.args.i)) refl (λ k us. refl))

pub pattern_atom-returns-then-is_name : goal.pattern_atom-returns-then-is_name
pattern_atom-returns-then-is_name m c = let e = sym c.is_at-is_name.ensures ∙ c.if-is_name.true in
    subst (λ f. IsRead (lexemes c.args.source) s.Patom c.args.i f (c.args.i + 1)) (sym (c.new-then-is_name.ensures ∙ pattern_of_node-Var _ _ ∙ ap (λ a. variable a c.in_ok-name.name) c.place-here.ensures ∙ ap (variable (at c.args.i)) (named_there (lexemes c.args.source) c.args.i c.in_ok-name.name c.in_ok-name.ensures.place c.in_ok-name.ensures.text e)))
    (done (expand (start c.requires) t.Lident e refl refl) (variable (at c.args.i) (name c.args.i (token_at (lexemes c.args.source) c.args.i).text)) refl (λ k us. refl))

pub pattern_atom-upper_name-requires : goal.pattern_atom-upper_name-requires
pattern_atom-upper_name-requires m c = let e = sym c.is_at-is_constant.ensures ∙ c.if-is_constant.true in record { first = e; can = can_next (constant_start c.requires e) }

pub pattern_atom-returns-then-is_constant : goal.pattern_atom-returns-then-is_constant
pattern_atom-returns-then-is_constant m c = let e = sym c.is_at-is_constant.ensures ∙ c.if-is_constant.true in let r = c.in_ok-name-2.ensures in
    subst (λ f. IsRead (lexemes c.args.source) s.Patom c.args.i f c.in_ok-name-2.end)
    (sym (c.new-then-is_constant-2.ensures ∙ pattern_of_node-Con _ _ _ ∙ ap (λ a. composed a (called_of c.in_ok-name-2.name) (patterns c.new-then-is_constant.result)) c.place-here.ensures ∙ ap (λ n. composed (at c.args.i) n (patterns c.new-then-is_constant.result)) (sym r.named) ∙ ap (λ ts. composed (at c.args.i) (upper_called c.args.i (token_at (lexemes c.args.source) c.args.i).text r.following) (patterns ts)) c.new-then-is_constant.ensures))
    (done (next (constant_start c.requires e) r.is) _ refl (λ k us. refl))

pub pattern_atom-pattern_list-requires : goal.pattern_atom-pattern_list-requires
pattern_atom-pattern_list-requires m c = let h = inside c.args.source c.args.i (stands_due c.requires refl) in
    (search rules, can_next (pattern_group_start c.requires (sym c.is_at-is_wild.ensures ∙ c.if-is_wild.false) (sym c.is_at-is_name.ensures ∙ c.if-is_name.false) (sym c.is_at-is_constant.ensures ∙ c.if-is_constant.false) (sym c.is_at-is_record.ensures ∙ c.if-is_record.false)))

pub pattern_atom-returns : goal.pattern_atom-returns
pattern_atom-returns m c = subst (λ f. IsRead (lexemes c.args.source) s.Patom c.args.i f c.in_ok-parts.end) (sym (c.new-2.ensures ∙ pattern_of_node-Group _ _ ∙ ap (λ a. enclosed a (patterns c.in_ok-parts.parts)) c.place-here.ensures))
    (done (next (pattern_group_start c.requires (sym c.is_at-is_wild.ensures ∙ c.if-is_wild.false) (sym c.is_at-is_name.ensures ∙ c.if-is_name.false) (sym c.is_at-is_constant.ensures ∙ c.if-is_constant.false) (sym c.is_at-is_record.ensures ∙ c.if-is_record.false)) c.in_ok-parts.ensures) _ refl (λ k us. refl))

pub pattern_parts-parts-init : goal.pattern_parts-parts-init
pattern_parts-parts-init m c = subst (λ ts. Patterns (lexemes c.args.source) c.args.i (map pattern_of ts) c.args.i) (sym c.new-parts.ensures.items) (side_start s.Patoms s.Patom more_forms no_forms refl c.requires)

pub pattern_parts-pattern_atom-requires : goal.pattern_parts-pattern_atom-requires
pattern_parts-pattern_atom-requires m c = let a = c.parts.invariant.ahead in (search rules, (can_next (side_item s.Patoms s.Patom more_forms no_forms refl (map pattern_of c.parts.parts.items) c.parts.invariant (stands_by begins_patom (lexemes c.args.source) c.parts.j refl (sym c.at_pattern.ensures ∙ c.parts-test.true)) (patom_some (terminal_at (lexemes c.args.source) c.parts.j) (sym c.at_pattern.ensures ∙ c.parts-test.true)))))

pub pattern_parts-parts-preserved : goal.pattern_parts-parts-preserved
pattern_parts-parts-preserved m c = subst (λ ts. Patterns (lexemes c.args.source) c.args.i ts c.in_ok-next.end) (sym (ap (map pattern_of) c.in_ok-push.ensures.items ∙ map-append pattern_of c.parts.parts.items (c.in_ok-next.next ∷ [])))
    (side_more s.Patoms s.Patom more_forms no_forms refl (map pattern_of c.parts.parts.items) c.parts.invariant (stands_by begins_patom (lexemes c.args.source) c.parts.j refl (sym c.at_pattern.ensures ∙ c.parts-test.true)) (patom_some (terminal_at (lexemes c.args.source) c.parts.j) (sym c.at_pattern.ensures ∙ c.parts-test.true)) c.in_ok-next.ensures)

pub pattern_parts-returns : goal.pattern_parts-returns
pattern_parts-returns m c = subst (λ ts. IsRead (lexemes c.args.source) s.Patoms c.args.i (patterns ts) c.parts.j) (sym c.from_vec.ensures) (subst (λ v. IsRead (lexemes c.args.source) s.Patoms c.args.i v c.parts.j) (forms_many (map pattern_of c.parts.parts.items)) (side_done s.Patoms s.Patom more_forms no_forms refl (map pattern_of c.parts.parts.items) c.parts.invariant refl refl (patom_none (terminal_at (lexemes c.args.source) c.parts.j) (sym c.at_pattern.ensures ∙ c.parts-test.false)) refl))

pub pattern_list-returns-then-is_empty : goal.pattern_list-returns-then-is_empty
pattern_list-returns-then-is_empty m c = subst (λ ts. IsRead (lexemes c.args.source) s.Ptuple c.args.i (patterns ts) (c.args.i + 1)) (sym (c.from_vec.ensures ∙ c.new-parts.ensures.items)) (done (expand (start c.requires) t.RParen (sym c.is_at-is_empty.ensures ∙ c.if-is_empty.true) refl refl) _ refl (λ k us. refl))

pub pattern_list-pattern-requires : goal.pattern_list-pattern-requires
pattern_list-pattern-requires m c = (search rules, can_next (first_pattern_start c.requires (sym c.is_at-is_empty.ensures ∙ c.if-is_empty.false)))

pub pattern_list-more-init : goal.pattern_list-more-init
pattern_list-more-init m c = subst (λ ts. PatternList (lexemes c.args.source) c.args.i (map pattern_of ts) c.in_ok-first.j) (sym (c.in_ok-push.ensures.items ∙ ap (λ v. v ++ c.in_ok-first.first ∷ []) c.new-parts.ensures.items))
    (again (next (first_pattern_start c.requires (sym c.is_at-is_empty.ensures ∙ c.if-is_empty.false)) c.in_ok-first.ensures) 1 refl (λ k us. refl))

pub pattern_list-pattern-requires-in-more : goal.pattern_list-pattern-requires-in-more
pattern_list-pattern-requires-in-more m c = let a = c.more.invariant.ahead in let w = inside c.args.source c.more.j (next_within c.more.invariant refl) in (search rules, (can_next (expand c.more.invariant t.Comma (sym c.is_at.ensures ∙ c.more-test.true) refl refl)))

pub pattern_list-more-preserved : goal.pattern_list-more-preserved
pattern_list-more-preserved m c = subst (λ ts. PatternList (lexemes c.args.source) c.args.i ts c.in_ok-next.end) (sym (ap (map pattern_of) c.in_ok-push-2.ensures.items ∙ map-append pattern_of c.more.parts.items (c.in_ok-next.next ∷ [])))
    (again (next (expand c.more.invariant t.Comma (sym c.is_at.ensures ∙ c.more-test.true) refl refl) c.in_ok-next.ensures) 1 refl (λ k us. ap (λ w. (w, us.1)) (many_more more_forms (map pattern_of c.more.parts.items) (pattern_of c.in_ok-next.next) us.0)))

pub pattern_list-returns : goal.pattern_list-returns
pattern_list-returns m c = subst (λ ts. IsRead (lexemes c.args.source) s.Ptuple c.args.i (patterns ts) (c.more.j + 1)) (sym c.from_vec-2.ensures) (subst (λ v. IsRead (lexemes c.args.source) s.Ptuple c.args.i v (c.more.j + 1)) (forms_many (map pattern_of c.more.parts.items)) (done (expand c.more.invariant t.RParen (only c.more.invariant t.RParen (t.Comma ∷ []) refl refl ((sym c.is_at.ensures ∙ c.more-test.false), tt)) refl refl) (many more_forms (map pattern_of c.more.parts.items) no_forms) refl (λ k us. refl)))

pub pattern_atom-pattern_record-requires : goal.pattern_atom-pattern_record-requires
pattern_atom-pattern_record-requires m c = (search rules, (c.requires, sym c.is_at-is_record.ensures ∙ c.if-is_record.true))

pub pattern_record-pattern_field-requires : goal.pattern_record-pattern_field-requires
pattern_record-pattern_field-requires m c = let h = inside c.args.source c.args.i (stands_due c.requires.can refl) in (search rules, form_field_can {K = λ k. s.PatFields ∷ k} (form_opened c.requires.can c.requires.opens))

pub pattern_record-more-init : goal.pattern_record-more-init
pattern_record-more-init m c = subst (λ ts. FormsFrom (lexemes c.args.source) c.args.i (map form_part_of ts) c.in_ok-first.j) (sym (c.in_ok-push.ensures.items ∙ ap (λ v. v ++ c.in_ok-first.first ∷ []) c.new-fields.ensures.items))
    (forms_start c.requires.can c.requires.opens (form_part_of c.in_ok-first.first) c.in_ok-first.j c.in_ok-first.ensures)

pub pattern_record-pattern_field-requires-in-more : goal.pattern_record-pattern_field-requires-in-more
pattern_record-pattern_field-requires-in-more m c = let a : c.args.i + 1 ≤ c.more.j = c.more.invariant.is.ahead in let w = inside c.args.source c.more.j (next_within c.more.invariant.is refl) in (search rules, form_field_can {K = λ k. s.PatFields ∷ k} (form_item (lexemes c.args.source) c.args.i (map form_part_of c.more.fields.items) c.more.j c.more.invariant (sym c.at_next_field.ensures ∙ c.more-test.true)))

pub pattern_record-more-preserved : goal.pattern_record-more-preserved
pattern_record-more-preserved m c = subst (λ ts. FormsFrom (lexemes c.args.source) c.args.i ts c.in_ok-next.end) (sym (ap (map form_part_of) c.in_ok-push-2.ensures.items ∙ map-append form_part_of c.more.fields.items (c.in_ok-next.next ∷ [])))
    (forms_more (lexemes c.args.source) c.args.i (map form_part_of c.more.fields.items) c.more.j c.more.invariant (sym c.at_next_field.ensures ∙ c.more-test.true) (form_part_of c.in_ok-next.next) c.in_ok-next.end c.in_ok-next.ensures)

pub pattern_record-past_semicolon-semi-requires : goal.pattern_record-past_semicolon-semi-requires
pattern_record-past_semicolon-semi-requires m c = inside c.args.source c.more.j (next_within c.more.invariant.is refl)

pub pattern_record-returns : goal.pattern_record-returns
pattern_record-returns m c = subst (λ f. IsRead (lexemes c.args.source) s.Patom c.args.i f (c.past_semicolon-semi.result.1 + 1))
    (sym (c.new-tree.ensures ∙ pattern_of_node-Fields _ _ _ ∙ ap (λ a. fielded_form a (form_names (map form_part_of c.from_vec.result)) (form_values (map form_part_of c.from_vec.result)) c.past_semicolon-semi.result.0) c.place-here.ensures ∙ ap (λ ts. fielded_form (at c.args.i) (form_names (map form_part_of ts)) (form_values (map form_part_of ts)) c.past_semicolon-semi.result.0) c.from_vec.ensures))
    (forms_closed (lexemes c.args.source) c.args.i (map form_part_of c.more.fields.items) c.more.j c.more.invariant (sym c.at_next_field.ensures ∙ c.more-test.false) c.past_semicolon-semi.result.0 c.past_semicolon-semi.result.1 c.past_semicolon-semi.ensures.semi c.past_semicolon-semi.ensures.brace)

pub pattern_field-lower_name-requires : goal.pattern_field-lower_name-requires
pattern_field-lower_name-requires m c = can_next (start c.requires)

pub pattern_field-pattern-requires : goal.pattern_field-pattern-requires
pattern_field-pattern-requires m c = let r = c.in_ok-name.ensures.read in let a : c.args.i + 1 ≤ c.in_ok-name.j = r.ahead in let w = inside c.args.source c.in_ok-name.j (next_within (next (start c.requires) r) refl) in (search rules, can_next (take (next (start c.requires) r)))

pub pattern_field-returns : goal.pattern_field-returns
pattern_field-returns m c = subst (λ f. IsReadFormField (lexemes c.args.source) c.args.i f c.in_ok-value.end) (sym (form_part_of-fields _))
    (record { name = record { scopes = c.in_ok-name.name.scopes; last = c.in_ok-name.name.text }; middle = c.in_ok-name.j; named = sym c.in_ok-name.ensures.name; is = c.in_ok-name.ensures.read; value = c.in_ok-value.ensures })

-- the numbers of tokens, which are at most that of all tokens

pub pattern-overflow_add-following : goal.pattern-overflow_add-following
pattern-overflow_add-following m c = let h = upto c.args.source c.in_ok-inner.end c.in_ok-inner.ensures.within in search rules

pub pattern-overflow_add-result : goal.pattern-overflow_add-result
pattern-overflow_add-result m c = let h = inside c.args.source (c.in_ok-inner.end + 1) (next_within (expand c.in_ok-inner.ensures t.AsWord (sym c.is_at-is_named.ensures ∙ c.if-is_named.true) refl refl) refl) in search rules

pub pattern_atom-overflow_add-result : goal.pattern_atom-overflow_add-result
pattern_atom-overflow_add-result m c = let h = inside c.args.source c.args.i (stands_due c.requires refl) in search rules

pub pattern_atom-name_at-requires : goal.pattern_atom-name_at-requires
pattern_atom-name_at-requires m c = inside c.args.source c.args.i (stands_due c.requires refl)

pub pattern_atom-overflow_add-result-then-is_name : goal.pattern_atom-overflow_add-result-then-is_name
pattern_atom-overflow_add-result-then-is_name m c = let h = inside c.args.source c.args.i (stands_due c.requires refl) in search rules

pub pattern_atom-overflow_add-i : goal.pattern_atom-overflow_add-i
pattern_atom-overflow_add-i m c = let h = inside c.args.source c.args.i (stands_due c.requires refl) in search rules

pub pattern_parts-parts-smaller : goal.pattern_parts-parts-smaller
pattern_parts-parts-smaller m c = let h = inside c.args.source c.parts.j (stands_by begins_patom (lexemes c.args.source) c.parts.j refl (sym c.at_pattern.ensures ∙ c.parts-test.true)) in let a : c.parts.j + 1 ≤ c.in_ok-next.end = c.in_ok-next.ensures.ahead in omega (arith, h, a)

pub pattern_list-overflow_add-result : goal.pattern_list-overflow_add-result
pattern_list-overflow_add-result m c = let h = inside c.args.source c.args.i (stands_due c.requires refl) in search rules

pub pattern_list-overflow_add-j : goal.pattern_list-overflow_add-j
pattern_list-overflow_add-j m c = let h = inside c.args.source c.more.j (next_within c.more.invariant refl) in search rules

pub pattern_list-more-smaller : goal.pattern_list-more-smaller
pattern_list-more-smaller m c = let h = inside c.args.source c.more.j (next_within c.more.invariant refl) in let a : c.more.j + 1 + 1 ≤ c.in_ok-next.end = c.in_ok-next.ensures.ahead in omega (arith, h, a)

pub pattern_list-overflow_add-result-2 : goal.pattern_list-overflow_add-result-2
pattern_list-overflow_add-result-2 m c = let h = inside c.args.source c.more.j (next_within c.more.invariant refl) in search rules

pub pattern_record-overflow_add-i : goal.pattern_record-overflow_add-i
pattern_record-overflow_add-i m c = let h = inside c.args.source c.args.i (stands_due c.requires.can refl) in search rules

pub pattern_record-overflow_add-j : goal.pattern_record-overflow_add-j
pattern_record-overflow_add-j m c = let h = inside c.args.source c.more.j (next_within c.more.invariant.is refl) in search rules

pub pattern_record-more-smaller : goal.pattern_record-more-smaller
pattern_record-more-smaller m c = let h = inside c.args.source c.more.j (next_within c.more.invariant.is refl) in let r = c.in_ok-next.ensures in let a : c.more.j + 1 + 1 ≤ r.middle = r.is.ahead in let b : r.middle + 1 + 1 ≤ c.in_ok-next.end = r.value.ahead in omega (arith, h, a, b)

pub pattern_record-overflow_add-result : goal.pattern_record-overflow_add-result
pattern_record-overflow_add-result m c = let r = forms_closed (lexemes c.args.source) c.args.i (map form_part_of c.more.fields.items) c.more.j c.more.invariant (sym c.at_next_field.ensures ∙ c.more-test.false) c.past_semicolon-semi.result.0 c.past_semicolon-semi.result.1 c.past_semicolon-semi.ensures.semi c.past_semicolon-semi.ensures.brace in let h = upto c.args.source (c.past_semicolon-semi.result.1 + 1) r.within in search rules

pub pattern_field-overflow_add-j : goal.pattern_field-overflow_add-j
pattern_field-overflow_add-j m c = let w = inside c.args.source c.in_ok-name.j (next_within (next (start c.requires) c.in_ok-name.ensures.read) refl) in search rules
