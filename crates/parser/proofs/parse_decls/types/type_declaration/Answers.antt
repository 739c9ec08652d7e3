use Rattle.parser.proofs.parse_decls.Cited.{◌+◌, [], ◌∷◌, ◌++◌, Some, None, map, sym, ap, ◌∙◌, subst, refl, append-nil, map-append, at, name, form_of, algebraic_decl, type_decl, more_decls, algebraic_of, decl_of_node-Algebraic, decl_of_node-TypeDecl, lexemes, terminal_at, token_at, next_within, again, none_of, pass, can_next, next, IsDecl, inside, named_there, Algebraics, algebraics_done, algebraics_more, algebraics_start, alias_start, con_start, run_of, type_name, type_start, typed, with_read, rules, arith, ◌≤◌, upto, stands}
use Rattle.grammar.specs.declared.symbols.Symbol.TheVariants as s
use Rattle.tokens_why.specs.declared.terminal.Terminal.TheVariants as t
use Rattle.parser.proofs.parse_decls.types.type_declaration.Goals as goal

pub name_at-requires : goal.name_at-requires
name_at-requires c = inside c.args.source (c.args.i + 1) (next_within (type_start c.requires.can c.requires.word) refl)

pub algebraic-requires : goal.algebraic-requires
algebraic-requires c = can_next (con_start (lexemes c.args.source) c.args.i c.in_ok-name.name c.in_ok-vars.vars c.in_ok-vars.j (typed c.requires.can c.requires.word c.in_ok-vars.vars c.in_ok-vars.j c.in_ok-vars.ensures) (named_there (lexemes c.args.source) (c.args.i + 1) c.in_ok-name.name c.in_ok-name.ensures.place c.in_ok-name.ensures.text (type_name c.requires.can c.requires.word)) (sym c.is_at-is_defined.ensures ∙ c.if-is_defined.true) (sym c.at_algebraic-is_algebraic.ensures ∙ c.if-is_algebraic.true))

pub others-init : goal.others-init
others-init c = subst (λ ts. Algebraics (lexemes c.args.source) c.args.i (map algebraic_of ts) c.in_ok-first.after) (sym (c.in_ok-push.ensures.items ∙ ap (λ v. v ++ c.in_ok-first.first ∷ []) c.new-types.ensures.items))
    (algebraics_start (lexemes c.args.source) c.args.i c.in_ok-name.name c.in_ok-vars.vars c.in_ok-vars.j (typed c.requires.can c.requires.word c.in_ok-vars.vars c.in_ok-vars.j c.in_ok-vars.ensures) (named_there (lexemes c.args.source) (c.args.i + 1) c.in_ok-name.name c.in_ok-name.ensures.place c.in_ok-name.ensures.text (type_name c.requires.can c.requires.word)) (sym c.is_at-is_defined.ensures ∙ c.if-is_defined.true) (sym c.at_algebraic-is_algebraic.ensures ∙ c.if-is_algebraic.true) (algebraic_of c.in_ok-first.first) c.in_ok-first.after c.in_ok-first.ensures)

pub algebraic_type-requires : goal.algebraic_type-requires
algebraic_type-requires c = run_of (λ k. s.Take t.Lident ∷ s.Algvars ∷ k) (λ k. s.Decls ∷ k) (with_read (lexemes c.args.source) c.args.i (map algebraic_of c.others.types.items) c.others.n c.others.invariant (sym c.is_at.ensures ∙ c.others-test.true))

pub others-preserved : goal.others-preserved
others-preserved c = subst (λ ts. Algebraics (lexemes c.args.source) c.args.i ts c.in_ok-next.end) (sym (ap (map algebraic_of) c.in_ok-push-2.ensures.items ∙ map-append algebraic_of c.others.types.items (c.in_ok-next.next ∷ [])))
    (algebraics_more (lexemes c.args.source) c.args.i (map algebraic_of c.others.types.items) c.others.n c.others.invariant (algebraic_of c.in_ok-next.next) c.in_ok-next.end (sym c.is_at.ensures ∙ c.others-test.true) c.in_ok-next.ensures)

pub returns-then-is_algebraic : goal.returns-then-is_algebraic
returns-then-is_algebraic c = subst (λ d. IsDecl (lexemes c.args.source) c.args.i d c.others.n) (sym (c.new-tree.ensures ∙ decl_of_node-Algebraic _ _ ∙ ap (λ a. algebraic_decl a (map algebraic_of c.from_vec.result)) c.place-here.ensures ∙ ap (λ ts. algebraic_decl (at c.args.i) (map algebraic_of ts)) c.from_vec.ensures))
    (algebraics_done (lexemes c.args.source) c.args.i (map algebraic_of c.others.types.items) c.others.n c.others.invariant (sym c.is_at.ensures ∙ c.others-test.false))

pub type_tree-requires : goal.type_tree-requires
type_tree-requires c = can_next (alias_start (lexemes c.args.source) c.args.i c.in_ok-name.name c.in_ok-vars.vars c.in_ok-vars.j (typed c.requires.can c.requires.word c.in_ok-vars.vars c.in_ok-vars.j c.in_ok-vars.ensures) (named_there (lexemes c.args.source) (c.args.i + 1) c.in_ok-name.name c.in_ok-name.ensures.place c.in_ok-name.ensures.text (type_name c.requires.can c.requires.word)) (sym c.is_at-is_defined.ensures ∙ c.if-is_defined.true) (sym c.at_algebraic-is_algebraic.ensures ∙ c.if-is_algebraic.false))

pub returns-then-is_defined : goal.returns-then-is_defined
returns-then-is_defined c = subst (λ d. IsDecl (lexemes c.args.source) c.args.i d c.in_ok-ty.last) (sym (c.new.ensures ∙ decl_of_node-TypeDecl _ _ _ _ ∙ ap (λ a. type_decl a c.in_ok-name.name c.in_ok-vars.vars (Some (form_of c.in_ok-ty.ty))) c.place-here.ensures))
    (again (next (alias_start (lexemes c.args.source) c.args.i c.in_ok-name.name c.in_ok-vars.vars c.in_ok-vars.j (typed c.requires.can c.requires.word c.in_ok-vars.vars c.in_ok-vars.j c.in_ok-vars.ensures) (named_there (lexemes c.args.source) (c.args.i + 1) c.in_ok-name.name c.in_ok-name.ensures.place c.in_ok-name.ensures.text (type_name c.requires.can c.requires.word)) (sym c.is_at-is_defined.ensures ∙ c.if-is_defined.true) (sym c.at_algebraic-is_algebraic.ensures ∙ c.if-is_algebraic.false)) c.in_ok-ty.ensures) 1 refl (λ k us. refl))

pub returns : goal.returns
returns c = subst (λ d. IsDecl (lexemes c.args.source) c.args.i d c.in_ok-vars.j) (sym (c.new-2.ensures ∙ decl_of_node-TypeDecl _ _ _ _ ∙ ap (λ a. type_decl a c.in_ok-name.name c.in_ok-vars.vars None) c.place-here.ensures))
    (again (pass (typed c.requires.can c.requires.word c.in_ok-vars.vars c.in_ok-vars.j c.in_ok-vars.ensures) refl refl (none_of s.Tvars (t.TyVar ∷ t.Equal ∷ []) (terminal_at (lexemes c.args.source) c.in_ok-vars.j) refl (c.in_ok-vars.ensures.ends, ((sym c.is_at-is_defined.ensures ∙ c.if-is_defined.false), tt)))) 1 refl (λ k us. ap (λ u. (more_decls (type_decl (at c.args.i) (name (c.args.i + 1) (token_at (lexemes c.args.source) (c.args.i + 1)).text) u None) us.0, us.1)) (append-nil c.in_ok-vars.vars) ∙ ap (λ u. (more_decls (type_decl (at c.args.i) u c.in_ok-vars.vars None) us.0, us.1)) (sym (named_there (lexemes c.args.source) (c.args.i + 1) c.in_ok-name.name c.in_ok-name.ensures.place c.in_ok-name.ensures.text (type_name c.requires.can c.requires.word)))))

-- the numbers of tokens, which are at most that of all tokens

pub overflow_add-i : goal.overflow_add-i
overflow_add-i c = let h = upto c.args.source c.args.i c.requires.can.within in search rules

pub overflow_add-i-2 : goal.overflow_add-i-2
overflow_add-i-2 c = let h = upto c.args.source c.args.i c.requires.can.within in search rules

pub overflow_add-i-3 : goal.overflow_add-i-3
overflow_add-i-3 c = let h = upto c.args.source c.args.i c.requires.can.within in search rules

pub overflow_add-following : goal.overflow_add-following
overflow_add-following c = let h = inside c.args.source c.in_ok-vars.j (stands (lexemes c.args.source) c.in_ok-vars.j t.Equal (sym c.is_at-is_defined.ensures ∙ c.if-is_defined.true) refl) in search rules

pub overflow_add-n : goal.overflow_add-n
overflow_add-n c = let h = upto c.args.source c.others.n c.others.invariant.within in search rules

pub others-smaller : goal.others-smaller
others-smaller c = let a : c.others.n + 1 + 1 ≤ c.in_ok-next.end = c.in_ok-next.ensures.ahead in let w = upto c.args.source c.in_ok-next.end c.in_ok-next.ensures.within in omega (arith, a, w)
