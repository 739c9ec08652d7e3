use Rattle.parser.proofs.parse_decls.Cited.{rules, ◌≤◌, ◌+◌, [], ◌∷◌, ◌++◌, map, sym, ap, ◌∙◌, subst, refl, append_assoc, append-nil, map-append, at, inductive_decl, more_decls, inductive_of, decl_of_node-Inductive, lexemes, terminal_at, can_run, again, follow, none_of, pass, IsDecl, upto}
use Rattle.grammar.specs.declared.symbols.Symbol.TheVariants as s
use Rattle.tokens_why.specs.declared.terminal.Terminal.TheVariants as t
use Rattle.parser.proofs.parse_decls.DeclaringRead as D
use Rattle.parser.proofs.parse_decls.declaring.inductive_declaration.Goals as goal

pub inductive_predicate-requires : goal.inductive_predicate-requires
inductive_predicate-requires c = record { within = (can_run (D.inductive_start c.requires.can c.requires.word)).within; following = s.Decls ∷ (can_run (D.inductive_start c.requires.can c.requires.word)).following; values = (can_run (D.inductive_start c.requires.can c.requires.word)).values; reads = (can_run (D.inductive_start c.requires.can c.requires.word)).reads }

pub more-init : goal.more-init
more-init c = subst (λ ts. D.Inductives (lexemes c.args.source) c.args.i (map inductive_of ts) c.in_ok-first.j) (sym (c.in_ok-push.ensures.items ∙ ap (λ v. v ++ c.in_ok-first.first ∷ []) c.new-of.ensures.items)) (record { last = c.in_ok-first.ensures.last; is = again (follow c.in_ok-first.ensures.is (D.inductive_start c.requires.can c.requires.word)) 1 refl (λ k us. refl) })

pub inductive_predicate-requires-in-more : goal.inductive_predicate-requires-in-more
inductive_predicate-requires-in-more c = record { within = (can_run (D.with_start (lexemes c.args.source) c.args.i (map inductive_of c.more.of.items) c.more.j c.more.invariant (sym c.is_at.ensures ∙ c.more-test.true))).within; following = s.Decls ∷ (can_run (D.with_start (lexemes c.args.source) c.args.i (map inductive_of c.more.of.items) c.more.j c.more.invariant (sym c.is_at.ensures ∙ c.more-test.true))).following; values = (can_run (D.with_start (lexemes c.args.source) c.args.i (map inductive_of c.more.of.items) c.more.j c.more.invariant (sym c.is_at.ensures ∙ c.more-test.true))).values; reads = (can_run (D.with_start (lexemes c.args.source) c.args.i (map inductive_of c.more.of.items) c.more.j c.more.invariant (sym c.is_at.ensures ∙ c.more-test.true))).reads }

pub more-preserved : goal.more-preserved
more-preserved c = subst (λ ts. D.Inductives (lexemes c.args.source) c.args.i ts c.in_ok-next.end) (sym (ap (map inductive_of) c.in_ok-push-2.ensures.items ∙ map-append inductive_of c.more.of.items (c.in_ok-next.next ∷ []))) (record { last = c.in_ok-next.ensures.last; is = again (follow c.in_ok-next.ensures.is (D.with_start (lexemes c.args.source) c.args.i (map inductive_of c.more.of.items) c.more.j c.more.invariant (sym c.is_at.ensures ∙ c.more-test.true))) 1 refl (λ k us. ap (λ v. (more_decls (inductive_decl (at c.args.i) v) us.1.0, us.1.1)) (sym (append_assoc (map inductive_of c.more.of.items) ((inductive_of c.in_ok-next.next) ∷ []) us.0.others))) })

pub more-smaller : goal.more-smaller
more-smaller c = let a : c.more.j + 1 + 1 ≤ c.in_ok-next.end = c.in_ok-next.ensures.is.ahead in let w = upto c.args.source c.in_ok-next.end c.in_ok-next.ensures.is.within in search rules

pub returns : goal.returns
returns c = subst (λ d. IsDecl (lexemes c.args.source) c.args.i d c.more.j) (sym (c.new-tree.ensures ∙ decl_of_node-Inductive _ _ ∙ ap (λ a. inductive_decl a (map inductive_of c.from_vec.result)) c.place-here.ensures ∙ ap (λ ds. inductive_decl (at c.args.i) (map inductive_of ds)) c.from_vec.ensures)) (again (pass c.more.invariant.is refl refl (none_of s.Clauses (t.Bar ∷ t.WithWord ∷ []) (terminal_at (lexemes c.args.source) c.more.j) refl (c.more.invariant.last, ((sym c.is_at.ensures ∙ c.more-test.false), tt)))) 1 refl (λ k us. ap (λ v. (more_decls (inductive_decl (at c.args.i) v) us.0, us.1)) (append-nil (map inductive_of c.more.of.items))))

-- the numbers of tokens, which are at most that of all tokens

pub overflow_add-i : goal.overflow_add-i
overflow_add-i c = let h = upto c.args.source c.args.i c.requires.can.within in search rules

pub overflow_add-j : goal.overflow_add-j
overflow_add-j c = let h = upto c.args.source c.more.j c.more.invariant.is.within in search rules
