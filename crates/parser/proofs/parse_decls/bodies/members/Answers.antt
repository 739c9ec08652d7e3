use Rattle.parser.proofs.parse_decls.Cited.{rules, ◌≤◌, ◌+◌, [], ◌∷◌, map, sym, ap, ◌∙◌, subst, refl, append_assoc, append-nil, map-append, member_of, IsRead, terminal_at, lexemes, again, start, can_run, follow, done, none_of, pass, upto, Members, with_start}
use Rattle.tokens_why.specs.declared.terminal.Terminal.TheVariants as t
use Rattle.grammar.specs.declared.symbols.Symbol.TheVariants as s
use Rattle.parser.proofs.parse_decls.bodies.members.Goals as goal

pub members-init : goal.members-init
members-init c = subst (λ ts. Members (lexemes c.args.source) c.args.i (map member_of ts) c.args.i) (sym c.new-members.ensures.items) (again (start c.requires) 0 refl (λ k us. refl))

pub member-requires : goal.member-requires
member-requires c = can_run (with_start (lexemes c.args.source) c.args.i (map member_of c.members.members.items) c.members.j c.members.invariant (sym c.is_at.ensures ∙ c.members-test.true))

pub members-preserved : goal.members-preserved
members-preserved c = subst (λ ts. Members (lexemes c.args.source) c.args.i ts c.in_ok-next.end) (sym (ap (map member_of) c.in_ok-push.ensures.items ∙ map-append member_of c.members.members.items (c.in_ok-next.next ∷ []))) (again (follow c.in_ok-next.ensures (with_start (lexemes c.args.source) c.args.i (map member_of c.members.members.items) c.members.j c.members.invariant (sym c.is_at.ensures ∙ c.members-test.true))) 0 refl (λ k us. ap (λ v. (v, us.1)) (sym (append_assoc (map member_of c.members.members.items) ((member_of c.in_ok-next.next) ∷ []) us.0))))

pub members-smaller : goal.members-smaller
members-smaller c = let a : c.members.j + 1 + 1 ≤ c.in_ok-next.end = c.in_ok-next.ensures.ahead in let w = upto c.args.source c.in_ok-next.end c.in_ok-next.ensures.within in search rules

pub returns : goal.returns
returns c = subst (λ ts. IsRead (lexemes c.args.source) s.Members c.args.i (map member_of ts) c.members.j) (sym c.from_vec.ensures) (done (pass c.members.invariant refl refl (none_of s.Members (t.WithWord ∷ []) (terminal_at (lexemes c.args.source) c.members.j) refl ((sym c.is_at.ensures ∙ c.members-test.false), tt))) _ refl (λ k us. ap (λ v. (v, us)) (append-nil (map member_of c.members.members.items))))

-- the numbers of tokens, which are at most that of all tokens

pub overflow_add-j : goal.overflow_add-j
overflow_add-j c = let h = upto c.args.source c.members.j c.members.invariant.within in search rules
