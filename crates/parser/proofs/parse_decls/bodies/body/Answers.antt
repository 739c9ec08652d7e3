use Rattle.parser.proofs.parse_decls.Cited.{None, Some, map, sym, ◌∙◌, subst, [], ◌∷◌, refl, tree_of, member_of, IsRead, terminal_at, lexemes, can_next, done, next, none_of, pass, start, body_part, body_members, body_start, rules, upto}
use Rattle.tokens_why.specs.declared.terminal.Terminal.TheVariants as t
use Rattle.grammar.specs.declared.symbols.Symbol.TheVariants as s
use Rattle.parser.proofs.parse_decls.bodies.body.Goals as goal

pub expression-requires : goal.expression-requires
expression-requires c = can_next (body_start c.requires (sym c.is_at-is_given.ensures ∙ c.if-is_given.true))

pub members-requires : goal.members-requires
members-requires c = can_next (body_members c.requires (tree_of c.in_ok-read.read.tree) c.in_ok-read.read.end (sym c.is_at-is_given.ensures ∙ c.if-is_given.true) c.in_ok-read.ensures.read)

pub returns-then-is_given : goal.returns-then-is_given
returns-then-is_given c = subst (λ e. IsRead (lexemes c.args.source) s.Body c.args.i (body_part (Some (tree_of e)) (map member_of c.in_ok-others.others)) c.in_ok-others.end) (sym (c.into_inner.ensures ∙ c.in_ok-held.ensures))
    (done (next (body_members c.requires (tree_of c.in_ok-read.read.tree) c.in_ok-read.read.end (sym c.is_at-is_given.ensures ∙ c.if-is_given.true) c.in_ok-read.ensures.read) c.in_ok-others.ensures) (body_part (Some (tree_of c.in_ok-read.read.tree)) (map member_of c.in_ok-others.others)) refl (λ k us. refl))

pub returns : goal.returns
returns c = subst (λ ds. IsRead (lexemes c.args.source) s.Body c.args.i (body_part None (map member_of ds)) c.args.i) (sym c.new-2.ensures) (done (pass (start c.requires) refl refl (none_of s.Body (t.Equal ∷ []) (terminal_at (lexemes c.args.source) c.args.i) refl ((sym c.is_at-is_given.ensures ∙ c.if-is_given.false), tt))) _ refl (λ k us. refl))

-- the numbers of tokens, which are at most that of all tokens

pub overflow_add-i : goal.overflow_add-i
overflow_add-i c = let h = upto c.args.source c.args.i c.requires.within in search rules
