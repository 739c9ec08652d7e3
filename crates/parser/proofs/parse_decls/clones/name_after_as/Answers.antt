use Rattle.parser.proofs.parse_decls.Cited.{◌+◌, sym, ◌∙◌, [], ◌∷◌, refl, Some, ap, lexemes, terminal_at, next_within, only, done, take, none_of, pass, start, inside, upper_there, as_read, rules, upto}
use Rattle.grammar.specs.declared.symbols.Symbol.TheVariants as s
use Rattle.tokens_why.specs.declared.terminal.Terminal.TheVariants as t
use Rattle.parser.proofs.parse_decls.clones.name_after_as.Goals as goal

pub name_at-requires : goal.name_at-requires
name_at-requires c = inside c.args.source (c.args.i + 1) (next_within (as_read c.requires (sym c.is_at-is_named.ensures ∙ c.if-is_named.true)) refl)

pub returns-then-is_named : goal.returns-then-is_named
returns-then-is_named c = let e = sym c.is_at-is_named.ensures ∙ c.if-is_named.true in (done (take (as_read c.requires e)) _ refl (λ k us. ap (λ v. (Some v, us)) (sym (upper_there (lexemes c.args.source) (c.args.i + 1) c.in_ok-name.name c.in_ok-name.ensures.place c.in_ok-name.ensures.text (only (as_read c.requires e) t.Uident [] refl refl tt)))))

pub returns : goal.returns
returns c = done (pass (start c.requires) refl refl (none_of s.Renamed (t.AsWord ∷ []) (terminal_at (lexemes c.args.source) c.args.i) refl ((sym c.is_at-is_named.ensures ∙ c.if-is_named.false), tt))) _ refl (λ k us. refl)

-- the numbers of tokens, which are at most that of all tokens

pub overflow_add-following : goal.overflow_add-following
overflow_add-following c = let h = upto c.args.source c.args.i c.requires.within in search rules

pub overflow_add-result : goal.overflow_add-result
overflow_add-result c = let h = upto c.args.source c.args.i c.requires.within in search rules
