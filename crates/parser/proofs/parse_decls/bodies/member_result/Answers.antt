use Rattle.parser.proofs.parse_decls.Cited.{sym, ◌∙◌, [], ◌∷◌, refl, can_next, again, next, take, expand, only, start, result_start, rules, upto}
use Rattle.tokens_why.specs.declared.terminal.Terminal.TheVariants as t
use Rattle.parser.proofs.parse_decls.bodies.member_result.Goals as goal

pub type_tree-requires : goal.type_tree-requires
type_tree-requires c = can_next (result_start c.requires (sym c.is_at-is_typed.ensures ∙ c.if-is_typed.true))

pub returns-then-is_typed : goal.returns-then-is_typed
returns-then-is_typed c = again (take (next (result_start c.requires (sym c.is_at-is_typed.ensures ∙ c.if-is_typed.true)) c.in_ok-ty.ensures)) 1 refl (λ k us. refl)

pub returns : goal.returns
returns c = again (expand (start c.requires) t.Equal (only (start c.requires) t.Equal (t.Colon ∷ []) refl refl ((sym c.is_at-is_typed.ensures ∙ c.if-is_typed.false), tt)) refl refl) 1 refl (λ k us. refl)

-- the numbers of tokens, which are at most that of all tokens

pub overflow_add-i : goal.overflow_add-i
overflow_add-i c = let h = upto c.args.source c.args.i c.requires.within in search rules
