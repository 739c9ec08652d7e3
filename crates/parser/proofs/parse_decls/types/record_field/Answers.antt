use Rattle.parser.proofs.parse_decls.Cited.{[], ◌∷◌, ◌++◌, sym, ap, ◌∙◌, subst, refl, done, next, can_next, next_within, start, form_of, lexemes, token_at, name, IsRead, inside, named_there, field_name, field_type, record_field, rules}
use Rattle.grammar.specs.declared.symbols.Symbol.TheVariants as s
use Rattle.parser.proofs.parse_decls.types.record_field.Goals as goal

pub name_at-requires : goal.name_at-requires
name_at-requires c = inside c.args.source c.args.i (next_within (start c.requires) refl)

pub type_tree-requires : goal.type_tree-requires
type_tree-requires c = can_next (field_type c.requires)

pub returns : goal.returns
returns c = subst (λ ns. IsRead (lexemes c.args.source) s.RecordField c.args.i (record { names = ns; of_type = form_of c.in_ok-ty.ty }) c.in_ok-ty.end)
    (sym (c.from_vec.ensures ∙ c.in_ok-push.ensures.items ∙ ap (λ v. v ++ c.in_ok-name.name ∷ []) c.new-names.ensures.items ∙ ap (λ n. n ∷ []) (named_there (lexemes c.args.source) c.args.i c.in_ok-name.name c.in_ok-name.ensures.place c.in_ok-name.ensures.text (field_name c.requires))))
    (done (next (field_type c.requires) c.in_ok-ty.ensures) (record_field (name c.args.i (token_at (lexemes c.args.source) c.args.i).text) (form_of c.in_ok-ty.ty)) refl (λ k us. refl))

-- the numbers of tokens, which are at most that of all tokens

pub overflow_add-i : goal.overflow_add-i
overflow_add-i c = let h = inside c.args.source c.args.i (next_within (start c.requires) refl) in search rules
