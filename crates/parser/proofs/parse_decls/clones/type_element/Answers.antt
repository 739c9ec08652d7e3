use Rattle.parser.proofs.parse_decls.Cited.{rules, sym, subst, refl, form_of, type_element, IsRead, lexemes, can_next, stands, done, next, inside, upto}
use Rattle.tokens_why.specs.declared.terminal.Terminal.TheVariants as t
use Rattle.grammar.specs.declared.symbols.Symbol.TheVariants as s
use Rattle.parser.proofs.parse_decls.ClonesRead as R
use Rattle.parser.proofs.parse_decls.clones.type_element.Goals as goal

pub lower_name-requires : goal.lower_name-requires
lower_name-requires c = can_next (R.type_start c.requires.can c.requires.word)

pub overflow_add-n : goal.overflow_add-n
overflow_add-n c = let h = inside c.args.source c.in_ok-vars.n (stands (lexemes c.args.source) c.in_ok-vars.n t.Equal (R.type_sign c.requires.can c.requires.word (record { scopes = c.in_ok-name.name.scopes; last = c.in_ok-name.name.text }) c.in_ok-name.j c.in_ok-name.ensures.read c.in_ok-vars.vars c.in_ok-vars.n c.in_ok-vars.ensures) refl) in search rules

pub type_tree-requires : goal.type_tree-requires
type_tree-requires c = can_next (R.type_equal c.requires.can c.requires.word (record { scopes = c.in_ok-name.name.scopes; last = c.in_ok-name.name.text }) c.in_ok-name.j c.in_ok-name.ensures.read c.in_ok-vars.vars c.in_ok-vars.n c.in_ok-vars.ensures)

pub returns : goal.returns
returns c = subst (λ q. IsRead (lexemes c.args.source) s.Elem c.args.i (type_element c.args.i q c.in_ok-vars.vars (form_of c.in_ok-ty.ty)) c.in_ok-ty.end) (sym c.in_ok-name.ensures.name)
    (done (next (R.type_equal c.requires.can c.requires.word (record { scopes = c.in_ok-name.name.scopes; last = c.in_ok-name.name.text }) c.in_ok-name.j c.in_ok-name.ensures.read c.in_ok-vars.vars c.in_ok-vars.n c.in_ok-vars.ensures) c.in_ok-ty.ensures) _ refl (λ k us. refl))

-- the numbers of tokens, which are at most that of all tokens

pub overflow_add-i : goal.overflow_add-i
overflow_add-i c = let h = upto c.args.source c.args.i c.requires.can.within in search rules
