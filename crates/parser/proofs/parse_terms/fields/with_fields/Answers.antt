use Rattle.parser.proofs.parse_terms.Cited.{sym, ap, ◌∙◌, subst, at, access, tree_of, lexemes, FieldsFrom, field_there, fields_done, fields_more, fields_start}
use Rattle.parser.proofs.parse_terms.fields.with_fields.Goals as goal

pub fields-init : goal.fields-init
fields-init c = fields_start c.requires

pub lower_name-requires : goal.lower_name-requires
lower_name-requires c = field_there (lexemes c.args.source) c.args.i (tree_of c.args.of) c.args.j (tree_of c.fields.whole) c.fields.end c.fields.invariant (sym c.is_at.ensures ∙ c.fields-test.true)

pub fields-preserved : goal.fields-preserved
fields-preserved c = subst (λ f. FieldsFrom (lexemes c.args.source) c.args.i (tree_of c.args.of) c.args.j f c.in_ok-field.next) (sym (c.in_ok-whole.ensures ∙ ap (λ q. access (at c.args.i) (tree_of c.fields.whole) q) c.in_ok-field.ensures.name))
    (fields_more (lexemes c.args.source) c.args.i (tree_of c.args.of) c.args.j (tree_of c.fields.whole) c.fields.end c.fields.invariant (sym c.is_at.ensures ∙ c.fields-test.true) (record { scopes = c.in_ok-field.field.scopes; last = c.in_ok-field.field.text }) c.in_ok-field.next c.in_ok-field.ensures.read)

pub returns : goal.returns
returns c = fields_done (lexemes c.args.source) c.args.i (tree_of c.args.of) c.args.j (tree_of c.fields.whole) c.fields.end c.fields.invariant (sym c.is_at.ensures ∙ c.fields-test.false)
