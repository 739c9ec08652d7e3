use Rattle.parser.proofs.parse_terms.Cited.{ap, ◌∙◌, at, access, called_of, tree_of, tree_of_node-Dot}
use Rattle.parser.proofs.parse_terms.fields.with_field.Goals as goal

pub returns : goal.returns
returns c = c.new-2.ensures ∙ tree_of_node-Dot _ _ _ ∙ ap (λ a. access a (tree_of c.in_ok-held.held) (called_of c.args.field)) c.place.ensures ∙ ap (λ e. access (at c.args.i) (tree_of e) (called_of c.args.field)) c.in_ok-held.ensures
