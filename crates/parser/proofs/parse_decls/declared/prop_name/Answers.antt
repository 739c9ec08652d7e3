use Rattle.parser.proofs.parse_decls.Cited.{refl, stands_due, inside, prop_read}
use Rattle.parser.proofs.parse_decls.declared.prop_name.Goals as goal

pub name_at-requires : goal.name_at-requires
name_at-requires c = inside c.args.source c.args.i (stands_due c.requires refl)

pub returns : goal.returns
returns c = prop_read c.requires c.in_ok-name.name c.in_ok-name.ensures.place c.in_ok-name.ensures.text
