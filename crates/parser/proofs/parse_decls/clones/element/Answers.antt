use Rattle.std.proofs.Common.{sym, ◌∙◌}
use Rattle.parser.proofs.parse_decls.clones.element.Goals as goal

pub type_element-requires : goal.type_element-requires
type_element-requires c = record { can = c.requires; word = sym c.is_at-is_type.ensures ∙ c.if-is_type.true }

pub symbol_element-requires : goal.symbol_element-requires
symbol_element-requires c = record { can = c.requires; word = sym c.at_symbol-is_symbol.ensures ∙ c.if-is_symbol.true }

pub prop_element-requires : goal.prop_element-requires
prop_element-requires c = record { can = c.requires; no_type = sym c.is_at-is_type.ensures ∙ c.if-is_type.false; no_symbol = sym c.at_symbol-is_symbol.ensures ∙ c.if-is_symbol.false }
