use Rattle.std.proofs.Common.{sym, ◌∙◌}
use Rattle.parser.proofs.parse_decls.files.flat_declaration.Goals as goal

pub type_declaration-requires : goal.type_declaration-requires
type_declaration-requires c = record { can = c.requires.can; word = sym c.is_at-is_type.ensures ∙ c.if-is_type.true }

pub use_declaration-requires : goal.use_declaration-requires
use_declaration-requires c = record { can = c.requires.can; word = sym c.is_at-is_use.ensures ∙ c.if-is_use.true }

pub clone_declaration-requires : goal.clone_declaration-requires
clone_declaration-requires c = record { can = c.requires.can; word = sym c.is_at-is_clone.ensures ∙ c.if-is_clone.true }

pub symbol_declaration-requires : goal.symbol_declaration-requires
symbol_declaration-requires c = record { can = c.requires.can; no_end = c.requires.no_end; no_scope = c.requires.no_scope; no_type = sym c.is_at-is_type.ensures ∙ c.if-is_type.false; no_use = sym c.is_at-is_use.ensures ∙ c.if-is_use.false; no_clone = sym c.is_at-is_clone.ensures ∙ c.if-is_clone.false }
