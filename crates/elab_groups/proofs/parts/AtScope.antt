-- The scopes of code as those of definitions: what a declaration adds to them, and what is declared in them.
use Rattle.std.proofs.Common.{◌≡◌, ℕ, suc, true, List, [], ◌∷◌, get_or, refl, ap, ◌∙◌}
use Rattle.tasks.specs.trees.Tree.{Tree}
use Rattle.scopes.specs.declared.Table.{Table}
use Rattle.scopes.specs.declared.Table.TheVariants.{Symbols}
use Rattle.scopes.specs.declared.Referent.TheVariants as stands
use Rattle.scopes.specs.Names.{NamesOf, ScopeNames, is_declared, innermost, with_entry, names_with}
use Rattle.scopes.proofs.Mapped.{declared_with, got_with, named_with}
use Rattle.surface.specs.Lexeme.{Word}
use Rattle.name_resolution.specs.Naming.{scope_at, type_tree_at}
use Rattle.elab_groups.specs.parts.Declarations.{GroupMember}
use Rattle.elab_groups.specs.parts.Outcomes.{declared_in}
use Rattle.elab_groups.specs.members.Members.{with_members}

module _ {A B : Type 0} (f : A → B) where
  pub declared_in_with : (names : NamesOf A) → declared_in (names_with f names) ≡ declared_in names
  declared_in_with names = λ i. λ t x. (ap (is_declared t x) (got_with f names.entries (innermost names)) ∙ declared_with f t x (get_or names.entries (innermost names) [])) i

  pub entered_with : (table : Table) (x : Word) (k : ℕ) (names : NamesOf A) → names_with f (with_entry table x k true names) ≡ with_entry table x k true (names_with f names)
  entered_with table x k names = named_with f table x (stands.Entry k) true names

  pub members_with : (k : ℕ) (ms : List GroupMember) (names : NamesOf A) → names_with f (with_members k ms names) ≡ with_members k ms (names_with f names)
  members_with k [] names = refl
  members_with k (m ∷ ms) names =
      members_with (suc k) ms (with_entry Symbols m.called.name k true names) ∙ ap (with_members (suc k) ms) (entered_with Symbols m.called.name k names)

pub declared_at : (s : List Tree) (names : ScopeNames) → declared_in (scope_at s names) ≡ declared_in names
declared_at s names = declared_in_with (type_tree_at s) names

pub members_at_scope : (s : List Tree) (k : ℕ) (ms : List GroupMember) (names : ScopeNames) → scope_at s (with_members k ms names) ≡ with_members k ms (scope_at s names)
members_at_scope s k ms names = members_with (type_tree_at s) k ms names
