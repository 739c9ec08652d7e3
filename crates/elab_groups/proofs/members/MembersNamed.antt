-- What names mean among the members of a group.
use Rattle.std.proofs.Common.{◌≡◌, ℕ, ◌+◌, ◌≤◌, true, List, [], ◌∷◌, map, length, suc, refl, ap, ◌∙◌, arith}
use Rattle.trees.specs.Tree.{Tree}
use Rattle.scopes.specs.declared.Table.TheVariants.{Symbols}
use Rattle.scopes.specs.declared.Referent.TheVariants as stands
use Rattle.scopes.specs.Names.{NamesOf, ScopeNames, with_name}
use Rattle.surface.specs.Lexeme.{Word}
use Rattle.name_resolution.specs.Naming.{type_named}
use Rattle.name_resolution.specs.Where.{Where}
use Rattle.elab_groups.specs.parts.Declarations.{GroupMember}
use Rattle.elab_groups.specs.parts.Entries.{AreScopes}
use Rattle.elab_groups.proofs.parts.Scopes.{types_past, scopes_more}
use Rattle.elab_groups.specs.members.Members.{signature_of, signed_entries, with_members}

pub members_types : {A : Type 0} (k : ℕ) (ms : List GroupMember) (names : NamesOf A) (qs : List Word) (x : Word) → type_named (with_members k ms names) qs x ≡ type_named names qs x
members_types k [] names qs x = refl
members_types k (m ∷ ms) names qs x =
    members_types (suc k) ms (with_name Symbols m.called.name (stands.Entry k) true names) qs x ∙ types_past Symbols refl m.called.name (stands.Entry k) true names refl qs x

pub members_scopes : (s : List Tree) (n k : ℕ) (ms : List GroupMember) (names : ScopeNames) → k + length ms ≤ n → AreScopes s n names → AreScopes s n (with_members k ms names)
members_scopes s n k [] names l h = h
members_scopes s n k (m ∷ ms) names l h = members_scopes s n (suc k) ms (with_name Symbols m.called.name (stands.Entry k) true names) (omega arith) (scopes_more s n names Symbols m.called.name (stands.Entry k) true (omega arith) h)

-- an entry for each member
pub entries_count : (theory within : Word) (ms : List GroupMember) (w : Where) → length (signed_entries theory within ms (map (signature_of w) ms)) ≡ length ms
entries_count theory within [] w = refl
entries_count theory within (m ∷ ms) w = ap suc (entries_count theory within ms w)
