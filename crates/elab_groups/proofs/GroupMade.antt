-- How the parts of a group's declaration make its elaboration.
use Rattle.std.proofs.Common.{◌≡◌, ℕ, ◌+◌, ◌<◌, ◌≤◌, List, [], ◌++◌, map, length, slice_get, None, refl, sym, ap, subst, ◌∙◌, arith, append_assoc, length-append}
use Rattle.std.proofs.Math.ListN.{length-map}
use Rattle.std.specs.List.{All, AllByRecursion}
use Rattle.std.proofs.lemmas.List.Elements.{All-append}
use Rattle.tasks.specs.trees.Tree.{Tree}
use Rattle.tasks.specs.trees.Node.{Grows}
use Rattle.tasks.proofs.trees.Nodes.{Grows_refl, Grows_trans}
use Rattle.tasks.specs.Task.{SymbolTree, int_symbol}
use Rattle.tasks.specs.Meaning.{symbol_at, symbols_at, declarations_at}
use Rattle.tasks.specs.declared.signature.Signature.{Signature}
use Rattle.name_resolution.specs.scopes.Names.{ScopeNames}
use Rattle.name_resolution.specs.Naming.{scope_at}
use Rattle.name_resolution.specs.Where.{Where, NamesTree}
use Rattle.open_types.specs.Drafts.{match_at}
use Rattle.open_types.specs.Scoped.{IsScopedEntry}
use Rattle.elab_groups.specs.declared.parts.made.Elaborated.{Elaborated}
use Rattle.elab_groups.specs.declared.parts.made.Place.{Place}
use Rattle.elab_groups.specs.parts.Declarations.{GroupMember, made_by_members, made_fault}
use Rattle.elab_groups.specs.parts.Entries.{IsSignature, AreScopes}
use Rattle.elab_groups.specs.parts.Outcomes.{Setting, over, setting, declared_in, IsKept}
use Rattle.elab_groups.proofs.parts.Entering.{entries_stay, signature_grows, first_stays}
use Rattle.elab_groups.proofs.parts.Overs.{some_entry, scope_stays}
use Rattle.elab_groups.proofs.parts.AtScope.{members_at_scope}
use Rattle.elab_groups.proofs.parts.Refused.{no_fault}
use Rattle.elab_groups.proofs.parts.Scopes.{scopes_grow}
use Rattle.elab_groups.specs.declared.members.signing.Signatures.{Signatures}
use Rattle.elab_groups.specs.members.Members.{SignatureTree, signature_of, member_entries, with_members}
use Rattle.elab_groups.specs.members.Sources.{signed_at, IsEntered, IsScopedSignature, AreResolved}
use Rattle.elab_groups.proofs.members.MembersNamed.{members_types, members_scopes, entries_count}
use Rattle.elab_groups.proofs.members.MembersScoped.{members_scoped, signatures_scoped, members_resolved}
use Rattle.elab_groups.specs.Groups.{group_tuples, before_group, group_signatures, group_scope, within_group, group_used, group_decls, BodiesSolved, IsGroupElaborated}
use Rattle.elab_groups.specs.Bodies.{IsGroupMade}

module _ (p : Place) (s s1 : List Tree) (grows : Grows s s1) (g g1 : Signature) (names : ScopeNames) (ms : List GroupMember) (it : Signatures) (sig : IsSignature s g.symbols) (scopes : AreScopes s (length g.symbols) names)
    (e : IsEntered (setting p s g names) (before_group (setting p s g names) ms) ms g s1 g1 it) where
  abbrev c : Setting
  c = setting p s g names

  abbrev before : List SymbolTree
  before = before_group c ms

  abbrev entries : List SymbolTree
  entries = member_entries c before ms

  abbrev after : ScopeNames
  after = with_members it.number ms names

  abbrev total : ℕ
  total = length (before ++ entries)

  before_count : length g.symbols ≤ length before
  before_count = omega (arith, length-append (symbols_at s g.symbols) (group_tuples c ms), length-map g.symbols (symbol_at s))

  total_is : total ≡ length before + length ms
  total_is = length-append before entries ∙ ap (λ (n : ℕ). length before + n) (entries_count c.theory c.within ms (over before (scope_at s names) []))

  scopes_before : AreScopes s (length before) names
  scopes_before = scopes_grow s s (Grows_refl s) (length g.symbols) (length before) before_count names scopes

  some : 0 < length before
  some = let h = some_entry s g.symbols sig in omega (arith, before_count, h)

  scopes_total : AreScopes s total after
  scopes_total =
      let a : length before ≤ total = omega (arith, total_is) in
      let b : it.number + length ms ≤ total = omega (arith, total_is, e.number) in
      members_scopes s total it.number ms names b (scopes_grow s s (Grows_refl s) (length before) total a names scopes_before)

  after_is : (t : List Tree) → Grows s t → scope_at t after ≡ group_scope c ms
  after_is t w = scope_stays s t w total after scopes_total ∙ (members_at_scope s it.number ms names ∙ ap (λ (k : ℕ). with_members k ms (scope_at s names)) e.number)

  -- what names mean among the members
  pub inside_is : over (symbols_at s1 g1.symbols) (scope_at s1 after) [] ≡ within_group c ms
  inside_is =
      ap (λ (es : List SymbolTree). over es (scope_at s1 after) []) e.symbols ∙ ap (λ (ns : NamesTree). over (before ++ entries) ns []) (after_is s1 grows)

  counted : length g1.symbols ≡ total
  counted = sym (length-map g1.symbols (symbol_at s1)) ∙ ap length e.symbols

  pub scopes_after : AreScopes s1 (length g1.symbols) after
  scopes_after = scopes_grow s s1 grows total (length g1.symbols) (omega (arith, counted)) after scopes_total

  pub each : length it.list.items ≡ length ms
  each = sym (length-map it.list.items (signed_at s1)) ∙ (ap length e.signed ∙ length-map ms (signature_of (over before (scope_at s names) [])))

  module _ (right : group_used c ms ≡ None) where
    pub signature_after : IsSignature s1 g1.symbols
    signature_after = record {
      int = ap (λ (es : List SymbolTree). slice_get es 0) e.symbols ∙ first_stays before entries int_symbol e.int;
      typed = e.typed;
      scoped = subst (All IsScopedEntry) (sym e.symbols) (All-append IsScopedEntry before entries e.scoped
          (members_scoped s before entries names (group_scope c ms) scopes_before some (members_types (length before) ms (scope_at s names)) e.outer c.theory c.within ms right));
    }

    pub own_after : AllByRecursion IsScopedSignature (map (signed_at s1) it.list.items)
    own_after = subst (AllByRecursion IsScopedSignature) (sym e.signed) (signatures_scoped s before entries names (group_scope c ms) scopes_before some (members_types (length before) ms (scope_at s names)) e.outer ms right)

    pub resolved_after : (w : Where) → w ≡ within_group c ms → AreResolved w ms (map (signed_at s1) it.list.items)
    resolved_after w q =
        subst (λ (v : Where). AreResolved v ms (map (signed_at s1) it.list.items)) (sym q)
        (subst (AreResolved (within_group c ms) ms) (sym e.signed) (members_resolved s before entries names (group_scope c ms) scopes_before some (members_types (length before) ms (scope_at s names)) e.outer ms right))

    module _ (s2 : List Tree) (further : Grows s1 s2) (w : Where) (q : w ≡ within_group c ms) (made : Elaborated) (m : IsGroupMade w p.theory.now p.within.now ms it.number (map (signed_at s1) it.list.items) s2 made) where
      solved_after : BodiesSolved (within_group c ms) ms (group_signatures c ms) m.bodies (map (match_at s2) made.matches)
      solved_after =
          subst (λ (v : Where). BodiesSolved v ms (group_signatures c ms) m.bodies (map (match_at s2) made.matches)) q
          (subst (λ (gs : List SignatureTree). BodiesSolved w ms gs m.bodies (map (match_at s2) made.matches)) e.signed m.solved)

      decls_after : declarations_at s2 made.decls ≡ group_decls c.theory c.within ms (length before) (group_signatures c ms) m.bodies
      decls_after =
          m.decls ∙ (ap (λ (k : ℕ). group_decls c.theory c.within ms k (map (signed_at s1) it.list.items) m.bodies) e.number
          ∙ ap (λ (gs : List SignatureTree). group_decls c.theory c.within ms (length before) gs m.bodies) e.signed)

      pub group_elaborated : made_fault (declared_in (scope_at s names)) [] (made_by_members ms) ≡ None → IsGroupElaborated c ms g s2 g1 after made
      group_elaborated free = record {
        outcome = record {
          symbols = group_tuples c ms ++ entries;
          scope = group_scope c ms;
          decls = group_decls c.theory c.within ms (length before) (group_signatures c ms) m.bodies;
          rigid = [];
          matches = map (match_at s2) made.matches;
        };
        is = record { bodies = m.bodies; solved = solved_after; symbols = refl; scope = refl; decls = refl; rigid = refl };
        named = no_fault (made_fault (declared_in (scope_at s names)) [] (made_by_members ms)) (group_used c ms) free right;
        symbols_are = entries_stay s1 s2 further g1.symbols signature_after ∙ (e.symbols ∙ append_assoc (symbols_at s g.symbols) (group_tuples c ms) entries);
        ints = e.ints;
        scope = after_is s2 (Grows_trans s s1 s2 grows further);
        decls = decls_after;
        rigid = m.rigid;
        matches = refl;
      }

      pub group_kept : IsKept s2 g1 after made
      group_kept = record {
        signature = signature_grows s1 s2 further g1.symbols signature_after;
        scopes = scopes_grow s1 s2 further (length g1.symbols) (length g1.symbols) (omega arith) after scopes_after;
        decls = m.decls_held;
        matches = m.matches_held;
      }
