-- How the parts of the declaration of inductive predicates make its elaboration.
use Rattle.std.proofs.Common.{◌≡◌, ℕ, ◌+◌, ◌<◌, ◌≤◌, List, [], ◌++◌, map, length, slice_get, None, refl, sym, ap, subst, ◌∙◌, arith, append_assoc, length-append}
use Rattle.std.proofs.Math.ListN.{length-map}
use Rattle.std.specs.List.{All}
use Rattle.std.proofs.lemmas.List.Elements.{All-append}
use Rattle.tasks.specs.trees.Tree.{Tree}
use Rattle.tasks.specs.trees.Node.{Grows}
use Rattle.tasks.proofs.trees.Nodes.{Grows_refl, Grows_trans}
use Rattle.tasks.specs.Task.{SymbolTree, int_symbol}
use Rattle.tasks.specs.Meaning.{symbol_at, symbols_at, declarations_at}
use Rattle.tasks.specs.declared.signature.Signature.{Signature}
use Rattle.name_resolution.specs.scopes.Names.{ScopeNames}
use Rattle.name_resolution.specs.Naming.{type_tree_at, scope_at}
use Rattle.name_resolution.specs.Where.{Where, NamesTree}
use Rattle.open_types.specs.Drafts.{match_at}
use Rattle.open_types.specs.Scoped.{IsScopedEntry}
use Rattle.elab_groups.specs.declared.parts.made.Elaborated.{Elaborated}
use Rattle.elab_groups.specs.declared.parts.made.Place.{Place}
use Rattle.elab_groups.specs.parts.Declarations.{InductivePredicate, made_by_inductives, made_fault}
use Rattle.elab_groups.specs.parts.Elaborated.{unseen}
use Rattle.elab_groups.specs.parts.Entries.{IsSignature, AreScopes}
use Rattle.elab_groups.specs.parts.Outcomes.{Setting, over, setting, declared_in, tuples_wanting, IsKept}
use Rattle.elab_groups.proofs.parts.Entering.{entries_stay, signature_grows, first_stays}
use Rattle.elab_groups.proofs.parts.Overs.{some_entry, scope_stays}
use Rattle.elab_groups.proofs.parts.Refused.{no_fault}
use Rattle.elab_groups.proofs.parts.Scopes.{scopes_grow}
use Rattle.elab_groups.specs.declared.members.signing.Signatures.{Signatures}
use Rattle.elab_groups.specs.members.Members.{member_entries, members_fault}
use Rattle.elab_groups.specs.members.Sources.{IsEntered, AreResolved}
use Rattle.elab_groups.proofs.members.MembersNamed.{entries_count}
use Rattle.elab_groups.proofs.members.MembersScoped.{members_scoped}
use Rattle.elab_groups.specs.Groups.{BodiesSolved}
use Rattle.elab_declarations.specs.inductive_declarations.Inductives.{inductives_seen, as_member, as_members, formula_members, clause_signatures, with_inductives, before_inductives, inductives_scope, within_inductives, inductive_decls, inductives_used, IsInductiveElaborated}
use Rattle.elab_declarations.specs.inductive_declarations.Sources.{AreInductivesMade}
use Rattle.elab_declarations.proofs.Over.{made_at}
use Rattle.elab_declarations.proofs.inductive_declarations.InductivesNamed.{inductives_types, inductives_with, inductives_scopes}
use Rattle.elab_declarations.proofs.inductive_declarations.ClausesResolved.{members_right, formulas_resolved}

module _ (p : Place) (s s1 : List Tree) (grows : Grows s s1) (g g1 : Signature) (names : ScopeNames) (ds : List InductivePredicate) (it : Signatures) (sig : IsSignature s g.symbols) (scopes : AreScopes s (length g.symbols) names)
    (e : IsEntered (setting p s g names) (before_inductives (setting p s g names) ds) (as_members ds) g s1 g1 it) where
  abbrev c : Setting
  c = setting p s g names

  abbrev before : List SymbolTree
  before = before_inductives c ds

  abbrev entries : List SymbolTree
  entries = member_entries c before (as_members ds)

  abbrev after : ScopeNames
  after = with_inductives p.decl it.number ds names

  abbrev total : ℕ
  total = length (before ++ entries)

  before_count : length g.symbols ≤ length before
  before_count = omega (arith, length-append (symbols_at s g.symbols) (tuples_wanting c (inductives_seen unseen ds)), length-map g.symbols (symbol_at s))

  total_is : total ≡ length before + length ds
  total_is = length-append before entries ∙ ap (λ (n : ℕ). length before + n) (entries_count c.theory c.within (as_members ds) (over before (scope_at s names) []) ∙ length-map ds as_member)

  scopes_before : AreScopes s (length before) names
  scopes_before = scopes_grow s s (Grows_refl s) (length g.symbols) (length before) before_count names scopes

  some : 0 < length before
  some = let h = some_entry s g.symbols sig in omega (arith, before_count, h)

  scopes_total : AreScopes s total after
  scopes_total =
      let a : length before ≤ total = omega (arith, total_is) in
      let b : it.number + length ds ≤ total = omega (arith, total_is, e.number) in
      inductives_scopes s total p.decl it.number ds names b (scopes_grow s s (Grows_refl s) (length before) total a names scopes_before)

  -- the scopes have their names
  scope_is : (s' : List Tree) → Grows s s' → scope_at s' after ≡ inductives_scope c ds
  scope_is s' g' =
      inductives_with (type_tree_at s') p.decl it.number ds names
      ∙ (ap (with_inductives p.decl it.number ds) (scope_stays s s' g' (length g.symbols) names scopes) ∙ ap (λ (k : ℕ). with_inductives p.decl k ds (scope_at s names)) e.number)

  -- what names mean among the predicates
  pub inside_is : over (symbols_at s1 g1.symbols) (scope_at s1 after) [] ≡ within_inductives c ds
  inside_is = ap (λ (es : List SymbolTree). over es (scope_at s1 after) []) e.symbols ∙ ap (λ (ns : NamesTree). over (before ++ entries) ns []) (scope_is s1 grows)

  counted : length g1.symbols ≡ total
  counted = sym (length-map g1.symbols (symbol_at s1)) ∙ ap length e.symbols

  pub scopes_after : AreScopes s1 (length g1.symbols) after
  scopes_after = scopes_grow s s1 grows total (length g1.symbols) (omega (arith, counted)) after scopes_total

  module _ (right : inductives_used c ds ≡ None) where
    members_are : members_fault (within_inductives c ds) (as_members ds) ≡ None
    members_are = members_right (within_inductives c ds) ds right

    pub signature_after : IsSignature s1 g1.symbols
    signature_after = record {
      int = ap (λ (es : List SymbolTree). slice_get es 0) e.symbols ∙ first_stays before entries int_symbol e.int;
      typed = e.typed;
      scoped = subst (All IsScopedEntry) (sym e.symbols) (All-append IsScopedEntry before entries e.scoped
          (members_scoped s before entries names (inductives_scope c ds) scopes_before some (inductives_types p.decl (length before) ds (scope_at s names)) e.outer c.theory c.within (as_members ds) members_are));
    }

    pub resolved_after : (w : Where) → w ≡ within_inductives c ds → AreResolved w (formula_members ds) (clause_signatures ds)
    resolved_after w q = subst (λ (v : Where). AreResolved v (formula_members ds) (clause_signatures ds)) (sym q) (formulas_resolved (within_inductives c ds) ds right)

    module _ (s2 : List Tree) (further : Grows s1 s2) (w : Where) (q : w ≡ within_inductives c ds) (made : Elaborated) (m : AreInductivesMade w p.theory.now p.within.now ds it.number s2 made) where
      solved_after : BodiesSolved (within_inductives c ds) (formula_members ds) (clause_signatures ds) m.clauses (map (match_at s2) made.matches)
      solved_after = subst (λ (v : Where). BodiesSolved v (formula_members ds) (clause_signatures ds) m.clauses (map (match_at s2) made.matches)) q m.solved

      decls_after : declarations_at s2 made.decls ≡ inductive_decls c.theory c.within ds (length before) m.clauses
      decls_after = m.decls ∙ ap (λ (k : ℕ). inductive_decls c.theory c.within ds k m.clauses) e.number

      pub inductives_elaborated : made_fault (declared_in names) [] (made_by_inductives ds) ≡ None → IsInductiveElaborated c ds g s2 g1 after made
      inductives_elaborated free = record {
        outcome = record {
          symbols = tuples_wanting c (inductives_seen unseen ds) ++ entries;
          scope = inductives_scope c ds;
          decls = inductive_decls c.theory c.within ds (length before) m.clauses;
          rigid = [];
          matches = map (match_at s2) made.matches;
        };
        is = record { clauses = m.clauses; solved = solved_after; symbols = refl; scope = refl; decls = refl; rigid = refl };
        named = no_fault (made_fault (declared_in (scope_at s names)) [] (made_by_inductives ds)) (inductives_used c ds) (made_at s names (made_by_inductives ds) ∙ free) right;
        symbols_are = entries_stay s1 s2 further g1.symbols signature_after ∙ (e.symbols ∙ append_assoc (symbols_at s g.symbols) (tuples_wanting c (inductives_seen unseen ds)) entries);
        ints = e.ints;
        scope = scope_is s2 (Grows_trans s s1 s2 grows further);
        decls = decls_after;
        rigid = m.rigid;
        matches = refl;
      }

      pub inductives_kept : IsKept s2 g1 after made
      inductives_kept = record {
        signature = signature_grows s1 s2 further g1.symbols signature_after;
        scopes = scopes_grow s1 s2 further (length g1.symbols) (length g1.symbols) (omega arith) after scopes_after;
        decls = m.decls_held;
        matches = m.matches_held;
      }
