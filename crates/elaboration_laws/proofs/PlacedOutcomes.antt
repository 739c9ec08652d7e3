-- Of the entries that a declaration makes only those of type variables have no theory.
use Rattle.std.proofs.Common.{◌≡◌, ℕ, false, List, [], ◌∷◌, ◌++◌, map, length, All, refl, ap}
use Rattle.std.proofs.lemmas.List.Elements.{All-nil, All-cons, All-append}
use Rattle.elab_groups.specs.tasks.Task.{SymbolTree}
use Rattle.elab_groups.specs.tasks.Rigid.{rigid_symbol}
use Rattle.elab_groups.specs.tasks.Vocabulary.{is_empty}
use Rattle.elab_groups.specs.parts.Elaborated.{unseen}
use Rattle.elab_groups.specs.parts.Entries.{builtin, type_entry, wanting_tuples}
use Rattle.elab_groups.specs.parts.Declarations.{Declaration, abstract_type, alias, algebraic, member_group, inductive, proposition_declaration}
use Rattle.elab_groups.specs.parts.Outcomes.{Setting, Outcome, full_name}
use Rattle.elab_declarations.specs.elab_groups.members.Members.{signed_entries, signature_trees, members_seen}
use Rattle.elab_declarations.specs.elab_groups.Groups.{group_signatures}
use Rattle.elab_declarations.specs.inductive_declarations.Inductives.{as_members, before_inductives, inductives_seen}
use Rattle.elab_declarations.specs.type_declarations.Algebraics.{group_seen, type_entries, group_trees, group_entries}
use Rattle.elab_declarations.specs.Outcomes.{alias_seen, proposition_seen, rigid_names, IsOutcome}
use Rattle.elaboration_laws.proofs.Made.{tuples_built}
use Rattle.elaboration_laws.proofs.TaskOutcomes.{OfTheory, signed_of, types_of, group_of}
use Rattle.elaboration_laws.specs.Placed.{IsPlacedEntry, ArePlaced}
use Rattle.elaboration_laws.proofs.Copies.{theory_placed, rigids_placed}

module _ (c : Setting) (named : is_empty c.theory ≡ false) where
  built : (ns : List ℕ) → ArePlaced (wanting_tuples c.symbols ns)
  built ns = theory_placed builtin refl (wanting_tuples c.symbols ns) (tuples_built c.symbols ns)

  tuples_then : (o : Outcome) (ns : List ℕ) (own : List SymbolTree) → o.symbols ≡ wanting_tuples c.symbols ns ++ own → ArePlaced own → ArePlaced o.symbols
  tuples_then o ns own q h = rw q (All-append IsPlacedEntry (wanting_tuples c.symbols ns) own (built ns) h)

  own_placed : (es : List SymbolTree) → All (OfTheory c.theory) es → ArePlaced es
  own_placed es h = theory_placed c.theory named es h

  pub outcome_placed : (d : Declaration) (o : Outcome) → IsOutcome c d o → ArePlaced o.symbols
  outcome_placed (abstract_type x vs) o e =
      let t = type_entry c.theory (full_name c x) (length vs) in
      tuples_then o [] (t ∷ []) (ap (λ (i : Outcome). i.symbols) e) (own_placed (t ∷ []) (All-cons (OfTheory c.theory) t [] refl (All-nil (OfTheory c.theory))))
  outcome_placed (alias x vs f) o e = rw e (built (alias_seen f).widths)
  outcome_placed (proposition_declaration k x y) o e = let vs = rigid_names k (proposition_seen y).vars in tuples_then o (proposition_seen y).widths (map rigid_symbol vs) e.symbols (rigids_placed vs)
  outcome_placed (algebraic ts) o e =
      let T = type_entries c.theory c.within ts in
      let G = group_entries c.theory c.within ts (group_trees c ts) in
      let h = All-append (OfTheory c.theory) T G (types_of c.theory c.within ts) (group_of c.theory c.within ts (group_trees c ts)) in
      tuples_then o (group_seen ts).widths (T ++ G) (ap (λ (i : Outcome). i.symbols) e) (own_placed (T ++ G) h)
  outcome_placed (member_group ms) o e =
      let es = signed_entries c.theory c.within ms (group_signatures c ms) in
      tuples_then o (members_seen unseen ms).widths es e.symbols (own_placed es (signed_of c.theory c.within ms (group_signatures c ms)))
  outcome_placed (inductive ds) o e =
      let gs = signature_trees c (before_inductives c ds) (as_members ds) in
      let es = signed_entries c.theory c.within (as_members ds) gs in
      tuples_then o (inductives_seen unseen ds).widths es e.symbols (own_placed es (signed_of c.theory c.within (as_members ds) gs))
