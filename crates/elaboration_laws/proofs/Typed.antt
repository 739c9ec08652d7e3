-- Over a signature of which each entry that has a theory may be named, what is elaborated is typed.
use Rattle.std.proofs.Common.{◌≡◌, ◌⊎◌, inl, inr, ℕ, ◌-◌, ◌<◌, ◌≤◌, ◌&&◌, not, true, false, List, [], ◌∷◌, ◌++◌, map, length, get_or, slice_get, All, Some, IsTrue, refl, sym, ap, subst, ◌∙◌, arith, append_assoc}
use Rattle.std.specs.Str.{bytes_eq}
use Rattle.std.proofs.lemmas.List.Elements.{All-nil, All-cons, All-append}
use Rattle.elab_groups.specs.trees.Tree.{Tree}
use Rattle.elab_groups.specs.trees.Node.{Holds, tree_at}
use Rattle.elab_groups.specs.trees.Sorts.{WellSorted}
use Rattle.elab_groups.specs.trees.declared.TermId.{TermId}
use Rattle.elab_groups.specs.tasks.declared.signature.SymbolKind.{SymbolKind}
use Rattle.elab_groups.specs.tasks.declared.signature.SymbolKind.TheVariants.{Kind, Function, Predicate, Constructor, Projection}
use Rattle.elab_groups.specs.tasks.declared.signature.Signature.{Signature}
use Rattle.elab_groups.specs.tasks.Rigid.{rigid_symbol}
use Rattle.elab_groups.specs.tasks.Task.{SymbolTree, int_symbol}
use Rattle.elab_groups.specs.tasks.Meaning.{symbols_at, declarations_at, DeclHeld}
use Rattle.elab_groups.specs.tasks.Vocabulary.{Vocabulary, of_signature, passes, is_empty, is_constructor_kind}
use Rattle.elab_groups.specs.scopes.Names.{ScopeNames}
use Rattle.elab_groups.specs.name_resolution.Naming.{scope_at}
use Rattle.elab_groups.specs.surface.Lexeme.{Word}
use Rattle.elab_groups.specs.surface.declared.declarations.PropKind.TheVariants as kind
use Rattle.elab_groups.specs.surface.Declarations as source
use Rattle.elab_groups.specs.open_types.Drafts.{match_at}
use Rattle.elab_groups.specs.declared.parts.made.Elaborated.{Elaborated}
use Rattle.elab_groups.specs.parts.Elaborated.{unseen}
use Rattle.elab_groups.specs.parts.Entries.{builtin, type_entry, wanting_tuples}
use Rattle.elab_groups.specs.parts.Declarations.{Declaration, abstract_type, alias, algebraic, member_group, inductive, proposition_declaration, declaration}
use Rattle.elab_groups.specs.parts.Outcomes.{Setting, Outcome, full_name, tuples_wanting}
use Rattle.elab_declarations.specs.elab_groups.members.Members.{signed_entries, signature_trees, members_seen}
use Rattle.elab_declarations.specs.elab_groups.Groups.{group_signatures}
use Rattle.elab_declarations.specs.inductive_declarations.Inductives.{as_members, before_inductives, inductives_seen}
use Rattle.elab_declarations.specs.type_declarations.Algebraics.{group_seen, type_entries, group_trees, group_entries}
use Rattle.elab_declarations.specs.Outcomes.{alias_seen, proposition_seen, rigid_names, entry_numbers, IsProposition, IsOutcome, IsElaborated}
use Rattle.elaboration_laws.specs.Scopes.{is_projection_kind, IsNamedBy, NamesNew, AgreeBelow}
use Rattle.elaboration_laws.specs.Typed.{IsPatternOf, ArePatterns}
use Rattle.elaboration_laws.proofs.Extended.{further, in_either, slice_all}
use Rattle.elaboration_laws.specs.Valid.{IsTypedSetting, HaveNoFault, MayNameRigid}
use Rattle.elaboration_laws.specs.Lists.{IsRigidAt}
use Rattle.elaboration_laws.proofs.Begin.{agrees}
use Rattle.elaboration_laws.proofs.Made.{tuples_built}
use Rattle.elaboration_laws.proofs.Elaborated.{elaborated_valid, elaborated_patterns}
use Rattle.elaboration_laws.proofs.Goals.{rigid_entries}
use Rattle.elaboration_laws.specs.TaskTyped.{IsFitMatch, IsTypedOver}
use Rattle.elaboration_laws.proofs.TaskOutcomes.{OfTheory, signed_of, types_of, group_of}
use Rattle.elaboration_laws.proofs.Entries.{both_true as first_of}
use Rattle.std.proofs.lemmas.Option.{slice_get-get_or as some_at}
use Rattle.elaboration_laws.proofs.Declarations.{below as slice_below}

-- ---- new entries: a constructor has a theory
abbrev IsPlaced : SymbolTree → Type 0
IsPlaced e = e.kind ≡ Constructor → is_empty e.theory ≡ false

of_theory : (theory : Word) → is_empty theory ≡ false → (es : List SymbolTree) → All (OfTheory theory) es → All IsPlaced es
of_theory theory n es h = λ k d l. let q : (get_or es k d).theory ≡ theory = h k d l in λ z. ap is_empty q ∙ n

rigid_placed : (names : List Word) → All IsPlaced (map rigid_symbol names)
rigid_placed [] = All-nil IsPlaced
rigid_placed (x ∷ xs) = All-cons IsPlaced (rigid_symbol x) (map rigid_symbol xs) (λ z. absurd (let q : Kind ≡ Constructor = z in cc)) (rigid_placed xs)

module _ (c : Setting) (named : is_empty c.theory ≡ false) where
  tuples_then : (o : Outcome) (ns : List ℕ) (own : List SymbolTree) → o.symbols ≡ wanting_tuples c.symbols ns ++ own → All IsPlaced own → All IsPlaced o.symbols
  tuples_then o ns own q h = rw q (All-append IsPlaced (wanting_tuples c.symbols ns) own (of_theory builtin refl (wanting_tuples c.symbols ns) (tuples_built c.symbols ns)) h)

  own_placed : (es : List SymbolTree) → All (OfTheory c.theory) es → All IsPlaced es
  own_placed es h = of_theory c.theory named es h

  outcome_placed : (d : Declaration) (o : Outcome) → IsOutcome c d o → All IsPlaced o.symbols
  outcome_placed (abstract_type x vs) o e =
      let t = type_entry c.theory (full_name c x) (length vs) in
      tuples_then o [] (t ∷ []) (ap (λ (i : Outcome). i.symbols) e) (own_placed (t ∷ []) (All-cons (OfTheory c.theory) t [] refl (All-nil (OfTheory c.theory))))
  outcome_placed (alias x vs f) o e = rw e (of_theory builtin refl (wanting_tuples c.symbols (alias_seen f).widths) (tuples_built c.symbols (alias_seen f).widths))
  outcome_placed (proposition_declaration k x y) o e = tuples_then o (proposition_seen y).widths (map rigid_symbol (rigid_names k (proposition_seen y).vars)) e.symbols (rigid_placed (rigid_names k (proposition_seen y).vars))
  outcome_placed (algebraic ts) o e =
      let T = type_entries c.theory c.within ts in
      let G = group_entries c.theory c.within ts (group_trees c ts) in
      tuples_then o (group_seen ts).widths (T ++ G) (ap (λ (i : Outcome). i.symbols) e) (All-append IsPlaced T G (own_placed T (types_of c.theory c.within ts)) (own_placed G (group_of c.theory c.within ts (group_trees c ts))))
  outcome_placed (member_group ms) o e =
      let es = signed_entries c.theory c.within ms (group_signatures c ms) in
      tuples_then o (members_seen unseen ms).widths es e.symbols (own_placed es (signed_of c.theory c.within ms (group_signatures c ms)))
  outcome_placed (inductive ds) o e =
      let gs = signature_trees c (before_inductives c ds) (as_members ds) in
      let es = signed_entries c.theory c.within (as_members ds) gs in
      tuples_then o (inductives_seen unseen ds).widths es e.symbols (own_placed es (signed_of c.theory c.within (as_members ds) gs))

-- ---- they may be named

constructor_of : (k : SymbolKind) → IsTrue (is_constructor_kind k) → k ≡ Constructor
constructor_of Constructor h = refl
constructor_of Kind h = absurd (let z : true ≡ false = sym h in cc)
constructor_of Function h = absurd (let z : true ≡ false = sym h in cc)
constructor_of Predicate h = absurd (let z : true ≡ false = sym h in cc)
constructor_of Projection h = absurd (let z : true ≡ false = sym h in cc)

module _ (xs ys : List SymbolTree) where
  abbrev all : List SymbolTree
  all = xs ++ ys

  new_named : All IsPlaced ys → NamesNew (of_signature all) (length xs) all
  new_named placed k e l q = of (in_either xs ys k e q)
    where
      full : is_empty e.theory ≡ false → IsTrue (not (is_empty e.theory))
      full z = rw z refl

      by : IsPlaced e → IsNamedBy (of_signature all) k e
      by p = record {
        usable = λ h. rw q (first_of (not (is_empty e.theory)) (not (is_projection_kind e.kind && bytes_eq e.theory builtin)) h);
        matched = λ z. rw (q, z) refl;
        pattern = λ m. rw q (full (p (constructor_of e.kind (rw q at m))));
      }

      of : (slice_get xs k ≡ Some e) ⊎ ((length xs ≤ k) × (slice_get ys (k - length xs) ≡ Some e)) → IsNamedBy (of_signature all) k e
      of (inl z) = absurd (let b = slice_below xs k e z in omega (arith, b, l))
      of (inr z) = by (slice_all IsPlaced ys placed (k - length xs) e z.1)

  front_same : (k : ℕ) → k < length xs → slice_get xs k ≡ slice_get all k
  front_same k l = let q = some_at xs k int_symbol l in q ∙ sym (further xs ys k _ q)

  agree : AgreeBelow (of_signature xs) (of_signature all) (length xs)
  agree = record {
    rigid = λ k l. ap (passes (λ (e : SymbolTree). is_empty e.theory)) (front_same k l);
    usable = λ k l. ap (passes (λ (e : SymbolTree). not (is_empty e.theory))) (front_same k l);
    matched = λ k l. ap (passes (λ (e : SymbolTree). is_constructor_kind e.kind)) (front_same k l);
  }

rigid_named : (symbols : List SymbolTree) (ks : List ℕ) → All (IsRigidAt symbols) ks → All (λ (k : ℕ). IsTrue ((of_signature symbols).rigid k)) ks
rigid_named symbols ks h = λ i d l. let x : IsRigidAt symbols (get_or ks i d) = h i d l in let q = x.entry in rw q refl

module _ (c : Setting) (x : Declaration) (g : Signature) (s : List Tree) (h : Signature) (names : ScopeNames) (it : Elaborated) (typed : IsTypedSetting (of_signature c.symbols) c) (e : IsElaborated c x g s h names it) where
  abbrev symbols : List SymbolTree
  symbols = symbols_at s h.symbols

  abbrev v : Vocabulary
  v = of_signature symbols

  stands : IsTypedSetting v c
  stands = let q = e.symbols_are in rw q (agrees (of_signature c.symbols) (of_signature (c.symbols ++ e.outcome.symbols)) c (agree c.symbols e.outcome.symbols) typed)

  news : NamesNew v (length c.symbols) symbols
  news = let q = e.symbols_are in rw q (new_named c.symbols e.outcome.symbols (outcome_placed c typed.theory x e.outcome e.is))

  fit : (m : ℕ × List Tree) → ArePatterns v m.1 → IsFitMatch symbols m
  fit m p = record {
    patterns = λ k d l. let i : IsPatternOf v p.type (get_or m.1 k d) = p.patterns k d l in record { sort = i.sort; typed = i.typed };
    one_type = record { type = p.type; have = λ k d l. let i : IsPatternOf v p.type (get_or m.1 k d) = p.patterns k d l in i.type };
  }

  pub matches_fitting : All (IsFitMatch symbols) (map (match_at s) it.matches)
  matches_fitting = λ k d l. fit (get_or (map (match_at s) it.matches) k d) (elaborated_patterns v c stands x g s h names it e news k d l)

  -- the type variables of a goal
  goal_named : (y : Declaration) (o : Outcome) → IsOutcome c y o → symbols ≡ c.symbols ++ o.symbols → MayNameRigid v y o.rigid
  goal_named (proposition_declaration kind.Goal z y) o p q =
      let i : IsProposition c kind.Goal z y o = p in
      let tuples = tuples_wanting c (proposition_seen y) in
      let vs = (proposition_seen y).vars in
      let split : symbols ≡ (c.symbols ++ tuples) ++ map rigid_symbol vs = q ∙ (ap (λ (es : List SymbolTree). c.symbols ++ es) i.symbols ∙ sym (append_assoc c.symbols tuples (map rigid_symbol vs))) in
      rigid_named symbols o.rigid (subst (All (IsRigidAt symbols)) (sym i.rigid) (subst (λ (es : List SymbolTree). All (IsRigidAt es) (entry_numbers (length (c.symbols ++ tuples)) vs)) (sym split) (rigid_entries (c.symbols ++ tuples) vs (length (c.symbols ++ tuples)) refl)))
  goal_named (proposition_declaration kind.Axiom z y) o p q = tt
  goal_named (proposition_declaration kind.Lemma z y) o p q = tt
  goal_named (abstract_type z vs) o p q = tt
  goal_named (alias z vs f) o p q = tt
  goal_named (algebraic ts) o p q = tt
  goal_named (member_group ms) o p q = tt
  goal_named (inductive ds) o p q = tt

  pub setting_kept : (d : source.SyntaxDeclaration) → declaration d ≡ Some x → ((id : TermId) → Holds s id → WellSorted (tree_at s id)) → All (DeclHeld s) it.decls → HaveNoFault symbols (declarations_at s it.decls) → IsTypedOver symbols (scope_at s names)
  setting_kept d q sorted held passes =
      let may : MayNameRigid v x it.rigid = subst (MayNameRigid v x) (sym e.rigid) (goal_named x e.outcome e.is e.symbols_are) in
      let y = elaborated_valid v c stands d x g s h names it q e sorted held passes news may in
      record { signature = y.signature; scopes = y.scopes }
