-- A group of functions and predicates is valid, with or without definitions.
use Rattle.std.proofs.Common.{◌≡◌, ℕ, ◌+◌, suc, true, false, List, [], ◌∷◌, ◌++◌, map, reverse, length, All, Option, Some, None, refl, sym, ap, subst, ◌∙◌, arith, append_assoc}
use Rattle.std.specs.Option.{is_some, is_none}
use Rattle.std.proofs.lemmas.List.Elements.{All-nil, All-cons}
use Rattle.elab_groups.specs.trees.Tree.{Tree}
use Rattle.elab_groups.specs.trees.Facts.{IndicesFit}
use Rattle.elab_groups.specs.tasks.Equations.{cells, type_variables, bound_variables, for_all, equated}
use Rattle.elab_groups.specs.tasks.Task.{SymbolTree, symbol_or, DefinitionTree, DeclarationTree}
use Rattle.elab_groups.specs.tasks.Vocabulary.{Vocabulary, is_empty}
use Rattle.elab_groups.specs.tasks.Valid.{IsDefinition, IsValidBody, IsValidDecl}
use Rattle.elab_groups.specs.surface.Lexeme.{Word}
use Rattle.elab_groups.specs.name_resolution.Abstract.{TypeExpression, Expression}
use Rattle.elab_groups.specs.name_resolution.Faults.{first_of, type_fault}
use Rattle.elab_groups.specs.name_resolution.Naming.{type_named}
use Rattle.elab_groups.specs.name_resolution.Where.{Where, NamesTree}
use Rattle.elab_groups.specs.name_resolution.variables.Seen.{SeenTree, type_seen}
use Rattle.elab_groups.proofs.open_types.Walking.{none_both}
use Rattle.elab_groups.specs.parts.Elaborated.{unseen}
use Rattle.elab_groups.specs.parts.Declarations.{GroupMember, own_variables, with_vars, params_seen, params_fault}
use Rattle.elab_groups.specs.parts.Outcomes.{Setting, Outcome}
use Rattle.elab_declarations.specs.elab_groups.members.Members.{SignatureTree, signature_of, signed_entries, with_members, symbol_kind_of, body_seen, members_seen, body_fault, member_fault, members_fault}
use Rattle.elab_declarations.specs.elab_groups.members.Sources.{AreResolved}
use Rattle.elab_declarations.proofs.elab_groups.members.MembersNamed.{members_types}
use Rattle.elab_declarations.proofs.elab_groups.members.MembersScoped.{same_kind, types_count}
use Rattle.elab_declarations.specs.elab_groups.Bodies.{AreDefined, AllHaveBodies}
use Rattle.elab_declarations.specs.elab_groups.Groups.{inner_equation, definitions, group_body, group_decls, group_tuples, group_signatures, group_used, IsGroup}
use Rattle.elaboration_laws.specs.Typed.{IsTypedIn, ArePatterns}
use Rattle.elaboration_laws.specs.Signature.{with_entries}
use Rattle.elaboration_laws.specs.Scopes.{NamesNew, IsTypedSignature, AreTypedScopes}
use Rattle.elaboration_laws.proofs.Widths.{IsWithin}
use Rattle.elaboration_laws.specs.Valid.{IsTypedSetting, BodyFits, IsValidOutcome}
use Rattle.elaboration_laws.proofs.Settings.{inside}
use Rattle.elaboration_laws.proofs.Algebraics.{EntriesAt, got}
use Rattle.elaboration_laws.proofs.Definitions.{definition_valid}
use Rattle.elaboration_laws.proofs.Standing.{entry_of, number_of_member, signature_at, members_scoped, AreSeen, whole, own_entries, outer, inner, whole_signed, whole_typed, entries_here, old_scopes, seen_tuples, count_signed}
use Rattle.elaboration_laws.proofs.Bodies.{body_grows, members_grow, AreSigned, AreBodied, bodies_seen, bodies_valid, bodies_patterns}

-- ---- members whose names are there: a type for each parameter, and a body without a fault
members_resolved : (v w : Where) (ms : List GroupMember) → members_fault w ms ≡ None → AreResolved w ms (map (signature_of v) ms)
members_resolved v w [] h = tt
members_resolved v w (m ∷ ms) h =
    let own = own_variables m in
    let p = none_both (member_fault w m) (members_fault w ms) h in
    let q = none_both (params_fault w true m.params) (first_of (type_fault w true m.result) (body_fault w m own m.body)) p.0 in
    let r = none_both (type_fault w true m.result) (body_fault w m own m.body) q.1 in
    (record { right = r.1; count = types_count (with_vars v own) m.params; kind = same_kind (with_vars v own) m.result }, members_resolved v w ms p.1)

-- ---- equations of definitions
body_inside : (ts : List Tree) (e : Tree) → IndicesFit (for_all ts e) → IndicesFit e
body_inside [] e i = i
body_inside (t ∷ ts) e i = body_inside ts e i.1

body_fits : (k : ℕ) (g : SignatureTree) (r : Option Tree) (b : Tree) → IndicesFit (for_all g.args (inner_equation k g r b)) → IndicesFit b
body_fits k g None b i = (body_inside g.args (inner_equation k g None b) i).1
body_fits k g (Some t) b i = (body_inside g.args (inner_equation k g (Some t) b) i).1

-- the kind of an entry is that of its result
equation_is : (k : ℕ) (g : SignatureTree) (f : Option TypeExpression) (r : Option Tree) (b : Tree) → is_none f ≡ is_none r → equated (symbol_kind_of f) k (cells (type_variables 0 (length g.vars))) (cells (bound_variables g.args)) r b ≡ Some (inner_equation k g r b)
equation_is k g None None b q = refl
equation_is k g None (Some t) b q = absurd (cc)
equation_is k g (Some x) None b q = absurd (cc)
equation_is k g (Some x) (Some t) b q = refl

module _ (theory within : Word) (named : is_empty theory ≡ false) (base : Vocabulary) (all : List SymbolTree) (whole : IsTypedSignature base all) where
  abbrev v : Vocabulary
  v = with_entries base all

  definitions_valid : (ms : List GroupMember) (gs : List SignatureTree) (bs : List Tree) (k : ℕ) → length gs ≡ length ms → AreSigned v ms gs → EntriesAt base all k (signed_entries theory within ms gs) → AreBodied v gs bs
      → All (λ (d : DefinitionTree). IndicesFit d.equation) (definitions k gs bs) → All (IsDefinition v) (definitions k gs bs)
  definitions_valid ms [] bs k n q h x fits = All-nil (IsDefinition v)
  definitions_valid ms (g ∷ gs) [] k n q h x fits = All-nil (IsDefinition v)
  definitions_valid [] (g ∷ gs) (b ∷ bs) k n q h x fits = absurd (cc)
  definitions_valid (m ∷ ms) (g ∷ gs) (b ∷ bs) k n q h x fits =
      let there = got all k (entry_of theory within named m g) h.0.at in
      let d : DefinitionTree = record { symbol = k; equation = for_all g.args (inner_equation k g g.result b) } in
      let fit : IndicesFit (for_all g.args (inner_equation k g g.result b)) = fits 0 d (omega arith) in
      let typed = x.0 (body_fits k g g.result b fit) in
      let e = symbol_or all k in
      let same : e ≡ entry_of theory within named m g = there.1 in
      let back = sym same in
      let equation : equated e.kind k (cells (type_variables 0 e.vars)) (cells (bound_variables e.args)) e.result b ≡ Some (inner_equation k g g.result b) =
      subst (λ (i : SymbolTree). equated i.kind k (cells (type_variables 0 i.vars)) (cells (bound_variables i.args)) i.result b ≡ Some (inner_equation k g g.result b)) back (equation_is k g m.result g.result b q.0.kind) in
      let body : IsTypedIn v e.vars (reverse e.args) e.result b = subst (λ (i : SymbolTree). IsTypedIn v i.vars (reverse i.args) i.result b) back typed in
      let fit' : IndicesFit (for_all e.args (inner_equation k g g.result b)) = subst (λ (i : SymbolTree). IndicesFit (for_all i.args (inner_equation k g g.result b))) back fit in
      let usable = (number_of_member theory within named base all whole m g k h.0).usable in
      let one : IsDefinition v (record { symbol = k; equation = for_all e.args (inner_equation k g g.result b) }) = definition_valid v k (signature_at theory within named base all whole m g k h.0) usable b (inner_equation k g g.result b) equation body fit' in
      let next : EntriesAt base all (suc k) (signed_entries theory within ms gs) = subst (λ (i : ℕ). EntriesAt base all i (signed_entries theory within ms gs)) (let z : k + 1 ≡ suc k = omega arith in z) h.1 in
      All-cons (IsDefinition v) d (definitions (suc k) gs bs) (subst (λ (i : SymbolTree). IsDefinition v (record { symbol = k; equation = for_all i.args (inner_equation k g g.result b) })) same one)
      (definitions_valid ms gs bs (suc k) (omega (arith, n)) q.1 next x.1 (λ i j l. fits (suc i) j (omega arith)))

-- ---- declarations of a group
defined_of : (m : GroupMember) (ks : List GroupMember) (e : Expression) → m.body ≡ Some e → AllHaveBodies (m ∷ ks) → (is_some m.body ≡ true) × AreDefined ks
defined_of m ks e q w = let p = ap is_some q in (p, w p)

module _ (base : Vocabulary) (c : Setting) (h : IsTypedSetting base c) where
  module _ (all : List SymbolTree) (typed : IsTypedSignature base all) where
    body_valid : (m : GroupMember) (ms : List GroupMember) (x : SignatureTree) (hs : List SignatureTree) (bs : List Tree) (k : ℕ) (o : Option Expression) → m.body ≡ o → length (x ∷ hs) ≡ length (m ∷ ms) → AreSigned (with_entries base all) (m ∷ ms) (x ∷ hs)
        → EntriesAt base all k (signed_entries c.theory c.within (m ∷ ms) (x ∷ hs)) → AllHaveBodies (m ∷ ms) → (AreDefined (m ∷ ms) → AreBodied (with_entries base all) (x ∷ hs) bs) → BodyFits (group_body o k (x ∷ hs) bs)
        → IsValidBody (with_entries base all) (length x.vars) (group_body o k (x ∷ hs) bs)
    body_valid m ms x hs bs k None z n q e w b f = signature_at c.theory c.within h.theory base all typed m x k e.0
    body_valid m ms x hs bs k (Some i) z n q e w b f = definitions_valid c.theory c.within h.theory base all typed (m ∷ ms) (x ∷ hs) bs k n q e (b (defined_of m ms i z w)) f

    decls_valid : (ms : List GroupMember) (gs : List SignatureTree) (bs : List Tree) (k : ℕ) → length gs ≡ length ms → AreSigned (with_entries base all) ms gs → EntriesAt base all k (signed_entries c.theory c.within ms gs) → AllHaveBodies ms
        → (AreDefined ms → AreBodied (with_entries base all) gs bs)
        → All (λ (d : DeclarationTree). BodyFits d.body) (group_decls c.theory c.within ms k gs bs) → All (IsValidDecl (with_entries base all)) (group_decls c.theory c.within ms k gs bs)
    decls_valid [] gs bs k n q e w b fits = All-nil (IsValidDecl (with_entries base all))
    decls_valid (m ∷ ms) [] bs k n q e w b fits = absurd (cc)
    decls_valid (m ∷ ms) (x ∷ gs) bs k n q e w b fits =
        let d : DeclarationTree = record { theory = c.theory; name = c.within ++ m.called.name; vars = length x.vars; body = group_body m.body k (x ∷ gs) bs } in
        All-cons (IsValidDecl (with_entries base all)) d [] (body_valid m ms x gs bs k m.body refl n q e w b (fits 0 d (omega arith))) (All-nil (IsValidDecl (with_entries base all)))

  module _ (ms : List GroupMember) (q : group_used c ms ≡ None) where
    abbrev all_seen : SeenTree
    all_seen = members_seen unseen ms

    abbrev names' : NamesTree
    names' = with_members (length (inside base c h all_seen)) ms c.scope

    same_types : (qs : List Word) (x : Word) → type_named names' qs x ≡ type_named c.scope qs x
    same_types qs x = members_types (length (inside base c h all_seen)) ms c.scope qs x

    are_seen : (ks : List GroupMember) (u : SeenTree) → IsWithin (members_seen u ks) all_seen → AreSeen all_seen ks
    are_seen [] u g = tt
    are_seen (m ∷ ks) u g =
        let one = type_seen (params_seen u m.params) m.result in
        let two = body_seen one m.body in
        ((u, λ n z. g n (members_grow ks two n (body_grows m.body one n z))), are_seen ks two g)

    abbrev sees : AreSeen all_seen ms
    sees = are_seen ms unseen (λ n z. z)

    abbrev A : List SymbolTree
    A = whole base c h ms all_seen names' same_types

    module _ (news : NamesNew base (length c.symbols) A) where
      typed : IsTypedSignature base A
      typed = whole_typed base c h ms all_seen names' same_types news sees q

      here : EntriesAt base A (length (inside base c h all_seen)) (own_entries base c h ms all_seen names' same_types)
      here = entries_here base c h ms all_seen names' same_types news sees q

      scopes : AreTypedScopes (with_entries base A) names'
      scopes = members_scoped c.theory c.within h.theory base A typed ms (group_signatures c ms) (length (inside base c h all_seen)) c.scope (count_signed (outer base c h ms all_seen names' same_types []) ms) here
          (old_scopes base c h ms all_seen names' same_types news sees q)

    module _ (o : Outcome) (it : IsGroup c ms o) (all_news : NamesNew base (length c.symbols) (c.symbols ++ o.symbols)) where
      split : c.symbols ++ o.symbols ≡ A
      split = ap (λ (es : List SymbolTree). c.symbols ++ es) it.symbols ∙ sym (append_assoc c.symbols (group_tuples c ms) (own_entries base c h ms all_seen names' same_types))

      news : NamesNew base (length c.symbols) A
      news = subst (λ (es : List SymbolTree). NamesNew base (length c.symbols) es) split all_news

      signed : AreSigned (with_entries base A) ms (group_signatures c ms)
      signed = whole_signed base c h ms all_seen names' same_types news sees q

      resolved : AreResolved (inner base c h ms all_seen names' same_types []) ms (group_signatures c ms)
      resolved = members_resolved (outer base c h ms all_seen names' same_types []) (inner base c h ms all_seen names' same_types []) ms q

      pub members_valid : AllHaveBodies ms → All (λ (d : DeclarationTree). BodyFits d.body) o.decls → IsValidOutcome base c o
      members_valid w fits =
          let gs = group_signatures c ms in
          let v = with_entries base A in
          let k = length (inside base c h all_seen) in
          let bodied : AreDefined ms → AreBodied v gs it.bodies =
          λ d. bodies_valid base A (typed news) names' (scopes news) all_seen (seen_tuples base c h ms all_seen names' same_types news sees q) ms gs it.bodies o.matches d signed resolved (bodies_seen all_seen ms unseen (λ n z. z)) it.solved in
          let scopes' : AreTypedScopes v o.scope = rw it.scope (scopes news) in
          let decls : All (IsValidDecl v) o.decls = rw it.decls (decls_valid A (typed news) ms gs it.bodies k (count_signed (outer base c h ms all_seen names' same_types []) ms) signed (here news) w bodied (rw it.decls at fits)) in
          let z = split in
          record { signature = rw z (typed news); scopes = rw z scopes'; decls = rw z decls }

      -- the patterns of each match are well typed, and of one type
      pub members_patterns : All (λ (m : ℕ × List Tree). ArePatterns (with_entries base (c.symbols ++ o.symbols)) m.1) o.matches
      members_patterns =
          let z = split in
          rw z (bodies_patterns base A (typed news) names' (scopes news) all_seen (seen_tuples base c h ms all_seen names' same_types news sees q) ms (group_signatures c ms) it.bodies o.matches signed resolved
          (bodies_seen all_seen ms unseen (λ n z. z)) it.solved)
