-- Where a group stands: its entries and its names, with their signatures.
use Rattle.std.proofs.Common.{◌≡◌, ◌≢◌, ℕ, ◌+◌, ◌≤◌, suc, true, false, List, [], ◌∷◌, ◌++◌, map, length, All, Option, Some, None, IsSomeAnd, option_map, IsTrue, refl, sym, ap, subst, ◌∙◌, arith, append-nil, length-append}
use Rattle.std.specs.Option.{is_some, is_none}
use Rattle.std.proofs.lemmas.List.Elements.{All-nil, All-cons}
use Rattle.elab_groups.specs.trees.Tree.{Tree}
use Rattle.elab_groups.specs.tasks.declared.signature.SymbolKind.TheVariants.{Kind}
use Rattle.elab_groups.specs.tasks.Task.{SymbolTree}
use Rattle.elab_groups.specs.tasks.Vocabulary.{Vocabulary, is_empty}
use Rattle.elab_groups.specs.tasks.Typing.{MakesTerms}
use Rattle.elab_groups.specs.tasks.Valid.{IsSignatureOf}
use Rattle.elab_groups.specs.scopes.Names.{with_name}
use Rattle.elab_groups.specs.scopes.declared.Table.TheVariants.{Symbols}
use Rattle.elab_groups.specs.scopes.declared.Referent.TheVariants as stands
use Rattle.elab_groups.specs.surface.Lexeme.{Word}
use Rattle.elab_groups.specs.name_resolution.Abstract.{TypeExpression}
use Rattle.elab_groups.specs.name_resolution.Records.{is_projection}
use Rattle.elab_groups.specs.name_resolution.Faults.{first_of, type_fault, binders_fault}
use Rattle.elab_groups.specs.name_resolution.Naming.{type_named}
use Rattle.elab_groups.specs.name_resolution.Where.{Where, NamesTree}
use Rattle.elab_groups.specs.name_resolution.variables.Seen.{SeenTree, has_width, type_seen}
use Rattle.elab_groups.specs.open_types.Pieces.{names}
use Rattle.elab_groups.proofs.open_types.Walking.{none_both, both_none}
use Rattle.elab_groups.specs.parts.Alike.{meaning_arity, TypesAlike}
use Rattle.elab_groups.specs.parts.Entries.{tuple_in}
use Rattle.elab_groups.specs.parts.Declarations.{GroupMember, own_variables, params_seen, params_fault}
use Rattle.elab_groups.specs.parts.Outcomes.{Setting, over, tuples_wanting}
use Rattle.elab_groups.proofs.parts.Alike.{binders_alike}
use Rattle.elab_declarations.specs.elab_groups.members.Members.{SignatureTree, signature_of, signed_entries, with_members, symbol_kind_of, body_fault, member_fault, members_fault}
use Rattle.elab_declarations.proofs.elab_groups.members.ParamsClosed.{as_binders, signature_closed}
use Rattle.elaboration_laws.specs.Signature.{with_entries}
use Rattle.elaboration_laws.specs.Scopes.{is_projection_kind, is_nameable, NamesNew, IsTypedEntry, IsTypedSignature, IsSymbolNumber, IsTypedThing, AreTypedScopes}
use Rattle.elaboration_laws.proofs.Widths.{IsWithin}
use Rattle.elaboration_laws.proofs.Scopes.{scopes_more, typed_entry}
use Rattle.elaboration_laws.proofs.Extended.{entries_part, news_front, news_later, type_more, signature_more, scopes_extended, BeginsPlain, records_later}
use Rattle.elaboration_laws.proofs.Tuples.{tuple_front, tuples_there}
use Rattle.elaboration_laws.specs.Valid.{IsTypedSetting}
use Rattle.elaboration_laws.proofs.Settings.{arity_kept, inside, inside_typed, inside_scopes, formed}
use Rattle.elaboration_laws.proofs.Signatures.{SignatureIn, signature_in}
use Rattle.elaboration_laws.proofs.Algebraics.{IsThere, EntriesAt, entries_at, got}
use Rattle.elaboration_laws.proofs.Bodies.{AreSigned, signed_more}
use Rattle.elab_declarations.proofs.elab_groups.members.MembersScoped.{same_kind}

no_kind : (f : Option TypeExpression) → symbol_kind_of f ≢ Kind
no_kind None = λ q. cc
no_kind (Some f) = λ q. cc

result_there : (f : Option TypeExpression) (r : Option Tree) → is_none f ≡ is_none r → MakesTerms (symbol_kind_of f) → IsSomeAnd r (λ t. Unit {0})
result_there None r q m = absurd m
result_there (Some f) None q m = absurd (cc)
result_there (Some f) (Some t) q m = tt

-- ---- entries of members with their signatures
module _ (theory within : Word) (named : is_empty theory ≡ false) where
  abbrev pub entry_of : GroupMember → SignatureTree → SymbolTree
  entry_of m g = record { theory = theory; name = within ++ m.called.name; kind = symbol_kind_of m.result; vars = length g.vars; args = g.args; result = g.result }

  -- it may be named
  stands_here : (m : GroupMember) (g : SignatureTree) → IsTrue (is_nameable (entry_of m g))
  stands_here m g = rw (named, no_projection m.result) refl
    where
      no_projection : (f : Option TypeExpression) → is_projection_kind (symbol_kind_of f) ≡ false
      no_projection None = refl
      no_projection (Some f) = refl

  pub entries_typed : (v : Vocabulary) (ms : List GroupMember) (gs : List SignatureTree) → AreSigned v ms gs → All (IsTypedEntry v) (signed_entries theory within ms gs)
  entries_typed v [] gs h = All-nil (IsTypedEntry v)
  entries_typed v (m ∷ ms) [] h = All-nil (IsTypedEntry v)
  entries_typed v (m ∷ ms) (g ∷ gs) h =
      All-cons (IsTypedEntry v) (entry_of m g) (signed_entries theory within ms gs) (record { types = record { args = h.0.args; result = h.0.result }; result = result_there m.result g.result h.0.kind }) (entries_typed v ms gs h.1)

  module _ (base : Vocabulary) (all : List SymbolTree) (whole : IsTypedSignature base all) where
    abbrev v : Vocabulary
    v = with_entries base all

    pub number_of_member : (m : GroupMember) (g : SignatureTree) (k : ℕ) → IsThere base all k (entry_of m g) → IsSymbolNumber v k
    number_of_member m g k h =
        let there = got all k (entry_of m g) h.at in
        record { there = there.0; usable = h.named.usable (stands_here m g); kind = λ q. no_kind m.result (sym (ap (λ (e : SymbolTree). e.kind) there.1) ∙ q) }

    pub signature_at : (m : GroupMember) (g : SignatureTree) (k : ℕ) → IsThere base all k (entry_of m g) → IsSignatureOf v k
    signature_at m g k h =
        let there = got all k (entry_of m g) h.at in
        record { entry = there.0; kind = λ q. no_kind m.result (sym (ap (λ (e : SymbolTree). e.kind) there.1) ∙ q); types = (typed_entry base all whole k there.0 (h.named.usable (stands_here m g))).types }

    pub members_scoped : (ms : List GroupMember) (gs : List SignatureTree) (k : ℕ) (names : NamesTree) → length gs ≡ length ms → EntriesAt base all k (signed_entries theory within ms gs) → AreTypedScopes v names → AreTypedScopes v (with_members k ms names)
    members_scoped [] gs k names n h x = x
    members_scoped (m ∷ ms) [] k names n h x = absurd (cc)
    members_scoped (m ∷ ms) (g ∷ gs) k names n h x =
        let next : EntriesAt base all (suc k) (signed_entries theory within ms gs) = subst (λ (i : ℕ). EntriesAt base all i (signed_entries theory within ms gs)) (let q : k + 1 ≡ suc k = omega arith in q) h.1 in
        members_scoped ms gs (suc k) (with_name Symbols m.called.name (stands.Entry k) true names) (omega (arith, n)) next (scopes_more (IsTypedThing v) names Symbols m.called.name (stands.Entry k) true (number_of_member m g k h.0) x)

-- ---- a group where it is

pub count_signed : (w : Where) (ms : List GroupMember) → length (map (signature_of w) ms) ≡ length ms
count_signed w [] = refl
count_signed w (m ∷ ms) = ap suc (count_signed w ms)

-- each signature is among what is seen
abbrev pub AreSeen : SeenTree → List GroupMember → Type 0
AreSeen all [] = Unit {0}
AreSeen all (m ∷ ms) = ((u : SeenTree) × IsWithin (type_seen (params_seen u m.params) m.result) all) × AreSeen all ms

-- a function or a predicate is no projection
signed_plain : (theory within : Word) (ms : List GroupMember) (gs : List SignatureTree) → BeginsPlain (signed_entries theory within ms gs)
signed_plain theory within [] gs = tt
signed_plain theory within (m ∷ ms) [] = tt
signed_plain theory within (m ∷ ms) (g ∷ gs) = of m.result
  where
    of : (t : Option TypeExpression) → is_projection (symbol_kind_of t) ≡ false
    of None = refl
    of (Some f) = refl

-- where the members' names, after those of a scope, hide no type
module _ (base : Vocabulary) (c : Setting) (h : IsTypedSetting base c) (ms : List GroupMember) (all_seen : SeenTree) (names' : NamesTree) (same_types : (qs : List Word) (x : Word) → type_named names' qs x ≡ type_named c.scope qs x) where
  abbrev pub front : List SymbolTree
  front = inside base c h all_seen

  abbrev pub outer : List Word → Where
  outer vars = over front c.scope vars

  abbrev pub own_entries : List SymbolTree
  own_entries = signed_entries c.theory c.within ms (map (signature_of (outer [])) ms)

  abbrev pub whole : List SymbolTree
  whole = front ++ own_entries

  abbrev pub inner : List Word → Where
  inner vars = over whole names' vars

  -- what is new may be named
  module _ (news : NamesNew base (length c.symbols) whole) where
    pub front_news : NamesNew base (length c.symbols) front
    front_news = news_front base (length c.symbols) front own_entries news

    pub past : length c.symbols ≤ length front
    past = omega (arith, length-append c.symbols (tuples_wanting c all_seen))

    types_alike : (vars : List Word) → TypesAlike (outer vars) (inner vars)
    types_alike vars = record {
      types = λ qs x. arity_kept base front own_entries (type_named c.scope qs x) ((formed base c h all_seen front_news vars).types qs x) ∙ ap (option_map (meaning_arity whole)) (sym (same_types qs x));
      vars = refl;
    }

    closed_signature : (m : GroupMember) → member_fault (inner []) m ≡ None → binders_fault (outer (own_variables m)) false (as_binders m.params m.result) ≡ None
    closed_signature m q =
        let vs = own_variables m in
        let p = none_both (params_fault (inner []) true m.params) (first_of (type_fault (inner []) true m.result) (body_fault (inner []) m vs m.body)) q in
        let r = none_both (type_fault (inner []) true m.result) (body_fault (inner []) m vs m.body) p.1 in
        binders_alike (outer vs) (inner vs) (types_alike vs) false (as_binders m.params m.result)
        ∙ signature_closed (inner []) m.params m.result (both_none (params_fault (inner []) true m.params) (type_fault (inner []) true m.result) p.0 r.0)

    signed : (ks : List GroupMember) → AreSeen all_seen ks → members_fault (inner []) ks ≡ None → AreSigned (with_entries base front) ks (map (signature_of (outer [])) ks)
    signed [] g q = tt
    signed (m ∷ ks) g q =
        let p = none_both (member_fault (inner []) m) (members_fault (inner []) ks) q in
        let it : SignatureIn base c h all_seen front_news (own_variables m) m.params m.result = signature_in base c h all_seen front_news (own_variables m) m.params m.result g.0.0 (closed_signature m p.0) g.0.1 in
        (record { args = it.args; result = it.result; kind = same_kind (outer (own_variables m)) m.result }, signed ks g.1 p.1)

    module _ (sees : AreSeen all_seen ms) (q : members_fault (inner []) ms ≡ None) where
      abbrev pub gs : List SignatureTree
      gs = map (signature_of (outer [])) ms

      front_signed : AreSigned (with_entries base front) ms gs
      front_signed = signed ms sees q

      abbrev pub vocabulary : Vocabulary
      vocabulary = with_entries base whole

      pub whole_signed : AreSigned vocabulary ms gs
      whole_signed = signed_more (with_entries base front) vocabulary (λ n t x. type_more (with_entries base front) vocabulary (entries_part base front own_entries) n t x) ms gs front_signed

      later_news : NamesNew base (length front) whole
      later_news = news_later base (length c.symbols) (length front) whole past news

      pub whole_typed : IsTypedSignature base whole
      whole_typed = signature_more base front own_entries (inside_typed base c h all_seen front_news) (entries_typed c.theory c.within h.theory vocabulary ms gs whole_signed) later_news (records_later base front own_entries (signed_plain c.theory c.within ms gs) later_news)

      pub entries_here : EntriesAt base whole (length front) own_entries
      entries_here =
          let nil : front ++ (own_entries ++ []) ≡ whole = ap (λ (es : List SymbolTree). front ++ es) (append-nil own_entries) in
          subst (λ (es : List SymbolTree). EntriesAt base es (length front) own_entries) nil
          (entries_at base (length c.symbols) own_entries front [] (length front) refl past (subst (λ (es : List SymbolTree). NamesNew base (length c.symbols) es) (sym nil) news))

      pub old_scopes : AreTypedScopes vocabulary c.scope
      old_scopes = scopes_extended base front own_entries c.scope (inside_scopes base c h all_seen)

      pub seen_tuples : (n : ℕ) → has_width n all_seen.widths ≡ true → is_some (tuple_in whole n) ≡ true
      seen_tuples n z = tuple_front n 0 front own_entries (tuples_there c.symbols all_seen.widths n z)
