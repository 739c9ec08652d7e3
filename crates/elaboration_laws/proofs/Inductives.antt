-- A group of inductive predicates is valid where its clauses pass their checks.
use Rattle.std.proofs.Common.{◌≡◌, ℕ, ◌+◌, suc, true, false, List, [], ◌∷◌, ◌++◌, map, take, drop, length, All, None, refl, sym, ap, subst, ◌∙◌, arith, append_assoc}
use Rattle.std.specs.List.{AllByRecursion}
use Rattle.std.proofs.lemmas.List.Elements.{All-nil, All-cons, recursion_from_All}
use Rattle.elab_groups.specs.trees.Tree.{Tree}
use Rattle.elab_groups.specs.trees.Facts.{IndicesFit}
use Rattle.elab_groups.specs.tasks.Clauses.{IsClauseOf}
use Rattle.elab_groups.specs.tasks.Equations.{cells, type_variables}
use Rattle.elab_groups.specs.tasks.Task.{SymbolTree, symbol_or, InductiveTree, Induces, DeclarationTree}
use Rattle.elab_groups.specs.tasks.Vocabulary.{Vocabulary, is_empty}
use Rattle.elab_groups.specs.tasks.Valid.{IsTypeIn, IsFormulaOver, IsInductive, IsValidDecl}
use Rattle.elab_groups.specs.scopes.Names.{with_name}
use Rattle.elab_groups.specs.scopes.declared.Table.TheVariants.{Symbols, Propositions}
use Rattle.elab_groups.specs.scopes.declared.Referent.TheVariants as stands
use Rattle.elab_groups.specs.surface.Lexeme.{Word}
use Rattle.elab_groups.specs.name_resolution.Naming.{type_named}
use Rattle.elab_groups.specs.name_resolution.Where.{NamesTree}
use Rattle.elab_groups.specs.name_resolution.variables.Seen.{SeenTree, seen}
use Rattle.elab_groups.specs.parts.Declarations.{TokenName, InductiveClause, InductivePredicate, GroupMember, params_seen, signature_variables}
use Rattle.elab_groups.specs.parts.Elaborated.{unseen}
use Rattle.elab_groups.specs.parts.Outcomes.{Setting, Outcome, tuples_wanting}
use Rattle.elab_declarations.specs.elab_groups.members.Members.{SignatureTree, signed_entries, signature_trees, members_fault}
use Rattle.elab_declarations.specs.inductive_declarations.Inductives.{clauses_seen, inductives_seen, as_member, as_members, formula, formula_members, clause_signature, clause_signatures, with_clauses, with_inductives, before_inductives, induced, inductive_decls, IsInductiveGroup, inductives_used, within_inductives}
use Rattle.elab_declarations.proofs.inductive_declarations.InductivesNamed.{inductives_types}
use Rattle.elab_declarations.proofs.inductive_declarations.ClausesResolved.{members_right, formulas_resolved, formulas_defined}
use Rattle.checks.specs.decl_checks.Checks.{group_of, OwnClause, own_clauses, all_clauses, ClauseHasForm, ClauseIsPositive, HasNoFault}
use Rattle.checks.proofs.decl_checks.Forms.{clause_of}
use Rattle.elaboration_laws.specs.Typed.{IsTypedAs, ArePatterns}
use Rattle.elaboration_laws.specs.Signature.{with_entries}
use Rattle.elaboration_laws.specs.Scopes.{NamesNew, IsTypedSignature, IsTypedThing, AreTypedScopes}
use Rattle.elaboration_laws.proofs.Widths.{IsWithin, grows}
use Rattle.elaboration_laws.proofs.Scopes.{scopes_more}
use Rattle.elaboration_laws.specs.Valid.{IsTypedSetting, BodyFits, DeclsFit, HaveNoFault, IsValidOutcome}
use Rattle.elaboration_laws.proofs.Settings.{inside, of_below}
use Rattle.elaboration_laws.proofs.Algebraics.{EntriesAt, got}
use Rattle.elaboration_laws.proofs.Bodies.{params_grow, BodiesSeen, AreSigned, AreBodied, bodies_valid, bodies_patterns}
use Rattle.elaboration_laws.proofs.Standing.{entry_of, number_of_member, signature_at, AreSeen, whole, own_entries, outer, inner, whole_typed, entries_here, old_scopes, seen_tuples, count_signed}
use Rattle.elaboration_laws.proofs.Expressions.{split_all}

-- ---- what is seen
clauses_grow : (cs : List InductiveClause) (s : SeenTree) → IsWithin s (clauses_seen s cs)
clauses_grow [] s = λ n z. z
clauses_grow (c ∷ cs) s = λ n z. clauses_grow cs (seen s c.prop) n (grows c.prop s n z)

inductives_grow : (ds : List InductivePredicate) (s : SeenTree) → IsWithin s (inductives_seen s ds)
inductives_grow [] s = λ n z. z
inductives_grow (d ∷ ds) s = λ n z. inductives_grow ds (clauses_seen (params_seen s d.params) d.clauses) n (clauses_grow d.clauses (params_seen s d.params) n (params_grow d.params s n z))

predicates_seen : (all : SeenTree) (ds : List InductivePredicate) (u : SeenTree) → IsWithin (inductives_seen u ds) all → AreSeen all (as_members ds)
predicates_seen all [] u g = tt
predicates_seen all (d ∷ ds) u g =
    let one = params_seen u d.params in
    let two = clauses_seen one d.clauses in
    ((u, λ n z. g n (inductives_grow ds two n (clauses_grow d.clauses one n z))), predicates_seen all ds two g)

clauses_seen_in : (all : SeenTree) (p : TokenName) (cs : List InductiveClause) (rest : List GroupMember) (u : SeenTree) → IsWithin (clauses_seen u cs) all → BodiesSeen all rest → BodiesSeen all (map (formula p) cs ++ rest)
clauses_seen_in all p [] rest u g k = k
clauses_seen_in all p (c ∷ cs) rest u g k = ((u, λ n z. g n (clauses_grow cs (seen u c.prop) n z)), clauses_seen_in all p cs rest (seen u c.prop) g k)

formulas_seen : (all : SeenTree) (ds : List InductivePredicate) (u : SeenTree) → IsWithin (inductives_seen u ds) all → BodiesSeen all (formula_members ds)
formulas_seen all [] u g = tt
formulas_seen all (d ∷ ds) u g =
    let one = params_seen u d.params in
    let two = clauses_seen one d.clauses in
    clauses_seen_in all d.called d.clauses (formula_members ds) one (λ n z. g n (inductives_grow ds two n z)) (formulas_seen all ds two g)

-- ---- formulas have no parameters and no result
clauses_signed : (v : Vocabulary) (d : InductivePredicate) (cs : List InductiveClause) (ms : List GroupMember) (gs : List SignatureTree) → AreSigned v ms gs → AreSigned v (map (formula d.called) cs ++ ms) (map (clause_signature d) cs ++ gs)
clauses_signed v d [] ms gs h = h
clauses_signed v d (c ∷ cs) ms gs h = (record { args = All-nil (IsTypeIn v (length (clause_signature d c).vars)); result = tt; kind = refl }, clauses_signed v d cs ms gs h)

formulas_signed : (v : Vocabulary) (ds : List InductivePredicate) → AreSigned v (formula_members ds) (clause_signatures ds)
formulas_signed v [] = tt
formulas_signed v (d ∷ ds) = clauses_signed v d d.clauses (formula_members ds) (clause_signatures ds) (formulas_signed v ds)

-- ---- the clauses of one predicate
abbrev AreTyped : Vocabulary → List Tree → Type 0
AreTyped v bs = AllByRecursion (λ (b : Tree). IndicesFit b → IsTypedAs v [] None b) bs

none_bodied : (v : Vocabulary) (gs : List SignatureTree) → AreBodied v gs []
none_bodied v [] = tt
none_bodied v (g ∷ gs) = tt

clauses_typed : (v : Vocabulary) (d : InductivePredicate) (cs : List InductiveClause) (gs : List SignatureTree) (bs : List Tree) → AreBodied v (map (clause_signature d) cs ++ gs) bs → AreTyped v (take (length cs) bs) × AreBodied v gs (drop (length cs) bs)
clauses_typed v d [] gs bs h = (tt, h)
clauses_typed v d (c ∷ cs) gs [] h = (tt, none_bodied v gs)
clauses_typed v d (c ∷ cs) gs (b ∷ bs) h = let r = clauses_typed v d cs gs bs h.1 in (((λ i. (h.0 i).typed), r.0), r.1)

module _ (v : Vocabulary) (group : List ℕ) (k : ℕ) where
  abbrev vars : ℕ
  vars = (symbol_or v.symbols k).vars

  abbrev HasForm : OwnClause → Type 0
  HasForm c = ClauseHasForm v.symbols group c

  clauses_formed : (bs : List Tree) → AllByRecursion HasForm (own_clauses k bs) → AllByRecursion (ClauseIsPositive group) (own_clauses k bs) → All (IsClauseOf group k (cells (type_variables 0 vars))) bs
  clauses_formed [] f p = All-nil (IsClauseOf group k (cells (type_variables 0 vars)))
  clauses_formed (b ∷ bs) f p =
      All-cons (IsClauseOf group k (cells (type_variables 0 vars))) b bs (clause_of group (cells (type_variables 0 vars)) k vars b f.0 p.0) (clauses_formed bs f.1 p.1)

  clauses_closed : (bs : List Tree) → AreTyped v bs → AllByRecursion IndicesFit bs → AllByRecursion HasForm (own_clauses k bs) → All (IsFormulaOver v [] vars) bs
  clauses_closed [] t i f = All-nil (IsFormulaOver v [] vars)
  clauses_closed (b ∷ bs) t i f =
      let x = t.0 i.0 in
      All-cons (IsFormulaOver v [] vars) b bs (record { sort = x.sort; typed = x.typed; parameters = x.parameters; variables = of_below vars b f.0.variables }) (clauses_closed bs t.1 i.1 f.1)

-- ---- predicates
module _ (theory within : Word) (named : is_empty theory ≡ false) (base : Vocabulary) (all : List SymbolTree) (typed : IsTypedSignature base all) where
  abbrev v' : Vocabulary
  v' = with_entries base all

  -- their names, and those of their clauses
  clauses_scoped : (n : ℕ) (cs : List InductiveClause) (names : NamesTree) → AreTypedScopes v' names → AreTypedScopes v' (with_clauses n cs names)
  clauses_scoped n [] names x = x
  clauses_scoped n (c ∷ cs) names x = clauses_scoped n cs (with_name Propositions c.called.name (stands.Entry n) true names) (scopes_more (IsTypedThing v') names Propositions c.called.name (stands.Entry n) true tt x)

  predicates_scoped : (n : ℕ) (ds : List InductivePredicate) (gs : List SignatureTree) (k : ℕ) (names : NamesTree) → length gs ≡ length ds → EntriesAt base all k (signed_entries theory within (as_members ds) gs) → AreTypedScopes v' names
      → AreTypedScopes v' (with_inductives n k ds names)
  predicates_scoped n [] gs k names l h x = x
  predicates_scoped n (d ∷ ds) [] k names l h x = absurd (cc)
  predicates_scoped n (d ∷ ds) (g ∷ gs) k names l h x =
      let rest = signed_entries theory within (as_members ds) gs in
      let next : EntriesAt base all (suc k) rest = subst (λ (i : ℕ). EntriesAt base all i rest) (let q : k + 1 ≡ suc k = omega arith in q) h.1 in
      let own = with_name Symbols d.called.name (stands.Entry k) true names in
      predicates_scoped n ds gs (suc k) (with_clauses n d.clauses own) (omega (arith, l)) next
      (clauses_scoped n d.clauses own (scopes_more (IsTypedThing v') names Symbols d.called.name (stands.Entry k) true (number_of_member theory within named base all typed (as_member d) g k h.0) x))

  -- the predicates of a group, whose clauses pass the checks
  predicates_valid : (group : List ℕ) (ds : List InductivePredicate) (gs : List SignatureTree) (bs : List Tree) (k : ℕ) → length gs ≡ length ds → EntriesAt base all k (signed_entries theory within (as_members ds) gs) → AreBodied v' (clause_signatures ds) bs
      → All (λ (i : InductiveTree). All IndicesFit i.clauses) (induced k ds bs) → AllByRecursion (ClauseHasForm all group) (all_clauses (induced k ds bs)) → AllByRecursion (ClauseIsPositive group) (all_clauses (induced k ds bs))
      → All (IsInductive v' group) (induced k ds bs)
  predicates_valid group [] gs bs k l h t i f p = All-nil (IsInductive v' group)
  predicates_valid group (d ∷ ds) [] bs k l h t i f p = absurd (cc)
  predicates_valid group (d ∷ ds) (g ∷ gs) bs k l h t i f p =
      let n = length d.clauses in
      let own = take n bs in
      let more = drop n bs in
      let m = as_member d in
      let there = got all k (entry_of theory within named m g) h.0.at in
      let rest = signed_entries theory within (as_members ds) gs in
      let next : EntriesAt base all (suc k) rest = subst (λ (j : ℕ). EntriesAt base all j rest) (let q : k + 1 ≡ suc k = omega arith in q) h.1 in
      let typed' = clauses_typed v' d d.clauses (clause_signatures ds) bs t in
      let forms = split_all (ClauseHasForm all group) (own_clauses k own) (all_clauses (induced (suc k) ds more)) f in
      let places = split_all (ClauseIsPositive group) (own_clauses k own) (all_clauses (induced (suc k) ds more)) p in
      let one : InductiveTree = record { symbol = k; clauses = own } in
      let fit : All IndicesFit own = i 0 one (omega arith) in
      All-cons (IsInductive v' group) one (induced (suc k) ds more)
      (record {
        signature = signature_at theory within named base all typed m g k h.0;
        kind = ap (λ (e : SymbolTree). e.kind) there.1;
        forms = clauses_formed v' group k own forms.0 places.0;
        formulas = clauses_closed v' group k own typed'.0 (recursion_from_All IndicesFit own fit) forms.0;
      })
      (predicates_valid group ds gs more (suc k) (omega (arith, l)) next typed'.1 (λ j e z. i (suc j) e (omega arith)) forms.1 places.1)

count_members : (ds : List InductivePredicate) → length (as_members ds) ≡ length ds
count_members [] = refl
count_members (d ∷ ds) = ap suc (count_members ds)

-- ---- a group where it is
module _ (base : Vocabulary) (c : Setting) (h : IsTypedSetting base c) (ds : List InductivePredicate) (q : inductives_used c ds ≡ None) where
  abbrev all_seen : SeenTree
  all_seen = inductives_seen unseen ds

  abbrev ms : List GroupMember
  ms = as_members ds

  abbrev names' : NamesTree
  names' = with_inductives c.decl (length (inside base c h all_seen)) ds c.scope

  same_types : (qs : List Word) (x : Word) → type_named names' qs x ≡ type_named c.scope qs x
  same_types qs x = inductives_types c.decl (length (inside base c h all_seen)) ds c.scope qs x

  abbrev sees : AreSeen all_seen ms
  sees = predicates_seen all_seen ds unseen (λ n z. z)

  abbrev A : List SymbolTree
  A = whole base c h ms all_seen names' same_types

  right : members_fault (within_inductives c ds) ms ≡ None
  right = members_right (within_inductives c ds) ds q

  abbrev gs : List SignatureTree
  gs = signature_trees c (before_inductives c ds) ms

  count : length gs ≡ length ds
  count = count_signed (outer base c h ms all_seen names' same_types []) ms ∙ count_members ds

  module _ (news : NamesNew base (length c.symbols) A) where
    typed : IsTypedSignature base A
    typed = whole_typed base c h ms all_seen names' same_types news sees right

    here : EntriesAt base A (length (inside base c h all_seen)) (own_entries base c h ms all_seen names' same_types)
    here = entries_here base c h ms all_seen names' same_types news sees right

    scopes : AreTypedScopes (with_entries base A) names'
    scopes = predicates_scoped c.theory c.within h.theory base A typed c.decl ds gs (length (inside base c h all_seen)) c.scope count here (old_scopes base c h ms all_seen names' same_types news sees right)

    decls_valid : (ks : List InductivePredicate) (hs : List SignatureTree) (bs : List Tree) (k : ℕ) → length hs ≡ length ks → EntriesAt base A k (signed_entries c.theory c.within (as_members ks) hs) → AreBodied (with_entries base A) (clause_signatures ks) bs
        → DeclsFit (inductive_decls c.theory c.within ks k bs) → HaveNoFault A (inductive_decls c.theory c.within ks k bs) → All (IsValidDecl (with_entries base A)) (inductive_decls c.theory c.within ks k bs)
    decls_valid [] hs bs k l e t fits right' = All-nil (IsValidDecl (with_entries base A))
    decls_valid (d ∷ ks) hs bs k l e t fits right' =
        let it : DeclarationTree = record { theory = c.theory; name = c.within ++ d.called.name; vars = length (signature_variables d.params None); body = Induces (induced k (d ∷ ks) bs) } in
        let is = induced k (d ∷ ks) bs in
        let x : HasNoFault A (Induces is) = right' 0 it (omega arith) in
        let f : BodyFits (Induces is) = fits 0 it (omega arith) in
        All-cons (IsValidDecl (with_entries base A)) it []
        (predicates_valid c.theory c.within h.theory base A typed (group_of is) (d ∷ ks) hs bs k l e t f (recursion_from_All (ClauseHasForm A (group_of is)) (all_clauses is) x.form) (recursion_from_All (ClauseIsPositive (group_of is)) (all_clauses is) x.positive))
        (All-nil (IsValidDecl (with_entries base A)))

  module _ (o : Outcome) (it : IsInductiveGroup c ds o) (all_news : NamesNew base (length c.symbols) (c.symbols ++ o.symbols)) where
    split : c.symbols ++ o.symbols ≡ A
    split = ap (λ (es : List SymbolTree). c.symbols ++ es) it.symbols ∙ sym (append_assoc c.symbols (tuples_wanting c all_seen) (own_entries base c h ms all_seen names' same_types))

    news : NamesNew base (length c.symbols) A
    news = subst (λ (es : List SymbolTree). NamesNew base (length c.symbols) es) split all_news

    pub inductives_valid : DeclsFit o.decls → HaveNoFault (c.symbols ++ o.symbols) o.decls → IsValidOutcome base c o
    inductives_valid fits passes =
        let v = with_entries base A in
        let w = inner base c h ms all_seen names' same_types [] in
        let bodied : AreBodied v (clause_signatures ds) it.clauses =
        bodies_valid base A (typed news) names' (scopes news) all_seen (seen_tuples base c h ms all_seen names' same_types news sees right) (formula_members ds) (clause_signatures ds) it.clauses o.matches (formulas_defined ds) (formulas_signed v ds) (formulas_resolved w ds q)
        (formulas_seen all_seen ds unseen (λ n z. z)) it.solved in
        let scopes' : AreTypedScopes v o.scope = rw it.scope (scopes news) in
        let passes' : HaveNoFault A o.decls = subst (λ (es : List SymbolTree). HaveNoFault es o.decls) split passes in
        let decls : All (IsValidDecl v) o.decls = rw it.decls (decls_valid news ds gs it.clauses (length (inside base c h all_seen)) count (here news) bodied (rw it.decls at fits) (rw it.decls at passes')) in
        let z = split in
        record { signature = rw z (typed news); scopes = rw z scopes'; decls = rw z decls }

    -- the patterns of each match are well typed, and of one type
    pub inductives_patterns : All (λ (m : ℕ × List Tree). ArePatterns (with_entries base (c.symbols ++ o.symbols)) m.1) o.matches
    inductives_patterns =
        let v = with_entries base A in
        let w = inner base c h ms all_seen names' same_types [] in
        let z = split in
        rw z (bodies_patterns base A (typed news) names' (scopes news) all_seen (seen_tuples base c h ms all_seen names' same_types news sees right) (formula_members ds) (clause_signatures ds) it.clauses o.matches (formulas_signed v ds) (formulas_resolved w ds q)
        (formulas_seen all_seen ds unseen (λ n z. z)) it.solved)
