-- The names that a group of inductive predicates makes, told predicate by predicate.
use Rattle.std.proofs.Common.{◌≡◌, ℕ, Bool, true, false, List, [], ◌∷◌, ◌++◌, get_or, set, zero, suc, Option, Some, None, refl, sym, ap, subst, ◌∙◌, append_assoc, append-nil}
use Rattle.std.specs.Prelude.{◌||◌, ◌&&◌}
use Rattle.std.specs.Option.{is_some}
use Rattle.std.specs.Str.{bytes_eq}
use Rattle.name_resolution.specs.scopes.declared.Table.{Table}
use Rattle.name_resolution.specs.scopes.declared.Table.TheVariants.{Symbols, Propositions}
use Rattle.name_resolution.specs.scopes.Names.{TypeName, ScopeNames, ScopeEntry, is_named, is_declared, innermost, with_name}
use Rattle.name_resolution.specs.scopes.declared.Referent.TheVariants as stands
use Rattle.surface.specs.Lexeme.{Word}
use Rattle.name_resolution.specs.declared.NamingFault.{NamingFault}
use Rattle.name_resolution.specs.declared.NamingFault.TheVariants.{Duplicate}
use Rattle.name_resolution.specs.Faults.{first_of, fault_if}
use Rattle.name_resolution.specs.Where.{place_of}
use Rattle.elab_groups.specs.parts.Declarations.{InductiveClause, InductivePredicate, Made, makes, binds_names, names_of_parameters, list_fault, made_before, made_by_clauses, made_by_inductives, made_fault}
use Rattle.elab_groups.specs.parts.Outcomes.{declared_in}
use Rattle.elab_groups.proofs.members.NamesMade.{Same, more_same, among_first, among_last}
use Rattle.elab_declarations.specs.inductive_declarations.Inductives.{with_clauses, clause_names, clauses_made, inductives_made}
use Rattle.std.proofs.lemmas.Bool.{or_right as or_true}
use Rattle.name_resolution.proofs.Told.{three as first_assoc}

abbrev among : List Word → Word → Bool
among ws x = is_some (place_of x ws)

-- one more name after others, on both sides
more_last : (declared d : Word → Bool) (b : Word → Bool) (ws : List Word) (y : Word) → Same declared d b (among ws) → Same declared d (λ x. bytes_eq y x || b x) (among (ws ++ y ∷ []))
more_last declared d b ws y h = λ x. more_same (declared x) (b x) (d x) (among ws x) (bytes_eq y x) (h x) ∙ ap (λ (a : Bool). d x || a) (sym (among_last x y ws))

-- ---- the clauses of a predicate
abbrev past : List InductiveClause → List Made → List Made
past [] before = before
past (c ∷ cs) before = past cs (makes Propositions c.called ∷ before)

past_symbols : (x : Word) (cs : List InductiveClause) (before : List Made) → made_before Symbols x (past cs before) ≡ made_before Symbols x before
past_symbols x [] before = refl
past_symbols x (c ∷ cs) before = past_symbols x cs (makes Propositions c.called ∷ before)

module _ (declared : Table → Word → Bool) (d : Word → Bool) where
  clauses_told : (before : List Made) (named : List Word) → Same (declared Propositions) d (λ x. made_before Propositions x before) (among named) → (cs : List InductiveClause) (rest : List Made)
      → made_fault declared before (made_by_clauses cs ++ rest) ≡ first_of (clauses_made d named cs) (made_fault declared (past cs before) rest)
  clauses_told before named h [] rest = refl
  clauses_told before named h (c ∷ cs) rest =
      let n = c.called in
      let more = makes Propositions n ∷ before in
      let one : fault_if (declared Propositions n.name || made_before Propositions n.name before) (Duplicate n.at) ≡ fault_if (d n.name || among named n.name) (Duplicate n.at) = ap (λ (b : Bool). fault_if b (Duplicate n.at)) (h n.name) in
      let tail = clauses_told more (named ++ n.name ∷ []) (more_last (declared Propositions) d (λ x. made_before Propositions x before) named n.name h) cs rest in
      let own = fault_if (d n.name || among named n.name) (Duplicate n.at) in
      ap (λ (a : Option NamingFault). first_of a (made_fault declared more (made_by_clauses cs ++ rest))) one
      ∙ (ap (first_of own) tail ∙ sym (first_assoc own (clauses_made d (named ++ n.name ∷ []) cs) (made_fault declared (past cs more) rest)))

  past_same : (before : List Made) (named : List Word) → Same (declared Propositions) d (λ x. made_before Propositions x before) (among named) → (cs : List InductiveClause)
      → Same (declared Propositions) d (λ x. made_before Propositions x (past cs before)) (among (named ++ clause_names cs))
  past_same before named h [] = λ x. h x ∙ ap (λ (ws : List Word). d x || among ws x) (sym (append-nil named))
  past_same before named h (c ∷ cs) =
      λ x. past_same (makes Propositions c.called ∷ before) (named ++ c.called.name ∷ []) (more_last (declared Propositions) d (λ y. made_before Propositions y before) named c.called.name h) cs x
      ∙ ap (λ (ws : List Word). d x || among ws x) (append_assoc named (c.called.name ∷ []) (clause_names cs))

-- ---- predicate by predicate
regroup : (a b c r : Option NamingFault) → first_of a (first_of b (first_of c r)) ≡ first_of (first_of (first_of a b) c) r
regroup None None c r = refl
regroup None (Some f) c r = refl
regroup (Some f) b c r = refl

told_by : (declared : Table → Word → Bool) (d p : Word → Bool) (before : List Made) (ws named : List Word)
    → Same (declared Symbols) d (λ x. made_before Symbols x before) (among ws) → Same (declared Propositions) p (λ x. made_before Propositions x before) (among named)
    → (is : List InductivePredicate) → made_fault declared before (made_by_inductives is) ≡ inductives_made d p ws named is
told_by declared d p before ws named h k [] = refl
told_by declared d p before ws named h k (i ∷ is) =
    let c = i.called in
    let list = list_fault [] (names_of_parameters i.params) in
    let own = fault_if (d c.name || among ws c.name) (Duplicate c.at) in
    let before1 = binds_names (names_of_parameters i.params) ∷ makes Symbols c ∷ before in
    let before2 = past i.clauses before1 in
    let one : fault_if (declared Symbols c.name || made_before Symbols c.name before) (Duplicate c.at) ≡ own = ap (λ (b : Bool). fault_if b (Duplicate c.at)) (h c.name) in
    let clauses = clauses_told declared p before1 named k i.clauses (made_by_inductives is) in
    let symbols : Same (declared Symbols) d (λ x. made_before Symbols x before2) (among (ws ++ c.name ∷ [])) =
    λ x. ap (λ (b : Bool). declared Symbols x || b) (past_symbols x i.clauses before1) ∙ more_last (declared Symbols) d (λ y. made_before Symbols y before) ws c.name h x in
    let rest = told_by declared d p before2 (ws ++ c.name ∷ []) (named ++ clause_names i.clauses) symbols (past_same declared p before1 named k i.clauses) is in
    let others = inductives_made d p (ws ++ c.name ∷ []) (named ++ clause_names i.clauses) is in
    ap (λ (a : Option NamingFault). first_of a (first_of list (made_fault declared before1 (made_by_clauses i.clauses ++ made_by_inductives is)))) one
    ∙ (ap (λ (r : Option NamingFault). first_of own (first_of list r)) (clauses ∙ ap (first_of (clauses_made p named i.clauses)) rest) ∙ regroup own list (clauses_made p named i.clauses) others)

pub inductives_told : (names : ScopeNames) (is : List InductivePredicate) → made_fault (declared_in names) [] (made_by_inductives is) ≡ inductives_made (declared_in names Symbols) (declared_in names Propositions) [] [] is
inductives_told names is = told_by (declared_in names) (declared_in names Symbols) (declared_in names Propositions) [] [] [] (λ x. refl) (λ x. refl) is

-- ---- names that are declared meanwhile
same_last : (d d' : Word → Bool) (ws : List Word) (y : Word) → Same d d' (among ws) (among ws) → Same d d' (among (ws ++ y ∷ [])) (among (ws ++ y ∷ []))
same_last d d' ws y h =
    λ x. ap (λ (b : Bool). d x || b) (among_last x y ws) ∙ (more_same (d x) (among ws x) (d' x) (among ws x) (bytes_eq y x) (h x) ∙ ap (λ (b : Bool). d' x || b) (sym (among_last x y ws)))

same_names : (d d' : Word → Bool) (ws : List Word) (cs : List InductiveClause) → Same d d' (among ws) (among ws) → Same d d' (among (ws ++ clause_names cs)) (among (ws ++ clause_names cs))
same_names d d' ws [] h = λ x. ap (λ (us : List Word). d x || among us x) (append-nil ws) ∙ (h x ∙ ap (λ (us : List Word). d' x || among us x) (sym (append-nil ws)))
same_names d d' ws (c ∷ cs) h =
    let e = append_assoc ws (c.called.name ∷ []) (clause_names cs) in
    λ x. ap (λ (us : List Word). d x || among us x) (sym e) ∙ (same_names d d' (ws ++ c.called.name ∷ []) cs (same_last d d' ws c.called.name h) x ∙ ap (λ (us : List Word). d' x || among us x) e)

same_clauses : (d d' : Word → Bool) (ws : List Word) → Same d d' (among ws) (among ws) → (cs : List InductiveClause) → clauses_made d ws cs ≡ clauses_made d' ws cs
same_clauses d d' ws h [] = refl
same_clauses d d' ws h (c ∷ cs) =
    let n = c.called in
    ap (λ (b : Bool). first_of (fault_if b (Duplicate n.at)) (clauses_made d (ws ++ n.name ∷ []) cs)) (h n.name)
    ∙ ap (first_of (fault_if (d' n.name || among ws n.name) (Duplicate n.at))) (same_clauses d d' (ws ++ n.name ∷ []) (same_last d d' ws n.name h) cs)

same_inductives : (d d' p p' : Word → Bool) (ws named : List Word) → Same d d' (among ws) (among ws) → Same p p' (among named) (among named) → (is : List InductivePredicate)
    → inductives_made d p ws named is ≡ inductives_made d' p' ws named is
same_inductives d d' p p' ws named h k [] = refl
same_inductives d d' p p' ws named h k (i ∷ is) =
    let c = i.called in
    let list = list_fault [] (names_of_parameters i.params) in
    let rest = inductives_made d p (ws ++ c.name ∷ []) (named ++ clause_names i.clauses) is in
    ap (λ (b : Bool). first_of (first_of (first_of (fault_if b (Duplicate c.at)) list) (clauses_made p named i.clauses)) rest) (h c.name)
    ∙ (ap (λ (a : Option NamingFault). first_of (first_of (first_of (fault_if (d' c.name || among ws c.name) (Duplicate c.at)) list) a) rest) (same_clauses p p' named k i.clauses)
    ∙ ap (first_of (first_of (first_of (fault_if (d' c.name || among ws c.name) (Duplicate c.at)) list) (clauses_made p' named i.clauses)))
    (same_inductives d d' p p' (ws ++ c.name ∷ []) (named ++ clause_names i.clauses) (same_last d d' ws c.name h) (same_names p p' named i.clauses k) is))

-- ---- the scope has the entries that it had, or one more
counted : (b d w : Bool) → (b ≡ true → w ≡ true) → ((b || d) || w) ≡ (d || w)
counted true d w f = sym (or_true d w (f refl))
counted false d w f = refl

module _ (t : Table) (e : ScopeEntry) (x : Word) (w : Bool) (f : (is_named t x e && e.declared) ≡ true → w ≡ true) where
  one_more : (ess : List (List ScopeEntry)) (k : ℕ) → (is_declared t x (get_or (set ess k (e ∷ get_or ess k [])) k []) || w) ≡ (is_declared t x (get_or ess k []) || w)
  one_more [] k = refl
  one_more (es ∷ ess) zero = counted (is_named t x e && e.declared) (is_declared t x es) w f
  one_more (es ∷ ess) (suc k) = one_more ess k

named_true : (b : Bool) → (b && true) ≡ true → b ≡ true
named_true true h = refl
named_true false h = h

lies : (w : Bool) → false ≡ true → w ≡ true
lies w h = absurd (cc)

among_at : (x y : Word) (us ws : List Word) → bytes_eq y x ≡ true → among (us ++ y ∷ ws) x ≡ true
among_at x y [] ws h = among_first x y ws ∙ ap (λ (b : Bool). b || among ws x) h
among_at x y (u ∷ us) ws h = among_first x u (us ++ y ∷ ws) ∙ or_true (bytes_eq u x) (among (us ++ y ∷ ws) x) (among_at x y us ws h)

-- an entry of the symbols, and one of the propositions
abbrev symbol_entry : Word → TypeName → ScopeEntry
symbol_entry y thing = record { table = Symbols; name = y; thing = thing; declared = true }

abbrev proposition_entry : Word → TypeName → ScopeEntry
proposition_entry y thing = record { table = Propositions; name = y; thing = thing; declared = true }

clauses_symbols : (n : ℕ) (cs : List InductiveClause) (names : ScopeNames) (x : Word) (w : Bool) → (declared_in (with_clauses n cs names) Symbols x || w) ≡ (declared_in names Symbols x || w)
clauses_symbols n [] names x w = refl
clauses_symbols n (c ∷ cs) names x w =
    clauses_symbols n cs (with_name Propositions c.called.name (stands.Entry n) true names) x w ∙ one_more Symbols (proposition_entry c.called.name (stands.Entry n)) x w (lies w) names.entries (innermost names)

clauses_counted : (n : ℕ) (cs : List InductiveClause) (names : ScopeNames) (named : List Word) (x : Word)
    → (declared_in (with_clauses n cs names) Propositions x || among (named ++ clause_names cs) x) ≡ (declared_in names Propositions x || among (named ++ clause_names cs) x)
clauses_counted n [] names named x = refl
clauses_counted n (c ∷ cs) names named x =
    let y = c.called.name in
    let more = with_name Propositions y (stands.Entry n) true names in
    let all = named ++ y ∷ clause_names cs in
    let rest : (declared_in (with_clauses n cs more) Propositions x || among all x) ≡ (declared_in more Propositions x || among all x) =
    subst (λ (ws : List Word). (declared_in (with_clauses n cs more) Propositions x || among ws x) ≡ (declared_in more Propositions x || among ws x)) (append_assoc named (y ∷ []) (clause_names cs)) (clauses_counted n cs more (named ++ y ∷ []) x) in
    rest ∙ one_more Propositions (proposition_entry y (stands.Entry n)) x (among all x) (λ h. among_at x y named (clause_names cs) (named_true (bytes_eq y x) h)) names.entries (innermost names)

module _ (names : ScopeNames) (n : ℕ) where
  -- a clause's name is declared, and is among those before the others
  pub clauses_next : (y : Word) (named : List Word) (cs : List InductiveClause)
      → clauses_made (declared_in (with_name Propositions y (stands.Entry n) true names) Propositions) (named ++ y ∷ []) cs ≡ clauses_made (declared_in names Propositions) (named ++ y ∷ []) cs
  clauses_next y named cs =
      same_clauses (declared_in (with_name Propositions y (stands.Entry n) true names) Propositions) (declared_in names Propositions) (named ++ y ∷ [])
      (λ x. one_more Propositions (proposition_entry y (stands.Entry n)) x (among (named ++ y ∷ []) x) (λ h. among_at x y named [] (named_true (bytes_eq y x) h)) names.entries (innermost names)) cs

  module _ (k : ℕ) (i : InductivePredicate) where
    abbrev own : ScopeNames
    own = with_name Symbols i.called.name (stands.Entry k) true names

    symbol_past : (w : Bool) (x : Word) → (declared_in own Propositions x || w) ≡ (declared_in names Propositions x || w)
    symbol_past w x = one_more Propositions (symbol_entry i.called.name (stands.Entry k)) x w (lies w) names.entries (innermost names)

    -- a predicate's name is declared before those of its clauses
    pub clauses_after : (named : List Word) (cs : List InductiveClause) → clauses_made (declared_in own Propositions) named cs ≡ clauses_made (declared_in names Propositions) named cs
    clauses_after named cs = same_clauses (declared_in own Propositions) (declared_in names Propositions) named (λ x. symbol_past (among named x) x) cs

    -- a predicate's names are declared, and are among those before the others
    pub inductives_next : (ws named : List Word) (is : List InductivePredicate)
        → inductives_made (declared_in (with_clauses n i.clauses own) Symbols) (declared_in (with_clauses n i.clauses own) Propositions) (ws ++ i.called.name ∷ []) (named ++ clause_names i.clauses) is
        ≡ inductives_made (declared_in names Symbols) (declared_in names Propositions) (ws ++ i.called.name ∷ []) (named ++ clause_names i.clauses) is
    inductives_next ws named is =
        let y = i.called.name in
        let after = with_clauses n i.clauses own in
        same_inductives (declared_in after Symbols) (declared_in names Symbols) (declared_in after Propositions) (declared_in names Propositions) (ws ++ y ∷ []) (named ++ clause_names i.clauses)
        (λ x. clauses_symbols n i.clauses own x (among (ws ++ y ∷ []) x)
        ∙ one_more Symbols (symbol_entry y (stands.Entry k)) x (among (ws ++ y ∷ []) x) (λ h. among_at x y ws [] (named_true (bytes_eq y x) h)) names.entries (innermost names))
        (λ x. clauses_counted n i.clauses own named x ∙ symbol_past (among (named ++ clause_names i.clauses) x) x) is
