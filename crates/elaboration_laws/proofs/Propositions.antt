-- Axioms, lemmas and goals are valid.
use Rattle.std.proofs.Common.{◌≡◌, ℕ, ◌+◌, ◌<◌, ◌⊎◌, inl, inr, IsTrue, zero, suc, true, false, List, [], ◌∷◌, ◌++◌, map, length, get_or, slice_get, All, Some, None, refl, sym, ap, subst, ◌∙◌, arith, length-append, append_assoc}
use Rattle.std.proofs.lemmas.List.Elements.{All-nil, All-cons}
use Rattle.elab_groups.specs.trees.declared.Sort.TheVariants.{Kind}
use Rattle.elab_groups.specs.trees.Tree.{Tree, Leaf, One, Two, Three, Head, HTyVar, HTyRigid, HBound, HParam, binders_over}
use Rattle.elab_groups.specs.trees.Sorts.{sort_of}
use Rattle.elab_groups.specs.trees.Binding.{change, typing, inst_types, leaf_by, one_by, TyVar}
use Rattle.elab_groups.specs.trees.Facts.{IndicesFit, PutsSorts}
use Rattle.elab_groups.specs.trees.laws.Sorts.{sort_of-change}
use Rattle.elab_groups.specs.tasks.Rigid.{rigid_symbol}
use Rattle.elab_groups.specs.tasks.Task.{SymbolTree, DeclarationTree, Says}
use Rattle.elab_groups.specs.tasks.Vocabulary.{Vocabulary}
use Rattle.elab_groups.specs.tasks.Typing.{entry, IsRigid}
use Rattle.elab_groups.specs.tasks.Valid.{VariablesBelow, LeafBelow, ParametersOf, OneOf, IsTypeIn, HasTypes, IsFormulaOver, IsValidDecl}
use Rattle.elab_groups.proofs.tasks.TypeInstances.{typed_types}
use Rattle.elab_groups.specs.scopes.declared.Table.TheVariants.{Propositions}
use Rattle.elab_groups.specs.scopes.declared.Referent.TheVariants as stands
use Rattle.elab_groups.specs.surface.Lexeme.{Word}
use Rattle.elab_groups.specs.surface.declared.declarations.PropKind.{PropKind}
use Rattle.elab_groups.specs.surface.declared.declarations.PropKind.TheVariants as kind
use Rattle.elab_groups.specs.name_resolution.Abstract.{Expression}
use Rattle.elab_groups.specs.name_resolution.Faults.{fault}
use Rattle.elab_groups.proofs.name_resolution.variables.Closing.{closed}
use Rattle.elab_groups.specs.parts.Elaborated.{unseen}
use Rattle.elab_groups.specs.parts.Declarations.{TokenName, proposition_declaration}
use Rattle.elab_groups.specs.name_resolution.variables.Seen.{SeenTree}
use Rattle.elab_groups.specs.open_types.Patterns.{LocalTree}
use Rattle.elab_groups.specs.parts.Outcomes.{Setting, Outcome, around, tuples_wanting, full_name}
use Rattle.elab_groups.proofs.parts.Alike.{alike}
use Rattle.elab_declarations.specs.Outcomes.{proposition_seen, rigid_names, entry_numbers, rigid_types, said_as, schematic, IsProposition}
use Rattle.elaboration_laws.specs.Signature.{with_entries}
use Rattle.elaboration_laws.specs.Typed.{IsTypeOf, IsPatternOf, ArePatterns}
use Rattle.elaboration_laws.specs.Scopes.{IsSubvocabulary, NamesNew, IsTypedEntry, IsTypedSignature, IsTypedThing, AreTypedScopes}
use Rattle.elaboration_laws.proofs.Widths.{tuples_seen}
use Rattle.elaboration_laws.proofs.Solutions.{matches_typed, solved_formula}
use Rattle.elaboration_laws.proofs.Scopes.{scopes_more}
use Rattle.elaboration_laws.proofs.Extended.{entries_part, news_front, news_later, typed_more, signature_more, scopes_extended, BeginsPlain, records_later}
use Rattle.elaboration_laws.specs.Valid.{IsTypedSetting, IsTypedOutcome, IsValidOutcome, DeclsFit, MayNameRigid}
use Rattle.elaboration_laws.proofs.Settings.{inside, inside_typed, inside_scopes, world, formed, tuples, same_names}
use Rattle.elaboration_laws.proofs.Algebraics.{at_end}

-- ---- a formula at closed types
rigids_plain : (vs : List Word) → BeginsPlain (map rigid_symbol vs)
rigids_plain [] = tt
rigids_plain (x ∷ vs) = refl

module _ (tys : List Tree) where
  one_fits : (d : ℕ) (h : Head) (a b : Tree) → IndicesFit (one_by (typing tys) d h b) → (IndicesFit b → IndicesFit a) → IndicesFit (One h a)
  one_fits d (HBound i) a b x f = (x.0, f x.1)
  one_fits d (HParam n) a b x f = (tt, f x.1)
  one_fits d h a b x f = (x.0, f x.1)

  -- the indices of an instance are those of the formula
  fits_before : (d : ℕ) (e : Tree) → IndicesFit (change (typing tys) d e) → IndicesFit e
  fits_before d (Leaf h) x = tt
  fits_before d (One h a) x = one_fits d h a (change (typing tys) d a) x (λ y. fits_before d a y)
  fits_before d (Two h a b) x = (fits_before d a x.0, fits_before (d + binders_over h a) b x.1)
  fits_before d (Three h a b c) x = (fits_before d a x.0, fits_before d b x.1, fits_before d c x.2)

  module _ (none : (j : ℕ) → ParametersOf [] (get_or tys j (TyVar j))) where
    leaf_none : (h : Head) → ParametersOf [] (leaf_by (typing tys) h)
    leaf_none (HTyVar j) = none j
    leaf_none _ = tt

    one_none : (d : ℕ) (h : Head) (a b : Tree) → OneOf [] h a → ParametersOf [] b → ParametersOf [] (one_by (typing tys) d h b)
    one_none d (HBound i) a b x y = (tt, y)
    one_none d (HParam n) a b x y = absurd (cc)
    one_none d _ a b x y = (tt, y)

    none_after : (d : ℕ) (e : Tree) → ParametersOf [] e → ParametersOf [] (change (typing tys) d e)
    none_after d (Leaf h) x = leaf_none h
    none_after d (One h a) x = one_none d h a (change (typing tys) d a) x.0 (none_after d a x.1)
    none_after d (Two h a b) x = (none_after d a x.0, none_after (d + binders_over h a) b x.1)
    none_after d (Three h a b c) x = (none_after d a x.0, none_after d b x.1, none_after d c x.2)

  module _ (ground : (j : ℕ) → j < length tys → VariablesBelow 0 (get_or tys j (TyVar j))) where
    leaf_ground : (h : Head) → LeafBelow (length tys) h → VariablesBelow 0 (leaf_by (typing tys) h)
    leaf_ground (HTyVar j) l = ground j l
    leaf_ground _ l = tt

    one_ground : (d : ℕ) (h : Head) (b : Tree) → VariablesBelow 0 b → VariablesBelow 0 (one_by (typing tys) d h b)
    one_ground d (HBound i) b x = x
    one_ground d (HParam n) b x = x
    one_ground d _ b x = x

    ground_after : (d : ℕ) (e : Tree) → VariablesBelow (length tys) e → VariablesBelow 0 (change (typing tys) d e)
    ground_after d (Leaf h) l = leaf_ground h l
    ground_after d (One h a) l = one_ground d h (change (typing tys) d a) (ground_after d a l)
    ground_after d (Two h a b) l = (ground_after d a l.0, ground_after (d + binders_over h a) b l.1)
    ground_after d (Three h a b c) l = (ground_after d a l.0, ground_after d b l.1, ground_after d c l.2)

-- ---- entries of rigid type variables
pub rigid_typed : (v : Vocabulary) (name : Word) → IsTypedEntry v (rigid_symbol name)
rigid_typed v name = record { types = record { args = All-nil (IsTypeIn v 0); result = tt }; result = λ m. absurd m }

rigids_typed : (v : Vocabulary) (names : List Word) → All (IsTypedEntry v) (map rigid_symbol names)
rigids_typed v [] = All-nil (IsTypedEntry v)
rigids_typed v (x ∷ xs) = All-cons (IsTypedEntry v) (rigid_symbol x) (map rigid_symbol xs) (rigid_typed v x) (rigids_typed v xs)

-- each is a type of its own
rigid_in : (base : Vocabulary) (xs : List SymbolTree) (names : List Word) (k : ℕ) → k ≡ length xs → All (λ (i : ℕ). IsTrue (base.rigid i)) (entry_numbers k names) → All (IsTypeIn (with_entries base (xs ++ map rigid_symbol names)) 0) (rigid_types (entry_numbers k names))
rigid_in base xs [] k q may = All-nil (IsTypeIn (with_entries base (xs ++ [])) 0)
rigid_in base xs (x ∷ names) k q may =
    let e = rigid_symbol x in
    let all = xs ++ e ∷ map rigid_symbol names in
    let v = with_entries base all in
    let here : slice_get all k ≡ Some e = at_end xs (map rigid_symbol names) e k q in
    let is : IsRigid v k = (may 0 k (omega arith), rw here (refl, refl)) in
    let same : (xs ++ e ∷ []) ++ map rigid_symbol names ≡ all = append_assoc xs (e ∷ []) (map rigid_symbol names) in
    let rest = rigid_in base (xs ++ e ∷ []) names (k + 1) (omega (arith, q, length-append xs (e ∷ []))) (λ i d l. may (suc i) d (omega arith)) in
    All-cons (IsTypeIn v 0) (Leaf (HTyRigid k)) (rigid_types (entry_numbers (k + 1) names)) (record { sort = refl; typed = (tt, is); variables = tt })
    (subst (λ (es : List SymbolTree). All (IsTypeIn (with_entries base es) 0) (rigid_types (entry_numbers (k + 1) names))) same rest)

pub count_rigid : (k : ℕ) (names : List Word) → length (rigid_types (entry_numbers k names)) ≡ length names
count_rigid k [] = refl
count_rigid k (x ∷ names) = ap suc (count_rigid (k + 1) names)

rigid_or : (P : Tree → Type 0) → ((k : ℕ) → P (Leaf (HTyRigid k))) → (ks : List ℕ) (j : ℕ) (d : Tree) → P d → P (get_or (rigid_types ks) j d)
rigid_or P f [] j d p = p
rigid_or P f (k ∷ ks) zero d p = f k
rigid_or P f (k ∷ ks) (suc j) d p = rigid_or P f ks j d p

rigid_at : (P : Tree → Type 0) → ((k : ℕ) → P (Leaf (HTyRigid k))) → (ks : List ℕ) (j : ℕ) (d : Tree) → j < length (rigid_types ks) → P (get_or (rigid_types ks) j d)
rigid_at P f [] j d l = absurd (omega arith)
rigid_at P f (k ∷ ks) zero d l = f k
rigid_at P f (k ∷ ks) (suc j) d l = rigid_at P f ks j d (omega arith)

-- ---- over a typed signature
module _ (base : Vocabulary) (symbols : List SymbolTree) (sig : IsTypedSignature base symbols) where
  sound : (k : ℕ) (e : SymbolTree) → IsTrue (base.usable k) ⊎ IsTrue (base.matched k) → entry (with_entries base symbols) k ≡ Some e → HasTypes (with_entries base symbols) e
  sound k e (inl u) q = (sig.entries k e q u).types
  sound k e (inr m) q = (sig.entries k e q (sig.patterns k e q m)).types

  pub rigid_formula : (ks : List ℕ) (n : ℕ) (e : Tree) → All (IsTypeIn (with_entries base symbols) 0) (rigid_types ks) → length (rigid_types ks) ≡ n → IsFormulaOver (with_entries base symbols) [] n e
      → IsFormulaOver (with_entries base symbols) [] 0 (inst_types e (rigid_types ks))
  rigid_formula ks n e good q f =
      let tys = rigid_types ks in
      let puts : PutsSorts (typing tys) = record { bound = λ _ _ _. refl; param = λ _ _ _. refl; ty_var = λ j. rigid_or (λ (t : Tree). sort_of t ≡ Kind) (λ k. refl) ks j (TyVar j) refl } in
      record {
        sort = sort_of-change (typing tys) puts 0 e ∙ f.sort;
        typed = typed_types (with_entries base symbols) tys good (λ k x u z m. sound k x u z) [] e f.typed;
        parameters = none_after tys (λ j. rigid_or (ParametersOf []) (λ k. tt) ks j (TyVar j) tt) 0 e f.parameters;
        variables = ground_after tys (λ j l. rigid_at (VariablesBelow 0) (λ k. tt) ks j (TyVar j) l) 0 e (subst (λ (m : ℕ). VariablesBelow m e) (sym q) f.variables);
      }

patterns_more : (v w : Vocabulary) → IsSubvocabulary v w → (es : List Tree) → ArePatterns v es → ArePatterns w es
patterns_more v w part es x = record {
  type = x.type;
  over = record { sort = x.over.sort; typed = typed_more v w part [] x.type x.over.typed };
  patterns = λ k d l. let p : IsPatternOf v x.type (get_or es k d) = x.patterns k d l in record { typed = typed_more v w part [] (get_or es k d) p.typed; sort = p.sort; type = p.type; parameters = p.parameters };
}

pub formula_more : (v w : Vocabulary) → IsSubvocabulary v w → (n : ℕ) (e : Tree) → IsFormulaOver v [] n e → IsFormulaOver w [] n e
formula_more v w part n e f = record { sort = f.sort; typed = typed_more v w part [] e f.typed; parameters = f.parameters; variables = f.variables }

-- ---- what is said
said_fits : (k : PropKind) (ks : List ℕ) (e : Tree) → IndicesFit (said_as k ks e) → IndicesFit e
said_fits kind.Axiom ks e x = x
said_fits kind.Lemma ks e x = x
said_fits kind.Goal ks e x = fits_before (rigid_types ks) 0 e x

module _ (base : Vocabulary) (xs : List SymbolTree) where
  abbrev GoalMay : PropKind → List ℕ → Type 0
  GoalMay kind.Goal ks = All (λ (i : ℕ). IsTrue (base.rigid i)) ks
  GoalMay _ ks = Unit {0}

  said_formula : (k : PropKind) (vs : List Word) (e : Tree) → IsTypedSignature base (xs ++ map rigid_symbol (rigid_names k vs)) → GoalMay k (entry_numbers (length xs) (rigid_names k vs)) → IsFormulaOver (with_entries base xs) [] (length vs) e
      → IsFormulaOver (with_entries base (xs ++ map rigid_symbol (rigid_names k vs))) [] (schematic k vs) (said_as k (entry_numbers (length xs) (rigid_names k vs)) e)
  said_formula kind.Axiom vs e sig may f = formula_more (with_entries base xs) (with_entries base (xs ++ [])) (entries_part base xs []) (length vs) e f
  said_formula kind.Lemma vs e sig may f = formula_more (with_entries base xs) (with_entries base (xs ++ map rigid_symbol vs)) (entries_part base xs (map rigid_symbol vs)) (length vs) e f
  said_formula kind.Goal vs e sig may f =
      let ys = map rigid_symbol vs in
      rigid_formula base (xs ++ ys) sig (entry_numbers (length xs) vs) (length vs) e (rigid_in base xs vs (length xs) refl may) (count_rigid (length xs) vs)
      (formula_more (with_entries base xs) (with_entries base (xs ++ ys)) (entries_part base xs ys) (length vs) e f)

module _ (base : Vocabulary) (c : Setting) (h : IsTypedSetting base c) where
  module _ (k : PropKind) (x : TokenName) (e : Expression) (o : Outcome) (q : fault (around c []) true [] true e ≡ None) (p : IsProposition c k x e o) (all_news : NamesNew base (length c.symbols) (c.symbols ++ o.symbols)) where
    abbrev seen' : SeenTree
    seen' = proposition_seen e

    abbrev vs : List Word
    vs = seen'.vars

    abbrev xs : List SymbolTree
    xs = inside base c h seen'

    abbrev ys : List SymbolTree
    ys = map rigid_symbol (rigid_names k vs)

    split : c.symbols ++ o.symbols ≡ xs ++ ys
    split = ap (λ (es : List SymbolTree). c.symbols ++ es) p.symbols ∙ sym (append_assoc c.symbols (tuples_wanting c seen') ys)

    whole_news : NamesNew base (length c.symbols) (xs ++ ys)
    whole_news = subst (λ (es : List SymbolTree). NamesNew base (length c.symbols) es) split all_news

    news : NamesNew base (length c.symbols) xs
    news = news_front base (length c.symbols) xs ys whole_news

    last : NamesNew base (length xs) (xs ++ ys)
    last = news_later base (length c.symbols) (length xs) (xs ++ ys) (omega (arith, length-append c.symbols (tuples_wanting c seen'))) whole_news

    sig : IsTypedSignature base (xs ++ ys)
    sig = signature_more base xs ys (inside_typed base c h seen' news) (rigids_typed (with_entries base (xs ++ ys)) (rigid_names k vs)) last (records_later base xs ys (rigids_plain (rigid_names k vs)) last)

    named : fault (world base c h seen' vs) false [] true e ≡ None
    named = sym (alike (around c vs) (world base c h seen' vs) (same_names base c h seen' vs) e false [] true) ∙ closed (around c []) vs e unseen [] true q (λ u z. z)

    pub proposition_typed : IsTypedOutcome base c o
    proposition_typed =
        let v = with_entries base (xs ++ ys) in
        let scopes : AreTypedScopes v o.scope = rw p.scope (scopes_more (IsTypedThing v) c.scope Propositions x.name (stands.Entry c.decl) true tt (scopes_extended base xs ys c.scope (inside_scopes base c h seen'))) in
        let z = split in
        record { signature = rw z sig; scopes = rw z scopes }

    pub proposition_valid : DeclsFit o.decls → MayNameRigid base (proposition_declaration k x e) o.rigid → IsValidOutcome base c o
    proposition_valid fits may =
        let w = world base c h seen' vs in
        let good = formed base c h seen' news vs in
        let d : DeclarationTree = record { theory = c.theory; name = full_name c x; vars = schematic k vs; body = Says (said_as k o.rigid p.formula) } in
        let all : DeclsFit (d ∷ []) = rw p.decls at fits in
        let said : IndicesFit (said_as k o.rigid p.formula) = all 0 d (omega arith) in
        let f : IsFormulaOver (with_entries base xs) [] (length vs) p.formula =
        solved_formula base w good (length vs) (length vs) e p.formula o.matches (record { signature = good; tuples = tuples_seen base w e unseen (tuples base c h seen' news vs); named = named }) p.solved (said_fits k o.rigid p.formula said) in
        let v = with_entries base (xs ++ ys) in
        let may' : GoalMay base xs k (entry_numbers (length xs) (rigid_names k vs)) = goal_may k o.rigid (entry_numbers (length xs) (rigid_names k vs)) p.rigid may in
        let formula : IsFormulaOver v [] (schematic k vs) (said_as k o.rigid p.formula) = rw p.rigid (said_formula base xs k vs p.formula sig may' f) in
        let decls : All (IsValidDecl v) o.decls = rw p.decls (All-cons (IsValidDecl v) d [] formula (All-nil (IsValidDecl v))) in
        let z = split in
        record { signature = proposition_typed.signature; scopes = proposition_typed.scopes; decls = rw z decls }
      where
        goal_may : (j : PropKind) (ks ns : List ℕ) → ks ≡ ns → MayNameRigid base (proposition_declaration j x e) ks → GoalMay base xs j ns
        goal_may kind.Goal ks ns z m = rw (sym z) m
        goal_may kind.Axiom ks ns z m = tt
        goal_may kind.Lemma ks ns z m = tt

    -- the patterns of each match are well typed, and of one type
    pub proposition_patterns : All (λ (m : ℕ × List Tree). ArePatterns (with_entries base (c.symbols ++ o.symbols)) m.1) o.matches
    proposition_patterns =
        let w = world base c h seen' vs in
        let good = formed base c h seen' news vs in
        let n = length vs in
        let over' = matches_typed base w good n [] n None e p.formula o.matches (record { signature = good; tuples = tuples_seen base w e unseen (tuples base c h seen' news vs); named = named }) (record { variables = All-nil (λ (l : LocalTree). IsTypeOf (with_entries base xs) l.type); wanted = tt }) p.solved in
        let z = split in
        rw z (λ k d l. patterns_more (with_entries base xs) (with_entries base (xs ++ ys)) (entries_part base xs ys) (get_or o.matches k d).1 (over' k d l))
