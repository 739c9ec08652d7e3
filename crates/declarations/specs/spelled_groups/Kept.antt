-- A rule that spells groups out keeps what is made, and what it puts in the place of a group says
-- what is listed of it.
use Rattle.std.specs.Prelude.{◌≡◌, Bool, true, false, ◌==◌, if◌then◌else◌, ℕ, suc, List, [], ◌∷◌, ◌++◌, map, All, Contains, Option, Some, None, refl}
use Rattle.std.proofs.Common.{inl, inr, sym, subst, ap, ◌∙◌, arith}
use Rattle.std.proofs.lemmas.List.Elements.{All-cons, All-nil, All-append}
use Rattle.plain_laws.proofs.Lists.{All-right}
use Rattle.trees.specs.Tree.{Tree}
use Rattle.tasks.specs.Task.{SymbolTree, DefinitionTree, InductiveTree, BodyTree, MakesType, Makes, Defines, Induces, Constructs, Says, DeclarationTree, PropositionTree, made, made_by, props_of}
use Rattle.tasks.specs.Roles.{RoleTree, PlainRole, DefinedRole, InductiveRole, maker, role_by, role_in, is_made_by, is_constructor, defined_as, inductive_as}
use Rattle.tasks.specs.Facts.{FactTree, body_facts}
use Rattle.tasks.specs.Vocabulary.{Vocabulary}
use Rattle.tasks.specs.Valid.{IsDefinition, IsInductive, IsSignatureOf, IsValidBody, IsValidDecl}
use Rattle.declarations.specs.Rewritten.{AreUsable, IsAsBefore, KeepsMade, KeepsConstructors, KeepsValid}
use Rattle.declarations.specs.Said.{content, AreSaid, AreOwnFacts}
use Rattle.declarations.specs.lemmas.Rewritten.{alone_made, alone_role}
use Rattle.declarations.specs.lemmas.Said.{own_props, own_facts}
use Rattle.declarations.specs.spelled_groups.Spelled.{GroupFacts, as_symbol, as_proposition, in_place, spelling_rule, said_of, spelling_said, IsSpellable, IsSayable, SaysSmall, PatternsAreUsable, IsSpelling, SaysFacts}

made_propositions : (d : DeclarationTree) (fs : List FactTree)
    → made (map (as_proposition d) fs) ≡ []
made_propositions d [] = refl
made_propositions d (f ∷ fs) = made_propositions d fs

made_symbols : (symbols : List SymbolTree) (d : DeclarationTree) (ks : List ℕ) (fs : List FactTree)
    → made (map (as_symbol symbols d) ks ++ map (as_proposition d) fs) ≡ ks
made_symbols symbols d [] fs = made_propositions d fs
made_symbols symbols d (k ∷ ks) fs = ap (λ (z : List ℕ). k ∷ z) (made_symbols symbols d ks fs)

-- a symbol that is spelled out is nothing more than a symbol
no_maker : (d : DeclarationTree) (k : ℕ) (fs : List FactTree)
    → maker (map (as_proposition d) fs) k ≡ None
no_maker d k [] = refl
no_maker d k (f ∷ fs) = no_maker d k fs

plain_if : (symbols : List SymbolTree) (d : DeclarationTree) (k j : ℕ) (b : Bool)
    (o : Option DeclarationTree) → role_by k o ≡ PlainRole
    → role_by k (if b then Some (as_symbol symbols d j) else o) ≡ PlainRole
plain_if symbols d k j true o e = refl
plain_if symbols d k j false o e = e

plain_symbols : (symbols : List SymbolTree) (d : DeclarationTree) (k : ℕ) (ks : List ℕ)
    (fs : List FactTree) → role_by k
    (maker (map (as_symbol symbols d) ks ++ map (as_proposition d) fs) k) ≡ PlainRole
plain_symbols symbols d k [] fs = ap (role_by k) (no_maker d k fs)
plain_symbols symbols d k (j ∷ ks) fs =
    plain_if symbols d k j _ (maker (map (as_symbol symbols d) ks ++ map (as_proposition d) fs) k)
    (plain_symbols symbols d k ks fs)

-- a definition or an inductive predicate is no constructor
defined_if : (b : Bool) (d : DefinitionTree) (r : RoleTree) → is_constructor r ≡ false
    → is_constructor (if b then DefinedRole d.equation else r) ≡ false
defined_if true d r e = refl
defined_if false d r e = e

defined_no_constructor : (k : ℕ) (ds : List DefinitionTree)
    → is_constructor (defined_as k ds) ≡ false
defined_no_constructor k [] = refl
defined_no_constructor k (d ∷ ds) =
    defined_if (d.symbol == k) d (defined_as k ds) (defined_no_constructor k ds)

inductive_if : (b : Bool) (i : InductiveTree) (r : RoleTree) → is_constructor r ≡ false
    → is_constructor (if b then InductiveRole i.clauses else r) ≡ false
inductive_if true i r e = refl
inductive_if false i r e = e

inductive_no_constructor : (k : ℕ) (is : List InductiveTree)
    → is_constructor (inductive_as k is) ≡ false
inductive_no_constructor k [] = refl
inductive_no_constructor k (i ∷ is) =
    inductive_if (i.symbol == k) i (inductive_as k is) (inductive_no_constructor k is)

pub no_constructor : (k : ℕ) (b : BodyTree) → IsSpellable b → is_constructor (role_in k b) ≡ false
no_constructor k (Defines ds) h = defined_no_constructor k ds
no_constructor k (Induces is) h = inductive_no_constructor k is
no_constructor k (MakesType j) h = absurd h
no_constructor k (Makes j) h = absurd h
no_constructor k (Constructs ts) h = absurd h
no_constructor k (Says a) h = absurd h

-- ---- validity
module _ (v : Vocabulary) where
  definition_signatures : (ds : List DefinitionTree) → All (IsDefinition v) ds
      → All (IsSignatureOf v) (map (λ (d : DefinitionTree). d.symbol) ds)
  definition_signatures [] a = All-nil (IsSignatureOf v)
  definition_signatures (d ∷ ds) a =
      All-cons (IsSignatureOf v) d.symbol (map (λ (x : DefinitionTree). x.symbol) ds)
      (a 0 d (omega arith)).signature
      (definition_signatures ds (λ k e l. a (suc k) e (omega arith)))

  inductive_signatures : (group : List ℕ) (is : List InductiveTree) → All (IsInductive v group) is
      → All (IsSignatureOf v) (map (λ (i : InductiveTree). i.symbol) is)
  inductive_signatures group [] a = All-nil (IsSignatureOf v)
  inductive_signatures group (i ∷ is) a =
      All-cons (IsSignatureOf v) i.symbol (map (λ (x : InductiveTree). x.symbol) is)
      (a 0 i (omega arith)).signature
      (inductive_signatures group is (λ k e l. a (suc k) e (omega arith)))

  signatures : (vars : ℕ) (b : BodyTree) → IsSpellable b → IsValidBody v vars b
      → All (IsSignatureOf v) (made_by b)
  signatures vars (Defines ds) h a = definition_signatures ds a
  signatures vars (Induces is) h a = inductive_signatures _ is a
  signatures vars (MakesType j) h a = absurd h
  signatures vars (Makes j) h a = absurd h
  signatures vars (Constructs ts) h a = absurd h
  signatures vars (Says e) h a = absurd h

  module _ (d : DeclarationTree) where
    symbols_valid : (ks : List ℕ) → All (IsSignatureOf v) ks
        → All (IsValidDecl v) (map (as_symbol v.symbols d) ks)
    symbols_valid [] a = All-nil (IsValidDecl v)
    symbols_valid (k ∷ ks) a =
        All-cons (IsValidDecl v) (as_symbol v.symbols d k) (map (as_symbol v.symbols d) ks)
        (a 0 k (omega arith)) (symbols_valid ks (λ j e l. a (suc j) e (omega arith)))

    propositions_valid : (fs : List FactTree) → All (IsSayable v) fs
        → All (IsValidDecl v) (map (as_proposition d) fs)
    propositions_valid [] a = All-nil (IsValidDecl v)
    propositions_valid (f ∷ fs) a =
        All-cons (IsValidDecl v) (as_proposition d f) (map (as_proposition d) fs)
        (a 0 f (omega arith)) (propositions_valid fs (λ j e l. a (suc j) e (omega arith)))

-- ---- the rule
module _ (Small : Tree → Type 0) (f : GroupFacts) (h : IsSpelling Small f) where
  made_place : (symbols : List SymbolTree) (d : DeclarationTree) (o : Option (List FactTree))
      → made (in_place symbols d o) ≡ made_by d.body
  made_place symbols d None = alone_made d
  made_place symbols d (Some fs) = made_symbols symbols d (made_by d.body) fs

  roles_place : (symbols : List SymbolTree) (d : DeclarationTree) (k : ℕ)
      (o : Option (List FactTree)) → is_made_by k d.body ≡ true
      → IsAsBefore (role_by k (maker (in_place symbols d o) k)) (role_in k d.body)
  roles_place symbols d k None e = inr (alone_role k d e)
  roles_place symbols d k (Some fs) e = inl (plain_symbols symbols d k (made_by d.body) fs)

  constructors_place : (symbols : List SymbolTree) (d : DeclarationTree) (k : ℕ)
      (o : Option (List FactTree)) → f symbols d.body ≡ o → is_made_by k d.body ≡ true
      → is_constructor (role_by k (maker (in_place symbols d o) k))
      ≡ is_constructor (role_in k d.body)
  constructors_place symbols d k None q e = ap is_constructor (alone_role k d e)
  constructors_place symbols d k (Some fs) q e =
      ap is_constructor (plain_symbols symbols d k (made_by d.body) fs)
      ∙ sym (no_constructor k d.body (h.only symbols d.body fs q))

  small_said : (d : DeclarationTree) (fs : List FactTree)
      → All (λ (x : DeclarationTree). SaysSmall Small x.body) (map (as_proposition d) fs)
      → All (λ (x : FactTree). Small x.formula) fs
  small_said d [] n = All-nil (λ (x : FactTree). Small x.formula)
  small_said d (x ∷ fs) n = All-cons (λ (y : FactTree). Small y.formula) x fs
      (n 0 (as_proposition d x) (omega arith))
      (small_said d fs (λ k e l. n (suc k) e (omega arith)))

  valid_place : (v : Vocabulary) (d : DeclarationTree) (o : Option (List FactTree))
      → f v.symbols d.body ≡ o → PatternsAreUsable v → AreUsable v (made_by d.body)
      → All (λ (x : DeclarationTree). SaysSmall Small x.body) (in_place v.symbols d o)
      → IsValidDecl v d → All (IsValidDecl v) (in_place v.symbols d o)
  valid_place v d None q p u n a = All-cons (IsValidDecl v) d [] a (All-nil (IsValidDecl v))
  valid_place v d (Some fs) q p u n a =
      All-append (IsValidDecl v) (map (as_symbol v.symbols d) (made_by d.body))
      (map (as_proposition d) fs)
      (symbols_valid v d (made_by d.body)
      (signatures v d.vars d.body (h.only v.symbols d.body fs q) a))
      (propositions_valid v d fs
      (h.valid v d.vars d.body fs p u a q
      (small_said d fs (All-right (λ (x : DeclarationTree). SaysSmall Small x.body)
      (map (as_symbol v.symbols d) (made_by d.body)) (map (as_proposition d) fs) n))))

  pub spelling_keeps : KeepsMade (spelling_rule f)
  spelling_keeps = record {
    made = λ symbols d. made_place symbols d (f symbols d.body);
    roles = λ symbols d k e. roles_place symbols d k (f symbols d.body) e;
  }

  pub spelling_constructors : KeepsConstructors (spelling_rule f)
  spelling_constructors = λ symbols d k e. constructors_place symbols d k (f symbols d.body) refl e

  pub spelling_valid : (v : Vocabulary) → PatternsAreUsable v
      → KeepsValid (λ (x : DeclarationTree). SaysSmall Small x.body) (spelling_rule f) v v
  spelling_valid v p = λ d u n a. valid_place v d (f v.symbols d.body) refl p u n a

-- ---- what the propositions say
props_said : (d : DeclarationTree) (fs : List FactTree)
    → props_of (map (as_proposition d) fs) ≡ map content fs
props_said d [] = refl
props_said d (x ∷ fs) = ap (λ (z : List PropositionTree). content x ∷ z) (props_said d fs)

props_spelled : (symbols : List SymbolTree) (d : DeclarationTree) (ks : List ℕ) (fs : List FactTree)
    → props_of (map (as_symbol symbols d) ks ++ map (as_proposition d) fs) ≡ map content fs
props_spelled symbols d [] fs = props_said d fs
props_spelled symbols d (k ∷ ks) fs = props_spelled symbols d ks fs

props_place : (symbols : List SymbolTree) (n : ℕ) (d : DeclarationTree) (o : Option (List FactTree))
    → props_of (in_place symbols d o) ≡ map content (said_of n d o)
props_place symbols n d None = own_props n d
props_place symbols n d (Some fs) = props_spelled symbols d (made_by d.body) fs

pub spelling_props : (f : GroupFacts) → AreSaid (spelling_rule f) (spelling_said f)
spelling_props f symbols n d = props_place symbols n d (f symbols d.body)

facts_place : (symbols : List SymbolTree) (n : ℕ) (d : DeclarationTree) (o : Option (List FactTree))
    → ((fs : List FactTree) → o ≡ Some fs → fs ≡ body_facts symbols n d.vars d.body)
    → (x : FactTree) → Contains (said_of n d o) x → Contains (body_facts symbols n d.vars d.body) x
facts_place symbols n d None e x c = own_facts symbols n d x c
facts_place symbols n d (Some fs) e x c = subst (λ (z : List FactTree). Contains z x) (e fs refl) c

pub spelling_facts : (f : GroupFacts) → SaysFacts f → AreOwnFacts (spelling_said f)
spelling_facts f exact symbols n d x c =
    facts_place symbols n d (f symbols d.body) (λ fs e. exact symbols n d.vars d.body fs e) x c
