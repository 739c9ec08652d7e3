-- What a declaration makes is an entry, and has types of the vocabulary.
use Rattle.std.proofs.Common.{◌≡◌, ℕ, suc, inl, inr, List, [], ◌∷◌, ◌++◌, ◌<◌, map, length, get_or, All, Contains, subst, sym, arith}
use Rattle.std.proofs.lemmas.List.Elements.{Contains-append_cases, All-contains_itself}
use Rattle.trees.specs.Tree.{Tree}
use Rattle.tasks.specs.Task.{SymbolTree, DefinitionTree, InductiveTree, ConstructorTree, AlgebraicTree, BodyTree, MakesType, Makes, Defines, Induces, Constructs, Says, DeclarationTree, made, made_by, made_by_cons, made_by_types, symbol_or}
use Rattle.tasks.specs.Vocabulary.{Vocabulary}
use Rattle.tasks.specs.Valid.{HasTypes, IsTypeEntry, IsSignatureOf, IsDefinition, IsInductive, IsConstructorOf, AreProjections, IsAlgebraic, IsValidBody, IsValidDecl}
use Rattle.tasks.proofs.Declared.{contains_cases, none_in}

-- an entry whose types are types of the vocabulary
pub record IsEntry (v : Vocabulary) (k : ℕ) : Type 0 where
  pub entry : k < length v.symbols
  pub types : HasTypes v (symbol_or v.symbols k)

of_type : (v : Vocabulary) (k : ℕ) → IsTypeEntry v k → IsEntry v k
of_type v k h = record { entry = h.entry; types = h.types }

of_symbol : (v : Vocabulary) (k : ℕ) → IsSignatureOf v k → IsEntry v k
of_symbol v k h = record { entry = h.entry; types = h.types }

module _ (v : Vocabulary) (k : ℕ) where
  abbrev Has : ℕ → Type 0
  Has j = IsEntry v j

  one_made : (j : ℕ) (ks : List ℕ) → Has j → (Contains ks k → Has k) → Contains (j ∷ ks) k → Has k
  one_made j ks h more c = elim (contains_cases j k ks c) [ inl e ↦ subst Has (sym e) h | inr i ↦ more i ]

  joined : (xs ys : List ℕ) → (Contains xs k → Has k) → (Contains ys k → Has k) → Contains (xs ++ ys) k → Has k
  joined xs ys f g c = elim (Contains-append_cases xs ys k c) [ inl i ↦ f i | inr i ↦ g i ]

  nothing : Contains {X = ℕ} [] k → Has k
  nothing c = absurd (none_in k c)

  defined_types : (ds : List DefinitionTree) → All (IsDefinition v) ds → Contains (map (λ (d : DefinitionTree). d.symbol) ds) k → Has k
  defined_types [] a c = nothing c
  defined_types (d ∷ ds) a c = one_made d.symbol _ (of_symbol v d.symbol (a 0 d (omega arith)).signature) (defined_types ds (λ j e l. a (suc j) e (omega arith))) c

  inductive_types : (group : List ℕ) (is : List InductiveTree) → All (IsInductive v group) is → Contains (map (λ (i : InductiveTree). i.symbol) is) k → Has k
  inductive_types group [] a c = nothing c
  inductive_types group (i ∷ is) a c = one_made i.symbol _ (of_symbol v i.symbol (a 0 i (omega arith)).signature) (inductive_types group is (λ j e l. a (suc j) e (omega arith))) c

  projection_types : (type vars : ℕ) (fs : List Tree) (ks : List ℕ) → AreProjections v type vars fs ks → Contains ks k → Has k
  projection_types type vars [] [] a c = nothing c
  projection_types type vars (f ∷ fs) (j ∷ ks) a c = one_made j ks (of_symbol v j a.0.signature) (projection_types type vars fs ks a.1) c
  projection_types type vars [] (j ∷ ks) a c = absurd a
  projection_types type vars (f ∷ fs) [] a c = absurd a

  con_types : (type vars : ℕ) (cs : List ConstructorTree) → All (IsConstructorOf v type vars) cs → Contains (made_by_cons cs) k → Has k
  con_types type vars [] a c = nothing c
  con_types type vars (x ∷ cs) a c =
      let here : IsConstructorOf v type vars x = a 0 x (omega arith) in
      joined (x.symbol ∷ x.projections) (made_by_cons cs) (one_made x.symbol x.projections (of_symbol v x.symbol here.signature) (projection_types type vars x.fields x.projections here.projections)) (con_types type vars cs (λ j e l. a (suc j) e (omega arith))) c

  algebraic_types : (ts : List AlgebraicTree) → All (IsAlgebraic v) ts → Contains (made_by_types ts) k → Has k
  algebraic_types [] a c = nothing c
  algebraic_types (x ∷ ts) a c =
      let here : IsAlgebraic v x = a 0 x (omega arith) in
      joined (x.symbol ∷ made_by_cons x.cons) (made_by_types ts) (one_made x.symbol (made_by_cons x.cons) (of_type v x.symbol here.entry) (con_types x.symbol _ x.cons here.cons)) (algebraic_types ts (λ j e l. a (suc j) e (omega arith))) c

  body_types : (n : ℕ) (b : BodyTree) → IsValidBody v n b → Contains (made_by b) k → Has k
  body_types n (MakesType j) a c = one_made j [] (of_type v j a) nothing c
  body_types n (Makes j) a c = one_made j [] (of_symbol v j a) nothing c
  body_types n (Defines ds) a c = defined_types ds a c
  body_types n (Induces is) a c = inductive_types _ is a c
  body_types n (Constructs ts) a c = algebraic_types ts a c
  body_types n (Says e) a c = nothing c

  pub made_entry : (ds : List DeclarationTree) → All (IsValidDecl v) ds → Contains (made ds) k → Has k
  made_entry [] a c = nothing c
  made_entry (d ∷ ds) a c =
      let here : IsValidDecl v d = a 0 d (omega arith) in
      joined (made_by d.body) (made ds) (body_types d.vars d.body here) (made_entry ds (λ j e l. a (suc j) e (omega arith))) c

-- each symbol that is made is an entry
entries_of : (v : Vocabulary) (ks : List ℕ) → ((k : ℕ) → Contains ks k → IsEntry v k) → All (λ k. k < length v.symbols) ks
entries_of v ks f i d l = (f (get_or ks i d) (All-contains_itself ks i d l)).entry

pub made_entries : (v : Vocabulary) (ds : List DeclarationTree) → All (IsValidDecl v) ds → All (λ k. k < length v.symbols) (made ds)
made_entries v ds a = entries_of v (made ds) (λ k c. made_entry v k ds a c)
