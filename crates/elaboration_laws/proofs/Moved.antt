-- A declaration that is valid over a vocabulary is valid over another one with the same entries, which may name all of it.
use Rattle.std.proofs.Common.{◌≡◌, ℕ, ◌<◌, suc, List, [], ◌∷◌, ◌++◌, map, length, get_or, slice_get, All, Option, Some, None, IfSome, IsSomeAnd, sym, ap, subst, ◌∙◌, arith}
use Rattle.elab_groups.specs.trees.Tree.{Tree, Leaf, One, Two, Three, Head, HTyRigid, HTyApp, HPred, HFun, HPatCon}
use Rattle.elab_groups.specs.tasks.Task.{SymbolTree, symbol_or, DefinitionTree, InductiveTree, ConstructorTree, AlgebraicTree, BodyTree, MakesType, Makes, Defines, Induces, Constructs, Says, DeclarationTree}
use Rattle.elab_groups.specs.tasks.Equations.{cells, type_variables, IsEquationOf}
use Rattle.elab_groups.specs.tasks.Clauses.{IsClauseOf}
use Rattle.elab_groups.specs.tasks.Vocabulary.{Vocabulary}
use Rattle.elab_groups.specs.tasks.Typing.{LeafTyped, OneTyped, TwoTyped, ThreeTyped, TypedUnder, bound_types}
use Rattle.elab_groups.specs.tasks.Valid.{IsTypeIn, HasTypes, IsFormulaOver, IsTypeEntry, IsSignatureOf, IsDefinition, IsInductive, IsProjectionOf, AreProjections, IsConstructorOf, IsAlgebraic, IsValidBody, IsValidDecl}
use Rattle.elaboration_laws.specs.Named.{LeafNames, OneNames, TwoNames, ThreeNames, TreeNames, NumberNames, DefinitionNames, InductiveNames, ConNames, AlgebraicNames, BodyNames, DeclNames}

module _ (v w : Vocabulary) (same : v.symbols ≡ w.symbols) where
  entry_moved : (k : ℕ) (P : SymbolTree → Type 0) → IsSomeAnd (slice_get v.symbols k) P → IsSomeAnd (slice_get w.symbols k) P
  entry_moved k P x = subst (λ (z : List SymbolTree). IsSomeAnd (slice_get z k) P) same x

  leaf_moved : (g : Head) → LeafNames w g → LeafTyped v g → LeafTyped w g
  leaf_moved (HTyRigid k) n x = (n, entry_moved k _ x.1)
  leaf_moved _ n x = x

  one_moved : (types : List Tree) (g : Head) (a : Tree) → OneNames w g → OneTyped v types g a → OneTyped w types g a
  one_moved types (HTyApp k) a n x = (n, entry_moved k _ x.1)
  one_moved types _ a n x = x

  two_moved : (g : Head) (a b : Tree) → TwoNames w g → TwoTyped v g a b → TwoTyped w g a b
  two_moved (HPred p) a b n x = (n, entry_moved p _ x.1)
  two_moved _ a b n x = x

  three_moved : (g : Head) (a b c : Tree) → ThreeNames w g → ThreeTyped v g a b c → ThreeTyped w g a b c
  three_moved (HFun f) a b c n x = (n, entry_moved f _ x.1)
  three_moved (HPatCon k) a b c n x = (n, entry_moved k _ x.1)
  three_moved _ a b c n x = x

  pub typed_moved : (types : List Tree) (e : Tree) → TreeNames w e → TypedUnder v types e → TypedUnder w types e
  typed_moved types (Leaf g) n x = (x.0, leaf_moved g n x.1)
  typed_moved types (One g a) n x = (x.0, one_moved types g a n.0 x.1, typed_moved types a n.1 x.2)
  typed_moved types (Two g a b) n x = (x.0, two_moved g a b n.0 x.1, typed_moved types a n.1 x.2, typed_moved (bound_types g a ++ types) b n.2 x.3)
  typed_moved types (Three g a b c) n x = (x.0, three_moved g a b c n.0 x.1, typed_moved types a n.1 x.2, typed_moved types b n.2 x.3, typed_moved types c n.3 x.4)

  type_moved : (n : ℕ) (t : Tree) → TreeNames w t → IsTypeIn v n t → IsTypeIn w n t
  type_moved n t m x = record { sort = x.sort; typed = typed_moved [] t m x.typed; variables = x.variables }

  result_moved : (n : ℕ) (r : Option Tree) → IfSome r (TreeNames w) → IfSome r (IsTypeIn v n) → IfSome r (IsTypeIn w n)
  result_moved n None m x = tt
  result_moved n (Some t) m x = type_moved n t m x

  pub formula_moved : (params : List Tree) (n : ℕ) (e : Tree) → TreeNames w e → IsFormulaOver v params n e → IsFormulaOver w params n e
  formula_moved params n e m f = record { sort = f.sort; typed = typed_moved [] e m f.typed; parameters = f.parameters; variables = f.variables }

  abbrev Names' : ℕ → Type 0
  Names' k = NumberNames w v.symbols k

  symbol_same : (k : ℕ) → symbol_or w.symbols k ≡ symbol_or v.symbols k
  symbol_same k = ap (λ (es : List SymbolTree). symbol_or es k) (sym same)

  there : (k : ℕ) → k < length v.symbols → k < length w.symbols
  there k l = subst (λ (es : List SymbolTree). k < length es) same l

  types_moved : (k : ℕ) → Names' k → HasTypes v (symbol_or v.symbols k) → HasTypes w (symbol_or w.symbols k)
  types_moved k n h =
      let e = symbol_or v.symbols k in
      subst (HasTypes w) (sym (symbol_same k)) (record { args = λ i d l. type_moved e.vars (get_or e.args i d) (n.args i d l) (h.args i d l); result = result_moved e.vars e.result n.result h.result })

  type_entry_moved : (k : ℕ) → Names' k → IsTypeEntry v k → IsTypeEntry w k
  type_entry_moved k n h = record { entry = there k h.entry; kind = ap (λ (e : SymbolTree). e.kind) (symbol_same k) ∙ h.kind; types = types_moved k n h.types }

  signature_moved : (k : ℕ) → Names' k → IsSignatureOf v k → IsSignatureOf w k
  signature_moved k n h = record { entry = there k h.entry; kind = λ q. h.kind (sym (ap (λ (e : SymbolTree). e.kind) (symbol_same k)) ∙ q); types = types_moved k n h.types }

  vars_same : (k : ℕ) → (symbol_or v.symbols k).vars ≡ (symbol_or w.symbols k).vars
  vars_same k = sym (ap (λ (e : SymbolTree). e.vars) (symbol_same k))

  definition_moved : (d : DefinitionTree) → DefinitionNames w v.symbols d → IsDefinition v d → IsDefinition w d
  definition_moved d n h = record {
    signature = signature_moved d.symbol n.signature h.signature;
    form = subst (λ (e : SymbolTree). IsEquationOf d.symbol e d.equation) (sym (symbol_same d.symbol)) h.form;
    formula = subst (λ (m : ℕ). IsFormulaOver w [] m d.equation) (vars_same d.symbol) (formula_moved [] (symbol_or v.symbols d.symbol).vars d.equation n.equation h.formula);
  }

  inductive_moved : (group : List ℕ) (i : InductiveTree) → InductiveNames w v.symbols i → IsInductive v group i → IsInductive w group i
  inductive_moved group i n h = record {
    signature = signature_moved i.symbol n.signature h.signature;
    kind = ap (λ (e : SymbolTree). e.kind) (symbol_same i.symbol) ∙ h.kind;
    forms = subst (λ (m : ℕ). All (IsClauseOf group i.symbol (cells (type_variables 0 m))) i.clauses) (vars_same i.symbol) h.forms;
    formulas = λ k d l. subst (λ (m : ℕ). IsFormulaOver w [] m (get_or i.clauses k d)) (vars_same i.symbol) (formula_moved [] (symbol_or v.symbols i.symbol).vars (get_or i.clauses k d) (n.clauses k d l) (h.formulas k d l));
  }

  projection_moved : (type vars : ℕ) (f : Tree) (k : ℕ) → Names' k → IsProjectionOf v type vars f k → IsProjectionOf w type vars f k
  projection_moved type vars f k n h =
      let q = symbol_same k in
      record {
        signature = signature_moved k n h.signature;
        kind = ap (λ (e : SymbolTree). e.kind) q ∙ h.kind;
        vars_are = ap (λ (e : SymbolTree). e.vars) q ∙ h.vars_are;
        args = ap (λ (e : SymbolTree). e.args) q ∙ h.args;
        result = ap (λ (e : SymbolTree). e.result) q ∙ h.result;
      }

  projections_moved : (type vars : ℕ) (fs : List Tree) (ks : List ℕ) → All Names' ks → AreProjections v type vars fs ks → AreProjections w type vars fs ks
  projections_moved type vars [] [] n h = tt
  projections_moved type vars [] (k ∷ ks) n h = absurd h
  projections_moved type vars (f ∷ fs) [] n h = absurd h
  projections_moved type vars (f ∷ fs) (k ∷ ks) n h = (projection_moved type vars f k (n 0 k (omega arith)) h.0, projections_moved type vars fs ks (λ i d l. n (suc i) d (omega arith)) h.1)

  constructor_moved : (type vars : ℕ) (c : ConstructorTree) → ConNames w v.symbols c → IsConstructorOf v type vars c → IsConstructorOf w type vars c
  constructor_moved type vars c n h =
      let q = symbol_same c.symbol in
      record {
        signature = signature_moved c.symbol n.signature h.signature;
        kind = ap (λ (e : SymbolTree). e.kind) q ∙ h.kind;
        vars_are = ap (λ (e : SymbolTree). e.vars) q ∙ h.vars_are;
        args = ap (λ (e : SymbolTree). e.args) q ∙ h.args;
        result = ap (λ (e : SymbolTree). e.result) q ∙ h.result;
        projections = projections_moved type vars c.fields c.projections n.projections h.projections;
      }

  algebraic_moved : (a : AlgebraicTree) → AlgebraicNames w v.symbols a → IsAlgebraic v a → IsAlgebraic w a
  algebraic_moved a n h = record {
    entry = type_entry_moved a.symbol n.signature h.entry;
    cons = λ k d l. subst (λ (m : ℕ). IsConstructorOf w a.symbol m (get_or a.cons k d)) (vars_same a.symbol) (constructor_moved a.symbol (symbol_or v.symbols a.symbol).vars (get_or a.cons k d) (n.cons k d l) (h.cons k d l));
  }

  body_moved : (n : ℕ) (b : BodyTree) → BodyNames w v.symbols b → IsValidBody v n b → IsValidBody w n b
  body_moved n (MakesType k) m h = type_entry_moved k m h
  body_moved n (Makes k) m h = signature_moved k m h
  body_moved n (Defines ds) m h = λ k d l. definition_moved (get_or ds k d) (m k d l) (h k d l)
  body_moved n (Induces is) m h = λ k d l. inductive_moved (map (λ (i : InductiveTree). i.symbol) is) (get_or is k d) (m k d l) (h k d l)
  body_moved n (Constructs ts) m h = λ k d l. algebraic_moved (get_or ts k d) (m k d l) (h k d l)
  body_moved n (Says a) m h = formula_moved [] n a m h

  pub declaration_moves : (d : DeclarationTree) → DeclNames w v.symbols d → IsValidDecl v d → IsValidDecl w d
  declaration_moves d n h = body_moved d.vars d.body n h
