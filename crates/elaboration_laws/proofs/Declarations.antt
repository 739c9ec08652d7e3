-- Declarations under a map of symbols are valid over what the map's symbols may name.
use Rattle.std.proofs.Common.{◌≡◌, ℕ, ◌<◌, zero, suc, List, [], ◌∷◌, ◌++◌, map, length, get_or, slice_get, All, Contains, Option, Some, None, option_map, refl, sym, ap, subst, ◌∙◌, arith}
use Rattle.std.proofs.lemmas.List.Elements.{All-map, All-nil, All-cons, All-head, All-tail}
use Rattle.elab_groups.specs.trees.Tree.{Tree, One, HTyApp}
use Rattle.elab_groups.specs.tasks.Task.{SymbolTree, symbol_or, DefinitionTree, InductiveTree, ConstructorTree, AlgebraicTree, BodyTree, MakesType, Makes, Defines, Induces, Constructs, Says, DeclarationTree, made_by, made_by_cons, made_by_types}
use Rattle.elab_groups.specs.tasks.Equations.{cells, type_variables}
use Rattle.elab_groups.specs.tasks.Clauses.{IsClauseOf}
use Rattle.elab_groups.specs.tasks.Vocabulary.{Vocabulary}
use Rattle.elab_groups.specs.tasks.Typing.{entry}
use Rattle.elab_groups.specs.tasks.Valid.{IsFormulaOver, IsTypeEntry, IsSignatureOf, IsDefinition, IsInductive, own_type, IsProjectionOf, AreProjections, IsConstructorOf, IsAlgebraic, IsValidBody, IsValidDecl}
use Rattle.clones.specs.Mapped.{Map, mapped, type_mapped}
use Rattle.clones.specs.Copies.{definition_mapped, inductive_mapped, con_mapped, algebraic_mapped, body_mapped, declaration_copied}
use Rattle.elaboration_laws.specs.Morphisms.{IsMorphism, AreTyped, IsCopied}
use Rattle.elaboration_laws.proofs.CopiedTypes.{types_copied}
use Rattle.elaboration_laws.proofs.Trees.{formula_mapped}
use Rattle.elaboration_laws.proofs.CopiedForms.{own_mapped, equation_mapped, clause_mapped}

-- ---- lists
module _ {X : Type 0} (P : X → Type 0) where
  front : (xs ys : List X) → All P (xs ++ ys) → All P xs
  front [] ys h = All-nil P
  front (x ∷ xs) ys h = All-cons P x xs (All-head P x (xs ++ ys) h) (front xs ys (All-tail P x (xs ++ ys) h))

  back : (xs ys : List X) → All P (xs ++ ys) → All P ys
  back [] ys h = h
  back (x ∷ xs) ys h = back xs ys (All-tail P x (xs ++ ys) h)

  pub unmap : {Y : Type 0} (f : Y → X) (ys : List Y) → All P (map f ys) → All (λ (y : Y). P (f y)) ys
  unmap {Y} f [] h = All-nil (λ (y : Y). P (f y))
  unmap {Y} f (y ∷ ys) h = All-cons (λ (z : Y). P (f z)) y ys (All-head P (f y) (map f ys) h) (unmap f ys (All-tail P (f y) (map f ys) h))

pub below : (es : List SymbolTree) (k : ℕ) (e : SymbolTree) → slice_get es k ≡ Some e → k < length es
below [] k e q = absurd (cc)
below (x ∷ xs) zero e q = omega arith
below (x ∷ xs) (suc k) e q = let l = below xs k e q in omega arith

module _ (v w : Vocabulary) (m : Map) (morphism : IsMorphism v w m) (sound : AreTyped v) where
  abbrev old : ℕ → SymbolTree
  old k = symbol_or v.symbols k

  abbrev new : ℕ → SymbolTree
  new k = symbol_or w.symbols (m.symbols k)

  -- ---- entries
  type_copied : (k : ℕ) → IsCopied v w m k → IsTypeEntry v k → IsTypeEntry w (m.symbols k)
  type_copied k c h = record { entry = c.there; kind = c.kind ∙ h.kind; types = types_copied v w m morphism.types (old k) (new k) c.types h.types }

  signature_copied : (k : ℕ) → IsCopied v w m k → IsSignatureOf v k → IsSignatureOf w (m.symbols k)
  signature_copied k c h = record { entry = c.there; kind = λ q. h.kind (sym c.kind ∙ q); types = types_copied v w m morphism.types (old k) (new k) c.types h.types }

  -- ---- definitions
  definition_copied : (d : DefinitionTree) → IsCopied v w m d.symbol → IsDefinition v d → IsDefinition w (definition_mapped m d)
  definition_copied d c h = record {
    signature = signature_copied d.symbol c h.signature;
    form = equation_mapped m d.symbol (old d.symbol) (new d.symbol) d.equation c.kind c.types h.form;
    formula = subst (λ (n : ℕ). IsFormulaOver w [] n (mapped m d.equation)) (sym c.types.vars) (formula_mapped v w m morphism sound (old d.symbol).vars d.equation h.formula);
  }

  -- ---- inductive predicates
  among : (p : ℕ) → p < length v.symbols → (group : List ℕ) → All (IsCopied v w m) group → (k : ℕ) → k < length (map m.symbols group) → get_or (map m.symbols group) k (m.symbols p) ≡ m.symbols p → Contains group p
  among p b [] h k l q = absurd (omega arith)
  among p b (x ∷ group) h zero l q = let c : IsCopied v w m x = h 0 x (omega arith) in (0, omega arith, sym (c.alone p b (sym q)))
  among p b (x ∷ group) h (suc k) l q = let r = among p b group (All-tail (IsCopied v w m) x group h) k (omega (arith, l)) q in (suc r.0, omega (arith, r.1), r.2)

  module _ (group : List ℕ) (copied : All (IsCopied v w m) group) where
    alone : (p : ℕ) (e : SymbolTree) → entry v p ≡ Some e → Contains (map m.symbols group) (m.symbols p) → Contains group p
    alone p e q c = among p (below v.symbols p e q) group copied c.0 c.1 c.2

    inductive_copied : (i : InductiveTree) → IsCopied v w m i.symbol → IsInductive v group i → IsInductive w (map m.symbols group) (inductive_mapped m i)
    inductive_copied i c h =
        let n = (old i.symbol).vars in
        let own : mapped m (cells (type_variables 0 n)) ≡ cells (type_variables 0 (new i.symbol).vars) = own_mapped m 0 n ∙ ap (λ (k : ℕ). cells (type_variables 0 k)) (sym c.types.vars) in
        record {
          signature = signature_copied i.symbol c h.signature;
          kind = c.kind ∙ h.kind;
          forms = All-map (IsClauseOf (map m.symbols group) (m.symbols i.symbol) (cells (type_variables 0 (new i.symbol).vars))) (mapped m) i.clauses
              (λ k d l. subst (λ (t : Tree). IsClauseOf (map m.symbols group) (m.symbols i.symbol) t (mapped m (get_or i.clauses k d))) own
              (clause_mapped v w m morphism group alone (cells (type_variables 0 n)) [] i.symbol (get_or i.clauses k d) (h.formulas k d l).typed (h.forms k d l)));
          formulas = All-map (IsFormulaOver w [] (new i.symbol).vars) (mapped m) i.clauses
              (λ k d l. subst (λ (j : ℕ). IsFormulaOver w [] j (mapped m (get_or i.clauses k d))) (sym c.types.vars) (formula_mapped v w m morphism sound n (get_or i.clauses k d) (h.formulas k d l)));
        }

  group_mapped : (is : List InductiveTree) → map m.symbols (map (λ (i : InductiveTree). i.symbol) is) ≡ map (λ (i : InductiveTree). i.symbol) (map (inductive_mapped m) is)
  group_mapped [] = refl
  group_mapped (i ∷ is) = ap (λ l. m.symbols i.symbol ∷ l) (group_mapped is)

  -- ---- algebraic types
  own_copied : (k n : ℕ) → m.types k ≡ None → mapped m (own_type k n) ≡ own_type (m.symbols k) n
  own_copied k n q = ap (λ (o : Option Tree). type_mapped o (m.symbols k) (mapped m (cells (type_variables 0 n)))) q ∙ ap (One (HTyApp (m.symbols k))) (own_mapped m 0 n)

  module _ (type n : ℕ) (kept : m.types type ≡ None) where
    projection_copied : (f : Tree) (k : ℕ) → IsCopied v w m k → IsProjectionOf v type n f k → IsProjectionOf w (m.symbols type) n (mapped m f) (m.symbols k)
    projection_copied f k c h = record {
      signature = signature_copied k c h.signature;
      kind = c.kind ∙ h.kind;
      vars_are = c.types.vars ∙ h.vars_are;
      args = c.types.args ∙ ap (map (mapped m)) h.args ∙ ap (λ (t : Tree). t ∷ []) (own_copied type n kept);
      result = c.types.result ∙ ap (option_map (mapped m)) h.result;
    }

    projections_copied : (fs : List Tree) (ks : List ℕ) → All (IsCopied v w m) ks → AreProjections v type n fs ks → AreProjections w (m.symbols type) n (map (mapped m) fs) (map m.symbols ks)
    projections_copied [] [] c h = tt
    projections_copied [] (k ∷ ks) c h = absurd h
    projections_copied (f ∷ fs) [] c h = absurd h
    projections_copied (f ∷ fs) (k ∷ ks) c h = (projection_copied f k (All-head (IsCopied v w m) k ks c) h.0, projections_copied fs ks (All-tail (IsCopied v w m) k ks c) h.1)

    constructor_copied : (c : ConstructorTree) → All (IsCopied v w m) (c.symbol ∷ c.projections) → IsConstructorOf v type n c → IsConstructorOf w (m.symbols type) n (con_mapped m c)
    constructor_copied c all h =
        let i : IsCopied v w m c.symbol = All-head (IsCopied v w m) c.symbol c.projections all in
        record {
          signature = signature_copied c.symbol i h.signature;
          kind = i.kind ∙ h.kind;
          vars_are = i.types.vars ∙ h.vars_are;
          args = i.types.args ∙ ap (map (mapped m)) h.args;
          result = i.types.result ∙ ap (option_map (mapped m)) h.result ∙ ap (λ (t : Tree). Some t) (own_copied type n kept);
          projections = projections_copied c.fields c.projections (All-tail (IsCopied v w m) c.symbol c.projections all) h.projections;
        }

    constructors_copied : (cs : List ConstructorTree) → All (IsCopied v w m) (made_by_cons cs) → All (IsConstructorOf v type n) cs → All (IsConstructorOf w (m.symbols type) n) (map (con_mapped m) cs)
    constructors_copied [] all h = All-nil (IsConstructorOf w (m.symbols type) n)
    constructors_copied (c ∷ cs) all h =
        All-cons (IsConstructorOf w (m.symbols type) n) (con_mapped m c) (map (con_mapped m) cs)
        (constructor_copied c (front (IsCopied v w m) (c.symbol ∷ c.projections) (made_by_cons cs) all) (All-head (IsConstructorOf v type n) c cs h))
        (constructors_copied cs (back (IsCopied v w m) (c.symbol ∷ c.projections) (made_by_cons cs) all) (All-tail (IsConstructorOf v type n) c cs h))

  algebraic_copied : (a : AlgebraicTree) → All (IsCopied v w m) (a.symbol ∷ made_by_cons a.cons) → IsAlgebraic v a → IsAlgebraic w (algebraic_mapped m a)
  algebraic_copied a all h =
      let i : IsCopied v w m a.symbol = All-head (IsCopied v w m) a.symbol (made_by_cons a.cons) all in
      record {
        entry = type_copied a.symbol i h.entry;
        cons = subst (λ (n : ℕ). All (IsConstructorOf w (m.symbols a.symbol) n) (map (con_mapped m) a.cons)) (sym i.types.vars)
            (constructors_copied a.symbol (old a.symbol).vars i.kept a.cons (All-tail (IsCopied v w m) a.symbol (made_by_cons a.cons) all) h.cons);
      }

  algebraics_copied : (ts : List AlgebraicTree) → All (IsCopied v w m) (made_by_types ts) → All (IsAlgebraic v) ts → All (IsAlgebraic w) (map (algebraic_mapped m) ts)
  algebraics_copied [] all h = All-nil (IsAlgebraic w)
  algebraics_copied (a ∷ ts) all h =
      All-cons (IsAlgebraic w) (algebraic_mapped m a) (map (algebraic_mapped m) ts)
      (algebraic_copied a (front (IsCopied v w m) (a.symbol ∷ made_by_cons a.cons) (made_by_types ts) all) (All-head (IsAlgebraic v) a ts h))
      (algebraics_copied ts (back (IsCopied v w m) (a.symbol ∷ made_by_cons a.cons) (made_by_types ts) all) (All-tail (IsAlgebraic v) a ts h))

  -- ---- all of them
  body_copied : (n : ℕ) (b : BodyTree) → All (IsCopied v w m) (made_by b) → IsValidBody v n b → IsValidBody w n (body_mapped m b)
  body_copied n (MakesType k) all h = type_copied k (All-head (IsCopied v w m) k [] all) h
  body_copied n (Makes k) all h = signature_copied k (All-head (IsCopied v w m) k [] all) h
  body_copied n (Defines ds) all h =
      let each = unmap (IsCopied v w m) (λ (d : DefinitionTree). d.symbol) ds all in
      All-map (IsDefinition w) (definition_mapped m) ds (λ k d l. definition_copied (get_or ds k d) (each k d l) (h k d l))
  body_copied n (Induces is) all h =
      let group : List ℕ = map (λ (i : InductiveTree). i.symbol) is in
      let each = unmap (IsCopied v w m) (λ (i : InductiveTree). i.symbol) is all in
      subst (λ (g : List ℕ). All (IsInductive w g) (map (inductive_mapped m) is)) (group_mapped is)
      (All-map (IsInductive w (map m.symbols group)) (inductive_mapped m) is (λ k d l. inductive_copied group all (get_or is k d) (each k d l) (h k d l)))
  body_copied n (Constructs ts) all h = algebraics_copied ts all h
  body_copied n (Says a) all h = formula_mapped v w m morphism sound n a h

  pub declaration_valid : (theory within : List ℕ) (d : DeclarationTree) → All (IsCopied v w m) (made_by d.body) → IsValidDecl v d → IsValidDecl w (declaration_copied m theory within d)
  declaration_valid theory within d all h = body_copied d.vars d.body all h
