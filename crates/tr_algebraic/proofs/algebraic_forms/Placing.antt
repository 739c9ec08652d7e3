-- Declarations in the place of algebraic types, one step more.
use Rattle.std.proofs.Common.{◌≡◌, ℕ, suc, List, [], ◌∷◌, ◌++◌, map, All, refl, sym, ap, subst, ◌∙◌, arith, append_assoc}
use Rattle.std.proofs.lemmas.List.{map-append}
use Rattle.std.proofs.lemmas.List.Elements.{All-cons, All-nil, All-weaker}
use Rattle.trees.specs.declared.TermId.{TermId}
use Rattle.trees.specs.Tree.{Tree}
use Rattle.trees.specs.Node.{tree_at, trees_at, Holds, Grows}
use Rattle.tasks.specs.declared.signature.SymbolInfo.{SymbolInfo}
use Rattle.tasks.specs.declared.declaration.Con.{Con}
use Rattle.tasks.specs.declared.declaration.Alg.{Alg}
use Rattle.tasks.specs.declared.declaration.Body.{Body}
use Rattle.tasks.specs.declared.declaration.Body.TheVariants.{TypeSymbol, Symbol, Defs, Inductives, Algebraics, Prop}
use Rattle.tasks.specs.declared.declaration.Decl.{Decl}
use Rattle.tasks.specs.Task.{SymbolTree, symbol_or, AlgebraicTree, DeclarationTree}
use Rattle.tasks.specs.Vocabulary.{Vocabulary}
use Rattle.tasks.specs.Valid.{IsTypeIn, IsAlgebraic, IsConstructorOf, IsValidBody}
use Rattle.tasks.specs.Meaning.{symbols_at, con_at, cons_at, algebraic_at, algebraics_at, body_at, declaration_at, declarations_at, SymbolHeld, ConHeld, AlgebraicHeld, BodyHeld, DeclHeld}
use Rattle.tasks.proofs.Growth.{symbols_later, declaration_later, declarations_later, decl_held_later}
use Rattle.declarations.specs.Stored.{IsValidIn}
use Rattle.declarations.specs.spelled_groups.Making.{IsKindAt}
use Rattle.declarations.specs.spelled_groups.Stored.{IsDeclaredAs}
use Rattle.tr_algebraic.specs.algebraic_forms.Groups.{law, type_laws, type_formulas, type_vars, group_laws, group_symbols, group_place, as_formula, as_law}
use Rattle.tr_algebraic.specs.algebraic_forms.Formulas.{all_projection_laws, distinctness_laws, exhaustion_law}
use Rattle.tr_algebraic.specs.declared.algebraic_forms.origins.LawKind.{LawKind}
use Rattle.tr_algebraic.specs.declared.algebraic_forms.origins.LawKind.TheVariants.{Projection, Distinctness, Exhaustion}
use Rattle.tr_algebraic.specs.algebraic_forms.Making.{ConIsFit, AlgIsFit, IsAlgebraicFit}
use Rattle.tr_algebraic.proofs.algebraic_forms.Making.{algs_same}

-- ---- one declaration more
pub declared_one : (s : List Tree) (decl m : Decl) (vars : ℕ) (body : Body) → IsDeclaredAs decl vars body m → (old new : List Decl) → new ≡ old ++ m ∷ [] → (x : DeclarationTree) → ◌≡◌ {A = DeclarationTree} (record { theory = decl.theory; name = decl.name; vars = vars; body = body_at s body }) x
    → declarations_at s new ≡ declarations_at s old ++ x ∷ []
declared_one s decl m vars body h old new q x e =
    let mk : List ℕ → List ℕ → ℕ → Body → DeclarationTree = λ a b n z. record { theory = a; name = b; vars = n; body = body_at s z } in
    let one : declaration_at s m ≡ x =
    ap (λ z. mk z m.name m.vars m.body) h.theory ∙ ap (λ z. mk decl.theory z m.vars m.body) h.name ∙ ap (λ z. mk decl.theory decl.name z m.body) h.count ∙ ap (mk decl.theory decl.name vars) h.says ∙ e in
    ap (declarations_at s) q ∙ map-append (declaration_at s) old (m ∷ []) ∙ ap (λ (z : DeclarationTree). declarations_at s old ++ z ∷ []) one

-- a constructor and its projections, and then others
pub cons_pushed : {X : Type 0} (f : ℕ → X) (k : ℕ) (ps ks : List ℕ) (d0 d1 d2 d3 : List X) → d1 ≡ d0 ++ map f (k ∷ []) → d2 ≡ d1 ++ map f ps → d3 ≡ d2 ++ map f ks → d3 ≡ d0 ++ map f ((k ∷ ps) ++ ks)
cons_pushed f k ps ks d0 d1 d2 d3 a b c =
    c ∙ ap (λ z. z ++ map f ks) (b ∙ ap (λ z. z ++ map f ps) a ∙ append_assoc d0 (f k ∷ []) (map f ps)) ∙ append_assoc d0 (map f (k ∷ ps)) (map f ks) ∙ ap (λ z. d0 ++ z) (sym (map-append f (k ∷ ps) ks))

-- a type and its constructors, and then others
pub types_pushed : {X : Type 0} (x : X) (xs ys d0 d1 d2 d3 : List X) → d1 ≡ d0 ++ x ∷ [] → d2 ≡ d1 ++ xs → d3 ≡ d2 ++ ys → d3 ≡ d0 ++ x ∷ (xs ++ ys)
types_pushed x xs ys d0 d1 d2 d3 a b c = c ∙ ap (λ z. z ++ ys) (b ∙ ap (λ z. z ++ xs) a ∙ append_assoc d0 (x ∷ []) xs) ∙ append_assoc d0 (x ∷ xs) ys

-- ---- the laws of a type
of_one : (d : DeclarationTree) (kind : LawKind) (vars : ℕ) (es : List Tree) → map (as_law d) (map (law kind vars) es) ≡ map (as_formula d vars) es
of_one d kind vars [] = refl
of_one d kind vars (e ∷ es) = ap (λ (z : List DeclarationTree). as_formula d vars e ∷ z) (of_one d kind vars es)

type_laws_are : (d : DeclarationTree) (vars : ℕ) (a : AlgebraicTree) → map (as_law d) (type_laws vars a) ≡ map (as_formula d vars) (type_formulas vars a)
type_laws_are d vars a =
    let p = all_projection_laws a.symbol vars a.cons in
    let q = distinctness_laws a.symbol vars a.cons in
    let e = exhaustion_law a.symbol vars a.cons in
    map-append (as_law d) (map (law Projection vars) p) (map (law Distinctness vars) q ++ law Exhaustion vars e ∷ [])
    ∙ ap (λ (z : List DeclarationTree). map (as_law d) (map (law Projection vars) p) ++ z) (map-append (as_law d) (map (law Distinctness vars) q) (law Exhaustion vars e ∷ []) ∙ ap (λ (z : List DeclarationTree). z ++ as_formula d vars e ∷ []) (of_one d Distinctness vars q))
    ∙ ap (λ (z : List DeclarationTree). z ++ (map (as_formula d vars) q ++ as_formula d vars e ∷ [])) (of_one d Projection vars p)
    ∙ ap (λ (z : List DeclarationTree). map (as_formula d vars) p ++ z) (sym (map-append (as_formula d vars) q (e ∷ []))) ∙ sym (map-append (as_formula d vars) p (q ++ e ∷ []))

module _ (s s1 : List Tree) (g : Grows s s1) where
  pub decls_held : (ds : List Decl) → All (DeclHeld s) ds → All (DeclHeld s1) ds
  decls_held ds a = All-weaker (DeclHeld s) (DeclHeld s1) (decl_held_later s s1 g) ds a

  -- those of one type more
  pub laws_pushed : (infos : List SymbolInfo) → All (SymbolHeld s) infos → (decl : Decl) → DeclHeld s decl → (a : Alg) (rest : List Alg) → All (AlgIsFit s) rest → (vars : ℕ) → vars ≡ type_vars (symbols_at s infos) (algebraic_at s a) → (formulas : List Tree) → formulas ≡ type_formulas vars (algebraic_at s a)
      → (old : List Decl) → All (DeclHeld s) old → (d1 d2 : List DeclarationTree) → d1 ≡ declarations_at s1 old ++ map (as_formula (declaration_at s1 decl) vars) formulas
      → d2 ≡ d1 ++ map (as_law (declaration_at s1 decl)) (group_laws (symbols_at s1 infos) (algebraics_at s1 rest))
      → d2 ≡ declarations_at s old ++ map (as_law (declaration_at s decl)) (group_laws (symbols_at s infos) (algebraics_at s (a ∷ rest)))
  laws_pushed infos hi decl hd a rest f vars v formulas q old h d1 d2 e1 e2 =
      let d = declaration_at s decl in
      let symbols = symbols_at s infos in
      let t = algebraic_at s a in
      let one : d1 ≡ declarations_at s old ++ map (as_law d) (type_laws (type_vars symbols t) t) =
      e1 ∙ ap (λ (z : List DeclarationTree). z ++ map (as_formula (declaration_at s1 decl) vars) formulas) (declarations_later s s1 g old h)
      ∙ ap (λ (z : DeclarationTree). declarations_at s old ++ map (as_formula z vars) formulas) (declaration_later s s1 g decl hd)
      ∙ ap (λ (z : List Tree). declarations_at s old ++ map (as_formula d vars) z) q ∙ ap (λ (z : List DeclarationTree). declarations_at s old ++ z) (sym (type_laws_are d vars t)) ∙ ap (λ (n : ℕ). declarations_at s old ++ map (as_law d) (type_laws n t)) v in
      let more : d2 ≡ d1 ++ map (as_law d) (group_laws symbols (algebraics_at s rest)) =
      e2 ∙ ap (λ (z : DeclarationTree). d1 ++ map (as_law z) (group_laws (symbols_at s1 infos) (algebraics_at s1 rest))) (declaration_later s s1 g decl hd)
      ∙ ap (λ (z : List SymbolTree). d1 ++ map (as_law d) (group_laws z (algebraics_at s1 rest))) (symbols_later s s1 g infos hi)
      ∙ ap (λ (z : List AlgebraicTree). d1 ++ map (as_law d) (group_laws symbols z)) (algs_same s s1 g rest f) in
      more ∙ ap (λ (z : List DeclarationTree). z ++ map (as_law d) (group_laws symbols (algebraics_at s rest))) one
      ∙ append_assoc (declarations_at s old) (map (as_law d) (type_laws (type_vars symbols t) t)) (map (as_law d) (group_laws symbols (algebraics_at s rest)))
      ∙ ap (λ (z : List DeclarationTree). declarations_at s old ++ z) (sym (map-append (as_law d) (type_laws (type_vars symbols t) t) (group_laws symbols (algebraics_at s rest))))

-- ---- in the place of a declaration
pub others_stay : (s : List Tree) (symbols : List SymbolTree) (d : DeclarationTree) (b : Body) → ((ts : List Alg) → b ≡ Algebraics ts → ⊥) → group_place symbols d (body_at s b) ≡ d ∷ []
others_stay s symbols d (TypeSymbol k) n = refl
others_stay s symbols d (Symbol k) n = refl
others_stay s symbols d (Defs ds) n = refl
others_stay s symbols d (Inductives is) n = refl
others_stay s symbols d (Algebraics ts) n = absurd (n ts refl)
others_stay s symbols d (Prop a) n = refl

pub types_stay : (s : List Tree) (symbols : List SymbolTree) (d : DeclarationTree) (b : Body) (ts : List Alg) → b ≡ Algebraics ts → group_place symbols d (body_at s b) ≡ group_symbols symbols d (algebraics_at s ts) ++ map (as_law d) (group_laws symbols (algebraics_at s ts))
types_stay s symbols d b ts e = ap (λ (z : Body). group_place symbols d (body_at s z)) e

-- what is put in the place of algebraic types of a valid task can be made
module _ (s : List Tree) (v : Vocabulary) where
  kinds : (vars : ℕ) (ids : List TermId) → All (Holds s) ids → All (IsTypeIn v vars) (trees_at s ids) → All (IsKindAt s) ids
  kinds vars [] a b = All-nil (IsKindAt s)
  kinds vars (id ∷ ids) a b = All-cons (IsKindAt s) id ids (record { held = a 0 id (omega arith); kind = (b 0 (tree_at s id) (omega arith)).sort }) (kinds vars ids (λ k d l. a (suc k) d (omega arith)) (λ k d l. b (suc k) d (omega arith)))

  con_fit : (type vars : ℕ) (c : Con) → ConHeld s c → IsConstructorOf v type vars (con_at s c) → ConIsFit s c
  con_fit type vars c h k = kinds (symbol_or v.symbols c.symbol).vars c.fields h.fields (subst (All (IsTypeIn v (symbol_or v.symbols c.symbol).vars)) k.args k.signature.types.args)

  cons_fit : (type vars : ℕ) (cs : List Con) → All (ConHeld s) cs → All (IsConstructorOf v type vars) (cons_at s cs) → All (ConIsFit s) cs
  cons_fit type vars [] h k = All-nil (ConIsFit s)
  cons_fit type vars (c ∷ cs) h k = All-cons (ConIsFit s) c cs (con_fit type vars c (h 0 c (omega arith)) (k 0 (con_at s c) (omega arith))) (cons_fit type vars cs (λ m d l. h (suc m) d (omega arith)) (λ m d l. k (suc m) d (omega arith)))

  algs_fit : (ts : List Alg) → All (AlgebraicHeld s) ts → All (IsAlgebraic v) (algebraics_at s ts) → All (AlgIsFit s) ts
  algs_fit [] h k = All-nil (AlgIsFit s)
  algs_fit (a ∷ ts) h k = All-cons (AlgIsFit s) a ts (cons_fit a.symbol (symbol_or v.symbols a.symbol).vars a.cons (h 0 a (omega arith)).cons (k 0 (algebraic_at s a) (omega arith)).cons) (algs_fit ts (λ m d l. h (suc m) d (omega arith)) (λ m d l. k (suc m) d (omega arith)))

  body_fit : (vars : ℕ) (b : Body) → BodyHeld s b → IsValidBody v vars (body_at s b) → IsAlgebraicFit s b
  body_fit vars (Algebraics ts) h k = algs_fit ts h k
  body_fit vars (TypeSymbol j) h k = tt
  body_fit vars (Symbol j) h k = tt
  body_fit vars (Defs ds) h k = tt
  body_fit vars (Inductives is) h k = tt
  body_fit vars (Prop a) h k = tt

pub types_fit : (s : List Tree) (infos : List SymbolInfo) (d : Decl) (ts : List Alg) → d.body ≡ Algebraics ts → IsValidIn s infos d → All (AlgIsFit s) ts
types_fit s infos d ts e h = subst (IsAlgebraicFit s) e (body_fit s h.vocabulary d.vars d.body h.held h.valid)
