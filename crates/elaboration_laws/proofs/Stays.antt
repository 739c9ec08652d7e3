-- A declaration that is valid over a vocabulary is valid over one of which that is a part.
use Rattle.std.proofs.Common.{◌≡◌, ℕ, ◌<◌, List, [], ◌∷◌, map, length, get_or, All, sym, ap, subst, ◌∙◌}
use Rattle.elab_groups.specs.trees.Tree.{Tree}
use Rattle.elab_groups.specs.tasks.Task.{SymbolTree, symbol_or, int_symbol, DefinitionTree, InductiveTree, ConstructorTree, AlgebraicTree, BodyTree, MakesType, Makes, Defines, Induces, Constructs, Says, DeclarationTree}
use Rattle.elab_groups.specs.tasks.Equations.{cells, type_variables, IsEquationOf}
use Rattle.elab_groups.specs.tasks.Clauses.{IsClauseOf}
use Rattle.elab_groups.specs.tasks.Vocabulary.{Vocabulary}
use Rattle.elab_groups.specs.tasks.Valid.{HasTypes, IsFormulaOver, IsTypeEntry, IsSignatureOf, IsDefinition, IsInductive, IsProjectionOf, AreProjections, IsConstructorOf, IsAlgebraic, IsValidBody, IsValidDecl}
use Rattle.elaboration_laws.specs.Scopes.{IsSubvocabulary}
use Rattle.elaboration_laws.proofs.Extended.{types_more}
use Rattle.elaboration_laws.proofs.Algebraics.{got}
use Rattle.elaboration_laws.proofs.Propositions.{formula_more}
use Rattle.std.proofs.lemmas.Option.{slice_get-get_or as some_at}

module _ (v w : Vocabulary) (part : IsSubvocabulary v w) where
  abbrev xs : List SymbolTree
  xs = v.symbols

  found : (k : ℕ) → k < length xs → (k < length w.symbols) × (symbol_or w.symbols k ≡ symbol_or xs k)
  found k l = got w.symbols k (symbol_or xs k) (part.entries k (symbol_or xs k) (some_at xs k int_symbol l))

  same : (k : ℕ) → k < length xs → symbol_or w.symbols k ≡ symbol_or xs k
  same k l = (found k l).1

  there : (k : ℕ) → k < length xs → k < length w.symbols
  there k l = (found k l).0

  types_kept : (k : ℕ) → k < length xs → HasTypes v (symbol_or xs k) → HasTypes w (symbol_or w.symbols k)
  types_kept k l h = rw (same k l) (types_more v w part (symbol_or xs k) h)

  type_kept : (k : ℕ) → IsTypeEntry v k → IsTypeEntry w k
  type_kept k h = record { entry = there k h.entry; kind = ap (λ (e : SymbolTree). e.kind) (same k h.entry) ∙ h.kind; types = types_kept k h.entry h.types }

  signature_kept : (k : ℕ) → IsSignatureOf v k → IsSignatureOf w k
  signature_kept k h = record { entry = there k h.entry; kind = λ q. h.kind (sym (ap (λ (e : SymbolTree). e.kind) (same k h.entry)) ∙ q); types = types_kept k h.entry h.types }

  vars_same : (k : ℕ) → k < length xs → (symbol_or w.symbols k).vars ≡ (symbol_or xs k).vars
  vars_same k l = ap (λ (e : SymbolTree). e.vars) (same k l)

  definition_kept : (d : DefinitionTree) → IsDefinition v d → IsDefinition w d
  definition_kept d h =
      let l = h.signature.entry in
      record {
        signature = signature_kept d.symbol h.signature;
        form = subst (λ (e : SymbolTree). IsEquationOf d.symbol e d.equation) (sym (same d.symbol l)) h.form;
        formula = subst (λ (n : ℕ). IsFormulaOver w [] n d.equation) (sym (vars_same d.symbol l)) (formula_more v w part (symbol_or xs d.symbol).vars d.equation h.formula);
      }

  inductive_kept : (group : List ℕ) (i : InductiveTree) → IsInductive v group i → IsInductive w group i
  inductive_kept group i h =
      let l = h.signature.entry in
      record {
        signature = signature_kept i.symbol h.signature;
        kind = ap (λ (e : SymbolTree). e.kind) (same i.symbol l) ∙ h.kind;
        forms = subst (λ (n : ℕ). All (IsClauseOf group i.symbol (cells (type_variables 0 n))) i.clauses) (sym (vars_same i.symbol l)) h.forms;
        formulas = λ k d m. subst (λ (n : ℕ). IsFormulaOver w [] n (get_or i.clauses k d)) (sym (vars_same i.symbol l)) (formula_more v w part (symbol_or xs i.symbol).vars (get_or i.clauses k d) (h.formulas k d m));
      }

  projection_kept : (type vars : ℕ) (f : Tree) (k : ℕ) → IsProjectionOf v type vars f k → IsProjectionOf w type vars f k
  projection_kept type vars f k h =
      let q = same k h.signature.entry in
      record {
        signature = signature_kept k h.signature;
        kind = ap (λ (e : SymbolTree). e.kind) q ∙ h.kind;
        vars_are = ap (λ (e : SymbolTree). e.vars) q ∙ h.vars_are;
        args = ap (λ (e : SymbolTree). e.args) q ∙ h.args;
        result = ap (λ (e : SymbolTree). e.result) q ∙ h.result;
      }

  projections_kept : (type vars : ℕ) (fs : List Tree) (ks : List ℕ) → AreProjections v type vars fs ks → AreProjections w type vars fs ks
  projections_kept type vars [] [] h = tt
  projections_kept type vars [] (k ∷ ks) h = absurd h
  projections_kept type vars (f ∷ fs) [] h = absurd h
  projections_kept type vars (f ∷ fs) (k ∷ ks) h = (projection_kept type vars f k h.0, projections_kept type vars fs ks h.1)

  constructor_kept : (type vars : ℕ) (c : ConstructorTree) → IsConstructorOf v type vars c → IsConstructorOf w type vars c
  constructor_kept type vars c h =
      let q = same c.symbol h.signature.entry in
      record {
        signature = signature_kept c.symbol h.signature;
        kind = ap (λ (e : SymbolTree). e.kind) q ∙ h.kind;
        vars_are = ap (λ (e : SymbolTree). e.vars) q ∙ h.vars_are;
        args = ap (λ (e : SymbolTree). e.args) q ∙ h.args;
        result = ap (λ (e : SymbolTree). e.result) q ∙ h.result;
        projections = projections_kept type vars c.fields c.projections h.projections;
      }

  algebraic_kept : (a : AlgebraicTree) → IsAlgebraic v a → IsAlgebraic w a
  algebraic_kept a h = record {
    entry = type_kept a.symbol h.entry;
    cons = λ k d l. subst (λ (n : ℕ). IsConstructorOf w a.symbol n (get_or a.cons k d)) (sym (vars_same a.symbol h.entry.entry)) (constructor_kept a.symbol (symbol_or xs a.symbol).vars (get_or a.cons k d) (h.cons k d l));
  }

  body_kept : (n : ℕ) (b : BodyTree) → IsValidBody v n b → IsValidBody w n b
  body_kept n (MakesType k) h = type_kept k h
  body_kept n (Makes k) h = signature_kept k h
  body_kept n (Defines ds) h = λ k d l. definition_kept (get_or ds k d) (h k d l)
  body_kept n (Induces is) h = λ k d l. inductive_kept (map (λ (i : InductiveTree). i.symbol) is) (get_or is k d) (h k d l)
  body_kept n (Constructs ts) h = λ k d l. algebraic_kept (get_or ts k d) (h k d l)
  body_kept n (Says a) h = formula_more v w part n a h

  pub declaration_stays : (d : DeclarationTree) → IsValidDecl v d → IsValidDecl w d
  declaration_stays d h = body_kept d.vars d.body h
