-- The body of a definition of a valid task: it has its typing under the parameters, with the types of the symbol's entry.
use Rattle.std.proofs.Common.{◌≡◌, ℕ, List, [], ◌∷◌, map, Option, Some, None, subst, refl, sym, ap, ◌∙◌}
use Rattle.std.proofs.lemmas.Option.{slice_get-get_or}
use Rattle.tasks.specs.trees.declared.Op.TheVariants.{Iff}
use Rattle.tasks.specs.trees.declared.Sort.TheVariants.{Term, Formula}
use Rattle.tasks.specs.trees.Tree.{Tree, Two, Three, HFun, HPred, HEq, HJoin}
use Rattle.tasks.specs.trees.Sorts.{sort_of, type_of}
use Rattle.tasks.specs.declared.signature.SymbolKind.{SymbolKind}
use Rattle.tasks.specs.declared.signature.SymbolKind.TheVariants.{Function, Predicate}
use Rattle.tasks.specs.Task.{SymbolTree, DefinitionTree, int_symbol, symbol_or}
use Rattle.tasks.specs.Equations.{for_all, equated}
use Rattle.tasks.specs.Vocabulary.{Vocabulary}
use Rattle.tasks.specs.Typing.{entry}
use Rattle.tasks.specs.Valid.{VariablesBelow, ParametersOf, IsDefinition}
use Rattle.evidence.specs.images.typing_laws.HasTyping.{HasTyping}
use Rattle.images.proofs.typing_laws.Sorted.{typed_has, formula_no_type}
use Rattle.checks.specs.decl_checks.Structure.{defining_body}

-- a list, last first, before another
abbrev pub onto : List Tree → List Tree → List Tree
onto [] more = more
onto (a ∷ as') more = onto as' (a ∷ more)

pub map_onto : (g : Tree → Tree) (xs ys : List Tree) → map g (onto xs ys) ≡ onto (map g xs) (map g ys)
map_onto g [] ys = refl
map_onto g (x ∷ xs) ys = map_onto g xs (x ∷ ys)

-- ---- what is under the quantifiers of an equation
pub under_typed : (v : Vocabulary) (args types : List Tree) (e : Tree) → HasTyping v types (for_all args e) → HasTyping v (onto args types) e
under_typed v [] types e x = x
under_typed v (a ∷ args) types e x = under_typed v args (a ∷ types) e x.3

pub under_variables : (n : ℕ) (args : List Tree) (e : Tree) → VariablesBelow n (for_all args e) → VariablesBelow n e
under_variables n [] e h = h
under_variables n (a ∷ args) e h = under_variables n args e h.1

pub under_parameters : (ps args : List Tree) (e : Tree) → ParametersOf ps (for_all args e) → ParametersOf ps e
under_parameters ps [] e h = h
under_parameters ps (a ∷ args) e h = under_parameters ps args e h.1

pub under_body : (args : List Tree) (e : Tree) → defining_body (for_all args e) ≡ defining_body e
under_body [] e = refl
under_body (a ∷ args) e = under_body args e

-- ---- bodies
-- a term of the result's type, or a formula
abbrev pub IsBodyOf : SymbolKind → Option Tree → Tree → Type 0
IsBodyOf Function (Some ty) body = (sort_of body ≡ Term) × (type_of body ≡ Some ty)
IsBodyOf Predicate None body = (sort_of body ≡ Formula) × (type_of body ≡ None)
IsBodyOf _ _ body = ⊥

-- the body of a symbol of a vocabulary, by the symbol's entry
pub record IsBody (v : Vocabulary) (k : ℕ) (body : Tree) : Type 0 where
  pub symbol : SymbolTree
  pub is : entry v k ≡ Some symbol
  pub typed : HasTyping v (onto symbol.args []) body
  pub variables : VariablesBelow symbol.vars body
  pub parameters : ParametersOf [] body
  pub result : IsBodyOf symbol.kind symbol.result body

-- what the right side of an equation is
record IsRightSide (v : Vocabulary) (types : List Tree) (kind : SymbolKind) (out : Option Tree) (n : ℕ) (inner : Tree) : Type 0 where
  pub typed : HasTyping v types (defining_body inner)
  pub variables : VariablesBelow n (defining_body inner)
  pub parameters : ParametersOf [] (defining_body inner)
  pub result : IsBodyOf kind out (defining_body inner)

some_is : (a b : Tree) → Some a ≡ Some b → a ≡ b
some_is a b q = cc

right_side : (v : Vocabulary) (types : List Tree) (n k : ℕ) (zs bs : Tree) (kind : SymbolKind) (result : Option Tree) (body inner : Tree) → equated kind k zs bs result body ≡ Some inner
    → HasTyping v types inner → VariablesBelow n inner → ParametersOf [] inner → IsRightSide v types kind result n inner
right_side v types n k zs bs Function (Some ty) body inner q x h p =
    let e : Two HEq (Three (HFun k) zs bs ty) body ≡ inner = some_is _ _ q in
    subst (IsRightSide v types Function (Some ty) n) e (of_equation (subst (HasTyping v types) (sym e) x) (subst (VariablesBelow n) (sym e) h) (subst (ParametersOf []) (sym e) p))
  where
    of_equation : HasTyping v types (Two HEq (Three (HFun k) zs bs ty) body) → VariablesBelow n (Two HEq (Three (HFun k) zs bs ty) body) → ParametersOf [] (Two HEq (Three (HFun k) zs bs ty) body)
        → IsRightSide v types Function (Some ty) n (Two HEq (Three (HFun k) zs bs ty) body)
    of_equation y g r = record { typed = y.3; variables = g.1; parameters = r.1; result = (y.0.0.1, sym y.1) }
right_side v types n k zs bs Predicate None body inner q x h p =
    let e : Two (HJoin Iff) (Two (HPred k) zs bs) body ≡ inner = some_is _ _ q in
    subst (IsRightSide v types Predicate None n) e (of_equivalence (subst (HasTyping v types) (sym e) x) (subst (VariablesBelow n) (sym e) h) (subst (ParametersOf []) (sym e) p))
  where
    of_equivalence : HasTyping v types (Two (HJoin Iff) (Two (HPred k) zs bs) body) → VariablesBelow n (Two (HJoin Iff) (Two (HPred k) zs bs) body) → ParametersOf [] (Two (HJoin Iff) (Two (HPred k) zs bs) body)
        → IsRightSide v types Predicate None n (Two (HJoin Iff) (Two (HPred k) zs bs) body)
    of_equivalence y g r = record { typed = y.3; variables = g.1; parameters = r.1; result = (y.0.0.1, formula_no_type body y.0.0.1) }
right_side v types n k zs bs _ result body inner q x h p = absurd (cc)

pub defined_body : (v : Vocabulary) (d : DefinitionTree) → IsDefinition v d → IsBody v d.symbol (defining_body d.equation)
defined_body v d a =
    let e = symbol_or v.symbols d.symbol in
    let form = a.form in
    let q : d.equation ≡ for_all e.args form.inner = form.is in
    let x : HasTyping v [] (for_all e.args form.inner) = subst (HasTyping v []) q (typed_has v [] d.equation a.formula.typed) in
    let b = under_variables e.vars e.args form.inner (subst (VariablesBelow e.vars) q a.formula.variables) in
    let p = under_parameters [] e.args form.inner (subst (ParametersOf []) q a.formula.parameters) in
    let r = right_side v (onto e.args []) e.vars d.symbol _ _ e.kind e.result form.body form.inner form.equated (under_typed v e.args [] form.inner x) b p in
    let same : defining_body d.equation ≡ defining_body form.inner = ap defining_body q ∙ under_body e.args form.inner in
    subst (IsBody v d.symbol) (sym same) (record {
      symbol = e;
      is = slice_get-get_or v.symbols d.symbol int_symbol a.signature.entry;
      typed = r.typed;
      variables = r.variables;
      parameters = r.parameters;
      result = r.result;
    })
