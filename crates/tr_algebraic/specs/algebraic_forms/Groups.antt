-- What is put in the place of algebraic types: type by type the type, and for each constructor its
-- symbol and its projections; and after all types their laws, as propositions. Each of these
-- declarations has the group's theory and name, and counts the type variables of its symbol, or of
-- its type.
use Rattle.std.specs.Prelude.{ℕ, List, [], ◌∷◌, ◌++◌, map}
use Rattle.trees.specs.Tree.{Tree}
use Rattle.tasks.specs.Task.{SymbolTree, symbol_or, AlgebraicTree, BodyTree, MakesType, Constructs, Says, DeclarationTree, made_by_cons}
use Rattle.declarations.specs.Rewritten.{DeclarationRule}
use Rattle.declarations.specs.spelled_groups.Spelled.{as_symbol}
use Rattle.tr_algebraic.specs.declared.algebraic_forms.origins.LawKind.{LawKind}
use Rattle.tr_algebraic.specs.declared.algebraic_forms.origins.LawKind.TheVariants.{Projection, Distinctness, Exhaustion}
use Rattle.tr_algebraic.specs.algebraic_forms.Formulas.{all_projection_laws, distinctness_laws, exhaustion_law}

-- a law, with its kind and the number of its type variables
pub record LawTree : Type 0 where
  pub kind : LawKind
  pub vars : ℕ
  pub formula : Tree

abbrev pub law : LawKind → ℕ → Tree → LawTree
law kind vars e = record { kind = kind; vars = vars; formula = e }

-- the laws of a type with so many type variables
abbrev pub type_laws : ℕ → AlgebraicTree → List LawTree
type_laws vars a =
    map (law Projection vars) (all_projection_laws a.symbol vars a.cons)
    ++ (map (law Distinctness vars) (distinctness_laws a.symbol vars a.cons)
    ++ law Exhaustion vars (exhaustion_law a.symbol vars a.cons) ∷ [])

abbrev pub type_formulas : ℕ → AlgebraicTree → List Tree
type_formulas vars a = all_projection_laws a.symbol vars a.cons
    ++ (distinctness_laws a.symbol vars a.cons ++ exhaustion_law a.symbol vars a.cons ∷ [])

abbrev pub type_vars : List SymbolTree → AlgebraicTree → ℕ
type_vars symbols a = (symbol_or symbols a.symbol).vars

abbrev pub group_laws : List SymbolTree → List AlgebraicTree → List LawTree
group_laws symbols [] = []
group_laws symbols (a ∷ ts) = type_laws (type_vars symbols a) a ++ group_laws symbols ts

-- ---- declarations
abbrev pub as_formula : DeclarationTree → ℕ → Tree → DeclarationTree
as_formula d vars e = record { theory = d.theory; name = d.name; vars = vars; body = Says e }

abbrev pub as_type : List SymbolTree → DeclarationTree → ℕ → DeclarationTree
as_type symbols d k = record {
  theory = d.theory;
  name = d.name;
  vars =
      (symbol_or symbols k).vars;
  body = MakesType k;
}

abbrev pub as_law : DeclarationTree → LawTree → DeclarationTree
as_law d x = record { theory = d.theory; name = d.name; vars = x.vars; body = Says x.formula }

abbrev pub group_symbols : List SymbolTree → DeclarationTree → List AlgebraicTree
    → List DeclarationTree
group_symbols symbols d [] = []
group_symbols symbols d (a ∷ ts) =
    as_type symbols d a.symbol
    ∷ (map (as_symbol symbols d) (made_by_cons a.cons) ++ group_symbols symbols d ts)

abbrev pub group_place : List SymbolTree → DeclarationTree → BodyTree → List DeclarationTree
group_place symbols d (Constructs ts) =
    group_symbols symbols d ts ++ map (as_law d) (group_laws symbols ts)
group_place symbols d _ = d ∷ []

abbrev pub algebraic_rule : DeclarationRule
algebraic_rule symbols d = group_place symbols d d.body
